-- What the statuses of refusals, of want of memory and of failures of the outside mean.
use Rattle.std.proofs.Common.{◌≡◌, ◌≢◌, ◌⊎◌, ◌<◌, ◌≤◌, ◌∙◌, ℕ, List, [], Option, Err, inl, inr, refl, sym, subst, arith, ⊎_elim}
use Rattle.bad_free_report.specs.Notice.{Notice}
use Rattle.hs_base.specs.declared.ends.End.{End}
use Rattle.hs_base.specs.declared.ends.End.TheVariants as end
use Rattle.heapsafe.specs.Places.{told_ending}
use Rattle.c_decls.specs.declared.refusal.TypeError.{TypeError}
use Rattle.c_decls.specs.declared.refusal.TypeError.TheVariants as type
use Rattle.c_pre.specs.declared.answer.Opened.{Opened}
use Rattle.core_tree.specs.declared.program.Core.{Core}
use Rattle.bad_free_report.specs.declared.explanation.Known.{Known}
use Rattle.hs_base.specs.declared.reading.ReadError.{ReadError}
use Rattle.hs_base.specs.declared.reading.ReadError.TheVariants.{Fault, TooLong, NoMemory}
use Rattle.hs_base.specs.ReadAll.{ReadCounts}
use Rattle.flat_machine.specs.Running.{RunCounts}
use Rattle.heapsafe.specs.Program.{status_of, told_notice}
use Rattle.heapsafe.specs.Saying.{HasCause, IsFault, IsRefusal, Refuses, Says, SaysCounts, SaysOwn, StreamFails, TakesExit, unmade, unread, untyped}
use Rattle.heapsafe.specs.Sight.{Sight}
use Rattle.heapsafe.specs.Reads.{CountsText}
use Rattle.heapsafe.specs.declared.units.Program.{Program}
use Rattle.heapsafe.specs.declared.units.ProgramError.{ProgramError}
use Rattle.heapsafe.specs.declared.units.ProgramError.TheVariants as program
use Rattle.heapsafe.specs.declared.units.ProgramError.TheVariants.{Text, Syntax, Conflict}
use Rattle.c_pre.specs.Answering.{CountsFault}
use Rattle.c_pre.specs.declared.answer.Sources.{Sources}
use Rattle.c_pre.specs.declared.answer.PreError.{PreError}
use Rattle.c_pre.specs.declared.answer.PreError.TheVariants as pre
use Rattle.heapsafe.specs.Shown.{Shown, no_memory, untokened}

-- The refusals that have that status

untokened_wants : (error : PreError) → (untokened error).status ≡ 134 → untokened error ≡ no_memory
untokened_wants (pre.Bad kind at) is = absurd (omega (arith, is))
untokened_wants (pre.Lex kind at) is = absurd (omega (arith, is))
untokened_wants (pre.Fault name) is = absurd (omega (arith, is))
untokened_wants (pre.TooLong name) is = absurd (omega (arith, is))
untokened_wants pre.NoMemory is = refl

pub unmade_wants : (error : ProgramError) → (unmade error).status ≡ 134 → unmade error ≡ no_memory
unmade_wants (Text error) is = untokened_wants error is
unmade_wants (Syntax texts line) is = absurd (omega (arith, is))
unmade_wants (Conflict texts name line) is = absurd (omega (arith, is))
unmade_wants program.NoMemory is = refl

-- The causes of the statuses of failures of the outside

-- a status that is none of them
pub no_fault : (status : ℕ) → status ≢ 121 → status ≢ 132 → status ≢ 133 → IsFault status → ⊥
no_fault status a b c is = ⊎_elim a (λ h. ⊎_elim b c h) is

-- such a status of a file without tokens comes where a text failed
untokened_cause : (error : PreError) (before after : ℕ) → CountsFault {T = Sources} before after (Err error) → IsFault (untokened error).status → before < after
untokened_cause (pre.Bad kind at) before after counts is =
    absurd (no_fault 138 (λ h. omega (arith, h)) (λ h. omega (arith, h)) (λ h. omega (arith, h)) is)
untokened_cause (pre.Lex kind at) before after counts is =
    absurd (no_fault 123 (λ h. omega (arith, h)) (λ h. omega (arith, h)) (λ h. omega (arith, h)) is)
untokened_cause (pre.Fault name) before after counts is = omega (arith, counts)
untokened_cause (pre.TooLong name) before after counts is =
    absurd (no_fault 122 (λ h. omega (arith, h)) (λ h. omega (arith, h)) (λ h. omega (arith, h)) is)
untokened_cause pre.NoMemory before after counts is = absurd (no_fault 134 (λ h. omega (arith, h)) (λ h. omega (arith, h)) (λ h. omega (arith, h)) is)

pub unmade_cause : (error : ProgramError) (before after : ℕ) → CountsText {T = Program} before after (Err error) → IsFault (unmade error).status → before < after
unmade_cause (Text error) before after counts is = untokened_cause error before after counts is
unmade_cause (Syntax texts line) before after counts is =
    absurd (no_fault 124 (λ h. omega (arith, h)) (λ h. omega (arith, h)) (λ h. omega (arith, h)) is)
unmade_cause (Conflict texts name line) before after counts is =
    absurd (no_fault 139 (λ h. omega (arith, h)) (λ h. omega (arith, h)) (λ h. omega (arith, h)) is)
unmade_cause program.NoMemory before after counts is = absurd (no_fault 134 (λ h. omega (arith, h)) (λ h. omega (arith, h)) (λ h. omega (arith, h)) is)

-- The statuses of refusals

pub refusal_low : (status : ℕ) → IsRefusal status → 120 ≤ status
refusal_low status is =
    ⊎_elim (λ h. omega (arith, h)) (λ h. ⊎_elim (λ k. omega (arith, k.0)) (λ k. omega (arith, k.0)) h) is

-- the statuses between are none
refusal_apart : (status : ℕ) → 126 ≤ status → status ≤ 134 → IsRefusal status → ⊥
refusal_apart status more less is =
    ⊎_elim (λ h. omega (arith, h, more)) (λ h. ⊎_elim (λ k. omega (arith, k.0, less)) (λ k. omega (arith, k.1, more)) h) is

-- An end of a program

module _ {I O E : Type 0} (before after : Sight I O E) (result : ℕ) where
  -- something was said with a status that is no refusal's
  pub never_refused : (RunsNone : Type 0) (status : ℕ) (notice : Notice) → 126 ≤ status → status ≤ 134 → Says before after notice status result → Refuses RunsNone before after result
  never_refused RunsNone status notice more less said = λ is.
      absurd (⊎_elim (λ h. refusal_apart result (omega (arith, h.1, more)) (omega (arith, h.1, less)) is) (λ h. refusal_apart result (omega (arith, h.1)) (omega (arith, h.1)) is) said)

  -- the counts of what was said
  pub counts_of : (status : ℕ) (notice : Notice) → Says before after notice status result → SaysCounts before after status result
  counts_of status notice said = ⊎_elim (λ h. inl (h.0, h.1)) (λ h. inr (h.0, h.1)) said

  -- behind an exit no more is said than of one
  pub own_of : (file : List ℕ) (opened : List Opened) (core : Core) (asked : Option Known) (x : End) → Says before after (told_notice file opened core asked x []) (status_of x) result → SaysOwn x before after
  own_of file opened core asked x said = λ code exits same.
      let plain = subst (λ (y : End). Says before after (told_notice file opened core asked y []) (status_of y) result) exits said in
      ⊎_elim
      (λ h. (told_ending core file opened asked (end.Exit code), [], code, refl, h.2))
      (λ h. absurd (omega (arith, h.0, same)))
      plain

  -- an end with another status than that of want of memory, of a refusal, of a fault
  unlike : (status : ℕ) → (result ≡ status → ⊥) → (result ≡ 133 → ⊥) → SaysCounts before after status result → ⊥
  unlike status one other counts = ⊎_elim (λ h. one h.1) (λ h. other h.1) counts

  -- the status of want of memory is that of an exit
  pub own_end : (x : End) → SaysCounts before after (status_of x) result → SaysOwn x before after → result ≡ 134 → TakesExit before after
  own_end (end.Exit code) counts own is = ⊎_elim (λ h. own code refl h.0) (λ h. absurd (omega (arith, h.1, is))) counts
  own_end (end.Trap kind line) counts own is = absurd (unlike 128 (λ h. omega (arith, h, is)) (λ h. omega (arith, h, is)) counts)
  own_end (end.BadFree why holder) counts own is = absurd (unlike 126 (λ h. omega (arith, h, is)) (λ h. omega (arith, h, is)) counts)
  own_end (end.Escape func local line) counts own is = absurd (unlike 127 (λ h. omega (arith, h, is)) (λ h. omega (arith, h, is)) counts)
  own_end end.Spent counts own is = absurd (unlike 131 (λ h. omega (arith, h, is)) (λ h. omega (arith, h, is)) counts)
  own_end (end.OutOfStack line) counts own is = absurd (unlike 130 (λ h. omega (arith, h, is)) (λ h. omega (arith, h, is)) counts)
  own_end end.InputFault counts own is = absurd (unlike 132 (λ h. omega (arith, h, is)) (λ h. omega (arith, h, is)) counts)
  own_end end.OutputFault counts own is = absurd (unlike 133 (λ h. omega (arith, h, is)) (λ h. omega (arith, h, is)) counts)

  -- no refusal has such a status
  higher : (status : ℕ) → 126 ≤ status → status ≤ 134 → SaysCounts before after status result → IsRefusal result → ⊥
  higher status more less counts is =
      unlike status (λ h. refusal_apart result (omega (arith, h, more)) (omega (arith, h, less)) is) (λ h. refusal_apart result (omega (arith, h)) (omega (arith, h)) is) counts

  -- and so are those of refusals
  pub end_refused : (x : End) → SaysCounts before after (status_of x) result → SaysOwn x before after → IsRefusal result → TakesExit before after
  end_refused (end.Exit code) counts own is =
      ⊎_elim (λ h. own code refl h.0) (λ h. absurd (refusal_apart result (omega (arith, h.1)) (omega (arith, h.1)) is)) counts
  end_refused (end.Trap kind line) counts own is = absurd (higher 128 (omega arith) (omega arith) counts is)
  end_refused (end.BadFree why holder) counts own is = absurd (higher 126 (omega arith) (omega arith) counts is)
  end_refused (end.Escape func local line) counts own is = absurd (higher 127 (omega arith) (omega arith) counts is)
  end_refused end.Spent counts own is = absurd (higher 131 (omega arith) (omega arith) counts is)
  end_refused (end.OutOfStack line) counts own is = absurd (higher 130 (omega arith) (omega arith) counts is)
  end_refused end.InputFault counts own is = absurd (higher 132 (omega arith) (omega arith) counts is)
  end_refused end.OutputFault counts own is = absurd (higher 133 (omega arith) (omega arith) counts is)

  abbrev Caused : Type 0
  Caused = HasCause (StreamFails before after) ⊥ before after result

  -- one with a status that is none of a failure of the outside
  plain : (status : ℕ) → (IsFault status → ⊥) → SaysCounts before after status result → Caused
  plain status none counts = λ is.
      ⊎_elim (λ h. absurd (none (subst IsFault h.1 is))) (λ h. inl (inr (inr (omega (arith, h.0))))) counts

  -- each status of a failure of the outside is that of an exit, or its object failed
  pub end_cause : (x : End) → RunCounts x before.input_faults after.input_faults before.out_faults after.out_faults → SaysCounts before after (status_of x) result → SaysOwn x before after → Caused
  end_cause (end.Exit code) ran counts own = λ is. ⊎_elim (λ h. inr ((λ n. n), own code refl h.0)) (λ h. inl (inr (inr (omega (arith, h.0))))) counts
  end_cause (end.Trap kind line) ran counts own = plain 128 (no_fault 128 (λ h. omega (arith, h)) (λ h. omega (arith, h)) (λ h. omega (arith, h))) counts
  end_cause (end.BadFree why holder) ran counts own = plain 126 (no_fault 126 (λ h. omega (arith, h)) (λ h. omega (arith, h)) (λ h. omega (arith, h))) counts
  end_cause (end.Escape func local line) ran counts own = plain 127 (no_fault 127 (λ h. omega (arith, h)) (λ h. omega (arith, h)) (λ h. omega (arith, h))) counts
  end_cause end.Spent ran counts own = plain 131 (no_fault 131 (λ h. omega (arith, h)) (λ h. omega (arith, h)) (λ h. omega (arith, h))) counts
  end_cause (end.OutOfStack line) ran counts own = plain 130 (no_fault 130 (λ h. omega (arith, h)) (λ h. omega (arith, h)) (λ h. omega (arith, h))) counts
  end_cause end.InputFault ran counts own = λ is. inl (inl (omega (arith, ran.0)))
  end_cause end.OutputFault ran counts own = λ is. inl (inr (inl (omega (arith, ran.1))))
