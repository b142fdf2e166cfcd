-- A program's answer, from how it ended.
use Rattle.std.proofs.Common.{◌≡◌, ◌<◌, ℕ, ◌+◌, Bool, true, false, List, [], ◌∷◌, ◌++◌, Option, Some, None, Ok, inl, inr, refl, sym, subst, arith, ⊎_elim}
use Rattle.std.specs.Prelude.{nat_lt}
use Rattle.std.proofs.lemmas.Bool.{lt-ltb, le-ltb}
use Rattle.hs_base.specs.declared.ends.End.{End}
use Rattle.hs_base.specs.declared.ends.End.TheVariants as end
use Rattle.hs_base.specs.declared.ends.Leak.{Leak}
use Rattle.hs_base.specs.Object.{Object}
use Rattle.hs_base.specs.Trace.{Event, In}
use Rattle.c_pre.specs.declared.answer.Opened.{Opened}
use Rattle.core_tree.specs.declared.program.Core.{Core}
use Rattle.bad_free_report.specs.declared.explanation.Known.{Known}
use Rattle.meaning_run.specs.Meant.{MeanCounts}
use Rattle.flat_machine.specs.Running.{RunCounts}
use Rattle.heapsafe.specs.Program.{Done, AnswersProgram, AreTold, TellsNone, ended, status_of}
use Rattle.heapsafe.specs.Saying.{Faults, SaysCounts}
use Rattle.heapsafe.specs.Sight.{Sight}

-- bytes that are other ones
pub same_some : (a b : List ℕ) → Some a ≡ Some b → a ≡ b
same_some a b e = cc

-- a program that ended, where the input did not fail
pub whole_is : (file : List ℕ) (opened : List Opened) (core : Core) (knows : End → Option Known) (done : Done) (x : End) (leaks : List Leak) (i i' : ℕ) → i' ≡ i → done.ends ≡ Some x → AreTold done.left x leaks → AnswersProgram file opened core knows (nat_lt i i') done (ended file opened core (knows x) done.events x leaks)
whole_is file opened core knows done x leaks i i' same is told =
    let s = ended file opened core (knows x) done.events x leaks in
    subst (λ b. AnswersProgram file opened core knows b done s) (sym (le-ltb i i' (omega arith))) (record { how = x; leaks = leaks; ends = is; told = told; is = refl })

-- a program that stopped where the input failed
pub stopped_is : (file : List ℕ) (opened : List Opened) (core : Core) (knows : End → Option Known) (done : Done) (before : List Event) (byte : Option ℕ) (rest : List Event) (i i' : ℕ) → i' ≡ i + 1 → done.events ≡ before ++ In byte ∷ rest → AnswersProgram file opened core knows (nat_lt i i') done (ended file opened core (knows end.InputFault) before end.InputFault [])
stopped_is file opened core knows done before byte rest i i' more is =
    let s = ended file opened core (knows end.InputFault) before end.InputFault [] in
    subst (λ b. AnswersProgram file opened core knows b done s) (sym (lt-ltb i i' (omega arith))) (record { before = before; byte = byte; rest = rest; stops = is; is = refl })

-- an end that is no exit
abbrev pub IsNoExit : End → Type 0
IsNoExit (end.Exit code) = ⊥
IsNoExit x = Unit {0}

-- every other end tells of no leaks
pub none_told : (left : Option (List Object)) (x : End) → IsNoExit x → AreTold left x []
none_told None x unlike = refl
none_told (Some objects) (end.Exit code) unlike = absurd unlike
none_told (Some objects) (end.Trap kind line) unlike = refl
none_told (Some objects) (end.BadFree why holder) unlike = refl
none_told (Some objects) (end.Escape func local line) unlike = refl
none_told (Some objects) end.Spent unlike = refl
none_told (Some objects) (end.OutOfStack line) unlike = refl
none_told (Some objects) end.InputFault unlike = refl
none_told (Some objects) end.OutputFault unlike = refl

pub tells_none : (leaks : Bool) (x : End) → IsNoExit x → TellsNone leaks x
tells_none false x unlike = tt
tells_none true (end.Exit code) unlike = absurd unlike
tells_none true (end.Trap kind line) unlike = tt
tells_none true (end.BadFree why holder) unlike = tt
tells_none true (end.Escape func local line) unlike = tt
tells_none true end.Spent unlike = tt
tells_none true (end.OutOfStack line) unlike = tt
tells_none true end.InputFault unlike = tt
tells_none true end.OutputFault unlike = tt

-- where an exit tells of none, its leaks are not asked for
pub tells_false : (leaks : Bool) (code : ℕ) → TellsNone leaks (end.Exit code) → leaks ≡ false
tells_false false code none = refl
tells_false true code none = absurd none

module _ {I O E : Type 0} (before after : Sight I O E) (result : ℕ) where
  -- those of the error stream alone
  counted_faults : (t status : ℕ) → after.input_faults ≡ before.input_faults → after.out_faults ≡ before.out_faults → SaysCounts before after status result → Faults t t before after result
  counted_faults t status input_stays out_stays said =
      ⊎_elim
      (λ h. inl (refl, input_stays, out_stays, h.0))
      (λ h. inr (inl (omega arith, omega (arith, input_stays), omega (arith, out_stays), omega (arith, h.0), inr (omega (arith, h.0)), h.1)))
      said

  -- faults of a program's run
  pub program_faults : (x : End) (t : ℕ) → RunCounts x before.input_faults after.input_faults before.out_faults after.out_faults → SaysCounts before after (status_of x) result → Faults t t before after result
  program_faults (end.Exit code) t counts said = counted_faults t code counts.0 counts.1 said
  program_faults (end.Trap kind line) t counts said = counted_faults t 128 counts.0 counts.1 said
  program_faults (end.BadFree why holder) t counts said = counted_faults t 126 counts.0 counts.1 said
  program_faults (end.Escape func local line) t counts said = counted_faults t 127 counts.0 counts.1 said
  program_faults end.Spent t counts said = counted_faults t 131 counts.0 counts.1 said
  program_faults (end.OutOfStack line) t counts said = counted_faults t 130 counts.0 counts.1 said
  program_faults end.InputFault t counts said =
      ⊎_elim
      (λ h. inr (inr (inr (refl, omega (arith, counts.0), counts.1, h.0, h.1))))
      (λ h. inr (inl (omega arith, omega (arith, counts.0), omega (arith, counts.1), omega (arith, h.0), inr (omega (arith, h.0)), h.1)))
      said
  program_faults end.OutputFault t counts said =
      ⊎_elim
      (λ h. inr (inl (omega arith, omega (arith, counts.0), omega (arith, counts.1), omega (arith, h.0), inl (omega (arith, counts.1)), h.1)))
      (λ h. inr (inl (omega arith, omega (arith, counts.0), omega (arith, counts.1), omega (arith, h.0), inl (omega (arith, counts.1)), h.1)))
      said

  -- where the input or the output failed, the run ended so
  pub input_end : (x : End) → RunCounts x before.input_faults after.input_faults before.out_faults after.out_faults → before.input_faults < after.input_faults → x ≡ end.InputFault
  input_end (end.Exit code) counts more = absurd (omega (arith, counts.0, more))
  input_end (end.Trap kind line) counts more = absurd (omega (arith, counts.0, more))
  input_end (end.BadFree why holder) counts more = absurd (omega (arith, counts.0, more))
  input_end (end.Escape func local line) counts more = absurd (omega (arith, counts.0, more))
  input_end end.Spent counts more = absurd (omega (arith, counts.0, more))
  input_end (end.OutOfStack line) counts more = absurd (omega (arith, counts.0, more))
  input_end end.InputFault counts more = refl
  input_end end.OutputFault counts more = absurd (omega (arith, counts.0, more))

  pub output_end : (x : End) → RunCounts x before.input_faults after.input_faults before.out_faults after.out_faults → before.out_faults < after.out_faults → x ≡ end.OutputFault
  output_end (end.Exit code) counts more = absurd (omega (arith, counts.1, more))
  output_end (end.Trap kind line) counts more = absurd (omega (arith, counts.1, more))
  output_end (end.BadFree why holder) counts more = absurd (omega (arith, counts.1, more))
  output_end (end.Escape func local line) counts more = absurd (omega (arith, counts.1, more))
  output_end end.Spent counts more = absurd (omega (arith, counts.1, more))
  output_end (end.OutOfStack line) counts more = absurd (omega (arith, counts.1, more))
  output_end end.InputFault counts more = absurd (omega (arith, counts.1, more))
  output_end end.OutputFault counts more = refl

pub mean_counts : (x : End) (i i' o o' : ℕ) → MeanCounts (Ok x) i i' o o' → RunCounts x i i' o o'
mean_counts (end.Exit code) i i' o o' h = h
mean_counts (end.Trap kind line) i i' o o' h = h
mean_counts (end.BadFree why holder) i i' o o' h = h
mean_counts (end.Escape func local line) i i' o o' h = h
mean_counts end.Spent i i' o o' h = h
mean_counts (end.OutOfStack line) i i' o o' h = h
mean_counts end.InputFault i i' o o' h = h
mean_counts end.OutputFault i i' o o' h = h
