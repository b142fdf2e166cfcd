-- What the input lost, and the streams took, where a write failed.
use Rattle.std.proofs.Common.{◌≡◌, ◌⊎◌, ◌+◌, ◌≤◌, ◌∙◌, arith, inl, inr, ℕ, List, [], ◌∷◌, ◌++◌, Option, Some, None, refl, sym, ap, subst, ⊎_elim}
use Rattle.std.specs.Prelude.{cond}
use Rattle.std.proofs.lemmas.Bool.{le-ltb}
use Rattle.std.proofs.lemmas.List.{append-nil}
use Rattle.command_words.specs.Commands.{Command, Execute, Generated, OnFiles}
use Rattle.bad_free_report.specs.Notice.{Notice, said}
use Rattle.heapsafe.specs.Shown.{Shown, written, no_memory, output_fault}
use Rattle.heapsafe.specs.Saying.{Breaks, BreaksOff, BreaksOne, IsSaid, Says, SaysMore, SaysOnly, TakesFront, TakesSome, unread_files}
use Rattle.heapsafe.specs.Sight.{KeepsBoth, KeepsInput, Sight}

-- all of some bytes are a front of them
all_front : (taken taken' : Option (List ℕ)) (bytes : List ℕ) → ((t : List ℕ) → taken ≡ Some t → taken' ≡ Some (t ++ bytes)) → TakesFront taken taken' bytes
all_front taken taken' bytes took = λ t h. (bytes, [], append-nil bytes, took t h)

-- and so is nothing
pub no_front : (taken taken' : Option (List ℕ)) (bytes : List ℕ) → taken' ≡ taken → TakesFront taken taken' bytes
no_front taken taken' bytes same = λ t h. ([], bytes, refl, same ∙ h ∙ ap Some (sym (append-nil t)))

-- no text failed
pub unread_none : (asked : Option Command) (t t' : ℕ) → t' ≡ t → unread_files asked t t' ≡ None
unread_none None t t' same = refl
unread_none (Some (Generated number)) t t' same = refl
unread_none (Some (Execute file heap stack steps leaks explain)) t t' same = ap (λ b. cond b (Some (file ∷ [])) None) (le-ltb t t' (omega (arith, same)))
unread_none (Some (OnFiles files task)) t t' same = ap (λ b. cond b (Some files) None) (le-ltb t t' (omega (arith, same)))

module _ {I O E : Type 0} (before after : Sight I O E) (result : ℕ) where
  -- the error stream took a front of what is said, and nothing more was written to it where it failed
  abbrev pub Fronts : Notice → Type 0
  Fronts notice = TakesSome before after notice × (after.err_faults ≤ before.err_faults + 1)

  pub says_front : (status : ℕ) (notice : Notice) → Says before after notice status result → Fronts notice
  says_front status notice says =
      ⊎_elim (λ h. (all_front before.said after.said (said before.form notice) h.2, omega (arith, h.0))) (λ h. (h.2, omega (arith, h.0))) says

  -- the input and the output are as before
  pub broken_said : (unread : Option (List (List ℕ))) (s a : Shown) (left : List ℕ) → IsSaid unread a before after s.err → before.left ≡ Some left → SaysOnly s before after result → Breaks unread a left before after
  broken_said unread s a left is told said =
      let front = says_front s.status s.err said.says in
      record {
        lost = [];
        kept = left;
        more = a.read;
        is_left = said.keeps.input.left ∙ told;
        is_lost = refl;
        is_read = refl;
        out_took = no_front before.taken after.taken a.out said.keeps.out.taken;
        words = s.err;
        is_said = is;
        err_took = front.0;
        out_stops = omega (arith, said.keeps.out.faults);
        err_stops = front.1;
      }

  -- the line of an answer, or of want of memory, where only the error stream can have failed
  pub broken_own : (s a : Shown) (left : List ℕ) → (a ≡ s) ⊎ (s ≡ no_memory) → before.left ≡ Some left → SaysOnly s before after result → Breaks None a left before after
  broken_own s a left is told said =
      broken_said None s a left
      (inr (inr (said.keeps.input.faults, said.keeps.out.faults, ⊎_elim (λ h. inl (sym (ap (λ (x : Shown). x.err) h))) (λ h. inr (ap (λ (x : Shown). x.err) h)) is)))
      told said

  -- a text that was not written whole
  pub broken_text : (text : List ℕ) (a : Shown) (left : List ℕ) → a ≡ written text → before.left ≡ Some left → KeepsInput before after → after.out_faults ≡ before.out_faults + 1 → TakesFront before.taken after.taken text → Says before after output_fault.err 133 result → Breaks None a left before after
  broken_text text a left is told keeps counts took said =
      let front = says_front 133 output_fault.err said in
      record {
        lost = [];
        kept = left;
        more = a.read;
        is_left = keeps.left ∙ told;
        is_lost = refl;
        is_read = refl;
        out_took = subst (λ (x : Shown). TakesFront before.taken after.taken x.out) (sym is) took;
        words = output_fault.err;
        is_said = inr (inl (omega (arith, counts), refl));
        err_took = front.0;
        out_stops = omega (arith, counts);
        err_stops = front.1;
      }

  -- what was broken off, in other words; those of want of memory alone need not be among them
  pub one_as : (Is Is' : Shown → Type 0) (unread : Option (List (List ℕ))) (left : List ℕ) → ((a : Shown) → Is a → Is' a) → BreaksOne Is unread left before after → BreaksOne Is' unread left before after
  one_as Is Is' unread left to h = record { shown = h.shown; is = ⊎_elim (λ is. inl (to h.shown is)) (λ none. inr none) h.is; breaks = h.breaks }

  pub off_as : (One : Type 0) (Is Is' : Shown → Type 0) (unread : Option (List (List ℕ))) (left : List ℕ) → ((a : Shown) → Is a → Is' a) → ((a : Shown) → Is' a → SaysMore a → Is a) → BreaksOff One Is unread left before after → BreaksOff One Is' unread left before after
  off_as One Is Is' unread left to from h = record {
    each = λ one a is more. h.each one a (from a is more) more;
    some = λ no. one_as Is Is' unread left to (h.some no);
  }
