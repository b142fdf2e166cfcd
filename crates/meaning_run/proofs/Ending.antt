-- The end of memory locals.
use Rattle.std.proofs.Common.{◌≡◌, ℕ, ◌+◌, ◌-◌, ◌<◌, List, Option, Some, None, length, sym, ap, ◌∙◌, arith}
use Rattle.std.specs.Prelude.{slice_get, slice_index}
use Rattle.std.specs.List.{range_with_len}
use Rattle.std.proofs.lemmas.List.FromFn.{get_or-range_with_len, length-range_with_len}
use Rattle.hs_base.specs.declared.values.Value.{Value}
use Rattle.hs_base.specs.State.{State}
use Rattle.hs_base.specs.Trace.{Escape}
use Rattle.hs_base.specs.Freeing.{first_held, ended}
use Rattle.core_tree.specs.declared.program.Core.{Core}
use Rattle.object_meaning.specs.objects.Going.{stops, with_objects}
use Rattle.object_meaning.specs.objects.Calls.{locals_of, running_locals, escapes, go_back, end_locals, give_back}
use Rattle.meaning_run.specs.Leading.{with_input}

pub within : (locals : List ℕ) (first count k : ℕ) → locals ≡ range_with_len first count → k < length locals → k < count
within locals first count k is h = omega (arith, ap length is, length-range_with_len first count)

module _ (core : Core) (line : ℕ) (answer : Value) (s : State) (left : List ℕ) (locals : List ℕ) (is : locals ≡ running_locals core s) where
  pub escaped : (k : ℕ) → first_held (escapes core answer s locals) locals ≡ Some (slice_index locals k) → k < length locals → give_back core line answer (with_input left s) ≡ stops (with_input left s) (Escape s.running.func k line)
  escaped k held h =
      let count = length (locals_of (slice_get core.funcs s.running.func)) in
      let lt = within locals s.running.first_local count k is h in
      let at : slice_index locals k ≡ s.running.first_local + k = ap (λ ls. slice_index ls k) is ∙ get_or-range_with_len s.running.first_local count k 0 lt in
      let e : slice_index locals k - s.running.first_local ≡ k = omega arith in
      ap (λ (o : Option ℕ). end_locals core line answer o (with_input left s)) (sym (ap (λ ls. first_held (escapes core answer s ls) ls) is) ∙ held)
      ∙ ap (λ j. stops (with_input left s) (Escape s.running.func j line)) e

  pub goes_back : first_held (escapes core answer s locals) locals ≡ None → give_back core line answer (with_input left s) ≡ go_back core answer s.waiting (with_objects (with_input left s) (ended s.objects (running_locals core s)))
  goes_back held =
      ap (λ (o : Option ℕ). end_locals core line answer o (with_input left s)) (sym (ap (λ ls. first_held (escapes core answer s ls) ls) is) ∙ held)
