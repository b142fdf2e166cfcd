-- Objects are freed and grown in code as in the core.
use Rattle.meaning_laws.proofs.Words.Core.{Code, Core, Func, Layout, Object, Pointer, Reason, Refusal, State, Stm, Value, freed_at, queued, site_of}
use Rattle.meaning_laws.proofs.Words.Meaning.{IsCompiled, Pins, address, birth_of, counts_at, holds_on, made, no_place, pins_of, renumbered, start_of, with_new, with_objects}
use Rattle.meaning_laws.proofs.Words.Std.{Bool, Err, List, Ok, Result, Some, [], false, length, refl, set, slice_get, true, unwrap_or, ℕ, ◌++◌, ◌∷◌, ◌≡◌}
use Rattle.hs_base.specs.declared.values.Pointer.TheVariants as pointer
use Rattle.object_meaning.specs.counted.Freeing as counted
use Rattle.object_meaning.specs.code.Freeing as freeing
use Rattle.meaning_laws.proofs.counts.Sorting.{HasSorts, FitsIn, InOrder, set_sorts}
use Rattle.meaning_laws.proofs.counts.Listed.{AreListed}
use Rattle.meaning_laws.proofs.agreement.Keeping.{moved_same, Follows, with_same, IsLast, acting, alike, arrives}
use Rattle.meaning_laws.proofs.agreement.Library.{none_both, made_both}
use Rattle.meaning_laws.proofs.agreement.Scopes.{in_scope_follows}

module _ (core : Core) (pins : Pins) (code : Code) (compiled : IsCompiled core pins code) (listed : AreListed core pins) (s : State) (func : Func) (here : slice_get core.funcs s.running.func ≡ Some func) (order : InOrder core s) (stm : Stm) (at : slice_get func.body s.running.point ≡ Some stm) (all : (r : ℕ) → counts_at func s.running.point stm.kind r ≡ holds_on func s.running.point r) (q j : ℕ) (last : IsLast core code s q j) (own : unwrap_or (site_of code.sites q) [] ≡ pins_of pins s.running.func s.running.point) (line : ℕ) (numbers : ℕ → ℕ) where
  abbrev there : State
  there = acting core code s q j last s

  sorts : HasSorts func s.running.regs
  sorts = order.sorts func here

  -- Frees

  named_follows : (result : Result ℕ Reason) → Follows core code s j (counted.free_named core pins line result numbers s) (freeing.free_named code line result numbers there)
  named_follows (Ok birth) =
      in_scope_follows core pins code compiled listed s func here order stm at all q j last own (queued s.objects birth line) s.running.regs sorts (s.queue ++ birth ∷ []) numbers numbers s there (moved_same core s q) [] s.scopes s.scopes
  named_follows (Err reason) = (refl, refl, moved_same core s q, refl, (moved_same core s q, refl))

  pub free_follows : (p : Pointer) → Follows core code s j (counted.free core pins line p numbers s) (freeing.free code line p numbers there)
  free_follows pointer.Null = (refl, refl, arrives core code s q j last s (alike core code s q j last), refl, (moved_same core s q, refl))
  free_follows (pointer.At birth offset) = named_follows (freed_at s.objects birth offset)

  -- Growing

  module _ (r : ℕ) (fits : (v : Value) → FitsIn func (Some r) v) (n : ℕ) (element : Layout) where
    grown_follows : (old : ℕ) (result : Result (List Object) Refusal) → Follows core code s j (counted.grown core pins line r n old s numbers (with_new line n element s) result) (freeing.grown code line r n old there numbers (with_new line n element there) result)
    grown_follows old (Ok objects) =
        let made = with_new line n element s in
        let new = length s.objects in
        let v = address (start_of new) in
        in_scope_follows core pins code compiled listed s func here order stm at all q j last own (queued objects old line) (set s.running.regs r v) (set_sorts func s.running.regs sorts r v (fits v)) (s.queue ++ old ∷ []) numbers (renumbered new numbers made (with_objects made objects)) s there (moved_same core s q) (birth_of line n s) s.scopes s.scopes
    grown_follows old (Err e) = (refl, refl, moved_same core (with_new line n element s) q, refl, (moved_same core s q, refl))

    grow_old_follows : (b : Bool) (old : ℕ) → Follows core code s j (counted.grow_old b core pins line r old n element numbers s) (freeing.grow_old b code line r old n element numbers there)
    grow_old_follows false old =
        with_same core code s j (no_place r s) (no_place r there) numbers (none_both core code s q j last r)
    grow_old_follows true old = grown_follows old _

    grow_named_follows : (places : ℕ → Bool) (result : Result ℕ Reason) → Follows core code s j (counted.grow_named core pins places line r result n element numbers s) (freeing.grow_named code places line r result n element numbers there)
    grow_named_follows places (Ok old) = grow_old_follows (places n) old
    grow_named_follows places (Err reason) = (refl, refl, moved_same core s q, refl, (moved_same core s q, refl))

    pub grow_follows : (places : ℕ → Bool) (p : Pointer) → Follows core code s j (counted.grow core pins places line r p n element numbers s) (freeing.grow code places line r p n element numbers there)
    grow_follows places pointer.Null =
        with_same core code s j (made (places n) line r n element s) (made (places n) line r n element there) numbers (made_both core code s q j last (places n) line r n element)
    grow_follows places (pointer.At birth offset) = grow_named_follows places (freed_at s.objects birth offset)
