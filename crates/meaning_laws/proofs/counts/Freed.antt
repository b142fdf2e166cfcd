-- Frees, growing objects, and the scopes that they open for themselves.
use Rattle.meaning_laws.proofs.Words.Core.{Core, Event, Func, Layout, Object, Pointer, Reason, Refusal, State, Stm, Value, freed_at, is_dead, is_heap, is_queued, object_at}
use Rattle.meaning_laws.proofs.Words.Meaning.{Alive, AreCounts, AreExact, Changes, OnDone, Pins, Sane, address, birth_of, copied, copied_changes, counts_at, ended_by, enqueue, goes, heap_object, holds_on, is_among, kept, onward, put, renumbered, start_of, stops_after, with_new, with_objects}
use Rattle.meaning_laws.proofs.Words.Std.{Bool, Err, List, Ok, Result, Some, [], arith, cond, eqb-false, false, false_from_ne_true, length, min, nat_eq, not, or_parts, refl, slice_get, suc, sym, true, true≢false, zero, ℕ, ⊎_elim, ◌&&◌, ◌++◌, ◌+◌, ◌∙◌, ◌∷◌, ◌≡◌}
use Rattle.hs_base.specs.declared.values.Pointer.TheVariants as pointer
use Rattle.object_meaning.specs.objects.Scoping as object_scopes
use Rattle.object_meaning.specs.objects.Heap as object
use Rattle.meaning_laws.proofs.dangling.Touching.{append_grows, queue_sane, among_cases, Done, copied_done}
use Rattle.meaning_laws.proofs.dangling.Touching as touching
use Rattle.meaning_laws.proofs.dangling.Standing.{new_sane, new_alive}
use Rattle.object_meaning.specs.counted.Checking as counted_scopes
use Rattle.object_meaning.specs.counted.Freeing as counted
use Rattle.meaning_laws.proofs.counts.Weighing.{Once}
use Rattle.meaning_laws.proofs.counts.Objects.{queued_same}
use Rattle.meaning_laws.proofs.counts.Sorting.{FitsIn, InOrder, at_order, with_order, Agrees, alters_agree, on_order, renumbered_counts, new_living, none_plain, made_plain}
use Rattle.meaning_laws.proofs.counts.Checks.{checked_agrees}

-- Queues

out_last : (queue : List ℕ) (b c : ℕ) → is_among queue c ≡ false → (c ≡ b → ⊥) → is_among (queue ++ b ∷ []) c ≡ false
out_last queue b c out n =
    false_from_ne_true _ (λ h. ⊎_elim (λ i. true≢false (sym i ∙ out)) (λ e. n e) (among_cases queue b c h))

once_last : (queue : List ℕ) (b : ℕ) → Once queue → is_among queue b ≡ false → Once (queue ++ b ∷ [])
once_last [] b h out = (refl, tt)
once_last (q ∷ queue) b h out =
    let both = or_parts (nat_eq q b) (is_among queue b) out in
    (out_last queue b q h.0 (λ e. eqb-false q b both.0 e), once_last queue b h.1 both.1)

-- the object that a free may queue is alive, on the heap, and not queued
abbrev Frees : List Object → Result ℕ Reason → Type 0
Frees objects (Ok b) =
    Alive objects b × (is_heap (object_at objects b).sort ≡ true) × (is_queued (object_at objects b).standing ≡ false)
Frees objects (Err reason) = Unit {0}

frees_cond : (objects : List Object) (b : ℕ) (heap dead start again : Bool) (twice elsewhere : Reason) → is_heap (object_at objects b).sort ≡ heap → is_dead (object_at objects b).standing ≡ dead → is_queued (object_at objects b).standing ≡ again → Frees objects (cond (heap && not dead && start) (cond again (Err twice) (Ok b)) (Err elsewhere))
frees_cond objects b true false true true twice elsewhere h i j = tt
frees_cond objects b true false true false twice elsewhere h i j = (i, h, j)
frees_cond objects b true false false again twice elsewhere h i j = tt
frees_cond objects b true true start again twice elsewhere h i j = tt
frees_cond objects b false dead start again twice elsewhere h i j = tt

frees : (objects : List Object) (b offset : ℕ) → Frees objects (freed_at objects b offset)
frees objects b offset =
    frees_cond objects b (is_heap (object_at objects b).sort) (is_dead (object_at objects b).standing) (nat_eq offset 0) (is_queued (object_at objects b).standing) _ _ refl refl refl

not_among : (objects : List Object) (queue : List ℕ) → Sane objects queue → (b : ℕ) → is_queued (object_at objects b).standing ≡ false → is_among queue b ≡ false
not_among objects queue sane b e = false_from_ne_true _ (λ i. true≢false (sym (sane.in_queue b i) ∙ e))

module _ (core : Core) (pins : Pins) (exact : AreExact core pins) where
  module _ (s : State) (func : Func) (here : slice_get core.funcs s.running.func ≡ Some func) (stm : Stm) (at : slice_get func.body s.running.point ≡ Some stm) (all : (r : ℕ) → counts_at func s.running.point stm.kind r ≡ holds_on func s.running.point r) (order : InOrder core s) (sane : Sane s.objects s.queue) (numbers : ℕ → ℕ) (counts : AreCounts pins (kept numbers s)) where
    in_scope_agrees : (n : ℕ) (first : ℕ → ℕ) (before : State) (events : List Event) → AreCounts pins (kept first before) → Agrees core pins (object_scopes.in_scope core n before events s) (counted_scopes.in_scope core pins n first before events numbers s)
    in_scope_agrees zero first before events h =
        checked_agrees core pins exact (record s { scopes = 1 }) func here stm at all order sane numbers counts first before events h
    in_scope_agrees (suc n) first before events h =
        alters_agree core pins first (λ _ after. numbers) numbers (goes before events (onward s)) (h, counts, at_order core func s.running s.waiting s.queue here order (s.running.point + 1) s.queue order.once)

    pub leave_agrees : (n : ℕ) → Agrees core pins (object_scopes.leave core n s) (counted_scopes.leave core pins n numbers s)
    leave_agrees zero =
        alters_agree core pins numbers (λ _ after. numbers) numbers (object_scopes.leave core zero s) (counts, counts)
    leave_agrees (suc zero) =
        checked_agrees core pins exact s func here stm at all order sane numbers counts numbers s [] counts
    leave_agrees (suc (suc n)) =
        alters_agree core pins numbers (λ _ after. numbers) numbers (object_scopes.leave core (suc (suc n)) s) (counts, counts, at_order core func s.running s.waiting s.queue here order (s.running.point + 1) s.queue order.once)

  module _ (s : State) (func : Func) (here : slice_get core.funcs s.running.func ≡ Some func) (stm : Stm) (at : slice_get func.body s.running.point ≡ Some stm) (all : (r : ℕ) → counts_at func s.running.point stm.kind r ≡ holds_on func s.running.point r) (order : InOrder core s) (sane : Sane s.objects s.queue) (numbers : ℕ → ℕ) (counts : AreCounts pins (kept numbers s)) (line : ℕ) where
    -- Frees

    named_agrees : (result : Result ℕ Reason) → Frees s.objects result → Agrees core pins (object.free_named core line result s) (counted.free_named core pins line result numbers s)
    named_agrees (Ok b) h =
        in_scope_agrees (enqueue line b s) func here stm at all (record { sorts = order.sorts; calls = order.calls; once = once_last s.queue b order.once (not_among s.objects s.queue sane b h.2) }) (queue_sane s.objects s.queue b line sane h.0 h.1) numbers (λ x. omega (arith, counts x, queued_same s.objects b line x h.0)) s.scopes numbers s [] counts
    named_agrees (Err reason) h =
        alters_agree core pins numbers (λ _ after. numbers) numbers (object.free_named core line (Err reason) s) (counts, counts)

    pub free_agrees : (p : Pointer) → Agrees core pins (object.free core line p s) (counted.free core pins line p numbers s)
    free_agrees pointer.Null =
        alters_agree core pins numbers (λ _ after. numbers) numbers (goes s [] (onward s)) (counts, counts, on_order core pins s func here order numbers counts (s.running.point + 1))
    free_agrees (pointer.At b offset) = named_agrees (freed_at s.objects b offset) (frees s.objects b offset)

    -- Growing

    module _ (r : ℕ) (fits : (v : Value) → FitsIn func (Some r) v) (n : ℕ) (element : Layout) where
      abbrev made : State
      made = with_new line n element s

      made_counts : AreCounts pins (kept numbers made)
      made_counts = λ x. omega (arith, counts x, new_living core pins s func here order numbers counts line n element x)

      made_sane : Sane made.objects s.queue
      made_sane = new_sane s.objects s.queue sane line n element

      grown_agrees : (old : ℕ) → Alive s.objects old → is_heap (object_at s.objects old).sort ≡ true → is_queued (object_at s.objects old).standing ≡ false → (result : Result (List Object) Refusal) → Done (touching.Changed made.objects s.queue made_sane) result → OnDone (Changes made.objects (length s.objects)) result → Agrees core pins (object.grown core line r n old s made result) (counted.grown core pins line r n old s numbers made result)
      grown_agrees old alive heap free (Ok objects) c h =
          let first = append_grows s.objects (heap_object line n element ∷ []) in
          let lives : Alive objects old = c.0.alive old (first.alive old alive) in
          let still : is_heap (object_at objects old).sort ≡ true = c.0.sort old (first.alive old alive) ∙ first.sort old alive ∙ heap in
          let t = with_objects made objects in
          let moved : AreCounts pins (kept (renumbered (length s.objects) numbers made t) t) = renumbered_counts core pins made func here order numbers made_counts (length s.objects) t h refl in
          let v = address (start_of (length s.objects)) in
          let once = once_last s.queue old order.once (not_among s.objects s.queue sane old free) in
          in_scope_agrees (put (enqueue line old t) (Some r) v) func here stm at all (with_order core func s.running s.waiting s.queue here order s.running.point (s.queue ++ old ∷ []) once (Some r) v (fits v)) (queue_sane objects s.queue old line c.1 lives still) (renumbered (length s.objects) numbers made t) (λ x. omega (arith, moved x, queued_same objects old line x lives)) s.scopes numbers s (birth_of line n s) counts
      grown_agrees old alive heap free (Err e) c h =
          alters_agree core pins numbers (λ _ after. numbers) numbers (stops_after s (birth_of line n s) made (ended_by line e)) (counts, made_counts)

      grow_old_agrees : (b : Bool) (old : ℕ) → Frees s.objects (Ok old) → Agrees core pins (object.grow_old b core line r old n element s) (counted.grow_old b core pins line r old n element numbers s)
      grow_old_agrees false old h =
          alters_agree core pins numbers (λ _ after. numbers) numbers (object.no_place r s) (none_plain core pins s func here order numbers counts r (fits (address pointer.Null)))
      grow_old_agrees true old h =
          let first = append_grows s.objects (heap_object line n element ∷ []) in
          let size = min (object_at s.objects old).size n in
          grown_agrees old h.0 h.1 h.2 (copied made.objects (start_of (length s.objects)) (start_of old) size) (copied_done made.objects s.queue made_sane (start_of (length s.objects)) (start_of old) size (new_alive s.objects s.queue sane line n element) (first.alive old h.0)) (copied_changes made.objects (start_of (length s.objects)) (start_of old) size)

      grow_named_agrees : (places : ℕ → Bool) (result : Result ℕ Reason) → Frees s.objects result → Agrees core pins (object.grow_named core places line r result n element s) (counted.grow_named core pins places line r result n element numbers s)
      grow_named_agrees places (Ok old) h = grow_old_agrees (places n) old h
      grow_named_agrees places (Err reason) h =
          alters_agree core pins numbers (λ _ after. numbers) numbers (object.grow_named core places line r (Err reason) n element s) (counts, counts)

      pub grow_agrees : (places : ℕ → Bool) (p : Pointer) → Agrees core pins (object.grow core places line r p n element s) (counted.grow core pins places line r p n element numbers s)
      grow_agrees places pointer.Null =
          alters_agree core pins numbers (λ _ after. numbers) numbers (object.made (places n) line r n element s) (made_plain core pins s func here order numbers counts (places n) line r n element fits)
      grow_agrees places (pointer.At b offset) = grow_named_agrees places (freed_at s.objects b offset) (frees s.objects b offset)
