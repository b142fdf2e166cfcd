-- Scopes that are closed, frees, and objects that grow.
use Rattle.meaning_laws.proofs.Words.Core.{Code, Counts, Entry, Event, Holder, Instr, IsAt, IsLive, IsWellFormed, Layout, Object, Op, Pointer, Ready, Reason, Refusal, Sort, State, answered, buried, check_numbers, edges, first_held, freed_at, hands, has_site, is_dead, is_heap, is_queued, object_at, pointers_to, queued, scopes_after, written}
use Rattle.meaning_laws.proofs.Words.Meaning.{Changes, CodeState, IsGood, IsNeeded, IsOfSort, IsPointer, IsThere, OnDone, Sane, StaysGood, address, birth_of, copied, copied_changes, enqueue, heap_living, heap_object, in_pins, inside_objects, is_among, is_within, more, pinned, pointer_of_register, put, renumbered, start_of, with_new, with_objects, without_those_inside}
use Rattle.meaning_laws.proofs.Words.Std.{Bool, Contains, Err, List, None, Ok, Option, Result, Some, [], ap, arith, cond, eqb-true, false, false_from_ne_true, length, min, nat_eq, not, not-false, refl, subst, suc, sym, true, true≢false, zero, ℕ, ◌&&◌, ◌++◌, ◌+◌, ◌<◌, ◌^◌, ◌∙◌, ◌∷◌, ◌≡◌}
use Rattle.meaning_laws.proofs.dangling.Burying.{NoHolder, none_first}
use Rattle.object_meaning.specs.code.Checking.{decided, in_scope, leave}
use Rattle.meaning_laws.proofs.counts.Weighing.{Once}
use Rattle.meaning_laws.proofs.counts.Objects.{living_split, buried_living, queued_same}
use Rattle.meaning_laws.proofs.counts.Sorting.{once_from}
use Rattle.meaning_laws.proofs.soundness.Touching.{Spares, grows_same, none_born, Grows, alike_grows, pointer_grows, queued_lives, sane_of, alike_queue, queued_grows, queued_born, queued_objects, queued_queue, Changed, copied_done}
use Rattle.meaning_laws.proofs.soundness.Dropping.{Drops, buried_drops, buried_queue, drops_objects}
use Rattle.meaning_laws.proofs.soundness.Pinned.{by_register, uncounted}
use Rattle.meaning_laws.proofs.soundness.Frames.{Holds, holds_become, holds_grow, moves, holds_of, holds_put}
use Rattle.c_types.specs.Layouts.{IsSound}
use Rattle.core_tree.specs.Sorts.{Pointer as Address}
use Rattle.meaning_laws.proofs.dangling.Touching.{at_old, Done}
use Rattle.meaning_laws.proofs.dangling.Standing.{refused}
use Rattle.object_meaning.specs.code.Freeing.{free, free_named, grow, grow_named, grow_old, grown}
use Rattle.meaning_laws.proofs.soundness.Made.{heap_is, append_grows, one_more, one_queue, one_born, new_start}
use Rattle.meaning_laws.proofs.soundness.Standing.{IsReady, goes_to, unwritten, rescoped, none_stays, made_stays, IsPlain}
use Rattle.hs_base.specs.declared.values.Pointer.TheVariants as pointer
use Rattle.flat_code.specs.declared.instructions.Op.TheVariants as op

-- The check at the end of the outermost scope: where all numbers are zero, nothing that counts or is needed leads to a queued
-- object.

-- none of some objects is held by its number
pub none_held : (f : ℕ → ℕ) (births : List ℕ) → first_held (λ b. not (nat_eq (f b) 0)) births ≡ None → (b : ℕ) → is_among births b ≡ true → f b ≡ 0
none_held f births none b i =
    eqb-true (f b) 0 (not-false (nat_eq (f b) 0) (none_first (λ c. not (nat_eq (f c) 0)) births none b i))

-- no holders
pub no_holder : (holders : List Holder) → length holders ≡ 0 → NoHolder holders
no_holder [] h = refl
no_holder (x ∷ holders) h = absurd (omega (arith, h))

-- the state t within an instruction at which objects may be freed
module _ (code : Code) (wf : IsWellFormed code) (entry : Entry) (scopes others : ℕ) (n : ℕ → ℕ) (t : State) (h : Holds code entry scopes others (IsLive code) n t) (i : Instr) (at : IsAt code t.running.func entry t.running.point i) (has : has_site i.op ≡ true) (free : answered i i.op ≡ None) where
  sane : Sane t.objects t.queue
  sane = sane_of t.objects t.queue h.objects h.queue

  once : Once t.queue
  once = once_from t.queue h.queue.once

  drops : Drops t.objects (buried t.objects) t.queue
  drops = buried_drops t.objects t.queue sane

  queue_lives : (b : ℕ) → is_among t.queue b ≡ true → IsThere t.objects b
  queue_lives b i = queued_lives t.objects b (sane.in_queue b i)

  module _ (none : check_numbers t.objects t.queue (more n (pinned code t.running)) ≡ None) where
    -- no pointer that counts leads to a queued object
    nowhere : (b : ℕ) → is_among t.queue b ≡ true → (length (inside_objects t.queue b t.objects) ≡ 0) × (in_pins code b t.waiting ≡ 0) × (pointers_to b (pinned code t.running) ≡ 0)
    nowhere b i =
        let zero = none_held (without_those_inside t.objects t.queue (more n (pinned code t.running))) t.queue none b i in
        let split = living_split t.queue t.objects once queue_lives b in
        let number = h.numbers b in
        (omega (arith, zero, split, number), omega (arith, zero, split, number), omega (arith, zero, split, number))

    spares : (r : ℕ) → IsLive code t.running.point r → Spares t.queue (pointer_of_register t.running r)
    spares r live =
        by_register (λ p. Spares t.queue p) (λ b dies. refl) entry t.running h.running.registers r (λ sort b dies.
        let counts : Counts code entry t.running.point i r = record { sort = sort; live = live; kept = λ e. absurd (not_some (sym free ∙ e)) } in
        uncounted code wf t.running.func entry t.running i at has b (nowhere b dies).2 r counts) where
          not_some : None ≡ Some r → ⊥
          not_some e = cc

    buried_holds : Holds code entry scopes others (IsLive code) (without_those_inside t.objects t.queue n) (record t { objects = buried t.objects; queue = []; scopes = 0 })
    buried_holds =
        holds_become code entry scopes others wf (IsLive code) n t h (buried t.objects) t.queue drops.becomes (λ b lt heap. false_from_ne_true _ (λ i. true≢false (sym (sane.queued b (sane.in_queue b i)).1 ∙ heap))) (none_born t.objects (buried t.objects) (omega (arith, drops.long))) (λ b dies. (nowhere b dies).1) spares (drops_objects t.objects (buried t.objects) t.queue drops (λ b dies. no_holder _ (nowhere b dies).0) h.objects) [] (buried_queue t.objects t.queue sane) 0 t.input h.input t.steps (without_those_inside t.objects t.queue n) (λ x. omega (arith, h.numbers x, buried_living t.objects t.queue sane once x))

  -- the queued objects are buried, or the run stops
  pub decided_stays : (o : Op) → Ready code t.running.func entry t.running.point i o → hands o ≡ false → Contains (edges i o t.running.point) (t.running.point + 1) → 0 ≡ scopes_after o scopes + others → (held : Option ℕ) → check_numbers t.objects t.queue (more n (pinned code t.running)) ≡ held → (first : ℕ → ℕ) (before : State) (events : List Event) → StaysGood code (decided code held first before events n t)
  decided_stays o ready takes edge depth (Some b) e first before events = λ i. cc
  decided_stays o ready takes edge depth None e first before events =
      moves code entry scopes others (without_those_inside t.objects t.queue n) (record t { objects = buried t.objects; queue = []; scopes = 0 }) (buried_holds e) i at.here o ready takes (t.running.point + 1) edge depth (λ z. refl)

-- a free goes on, or its own scope is closed with a check
module _ (code : Code) (wf : IsWellFormed code) (entry : Entry) (scopes others : ℕ) (n : ℕ → ℕ) (t : State) (h : Holds code entry scopes others (IsLive code) n t) (i : Instr) (at : IsAt code t.running.func entry t.running.point i) (has : has_site i.op ≡ true) (free : answered i i.op ≡ None) where
  pub in_scope_stays : (o : Op) → Ready code t.running.func entry t.running.point i o → hands o ≡ false → Contains (edges i o t.running.point) (t.running.point + 1) → scopes_after o scopes ≡ scopes → t.scopes ≡ scopes + others → (k : ℕ) → t.scopes ≡ k → (first : ℕ → ℕ) (before : State) (events : List Event) → StaysGood code (in_scope code k first before events n t)
  in_scope_stays o ready takes edge same depth zero e first before events =
      let u : State = record t { scopes = 1 } in
      let one = holds_grow code entry scopes others wf (IsLive code) n t h t.objects (grows_same t.objects) (none_born t.objects t.objects (omega arith)) h.objects t.queue h.queue 1 t.input h.input t.steps n h.numbers in
      decided_stays code wf entry scopes others n u one i at has free o ready takes edge (omega (arith, depth, e, same)) (check_numbers u.objects u.queue (more n (pinned code u.running))) refl first before events
  in_scope_stays o ready takes edge same depth (suc k) e first before events =
      moves code entry scopes others n t h i at.here o ready takes (t.running.point + 1) edge (omega (arith, depth, same)) (λ z. absurd (omega (arith, z, e)))

-- Scopes that are closed, frees, and objects that grow.

-- the object that a free may queue is not dead, on the heap and not queued
pub record MayQueue (objects : List Object) (b : ℕ) : Type 0 where
  pub there : IsThere objects b
  pub heap : is_heap (object_at objects b).sort ≡ true
  pub free : is_queued (object_at objects b).standing ≡ false

abbrev Frees : List Object → Result ℕ Reason → Type 0
Frees objects (Ok b) = MayQueue objects b
Frees objects (Err reason) = Unit {0}

frees_cond : (objects : List Object) (b : ℕ) (heap dead start again : Bool) (twice elsewhere : Reason) → is_heap (object_at objects b).sort ≡ heap → is_dead (object_at objects b).standing ≡ dead → is_queued (object_at objects b).standing ≡ again → Frees objects (cond (heap && not dead && start) (cond again (Err twice) (Ok b)) (Err elsewhere))
frees_cond objects b true false true true twice elsewhere h i j = tt
frees_cond objects b true false true false twice elsewhere h i j = record { there = i; heap = h; free = j }
frees_cond objects b true false false again twice elsewhere h i j = tt
frees_cond objects b true true start again twice elsewhere h i j = tt
frees_cond objects b false dead start again twice elsewhere h i j = tt

-- what a free names
frees : (objects : List Object) (b offset : ℕ) → Frees objects (freed_at objects b offset)
frees objects b offset =
    frees_cond objects b (is_heap (object_at objects b).sort) (is_dead (object_at objects b).standing) (nat_eq offset 0) (is_queued (object_at objects b).standing) _ _ refl refl refl

module _ (code : Code) (wf : IsWellFormed code) (c : CodeState) (good : IsGood code c) (i : Instr) (at : IsAt code c.state.running.func good.entry c.state.running.point i) where
  abbrev s : State
  s = c.state

  abbrev Does : Op → Type 0
  Does = IsReady code wf c good i at

  abbrev Within : (ℕ → ℕ → Type 0) → (ℕ → ℕ) → State → Type 0
  Within = Holds code good.entry good.scopes good.others

  next : Contains ((s.running.point + 1) ∷ []) (s.running.point + 1)
  next = (0, omega arith, refl)

  -- The end of a scope

  pub leave_stays : Does op.Leave → (scopes : ℕ) → s.scopes ≡ scopes → StaysGood code (leave code scopes c.numbers s)
  leave_stays ready zero e =
      absurd (omega (arith, e, good.depth, ready.closes good.scopes good.running.opens))
  leave_stays ready (suc zero) e =
      let has : has_site i.op ≡ true = ap has_site ready.is in
      let free : answered i i.op ≡ None = ap (answered i) ready.is in
      decided_stays code wf good.entry good.scopes good.others c.numbers s (unwritten code wf c good i at op.Leave ready refl s.scopes) i at has free op.Leave ready refl next (omega (arith, e, good.depth, ready.closes good.scopes good.running.opens)) (check_numbers s.objects s.queue (more c.numbers (pinned code s.running))) refl c.numbers s []
  leave_stays ready (suc (suc m)) e =
      rescoped code wf c good i at op.Leave ready refl refl next m (omega (arith, e, good.depth, ready.closes good.scopes good.running.opens))

  -- Frees

  -- an object is queued
  queues : (wanted : ℕ → ℕ → Type 0) (n : ℕ → ℕ) (t : State) → Within wanted n t → (b line : ℕ) → MayQueue t.objects b → Within wanted n (enqueue line b t)
  queues wanted n t h b line may =
      holds_grow code good.entry good.scopes good.others wf wanted n t h (queued t.objects b line) (queued_grows t.objects h.objects t.queue h.queue b line may.there may.heap may.free) (queued_born t.objects h.objects t.queue h.queue b line may.there may.heap may.free) (queued_objects t.objects h.objects t.queue h.queue b line may.there may.heap may.free) (t.queue ++ b ∷ []) (queued_queue t.objects h.objects t.queue h.queue b line may.there may.heap may.free) t.scopes t.input h.input t.steps n (λ x. omega (arith, h.numbers x, queued_same t.objects b line x may.there))

  named_stays : Does op.Free → (line : ℕ) (result : Result ℕ Reason) → Frees s.objects result → StaysGood code (free_named code line result c.numbers s)
  named_stays ready line (Ok b) may =
      let has : has_site i.op ≡ true = ap has_site ready.is in
      let free : answered i i.op ≡ None = ap (answered i) ready.is in
      in_scope_stays code wf good.entry good.scopes good.others c.numbers (enqueue line b s) (queues (IsLive code) c.numbers s (unwritten code wf c good i at op.Free ready refl s.scopes) b line may) i at has free op.Free ready refl next refl good.depth s.scopes refl c.numbers s []
  named_stays ready line (Err reason) may = λ e. cc

  -- a free of null, or of an object
  pub free_stays : Does op.Free → (line : ℕ) (p : Pointer) → StaysGood code (free code line p c.numbers s)
  free_stays ready line pointer.Null =
      goes_to code wf c good i at op.Free ready refl refl refl (s.running.point + 1) next s.steps
  free_stays ready line (pointer.At b offset) = named_stays ready line (freed_at s.objects b offset) (frees s.objects b offset)

  -- Growing

  module _ (ready : Does op.Realloc) (line size : ℕ) (small : size < 2 ^ 64) (element : Layout) (sound : IsSound element) where
    abbrev new : Object
    new = heap_object line size element

    abbrev made : State
    made = with_new line size element s

    made_grows : Grows s.objects made.objects
    made_grows = append_grows s.objects (new ∷ [])

    made_holds : Within (IsNeeded code) c.numbers made
    made_holds =
        holds_grow code good.entry good.scopes good.others wf (IsNeeded code) c.numbers s (holds_of code c good) made.objects made_grows (one_born s.objects new refl) (one_more s.objects new good.objects (heap_is made.objects line size element small sound)) s.queue (one_queue s.objects new s.queue good.queue refl) s.scopes s.input good.input s.steps c.numbers (λ x. omega (arith, good.numbers x, heap_living s.objects line size element x))

    made_may : (b : ℕ) → MayQueue s.objects b → MayQueue made.objects b
    made_may b may =
        let lt = is_within s.objects b may.there in record {
          there = at_old (λ (o : Object). is_dead o.standing ≡ false) s.objects (new ∷ []) b lt may.there;
          heap = at_old (λ (o : Object). is_heap o.sort ≡ true) s.objects (new ∷ []) b lt may.heap;
          free = at_old (λ (o : Object). is_queued o.standing ≡ false) s.objects (new ∷ []) b lt may.free;
        }

    grown_stays : (old : ℕ) → MayQueue made.objects old → (result : Result (List Object) Refusal) → Done (Changed made.objects made_holds.objects) result → OnDone (Changes made.objects (length s.objects)) result → StaysGood code (grown code line i.a size old s c.numbers made result)
    grown_stays old may (Ok objects) h d =
        let t = with_objects made objects in
        let n = renumbered (length s.objects) c.numbers made t in
        let v = address (start_of (length s.objects)) in
        let grows = alike_grows made.objects objects h.0 in
        let filled = holds_grow code good.entry good.scopes good.others wf (IsNeeded code) c.numbers made made_holds objects grows (none_born made.objects objects (omega (arith, h.0.long))) h.1 s.queue (alike_queue made.objects objects s.queue h.0 made_holds.queue) s.scopes s.input good.input s.steps n (λ x. omega (arith, made_holds.numbers x, d.number x)) in
        let still : MayQueue objects old = record { there = ap is_dead (h.0.standing old) ∙ may.there; heap = ap is_heap (h.0.sort old) ∙ may.heap; free = ap is_queued (h.0.standing old) ∙ may.free } in
        let freed = queues (IsNeeded code) n t filled old line still in
        let start = pointer_grows made.objects objects grows (start_of (length s.objects)) (new_start s.objects new refl) in
        let leads = pointer_grows objects (queued objects old line) (queued_grows objects h.1 s.queue filled.queue old line still.there still.heap still.free) (start_of (length s.objects)) start in
        let written_holds = holds_put code good.entry good.scopes good.others n (enqueue line old t) freed i at.here (Some Address) (Some i.a) ready.result (ap (written i) ready.is) v (λ sort e. subst (λ (x : Option Sort). IsOfSort x v) e tt) leads in
        in_scope_stays code wf good.entry good.scopes good.others n (put (enqueue line old t) (Some i.a) v) written_holds i at (ap has_site ready.is) (ap (answered i) ready.is) op.Realloc ready refl next refl good.depth s.scopes refl c.numbers s (birth_of line size s)
    grown_stays old may (Err e) h d = refused line e h

    abbrev grows : IsPlain code wf c good i at op.Realloc (Some i.a)
    grows = record { takes = refl; edge = next; same = refl; writes = refl }

    grow_old_stays : (b : Bool) (old : ℕ) → Frees s.objects (Ok old) → StaysGood code (grow_old b code line i.a old size element c.numbers s)
    grow_old_stays false old may = none_stays code wf c good i at op.Realloc ready i.a grows ready.result
    grow_old_stays true old may =
        let most = min (object_at s.objects old).size size in
        let to : IsPointer made.objects (start_of (length s.objects)) = new_start s.objects new refl in
        let from : IsPointer made.objects (start_of old) = ((made_may old may).there, omega arith) in
        grown_stays old (made_may old may) (copied made.objects (start_of (length s.objects)) (start_of old) most) (copied_done made.objects made_holds.objects (start_of (length s.objects)) (start_of old) most to from) (copied_changes made.objects (start_of (length s.objects)) (start_of old) most)

    grow_named_stays : (fits : ℕ → Bool) (result : Result ℕ Reason) → Frees s.objects result → StaysGood code (grow_named code fits line i.a result size element c.numbers s)
    grow_named_stays fits (Ok old) may = grow_old_stays (fits size) old may
    grow_named_stays fits (Err reason) may = λ e. cc

    -- null grows to a new object
    pub grow_stays : (fits : ℕ → Bool) (p : Pointer) → StaysGood code (grow code fits line i.a p size element c.numbers s)
    grow_stays fits pointer.Null =
        made_stays code wf c good i at (fits size) op.Realloc ready i.a grows ready.result line size small element sound
    grow_stays fits (pointer.At b offset) = grow_named_stays fits (freed_at s.objects b offset) (frees s.objects b offset)
