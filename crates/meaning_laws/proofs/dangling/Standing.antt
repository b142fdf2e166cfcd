-- Each statement of a sound core leaves a good state, or ends the run for another reason than a dead object.
use Rattle.meaning_laws.proofs.Words.Core.{Atom, Core, Dangling, Event, Frame, Func, IsSound, Layout, LibName, Mem, Object, Piece, Pointer, ReadsDead, Reason, Refusal, Reg, State, Stm, StmKind, TakesCall, Trapped, Value, ended, first_held, first_main, freed_at, has_place, is_dead, is_heap, is_live, is_main, is_queued, main_of, no_object, object_at, operands, pieces_of, queued}
use Rattle.meaning_laws.proofs.Words.Meaning.{Alive, AreFresh, Good, Holds, HoldsFresh, IsFresh, IsKept, Sane, Waits, WaitsAt, address, answers, at_point, birth_of, branch, bury, byte_in, bytes_in, call, call_lib, changes, decided, end_locals, ended_by, enqueue, escapes, filled, first_call, first_pointer, first_value, format_in, free, free_named, get_byte, go_back, grow, grow_named, grow_old, grown, heap_object, if_done, in_scope, is_held, is_stale, leave, local_object, local_objects, locals_of, made, needed, new_frame, number, number_at, number_of, onward, order_of, pointer_at, pointer_in, pointer_of, print, printed, put, put_line, register, registers_of, returned, running_locals, size_in, start_of, statement_at, statement_in, static_object, static_objects, step, string_at, takes_answer, unless_reads_stale, values_of, with_new, with_objects, with_step, write}
use Rattle.meaning_laws.proofs.Words.Std.{All, Bool, Contains, Err, List, None, Ok, Option, Result, Some, [], ap, arith, cases_lt, cond, count_by, drop, enumerate_from, false, false≢true, get_or, get_or-append-add, get_or_append_left, length, length-append, length-enumerate_from, length-map, map, min, nat_eq, negsuc, not, option_map_or, pos, refl, slice_get, slice_get_within, subst, suc, sum_by-cons, sym, true, zero, ℕ, ⊎_elim, ◌&&◌, ◌++◌, ◌+◌, ◌-◌, ◌<◌, ◌∙◌, ◌∷◌, ◌≡◌, ◌≢◌, ◌≤◌}
use Rattle.core_tree.specs.Sound.{start, IsFunction, Opens, scopes_after, IsStatic, IsTarget}
use Rattle.meaning_laws.proofs.dangling.Touching.{fresh_grows, append_grows, append_sane, nulls_fresh, Grows, grows_same, grows_both, queue_grows, queue_sane, Done, then_done, Changed, copied_done, set_done, loaded_done, loaded_pointer_done, stored_done, stored_pointer_done, values_fresh, Any, string_done, order_done, Lives, printed_lives, on_two_done, moved_done, difference_done, compared_done, truth_is_fresh}
use Rattle.meaning_laws.proofs.dangling.Returning.{kept_grows, holds_with, ready_put, moves, waits_grow, needed_live, operands_fresh, answer_fresh, sane_left, statics_left, waits_left, longer_left, resumed_good}
use Rattle.core_tree.specs.Statements.{written, edges}
use Rattle.object_meaning.specs.objects.Going.{Next}
use Rattle.meaning_laws.specs.objects.Laws.{StaysGood}
use Rattle.meaning_laws.proofs.dangling.Burying.{buried_holds}
use Rattle.object_meaning.specs.objects.Meaning.{act, act_at, step_by}
use Rattle.hs_base.specs.declared.values.Pointer.TheVariants as pointer
use Rattle.core_tree.specs.declared.statements.LibName.TheVariants as lib
use Rattle.core_tree.specs.declared.statements.StmKind.TheVariants as stm
use Rattle.core_tree.specs.declared.program.Static as program

-- The frame of a call begins well.

module _ {A : Type 0} (P : Object → Type 0) (make : A → Object) (made : (x : A) → P (make x)) where
  pub at_map : (xs : List A) (k : ℕ) → P no_object → P (get_or (map make xs) k no_object)
  at_map [] k h = h
  at_map (x ∷ xs) zero h = made x
  at_map (x ∷ xs) (suc k) h = at_map xs k h

  pub at_map_in : (xs : List A) (k : ℕ) → k < length xs → P (get_or (map make xs) k no_object)
  at_map_in [] k lt = absurd (omega arith)
  at_map_in (x ∷ xs) zero lt = made x
  at_map_in (x ∷ xs) (suc k) lt = at_map_in xs k (omega arith)

first_fresh : (objects : List Object) (b : Bool) → is_stale objects (pointer_in (cond b (address pointer.Null) (number (pos 0)))) ≡ false
first_fresh objects true = refl
first_fresh objects false = refl

firsts_fresh : (objects : List Object) (regs : List Reg) (k : ℕ) → HoldsFresh objects (get_or (map first_value regs) k (number (pos 0)))
firsts_fresh objects [] k = refl
firsts_fresh objects (r ∷ regs) zero = first_fresh objects r.pointer
firsts_fresh objects (r ∷ regs) (suc k) = firsts_fresh objects regs k

values_append : (objects : List Object) (one other : List Value) → ((k : ℕ) → HoldsFresh objects (get_or one k (number (pos 0)))) → ((k : ℕ) → HoldsFresh objects (get_or other k (number (pos 0)))) → (k : ℕ) → HoldsFresh objects (get_or (one ++ other) k (number (pos 0)))
values_append objects one other h i k =
    ⊎_elim
    (λ lt. subst (HoldsFresh objects) (sym (get_or_append_left one other (number (pos 0)) k lt)) (h k))
    (λ le.
    let j = k - length one in
    let e : k ≡ length one + j = omega arith in
    subst (HoldsFresh objects) (sym (ap (λ n. get_or (one ++ other) n (number (pos 0))) e ∙ get_or-append-add one other j (number (pos 0)))) (i j))
    (cases_lt k (length one))

module _ (f : ℕ) (mems : List Mem) where
  abbrev locals : List Object
  locals = local_objects f mems

  pub locals_unqueued : (k : ℕ) → is_queued (object_at locals k).standing ≡ false
  locals_unqueued k =
      at_map (λ (o : Object). is_queued o.standing ≡ false) (local_object f) (λ x. refl) (enumerate_from 0 mems) k refl

  pub locals_fresh : (objects : List Object) (k : ℕ) → AreFresh objects (object_at locals k).pointers
  locals_fresh objects k =
      at_map (λ (o : Object). AreFresh objects o.pointers) (local_object f) (λ x. nulls_fresh objects (length x.1.layout.slots)) (enumerate_from 0 mems) k (λ i. refl)

  pub local_kept : (k : ℕ) → k < length mems → (is_dead (object_at locals k).standing ≡ false) × (is_heap (object_at locals k).sort ≡ false)
  local_kept k lt =
      at_map_in (λ (o : Object). (is_dead o.standing ≡ false) × (is_heap o.sort ≡ false)) (local_object f) (λ x. (refl, refl)) (enumerate_from 0 mems) k (omega (arith, length-enumerate_from 0 mems))

  pub locals_length : length locals ≡ length mems
  locals_length = length-map (enumerate_from 0 mems) (local_object f) ∙ length-enumerate_from 0 mems

-- new objects, of which one is kept
pub kept_new : (objects more : List Object) (k : ℕ) → (is_dead (object_at more k).standing ≡ false) × (is_heap (object_at more k).sort ≡ false) → IsKept (objects ++ more) (length objects + k)
kept_new objects more k h =
    subst (λ (o : Object). (is_dead o.standing ≡ false) × (is_heap o.sort ≡ false)) (sym (get_or-append-add objects more k no_object)) h

module _ (core : Core) (sound : IsSound core) (f : ℕ) (g : Func) (here : slice_get core.funcs f ≡ Some g) (objects : List Object) (queue : List ℕ) (args : List Value) where
  abbrev more : List Object
  more = local_objects f (locals_of (slice_get core.funcs f))

  same_locals : locals_of (slice_get core.funcs f) ≡ g.mems
  same_locals = ap locals_of here

  more_length : length more ≡ length g.mems
  more_length = locals_length f (locals_of (slice_get core.funcs f)) ∙ ap length same_locals

  abbrev entered : List Frame → ℕ → List ℕ → ℕ → State
  entered waiting scopes input steps = record {
    objects = objects ++ more;
    running = new_frame core f args (length objects);
    waiting = waiting;
    queue = queue;
    scopes = scopes;
    input = input;
    steps = steps;
  }

  pub enters : Sane objects queue → ((k : ℕ) → k < length core.statics → IsKept objects k) → length core.statics ≤ length objects → ((k : ℕ) → HoldsFresh objects (get_or args k (number (pos 0)))) → (total : ℕ) (waiting : List Frame) → Waits core (objects ++ more) (length objects) total waiting → (scopes : ℕ) (input : List ℕ) (steps : ℕ) → Holds core g needed total (entered waiting scopes input steps)
  enters sane statics long fresh total waiting waits scopes input steps =
      let grows = append_grows objects more in
      let length_is = length-append objects more in
      record {
        here = here;
        inside = (sound.functions f g here).some;
        sane = append_sane objects more queue sane (locals_unqueued f (locals_of (slice_get core.funcs f))) (locals_fresh f (locals_of (slice_get core.funcs f)) (objects ++ more));
        statics = λ k lt. kept_grows objects (objects ++ more) grows k (statics k lt);
        locals = λ k lt. kept_new objects more k (local_kept f (locals_of (slice_get core.funcs f)) k (omega (arith, ap (λ (m : List Mem). length m) same_locals)));
        below = omega (arith, length_is, more_length);
        above = long;
        fresh = λ r w. fresh_grows objects (objects ++ more) grows (pointer_in (register (new_frame core f args (length objects)) r)) (values_append objects args (map first_value (drop (length args) (registers_of (slice_get core.funcs f)))) fresh (firsts_fresh objects (drop (length args) (registers_of (slice_get core.funcs f)))) r);
        depth = 0;
        others = total;
        sum = omega arith;
        opens = start;
        waits = waits;
      }

-- Each statement of a sound core leaves a good state, or ends the run for another reason than a dead object.

pub refused : (line : ℕ) (e : Refusal) → e ≢ ReadsDead → ended_by line e ≢ Dangling
refused line (Trapped kind) h = λ i. cc
refused line ReadsDead h = absurd (h refl)

-- the object that a free may free is alive and on the heap
abbrev pub MayFree : List Object → Result ℕ Reason → Type 0
MayFree objects (Ok birth) = Alive objects birth × (is_heap (object_at objects birth).sort ≡ true)
MayFree objects (Err reason) = Unit {0}

free_cond : (objects : List Object) (b : ℕ) (heap dead first waits : Bool) (twice elsewhere : Reason) → is_heap (object_at objects b).sort ≡ heap → is_dead (object_at objects b).standing ≡ dead → MayFree objects (cond (heap && not dead && first) (cond waits (Err twice) (Ok b)) (Err elsewhere))
free_cond objects b true false true true twice elsewhere h i = tt
free_cond objects b true false true false twice elsewhere h i = (i, h)
free_cond objects b true false false waits twice elsewhere h i = tt
free_cond objects b true true first waits twice elsewhere h i = tt
free_cond objects b false dead first waits twice elsewhere h i = tt

pub may_free : (objects : List Object) (b offset : ℕ) → MayFree objects (freed_at objects b offset)
may_free objects b offset =
    free_cond objects b (is_heap (object_at objects b).sort) (is_dead (object_at objects b).standing) (nat_eq offset 0) (is_queued (object_at objects b).standing) _ _ refl refl

-- a new heap object
module _ (objects : List Object) (queue : List ℕ) (sane : Sane objects queue) (line n : ℕ) (element : Layout) where
  abbrev one : List Object
  one = heap_object line n element ∷ []

  unqueued : (k : ℕ) → is_queued (object_at one k).standing ≡ false
  unqueued zero = refl
  unqueued (suc k) = refl

  fresh_one : (k : ℕ) → AreFresh (objects ++ one) (object_at one k).pointers
  fresh_one zero = nulls_fresh (objects ++ one) _
  fresh_one (suc k) = λ i. refl

  pub new_sane : Sane (objects ++ one) queue
  new_sane = append_sane objects one queue sane unqueued fresh_one

  pub new_alive : Alive (objects ++ one) (length objects)
  new_alive =
      let e : length objects + 0 ≡ length objects = omega arith in
      subst (λ b. Alive (objects ++ one) b) e (subst (λ (o : Object). is_dead o.standing ≡ false) (sym (get_or-append-add objects one 0 no_object)) refl)

module _ (core : Core) (sound : IsSound core) (s : State) (func : Func) (good : Holds core func needed s.scopes s) (line : ℕ) where
  func_sound : IsFunction core func
  func_sound = sound.functions s.running.func func good.here

  abbrev pub stm_of : StmKind → Stm
  stm_of kind = record { line = line; kind = kind }

  abbrev pub At : StmKind → Type 0
  At kind = slice_get func.body s.running.point ≡ Some (stm_of kind)

  -- the next point is the only one to which the statement leads, and it opens and closes no scope
  pub record GoesOn (kind : StmKind) : Type 0 where
    pub edge : Contains (edges kind s.running.point) (s.running.point + 1)
    pub scopes : (d : ℕ) → scopes_after kind d ≡ d

  write_good : (objects : List Object) (queue input : List ℕ) → Grows s.objects objects → Sane objects queue → (kind : StmKind) → At kind → GoesOn kind → (r : Option ℕ) → written kind ≡ r → (v : Value) → HoldsFresh objects v → Good core (write (record s { objects = objects; queue = queue; input = input }) r v)
  write_good objects queue input g sane kind at on None e v f =
      let t : State = record s { objects = objects; queue = queue; input = input } in
      let h = holds_with core func needed s.scopes s good objects queue s.scopes input s.steps g sane in
      let ready = ready_put core func s.scopes t h (stm_of kind) at None e v f in
      (func, moves core func func_sound s.scopes s.scopes (put t None v) ready (stm_of kind) at (s.running.point + 1) on.edge (omega (arith, ready.sum, on.scopes ready.depth)))
  write_good objects queue input g sane kind at on (Some r) e v f =
      let t : State = record s { objects = objects; queue = queue; input = input } in
      let h = holds_with core func needed s.scopes s good objects queue s.scopes input s.steps g sane in
      let ready = ready_put core func s.scopes t h (stm_of kind) at (Some r) e v f in
      (func, moves core func func_sound s.scopes s.scopes (put t (Some r) v) ready (stm_of kind) at (s.running.point + 1) on.edge (omega (arith, ready.sum, on.scopes ready.depth)))

  pub write_same : (kind : StmKind) → At kind → GoesOn kind → (r : Option ℕ) → written kind ≡ r → (v : Value) → HoldsFresh s.objects v → Good core (write s r v)
  write_same kind at on r e v f =
      write_good s.objects s.queue s.input (grows_same s.objects) good.sane kind at on r e v f

  pub answers_stays : (kind : StmKind) → At kind → GoesOn kind → (r : Option ℕ) → written kind ≡ r → (result : Result Value Refusal) → Done (HoldsFresh s.objects) result → StaysGood core (answers line s r result)
  answers_stays kind at on r e (Ok v) h = write_same kind at on r e v h
  answers_stays kind at on r e (Err x) h = refused line x h

  abbrev pub Changes : List Object → Type 0
  Changes = Changed s.objects s.queue good.sane

  pub changes_stays : (kind : StmKind) → At kind → GoesOn kind → written kind ≡ None → (result : Result (List Object) Refusal) → Done Changes result → StaysGood core (changes line s result)
  changes_stays kind at on e (Ok objects) h =
      write_good objects s.queue s.input h.0 h.1 kind at on None e (number (pos 0)) refl
  changes_stays kind at on e (Err x) h = refused line x h

  -- within a statement that writes no register
  ready : (kind : StmKind) → At kind → written kind ≡ None → Holds core func is_live s.scopes s
  ready kind at e = ready_put core func s.scopes s good (stm_of kind) at None e (number (pos 0)) refl

  pub goes_to : (kind : StmKind) → At kind → written kind ≡ None → (l : ℕ) → Contains (edges kind s.running.point) l → ((d : ℕ) → scopes_after kind d ≡ d) → (steps : ℕ) → Good core (at_point (record s { steps = steps }) l)
  goes_to kind at e l edge same steps =
      let t : State = record s { steps = steps } in
      let h = holds_with core func needed s.scopes s good s.objects s.queue s.scopes s.input steps (grows_same s.objects) good.sane in
      let r = ready_put core func s.scopes t h (stm_of kind) at None e (number (pos 0)) refl in
      (func, moves core func func_sound s.scopes s.scopes t r (stm_of kind) at l edge (omega (arith, r.sum, same r.depth)))

  pub branch_stays : (kind : StmKind) → At kind → written kind ≡ None → (b : Bool) (l : ℕ) → Contains (edges kind s.running.point) l → Contains (edges kind s.running.point) (s.running.point + 1) → ((d : ℕ) → scopes_after kind d ≡ d) → StaysGood core (branch b l s)
  branch_stays kind at e true l there on same = goes_to kind at e l there same s.steps
  branch_stays kind at e false l there on same = goes_to kind at e (s.running.point + 1) on same s.steps

  pub step_stays : (n : ℕ) (next : State → Next) → ((m : ℕ) → StaysGood core (next (record s { steps = m }))) → StaysGood core (with_step n s next)
  step_stays zero next h = λ e. cc
  step_stays (suc n) next h = h n

  -- Scopes

  -- the scopes that are open behind the statement
  abbrev Closes : StmKind → ℕ → ℕ → Type 0
  Closes kind total new = (d o : ℕ) → Opens func.body s.running.point d → total ≡ d + o → new ≡ scopes_after kind d + o

  decided_stays : (kind : StmKind) → At kind → Contains (edges kind s.running.point) (s.running.point + 1) → (total : ℕ) → Closes kind total 0 → (before t : State) (events : List Event) → t.running.point ≡ s.running.point → Holds core func is_live total t → (o : Option ℕ) → first_held (is_held core t) t.queue ≡ o → StaysGood core (decided core o before events t)
  decided_stays kind at edge total closes before t events same h (Some birth) e = λ i. cc
  decided_stays kind at edge total closes before t events same h None e =
      let b = buried_holds core func total t h e in
      let there : slice_get func.body t.running.point ≡ Some (stm_of kind) = subst (λ p. slice_get func.body p ≡ Some (stm_of kind)) (sym same) at in
      let next : Contains (edges kind t.running.point) (t.running.point + 1) = subst (λ p. Contains (edges kind p) (p + 1)) (sym same) edge in
      let opens : Opens func.body s.running.point b.depth = subst (λ p. Opens func.body p b.depth) same b.opens in
      (func, moves core func func_sound total 0 (bury t) b (stm_of kind) there (t.running.point + 1) next (closes b.depth b.others opens b.sum))

  leave_closes : (total : ℕ) → At stm.Leave → (d o : ℕ) → Opens func.body s.running.point d → total ≡ d + o → total ≡ scopes_after stm.Leave d + o + 1
  leave_closes total at d o opens e =
      let open_one = func_sound.scopes.closes s.running.point (stm_of stm.Leave) at d opens refl in omega (arith, open_one)

  pub leave_stays : At stm.Leave → (n : ℕ) → s.scopes ≡ n → StaysGood core (leave core n s)
  leave_stays at zero e =
      absurd (omega (arith, leave_closes s.scopes at good.depth good.others good.opens good.sum))
  leave_stays at (suc zero) e =
      decided_stays stm.Leave at (0, omega arith, refl) s.scopes (λ d o opens sum. omega (arith, leave_closes s.scopes at d o opens sum)) s s [] refl (ready stm.Leave at refl) (first_held (is_held core s) s.queue) refl
  leave_stays at (suc (suc n)) e =
      let t : State = record s { scopes = suc n } in
      let h = holds_with core func is_live s.scopes s (ready stm.Leave at refl) s.objects s.queue (suc n) s.input s.steps (grows_same s.objects) good.sane in
      (func, moves core func func_sound s.scopes (suc n) t h (stm_of stm.Leave) at (s.running.point + 1) (0, omega arith, refl) (omega (arith, leave_closes s.scopes at h.depth h.others h.opens h.sum)))

  pub enter_stays : At stm.Enter → Good core (onward (record s { scopes = s.scopes + 1 }))
  enter_stays at =
      let t : State = record s { scopes = s.scopes + 1 } in
      let h = holds_with core func is_live s.scopes s (ready stm.Enter at refl) s.objects s.queue (s.scopes + 1) s.input s.steps (grows_same s.objects) good.sane in
      (func, moves core func func_sound s.scopes (s.scopes + 1) t h (stm_of stm.Enter) at (s.running.point + 1) (0, omega arith, refl) (omega (arith, h.sum)))

  -- a statement that frees: its own scope is closed with a check where none is open
  in_scope_stays : (kind : StmKind) → At kind → GoesOn kind → (before t : State) (events : List Event) → t.running.point ≡ s.running.point → Holds core func is_live t.scopes t → (n : ℕ) → t.scopes ≡ n → StaysGood core (in_scope core n before events t)
  in_scope_stays kind at on before t events same h zero e =
      let u : State = record t { scopes = 1 } in
      let i = holds_with core func is_live t.scopes t h t.objects t.queue 1 t.input t.steps (grows_same t.objects) h.sane in
      decided_stays kind at on.edge t.scopes (λ d o opens sum. omega (arith, on.scopes d)) before u events same i (first_held (is_held core u) u.queue) refl
  in_scope_stays kind at on before t events same h (suc n) e =
      let there : slice_get func.body t.running.point ≡ Some (stm_of kind) = subst (λ p. slice_get func.body p ≡ Some (stm_of kind)) (sym same) at in
      let next : Contains (edges kind t.running.point) (t.running.point + 1) = subst (λ p. Contains (edges kind p) (p + 1)) (sym same) on.edge in
      (func, moves core func func_sound t.scopes t.scopes t h (stm_of kind) there (t.running.point + 1) next (omega (arith, h.sum, on.scopes h.depth)))

  -- Heap objects

  free_named_stays : (p : Atom) → At (stm.Free p) → (result : Result ℕ Reason) → MayFree s.objects result → StaysGood core (free_named core line result s)
  free_named_stays p at (Ok birth) h =
      let grows = queue_grows s.objects s.queue birth line good.sane h.0 h.1 in
      let sane = queue_sane s.objects s.queue birth line good.sane h.0 h.1 in
      let t = enqueue line birth s in
      let u = holds_with core func is_live s.scopes s (ready (stm.Free p) at refl) (queued s.objects birth line) (s.queue ++ birth ∷ []) s.scopes s.input s.steps grows sane in
      in_scope_stays (stm.Free p) at (record { edge = (0, omega arith, refl); scopes = λ d. refl }) s t [] refl u s.scopes refl
  free_named_stays p at (Err reason) h = λ e. cc

  pub free_stays : (p : Atom) → At (stm.Free p) → (q : Pointer) → StaysGood core (free core line q s)
  free_stays p at pointer.Null = goes_to (stm.Free p) at refl (s.running.point + 1) (0, omega arith, refl) (λ d. refl) s.steps
  free_stays p at (pointer.At b offset) =
      free_named_stays p at (freed_at s.objects b offset) (may_free s.objects b offset)

  pub made_stays : (b : Bool) (kind : StmKind) → At kind → GoesOn kind → (r : ℕ) → written kind ≡ Some r → (n : ℕ) (element : Layout) → StaysGood core (made b line r n element s)
  made_stays false kind at on r e n element = write_same kind at on (Some r) e (address pointer.Null) refl
  made_stays true kind at on r e n element =
      write_good (s.objects ++ heap_object line n element ∷ []) s.queue s.input (append_grows s.objects (heap_object line n element ∷ [])) (new_sane s.objects s.queue good.sane line n element) kind at on (Some r) e (address (start_of (length s.objects))) (new_alive s.objects s.queue good.sane line n element)

  grown_stays : (kind : StmKind) → At kind → GoesOn kind → (r : ℕ) → written kind ≡ Some r → (n : ℕ) (element : Layout) (old : ℕ) → Alive s.objects old → is_heap (object_at s.objects old).sort ≡ true → (result : Result (List Object) Refusal) → Done (Changed (s.objects ++ heap_object line n element ∷ []) s.queue (new_sane s.objects s.queue good.sane line n element)) result → StaysGood core (grown core line r n old s (with_new line n element s) result)
  grown_stays kind at on r e n element old alive heap (Ok objects) h =
      let one = s.objects ++ heap_object line n element ∷ [] in
      let first = append_grows s.objects (heap_object line n element ∷ []) in
      let second = grows_both s.objects one objects first h.0 in
      let heap_still = second.sort old alive ∙ heap in
      let third = queue_grows objects s.queue old line h.1 (second.alive old alive) heap_still in
      let all = grows_both s.objects objects (queued objects old line) second third in
      let sane = queue_sane objects s.queue old line h.1 (second.alive old alive) heap_still in
      let fresh : Alive (queued objects old line) (length s.objects) = third.alive (length s.objects) (h.0.alive (length s.objects) (new_alive s.objects s.queue good.sane line n element)) in
      let t : State = enqueue line old (with_objects s objects) in
      let v = address (start_of (length s.objects)) in
      let i = holds_with core func needed s.scopes s good (queued objects old line) (s.queue ++ old ∷ []) s.scopes s.input s.steps all sane in
      let u = ready_put core func s.scopes t i (stm_of kind) at (Some r) e v fresh in
      in_scope_stays kind at on s (put t (Some r) v) (birth_of line n s) refl u s.scopes refl
  grown_stays kind at on r e n element old alive heap (Err x) h = refused line x h

  grow_old_stays : (b : Bool) (kind : StmKind) → At kind → GoesOn kind → (r : ℕ) → written kind ≡ Some r → (old : ℕ) → MayFree s.objects (Ok old) → (n : ℕ) (element : Layout) → StaysGood core (grow_old b core line r old n element s)
  grow_old_stays false kind at on r e old h n element = write_same kind at on (Some r) e (address pointer.Null) refl
  grow_old_stays true kind at on r e old h n element =
      let one = s.objects ++ heap_object line n element ∷ [] in
      let sane = new_sane s.objects s.queue good.sane line n element in
      let first = append_grows s.objects (heap_object line n element ∷ []) in
      grown_stays kind at on r e n element old h.0 h.1 _ (copied_done one s.queue sane (start_of (length s.objects)) (start_of old) (min (object_at s.objects old).size n) (new_alive s.objects s.queue good.sane line n element) (first.alive old h.0))

  grow_named_stays : (fits : ℕ → Bool) (kind : StmKind) → At kind → GoesOn kind → (r : ℕ) → written kind ≡ Some r → (named : Result ℕ Reason) → MayFree s.objects named → (n : ℕ) (element : Layout) → StaysGood core (grow_named core fits line r named n element s)
  grow_named_stays fits kind at on r e (Ok old) h n element = grow_old_stays (fits n) kind at on r e old h n element
  grow_named_stays fits kind at on r e (Err reason) h n element = λ i. cc

  pub grow_stays : (fits : ℕ → Bool) (kind : StmKind) → At kind → GoesOn kind → (r : ℕ) → written kind ≡ Some r → (p : Pointer) (n : ℕ) (element : Layout) → StaysGood core (grow core fits line r p n element s)
  grow_stays fits kind at on r e pointer.Null n element = made_stays (fits n) kind at on r e n element
  grow_stays fits kind at on r e (pointer.At b offset) n element =
      grow_named_stays fits kind at on r e (freed_at s.objects b offset) (may_free s.objects b offset) n element

  -- Built-in functions, with arguments that are fresh

  abbrev pub Arguments : List Value → Type 0
  Arguments values = (k : ℕ) → IsFresh s.objects (pointer_at values k)

  filled_stays : (kind : StmKind) → At kind → GoesOn kind → (r : Option ℕ) → written kind ≡ r → (p : Pointer) → IsFresh s.objects p → (result : Result (List Object) Refusal) → Done Changes result → StaysGood core (filled line r p result s)
  filled_stays kind at on r e p f (Ok objects) h =
      write_good objects s.queue s.input h.0 h.1 kind at on r e (address p) (fresh_again p f) where
        fresh_again : (p : Pointer) → IsFresh s.objects p → IsFresh objects p
        fresh_again pointer.Null i = refl
        fresh_again (pointer.At b offset) i = h.0.alive b i
  filled_stays kind at on r e p f (Err x) h = refused line x h

  get_stays : (kind : StmKind) → At kind → GoesOn kind → (r : Option ℕ) → written kind ≡ r → (input : List ℕ) → StaysGood core (get_byte r input s)
  get_stays kind at on r e [] = write_same kind at on r e (number (negsuc 0)) refl
  get_stays kind at on r e (byte ∷ rest) =
      write_good s.objects s.queue rest (grows_same s.objects) good.sane kind at on r e (number (pos byte)) refl

  puts_stays : (kind : StmKind) → At kind → GoesOn kind → (r : Option ℕ) → written kind ≡ r → (result : Result (List ℕ) Refusal) → Done Any result → StaysGood core (if_done line s result (λ text. put_line r text s))
  puts_stays kind at on r e (Ok text) h = write_same kind at on r e (number (pos 0)) refl
  puts_stays kind at on r e (Err x) h = refused line x h

  print_lives : (kind : StmKind) → At kind → GoesOn kind → (r : ℕ) → written kind ≡ Some r → (bytes : List ℕ) (why : Option Refusal) → Lives why → StaysGood core (print line r bytes why s)
  print_lives kind at on r e bytes None h = write_same kind at on (Some r) e _ refl
  print_lives kind at on r e bytes (Some x) h = refused line x h

  pub print_stays : (kind : StmKind) → At kind → GoesOn kind → (r : ℕ) → written kind ≡ Some r → (pieces : List Piece) (values : List Value) → Arguments values → StaysGood core (print line r (printed s.objects pieces values).bytes (printed s.objects pieces values).refused s)
  print_stays kind at on r e pieces values f =
      print_lives kind at on r e _ (printed s.objects pieces values).refused (printed_lives s.objects s.queue good.sane pieces values f)

  lib_on : (name : LibName) (r : Option ℕ) (args : List Atom) → Contains (edges (stm.Lib name r args) s.running.point) (s.running.point + 1) → GoesOn (stm.Lib name r args)
  lib_on name r args edge = record { edge = edge; scopes = λ d. refl }

  pub lib_stays : (name : LibName) (r : Option ℕ) (args : List Atom) → At (stm.Lib name r args) → (values : List Value) → Arguments values → StaysGood core (call_lib line name r values s)
  lib_stays lib.Exit r args at values f = λ e. cc
  lib_stays lib.Abort r args at values f = λ e. cc
  lib_stays lib.Memcpy r args at values f =
      filled_stays (stm.Lib lib.Memcpy r args) at (lib_on lib.Memcpy r args (0, omega arith, refl)) r refl (pointer_at values 0) (f 0) _ (copied_done s.objects s.queue good.sane (pointer_at values 0) (pointer_at values 1) (size_in (number_at values 2)) (f 0) (f 1))
  lib_stays lib.Memmove r args at values f =
      filled_stays (stm.Lib lib.Memmove r args) at (lib_on lib.Memmove r args (0, omega arith, refl)) r refl (pointer_at values 0) (f 0) _ (copied_done s.objects s.queue good.sane (pointer_at values 0) (pointer_at values 1) (size_in (number_at values 2)) (f 0) (f 1))
  lib_stays lib.Memset r args at values f =
      filled_stays (stm.Lib lib.Memset r args) at (lib_on lib.Memset r args (0, omega arith, refl)) r refl (pointer_at values 0) (f 0) _ (set_done s.objects s.queue good.sane (pointer_at values 0) (byte_in (number_at values 1)) (size_in (number_at values 2)) (f 0))
  lib_stays lib.Strlen r args at values f =
      answers_stays (stm.Lib lib.Strlen r args) at (lib_on lib.Strlen r args (0, omega arith, refl)) r refl _ (then_done Any (HoldsFresh s.objects) (string_at s.objects (pointer_at values 0)) _ (string_done s.objects s.queue good.sane (pointer_at values 0) (f 0)) (λ text _. refl))
  lib_stays lib.Strcmp r args at values f =
      answers_stays (stm.Lib lib.Strcmp r args) at (lib_on lib.Strcmp r args (0, omega arith, refl)) r refl _ (then_done Any (HoldsFresh s.objects) (order_of s.objects (pointer_at values 0) (pointer_at values 1)) _ (order_done s.objects s.queue good.sane (pointer_at values 0) (pointer_at values 1) (f 0) (f 1)) (λ order _. refl))
  lib_stays lib.Getchar r args at values f =
      get_stays (stm.Lib lib.Getchar r args) at (lib_on lib.Getchar r args (0, omega arith, refl)) r refl s.input
  lib_stays lib.Putchar r args at values f =
      write_same (stm.Lib lib.Putchar r args) at (lib_on lib.Putchar r args (0, omega arith, refl)) r refl (number (pos (byte_in (number_at values 0)))) refl
  lib_stays lib.Puts r args at values f =
      puts_stays (stm.Lib lib.Puts r args) at (lib_on lib.Puts r args (0, omega arith, refl)) r refl _ (string_done s.objects s.queue good.sane (pointer_at values 0) (f 0))

-- Calls, returns, and each statement of a sound core in turn.

pub found : {A : Type 0} (xs : List A) (k : ℕ) → k < length xs → (x : A) × (slice_get xs k ≡ Some x)
found [] k lt = absurd (omega arith)
found (x ∷ xs) zero lt = (x, refl)
found (x ∷ xs) (suc k) lt = found xs k (omega arith)

-- the function that is called is there
pub called : (core : Core) (func : Func) (args : List Atom) (o : Option Func) → TakesCall core func args o → (g : Func) × (o ≡ Some g)
called core func args None h = absurd h
called core func args (Some g) h = (g, refl)

-- a call writes its answer register
answer_written : (answer : Option ℕ) (r : ℕ) → option_map_or (λ k. nat_eq k r) answer false ≡ takes_answer answer r
answer_written None r = refl
answer_written (Some a) r = refl

module _ (core : Core) (sound : IsSound core) (s : State) (func : Func) (good : Holds core func needed s.scopes s) (line : ℕ) where
  abbrev Here : StmKind → Type 0
  Here kind = At core sound s func good line kind

  abbrev Fresh : List Value → Type 0
  Fresh values = (k : ℕ) → HoldsFresh s.objects (get_or values k (number (pos 0)))

  next : Contains ((s.running.point + 1) ∷ []) (s.running.point + 1)
  next = (0, omega arith, refl)

  -- Calls

  waits_here : (callee : ℕ) (answer : Option ℕ) (args : List Atom) → Here (stm.Call callee answer args) → (objects : List Object) → Grows s.objects objects → WaitsAt core objects (length s.objects) good.depth s.running
  waits_here callee answer args at objects g = record {
    func = func;
    here = good.here;
    line = line;
    callee = callee;
    answer = answer;
    args = args;
    at = at;
    locals = λ k lt. kept_grows s.objects objects g (s.running.first_local + k) (good.locals k lt);
    below = good.below;
    above = good.above;
    fresh = λ r live free.
        fresh_grows s.objects objects g _ (good.fresh r (needed_live func.body s.running.point r (stm_of core sound s func good line (stm.Call callee answer args)) at (answer_written answer r ∙ free) live));
    opens = good.opens;
  }

  call_stays : (callee : ℕ) (answer : Option ℕ) (args : List Atom) → Here (stm.Call callee answer args) → Fresh (values_of s args) → (m : ℕ) → StaysGood core (call core line callee (values_of s args) (record s { steps = m }))
  call_stays callee answer args at fresh m =
      let typed = (sound.functions s.running.func func good.here).typed s.running.point (stm_of core sound s func good line (stm.Call callee answer args)) at in
      let g = called core func args (slice_get core.funcs callee) typed.1 in
      let objects = s.objects ++ local_objects callee (locals_of (slice_get core.funcs callee)) in
      let grows = append_grows s.objects (local_objects callee (locals_of (slice_get core.funcs callee))) in
      let waits : Waits core objects (length s.objects) s.scopes (s.running ∷ s.waiting) = (good.depth, good.others, good.sum, waits_here callee answer args at objects grows, waits_grow core s.objects objects grows s.running.first_local good.others s.waiting good.waits) in
      (g.0, enters core sound callee g.0 g.1 s.objects s.queue (values_of s args) good.sane good.statics (omega (arith, good.above, good.below)) fresh s.scopes (s.running ∷ s.waiting) waits s.scopes s.input m)

  -- Returns

  back_stays : (answer : Value) → HoldsFresh s.objects answer → good.depth ≡ 0 → first_held (escapes core answer s (running_locals core s)) (running_locals core s) ≡ None → (waiting : List Frame) → Waits core (ended s.objects (running_locals core s)) s.running.first_local good.others waiting → StaysGood core (go_back core answer waiting (with_objects s (ended s.objects (running_locals core s))))
  back_stays answer fresh closed none [] waits = λ e. cc
  back_stays answer fresh closed none (caller ∷ rest) waits =
      let t = with_objects s (ended s.objects (running_locals core s)) in
      let sum : t.scopes ≡ waits.0 + waits.1 = omega (arith, good.sum, closed, waits.2) in
      resumed_good core sound t caller rest s.running.first_local waits.0 waits.1 waits.3 waits.4 (sane_left core func needed s.scopes s good answer none) (statics_left core func needed s.scopes s good answer none) (longer_left core func needed s.scopes s good answer none) sum answer (answer_fresh core func needed s.scopes s good answer none fresh)

  end_stays : (a : Option Atom) → Here (stm.Return a) → (answer : Value) → HoldsFresh s.objects answer → (o : Option ℕ) → first_held (escapes core answer s (running_locals core s)) (running_locals core s) ≡ o → StaysGood core (end_locals core line answer o s)
  end_stays a at answer fresh (Some birth) e = λ i. cc
  end_stays a at answer fresh None e =
      let closed = (sound.functions s.running.func func good.here).scopes.ends s.running.point (stm_of core sound s func good line (stm.Return a)) at good.depth a good.opens refl in
      back_stays answer fresh closed e s.waiting (waits_left core func needed s.scopes s good answer e)

  returned_fresh : (a : Option Atom) → Fresh (values_of s (operands (stm.Return a))) → HoldsFresh s.objects (returned s a)
  returned_fresh None f = refl
  returned_fresh (Some a) f = f 0

  -- Statements

  plain : (kind : StmKind) → Contains (edges kind s.running.point) (s.running.point + 1) → ((d : ℕ) → scopes_after kind d ≡ d) → GoesOn core sound s func good line kind
  plain kind edge same = record { edge = edge; scopes = same }

  writes : (kind : StmKind) → Here kind → Contains (edges kind s.running.point) (s.running.point + 1) → ((d : ℕ) → scopes_after kind d ≡ d) → (r : Option ℕ) → written kind ≡ r → (v : Value) → HoldsFresh s.objects v → Good core (write s r v)
  writes kind at edge same = write_same core sound s func good line kind at (plain kind edge same)

  gives : (kind : StmKind) → Here kind → Contains (edges kind s.running.point) (s.running.point + 1) → ((d : ℕ) → scopes_after kind d ≡ d) → (r : Option ℕ) → written kind ≡ r → (result : Result Value Refusal) → Done (HoldsFresh s.objects) result → StaysGood core (answers line s r result)
  gives kind at edge same = answers_stays core sound s func good line kind at (plain kind edge same)

  changed : (kind : StmKind) → Here kind → Contains (edges kind s.running.point) (s.running.point + 1) → ((d : ℕ) → scopes_after kind d ≡ d) → written kind ≡ None → (result : Result (List Object) Refusal) → Done (Changed s.objects s.queue good.sane) result → StaysGood core (changes line s result)
  changed kind at edge same = changes_stays core sound s func good line kind at (plain kind edge same)

  act_stays : (fits : ℕ → Bool) (kind : StmKind) → Here kind → Fresh (values_of s (operands kind)) → StaysGood core (act core fits line kind s)
  act_stays fits (stm.Set r a) at f = writes (stm.Set r a) at next (λ d. refl) (Some r) refl _ (f 0)
  act_stays fits (stm.Conv k r a) at f = writes (stm.Conv k r a) at next (λ d. refl) (Some r) refl _ refl
  act_stays fits (stm.Un op k r a) at f = writes (stm.Un op k r a) at next (λ d. refl) (Some r) refl _ refl
  act_stays fits (stm.Bin op k r a b) at f =
      gives (stm.Bin op k r a b) at next (λ d. refl) (Some r) refl _ (on_two_done s.objects op k (number_of s a) (number_of s b))
  act_stays fits (stm.Cmp op r a b) at f =
      writes (stm.Cmp op r a b) at next (λ d. refl) (Some r) refl _ (truth_is_fresh s.objects _)
  act_stays fits (stm.Add r p a n) at f =
      gives (stm.Add r p a n) at next (λ d. refl) (Some r) refl _ (moved_done s.objects (pointer_of s p) _ (f 0))
  act_stays fits (stm.Sub r p a n) at f =
      gives (stm.Sub r p a n) at next (λ d. refl) (Some r) refl _ (moved_done s.objects (pointer_of s p) _ (f 0))
  act_stays fits (stm.Off r p c) at f =
      gives (stm.Off r p c) at next (λ d. refl) (Some r) refl _ (moved_done s.objects (pointer_of s p) _ (f 0))
  act_stays fits (stm.Diff r p q n) at f =
      gives (stm.Diff r p q n) at next (λ d. refl) (Some r) refl _ (difference_done s.objects (pointer_of s p) (pointer_of s q) n)
  act_stays fits (stm.Pcmp op r p q) at f =
      gives (stm.Pcmp op r p q) at next (λ d. refl) (Some r) refl _ (compared_done s.objects op (pointer_of s p) (pointer_of s q))
  act_stays fits (stm.Test r p) at f =
      writes (stm.Test r p) at next (λ d. refl) (Some r) refl _ (truth_is_fresh s.objects _)
  act_stays fits (stm.Load k r p) at f =
      gives (stm.Load k r p) at next (λ d. refl) (Some r) refl _ (loaded_done s.objects s.queue good.sane k (pointer_of s p) (f 0))
  act_stays fits (stm.Loadp r p) at f =
      gives (stm.Loadp r p) at next (λ d. refl) (Some r) refl _ (loaded_pointer_done s.objects s.queue good.sane (pointer_of s p) (f 0))
  act_stays fits (stm.Store k p a) at f =
      changed (stm.Store k p a) at next (λ d. refl) refl _ (stored_done s.objects s.queue good.sane k (pointer_of s p) (number_of s a) (f 0))
  act_stays fits (stm.Storep p q) at f =
      changed (stm.Storep p q) at next (λ d. refl) refl _ (stored_pointer_done s.objects s.queue good.sane (pointer_of s p) (pointer_of s q) (f 0) (f 1))
  act_stays fits (stm.Copy p q n) at f =
      changed (stm.Copy p q n) at next (λ d. refl) refl _ (copied_done s.objects s.queue good.sane (pointer_of s p) (pointer_of s q) (bytes_in n) (f 0) (f 1))
  act_stays fits (stm.Clear p n) at f =
      changed (stm.Clear p n) at next (λ d. refl) refl _ (set_done s.objects s.queue good.sane (pointer_of s p) 0 (bytes_in n) (f 0))
  act_stays fits (stm.Jump l) at f =
      goes_to core sound s func good line (stm.Jump l) at refl l (0, omega arith, refl) (λ d. refl) s.steps
  act_stays fits (stm.Zero a l) at f =
      branch_stays core sound s func good line (stm.Zero a l) at refl _ l (1, omega arith, refl) (0, omega arith, refl) (λ d. refl)
  act_stays fits (stm.Case a v l) at f =
      branch_stays core sound s func good line (stm.Case a v l) at refl _ l (1, omega arith, refl) (0, omega arith, refl) (λ d. refl)
  act_stays fits (stm.Loop l) at f =
      step_stays core sound s func good line s.steps _ (λ m. goes_to core sound s func good line (stm.Loop l) at refl l (0, omega arith, refl) (λ d. refl) m)
  act_stays fits (stm.Call callee r args) at f =
      step_stays core sound s func good line s.steps _ (λ m. call_stays callee r args at f m)
  act_stays fits (stm.Malloc r n element) at f =
      made_stays core sound s func good line _ (stm.Malloc r n element) at (plain (stm.Malloc r n element) next (λ d. refl)) r refl _ element
  act_stays fits (stm.Calloc r m n element) at f =
      made_stays core sound s func good line _ (stm.Calloc r m n element) at (plain (stm.Calloc r m n element) next (λ d. refl)) r refl _ element
  act_stays fits (stm.Realloc r p n element) at f =
      grow_stays core sound s func good line fits (stm.Realloc r p n element) at (plain (stm.Realloc r p n element) next (λ d. refl)) r refl (pointer_of s p) _ element
  act_stays fits (stm.Free p) at f = free_stays core sound s func good line p at (pointer_of s p)
  act_stays fits (stm.Lib name r args) at f = lib_stays core sound s func good line name r args at (values_of s args) f
  act_stays fits (stm.Printf r k args) at f =
      print_stays core sound s func good line (stm.Printf r k args) at (plain (stm.Printf r k args) next (λ d. refl)) r refl (pieces_of (format_in (slice_get core.funcs s.running.func) k)) (values_of s args) f
  act_stays fits stm.Enter at f = enter_stays core sound s func good line at
  act_stays fits stm.Leave at f = leave_stays core sound s func good line at s.scopes refl
  act_stays fits (stm.Return a) at f =
      end_stays a at (returned s a) (returned_fresh a f) (first_held (escapes core (returned s a) s (running_locals core s)) (running_locals core s)) refl

-- the statement that a good state is at; no operand of it is stale, so it is made
pub statement_made : (core : Core) → IsSound core → (s : State) → Good core s → (stm : Stm) × (statement_at core s.running ≡ Some stm) × ((fits : ℕ → Bool) → step_by core fits s ≡ act core fits stm.line stm.kind s)
statement_made core sound s good =
    let func = good.0 in
    let h = good.1 in
    let at = found func.body s.running.point h.inside in
    let stm = at.0 in
    let there : statement_at core s.running ≡ Some stm = ap (λ o. statement_in o s.running.point) h.here ∙ at.1 in
    let typed = (sound.functions s.running.func func h.here).typed s.running.point stm at.1 in
    let alive = operands_fresh core func s.scopes s h stm at.1 typed in
    (stm, there, λ fits. ap (λ (o : Option Stm). act_at core fits o s) there ∙ ap (λ b. unless_reads_stale b core fits stm s) alive)

-- the statement that a good state is at
pub step_by_stays : (core : Core) → IsSound core → (fits : ℕ → Bool) (s : State) → Good core s → StaysGood core (step_by core fits s)
step_by_stays core sound fits s good =
    let func = good.0 in
    let h = good.1 in
    let at = found func.body s.running.point h.inside in
    let stm = at.0 in
    let there : statement_at core s.running ≡ Some stm = ap (λ o. statement_in o s.running.point) h.here ∙ at.1 in
    let typed = (sound.functions s.running.func func h.here).typed s.running.point stm at.1 in
    let alive = operands_fresh core func s.scopes s h stm at.1 typed in
    let stays = act_stays core sound s func h stm.line fits stm.kind at.1 (values_fresh s.objects (values_of s (operands stm.kind)) (number (pos 0)) refl alive) in
    subst (λ (o : Option Stm). StaysGood core (act_at core fits o s)) (sym there) (subst (λ b. StaysGood core (unless_reads_stale b core fits stm s)) (sym alive) stays)

pub step_stays_at : (core : Core) → IsSound core → (heap : ℕ) (trace : List Event) (s : State) → Good core s → StaysGood core (step core heap trace s)
step_stays_at core sound heap trace s good = step_by_stays core sound (has_place heap trace) s good

-- A run begins in a good state.

abbrev Each : {A : Type 0} → (A → Type 0) → List A → Type 0
Each P [] = Unit {0}
Each P (x ∷ xs) = P x × Each P xs

each_of : {A : Type 0} (P : A → Type 0) (xs : List A) → All P xs → Each P xs
each_of P [] h = tt
each_of P (x ∷ xs) h = (h 0 x (omega arith), each_of P xs (λ k d lt. h (suc k) d (omega arith)))

-- an object that is made of one of a list
at_made : {A : Type 0} (P : Object → Type 0) (Q : A → Type 0) (make : ℕ × A → Object) → ((n : ℕ) (x : A) → Q x → P (make (n, x))) → (n : ℕ) (xs : List A) → Each Q xs → P no_object → (k : ℕ) → P (get_or (map make (enumerate_from n xs)) k no_object)
at_made P Q make made n [] h none k = none
at_made P Q make made n (x ∷ xs) h none zero = made n x h.0
at_made P Q make made n (x ∷ xs) h none (suc k) = at_made P Q make made (n + 1) xs h.1 none k

mapped_fresh : (objects : List Object) (f : ℕ → Pointer) → ((slot : ℕ) → IsFresh objects (f slot)) → (slots : List ℕ) → AreFresh objects (map f slots)
mapped_fresh objects f h [] k = refl
mapped_fresh objects f h (x ∷ slots) zero = h x
mapped_fresh objects f h (x ∷ slots) (suc k) = mapped_fresh objects f h slots k

cond_fresh : (objects : List Object) (b : Bool) (p q : Pointer) → IsFresh objects p → IsFresh objects q → IsFresh objects (cond b p q)
cond_fresh objects true p q h i = h
cond_fresh objects false p q h i = i

module _ (core : Core) (sound : IsSound core) where
  abbrev statics : List Object
  statics = static_objects core.statics

  statics_length : length statics ≡ length core.statics
  statics_length =
      length-map (enumerate_from 0 core.statics) static_object ∙ length-enumerate_from 0 core.statics

  static_kept : (k : ℕ) → k < length core.statics → IsKept statics k
  static_kept k lt =
      at_map_in (λ (o : Object). (is_dead o.standing ≡ false) × (is_heap o.sort ≡ false)) static_object (λ x. (refl, refl)) (enumerate_from 0 core.statics) k (omega (arith, length-enumerate_from 0 core.statics))

  target_fresh : (pointers : List (ℕ × ℕ × ℕ)) → Each (IsTarget core) pointers → (slot : ℕ) → IsFresh statics (first_pointer pointers slot)
  target_fresh [] h slot = refl
  target_fresh (p ∷ pointers) h slot =
      cond_fresh statics (nat_eq p.0 slot) (pointer.At p.1 p.2) (first_pointer pointers slot) (static_kept p.1 (slice_get_within core.statics p.1 h.0.0 h.0.1)).0 (target_fresh pointers h.1 slot)

  static_fresh : (n : ℕ) (static : program.Static) → IsStatic core static → AreFresh statics (static_object (n, static)).pointers
  static_fresh n static h =
      mapped_fresh statics (first_pointer static.start.pointers) (target_fresh static.start.pointers (each_of (IsTarget core) static.start.pointers h.targets)) static.layout.slots

  statics_sane : Sane statics []
  statics_sane = record {
    slots = λ b h. at_made (λ (o : Object). AreFresh statics o.pointers) (IsStatic core) static_object static_fresh 0 core.statics (each_of (IsStatic core) core.statics sound.statics) (λ k. refl) b;
    queued = λ b h. absurd (false≢true (sym (at_map (λ (o : Object). is_queued o.standing ≡ false) static_object (λ x. refl) (enumerate_from 0 core.statics) b refl) ∙ h));
    in_queue = λ b h. absurd (false≢true h);
  }

-- the first function named main is there
within_by : (b : Bool) (funcs : List Func) (first : ℕ) → (b ≡ false → first < length funcs) → cond b 0 (first + 1) < suc (length funcs)
within_by true funcs first h = omega arith
within_by false funcs first h = omega (arith, h refl)

counts_rest : (b : Bool) (n : ℕ) → 0 < cond b 1 0 + n → b ≡ false → 0 < n
counts_rest true n h e = absurd (cc)
counts_rest false n h e = omega (arith, h)

pub main_within : (funcs : List Func) → 0 < count_by is_main funcs → first_main funcs < length funcs
main_within [] h = h
main_within (func ∷ funcs) h =
    within_by (is_main func) funcs (first_main funcs) (λ e. main_within funcs (counts_rest (is_main func) (count_by is_main funcs) (subst (λ k. 0 < k) (sum_by-cons (λ x. cond (is_main x) 1 0) func funcs) h) e))

pub begins : (core : Core) → IsSound core → (input : List ℕ) (n : ℕ) → StaysGood core (first_call core input n)
begins core sound input zero = λ e. cc
begins core sound input (suc m) =
    let main = found core.funcs (main_of core) (main_within core.funcs (omega (arith, sound.one_main))) in
    let objects = static_objects core.statics in
    (main.0, enters core sound (main_of core) main.0 main.1 objects [] [] (statics_sane core sound) (static_kept core sound) (omega (arith, statics_length core sound)) (λ k. refl) 0 [] refl 0 input m)
