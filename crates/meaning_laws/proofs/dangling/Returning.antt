-- A return: the memory locals of the call end, and the newest waiting frame goes on behind its call.
use Rattle.meaning_laws.proofs.Words.Core.{Atom, Core, Dead, Frame, Func, Integer, IsSound, IsTyped, Live, Mem, Object, Queued, Sort, Standing, State, Stm, StmKind, TakesCall, TakesFormat, Value, atom_sort, ended, first_held, is_dead, is_heap, is_live, is_pointer_to, is_queued, is_register, lib_takes, live_by_edge, live_by_paths, live_by_read, no_object, object_at, operands, with_object}
use Rattle.meaning_laws.proofs.Words.Meaning.{Good, Holds, HoldsFresh, IsKept, Sane, Waits, WaitsAt, answer_register, at_point, escapes, holds_stale, in_all_waiting, in_waiting, inside_objects, is_among, locals_of, needed, number, pointer_in, put, register, resumed, running_locals, statement_at, takes_answer, value_of, with_register}
use Rattle.meaning_laws.proofs.Words.Std.{Bool, Contains, List, None, Option, Some, [], and_from, and_parts, ap, arith, cases_eq, cases_lt, eq-eqb, eqb-false, eqb-true, false, false_from_ne_true, false≢true, get_or, get_or-set_other, get_or-set_same, get_or_past, length, length-set, list_any, map, nat_eq, ne_eqb, not, not-true, not_from_false, option_map, option_map_or, or_cases, or_from, or_left, or_parts, or_right, pos, range_with_len, refl, set, slice_get, slice_get_within, subst, suc, sym, true, true≢false, zero, ℕ, ⊎_elim, ◌&&◌, ◌+◌, ◌<◌, ◌||◌, ◌∙◌, ◌∷◌, ◌≡◌, ◌≤◌}
use Rattle.core_tree.specs.Statements.{reads, writes, reads_at, writes_at, edges, edges_at, written}
use Rattle.core_tree.specs.Sound.{IsFunction, goes, scopes_after}
use Rattle.meaning_laws.proofs.dangling.Touching.{Grows, fresh_grows}
use Rattle.meaning_laws.proofs.dangling.Burying.{NoHolder, none_append, none_reverse, none_first, answer_is, Loses, spared_fresh, spared_slots, spared_waits}
use Rattle.core_tree.specs.Sorts.{Pointer}
use Rattle.core_tree.specs.declared.statements.StmKind.TheVariants as stm
use Rattle.core_tree.specs.declared.statements.Atom.TheVariants as atom
use Rattle.core_tree.specs.declared.program.Static as program

-- A register that is needed at a point is live after each point that leads there.

module _ (body : List Stm) (point next r : ℕ) (edge : Contains (edges_at body point) next) where
  pub live_back : needed body next r ≡ true → is_live body point r ≡ true
  live_back h =
      (live_by_paths body point r).1
      (⊎_elim
      (λ read. live_by_read body r point next edge read)
      (λ goes.
      let both = and_parts (not (writes_at body next r)) (is_live body next r) goes in
      live_by_edge body r point next edge (not-true _ both.0) ((live_by_paths body next r).0 both.1))
      (or_cases (reads_at body next r) _ h))

module _ (body : List Stm) (point r : ℕ) (stm : Stm) (at : slice_get body point ≡ Some stm) where
  pub needed_read : reads stm.kind r ≡ true → needed body point r ≡ true
  needed_read h =
      let e : reads_at body point r ≡ reads stm.kind r = ap (λ (o : Option Stm). option_map_or (λ (t : Stm). reads t.kind r) o false) at in
      ap (λ b. b || (not (writes_at body point r) && is_live body point r)) (e ∙ h)

  pub needed_live : writes stm.kind r ≡ false → is_live body point r ≡ true → needed body point r ≡ true
  needed_live w l =
      let e : writes_at body point r ≡ writes stm.kind r = ap (λ (o : Option Stm). option_map_or (λ (t : Stm). writes t.kind r) o false) at in
      or_right (reads_at body point r) _ (and_from (not (writes_at body point r)) (is_live body point r) (not_from_false _ (e ∙ w)) l)

  pub edge_at : (next : ℕ) → Contains (edges stm.kind point) next → Contains (edges_at body point) next
  edge_at next h =
      let e : edges_at body point ≡ edges stm.kind point = ap (λ (o : Option Stm). option_map_or (λ (t : Stm). edges t.kind point) o []) at in
      subst (λ (ps : List ℕ). Contains ps next) (sym e) h

-- What holds of the state of a run before each statement, and within one before the run moves on.

pub kept_grows : (old new : List Object) → Grows old new → (b : ℕ) → IsKept old b → IsKept new b
kept_grows old new g b h = (g.alive b h.0, g.sort b h.0 ∙ h.1)

waits_at_grow : (core : Core) (old new : List Object) → Grows old new → (top depth : ℕ) (frame : Frame) → WaitsAt core old top depth frame → WaitsAt core new top depth frame
waits_at_grow core old new g top depth frame w = record {
  func = w.func;
  here = w.here;
  line = w.line;
  callee = w.callee;
  answer = w.answer;
  args = w.args;
  at = w.at;
  locals = λ k lt. kept_grows old new g (frame.first_local + k) (w.locals k lt);
  below = w.below;
  above = w.above;
  fresh = λ r live free. fresh_grows old new g _ (w.fresh r live free);
  opens = w.opens;
}

pub waits_grow : (core : Core) (old new : List Object) → Grows old new → (top total : ℕ) (waiting : List Frame) → Waits core old top total waiting → Waits core new top total waiting
waits_grow core old new g top total [] h = h
waits_grow core old new g top total (frame ∷ waiting) h =
    (h.0, h.1, h.2, waits_at_grow core old new g top h.0 frame h.3, waits_grow core old new g frame.first_local h.1 waiting h.4)

-- the objects grow; other scopes, another input and other steps left change nothing
pub holds_with : (core : Core) (func : Func) (wanted : List Stm → ℕ → ℕ → Bool) (total : ℕ) (s : State) → Holds core func wanted total s → (objects : List Object) (queue : List ℕ) (scopes : ℕ) (input : List ℕ) (steps : ℕ) → Grows s.objects objects → Sane objects queue → Holds core func wanted total (record { objects = objects; running = s.running; waiting = s.waiting; queue = queue; scopes = scopes; input = input; steps = steps })
holds_with core func wanted total s h objects queue scopes input steps g sane = record {
  here = h.here;
  inside = h.inside;
  sane = sane;
  statics = λ k lt. kept_grows s.objects objects g k (h.statics k lt);
  locals = λ k lt. kept_grows s.objects objects g (s.running.first_local + k) (h.locals k lt);
  below = omega (arith, h.below, g.longer);
  above = h.above;
  fresh = λ r w. fresh_grows s.objects objects g _ (h.fresh r w);
  depth = h.depth;
  others = h.others;
  sum = h.sum;
  opens = h.opens;
  waits = waits_grow core s.objects objects g s.running.first_local h.others s.waiting h.waits;
}

-- a register other than the written one is as before, and the written one has the value or none
pub set_register : (objects : List Object) (regs : List Value) (r q : ℕ) (v : Value) → HoldsFresh objects v → ((q ≡ r → ⊥) → HoldsFresh objects (get_or regs q (number (pos 0)))) → HoldsFresh objects (get_or (set regs r v) q (number (pos 0)))
set_register objects regs r q v f other =
    ⊎_elim
    (λ e.
    ⊎_elim
    (λ lt. subst (HoldsFresh objects) (sym (ap (λ n. get_or (set regs r v) n (number (pos 0))) e ∙ get_or-set_same regs r v (number (pos 0)) lt)) f)
    (λ le. subst (HoldsFresh objects) (sym (get_or_past (set regs r v) q (number (pos 0)) (omega (arith, length-set regs r v)))) refl)
    (cases_lt r (length regs)))
    (λ n. subst (HoldsFresh objects) (sym (get_or-set_other regs r q v (number (pos 0)) n)) (other n))
    (cases_eq q r)

module _ (core : Core) (func : Func) where
  -- within a statement, once its register is written
  pub ready_put : (total : ℕ) (s : State) → Holds core func needed total s → (stm : Stm) → slice_get func.body s.running.point ≡ Some stm → (r : Option ℕ) → written stm.kind ≡ r → (v : Value) → HoldsFresh s.objects v → Holds core func is_live total (put s r v)
  ready_put total s h stm at None e v f = record {
    here = h.here;
    inside = h.inside;
    sane = h.sane;
    statics = h.statics;
    locals = h.locals;
    below = h.below;
    above = h.above;
    fresh = λ q live. h.fresh q (needed_live func.body s.running.point q stm at (not_written q) live);
    depth = h.depth;
    others = h.others;
    sum = h.sum;
    opens = h.opens;
    waits = h.waits;
  } where
    not_written : (q : ℕ) → writes stm.kind q ≡ false
    not_written q = rw e refl
  ready_put total s h stm at (Some r) e v f = record {
    here = h.here;
    inside = h.inside;
    sane = h.sane;
    statics = h.statics;
    locals = h.locals;
    below = h.below;
    above = h.above;
    fresh = λ q live. set_register s.objects s.running.regs r q v f (λ n. h.fresh q (needed_live func.body s.running.point q stm at (not_written q n) live));
    depth = h.depth;
    others = h.others;
    sum = h.sum;
    opens = h.opens;
    waits = h.waits;
  } where
    not_written : (q : ℕ) → (q ≡ r → ⊥) → writes stm.kind q ≡ false
    not_written q n = rw e (ne_eqb r q (λ i. n (sym i)))

  module _ (sound : IsFunction core func) where
    -- the run moves on to a point that an edge leads to
    pub moves : (total new : ℕ) (t : State) → (h : Holds core func is_live total t) → (stm : Stm) → slice_get func.body t.running.point ≡ Some stm → (next : ℕ) → Contains (edges stm.kind t.running.point) next → new ≡ scopes_after stm.kind h.depth + h.others → Holds core func needed new (at_point t next)
    moves total new t h stm at next edge sum = record {
      here = h.here;
      inside = subst (λ p. p < length func.body) edge.2 (sound.inside t.running.point stm at edge.0 next edge.1);
      sane = h.sane;
      statics = h.statics;
      locals = h.locals;
      below = h.below;
      above = h.above;
      fresh = λ r w. h.fresh r (live_back func.body t.running.point next r (edge_at func.body t.running.point r stm at next edge) w);
      depth = scopes_after stm.kind h.depth;
      others = h.others;
      sum = sum;
      opens = goes t.running.point next h.depth stm h.opens at edge;
      waits = h.waits;
    }

-- A return: the memory locals of the call end, and the newest waiting frame goes on behind its call.

-- Objects that end

abbrev ended_one : List Object → ℕ → List Object
ended_one objects x = with_object objects x (record (object_at objects x) { standing = Dead })

at_ended : (objects : List Object) (locals : List ℕ) (b : ℕ) → is_among locals b ≡ false → object_at (ended objects locals) b ≡ object_at objects b
at_ended objects [] b h = refl
at_ended objects (x ∷ locals) b h =
    let both = or_parts (nat_eq x b) (is_among locals b) h in
    at_ended (ended_one objects x) locals b both.1 ∙ get_or-set_other objects x b _ no_object (λ e. eqb-false x b both.0 (sym e))

dies : (objects : List Object) (x : ℕ) → is_dead (object_at (ended_one objects x) x).standing ≡ true
dies objects x =
    ⊎_elim
    (λ lt. ap (λ (o : Object). is_dead o.standing) (get_or-set_same objects x _ no_object lt))
    (λ le. ap (λ (o : Object). is_dead o.standing) (get_or_past (ended_one objects x) x no_object (omega (arith, length-set objects x (record (object_at objects x) { standing = Dead })))))
    (cases_lt x (length objects))

stays_dead_one : (objects : List Object) (x b : ℕ) → is_dead (object_at objects b).standing ≡ true → is_dead (object_at (ended_one objects x) b).standing ≡ true
stays_dead_one objects x b h =
    ⊎_elim
    (λ e. subst (λ k. is_dead (object_at (ended_one objects x) k).standing ≡ true) (sym e) (dies objects x))
    (λ n. ap (λ (o : Object). is_dead o.standing) (get_or-set_other objects x b _ no_object n) ∙ h)
    (cases_eq b x)

stays_dead : (objects : List Object) (locals : List ℕ) (b : ℕ) → is_dead (object_at objects b).standing ≡ true → is_dead (object_at (ended objects locals) b).standing ≡ true
stays_dead objects [] b h = h
stays_dead objects (x ∷ locals) b h = stays_dead (ended_one objects x) locals b (stays_dead_one objects x b h)

are_dead : (objects : List Object) (locals : List ℕ) (b : ℕ) → is_among locals b ≡ true → is_dead (object_at (ended objects locals) b).standing ≡ true
are_dead objects [] b h = absurd (false≢true h)
are_dead objects (x ∷ locals) b h =
    ⊎_elim
    (λ here. stays_dead (ended_one objects x) locals b (subst (λ k. is_dead (object_at (ended_one objects x) k).standing ≡ true) (eqb-true x b here) (dies objects x)))
    (λ there. are_dead (ended_one objects x) locals b there)
    (or_cases (nat_eq x b) (is_among locals b) h)

pub ended_length : (objects : List Object) (locals : List ℕ) → length (ended objects locals) ≡ length objects
ended_length objects [] = refl
ended_length objects (x ∷ locals) = ended_length (ended_one objects x) locals ∙ length-set objects x _

ended_loses : (objects : List Object) (locals : List ℕ) → Loses objects (ended objects locals) locals
ended_loses objects locals = record {
  spared = λ b h out.
      let same = at_ended objects locals b out in
      (ap (λ (o : Object). is_dead o.standing) same ∙ h, ap (λ (o : Object). is_heap o.sort) same);
  was = λ b h.
      let out : is_among locals b ≡ false = false_from_ne_true _ (λ i. true≢false (sym (are_dead objects locals b i) ∙ h)) in
      let same = at_ended objects locals b out in
      (ap (λ (o : Object). is_dead o.standing) (sym same) ∙ h, out, ap (λ (o : Object). o.pointers) same);
  longer = omega (arith, ended_length objects locals);
}

pub out_range : (a n b : ℕ) → b < a → is_among (range_with_len a n) b ≡ false
out_range a zero b lt = refl
out_range a (suc n) b lt =
    or_from (nat_eq a b) (is_among (range_with_len (a + 1) n) b) (ne_eqb a b (λ e. omega (arith, e))) (out_range (a + 1) n b (omega arith))

pub in_range : (a n b : ℕ) → is_among (range_with_len a n) b ≡ true → (k : ℕ) × (k < n) × (b ≡ a + k)
in_range a zero b h = absurd (false≢true h)
in_range a (suc n) b h =
    ⊎_elim
    (λ here. let e = eqb-true a b here in (0, omega arith, omega (arith, e)))
    (λ there. let r = in_range (a + 1) n b there in let e = r.2 in (suc r.0, omega (arith, r.1), omega (arith, e)))
    (or_cases (nat_eq a b) (is_among (range_with_len (a + 1) n) b) h)

pub queued_lives : (st : Standing) → is_queued st ≡ true → is_dead st ≡ false
queued_lives Live h = absurd (false≢true h)
queued_lives (Queued line) h = refl
queued_lives Dead h = absurd (false≢true h)

-- The end of the running frame's locals

module _ (core : Core) (func : Func) (wanted : List Stm → ℕ → ℕ → Bool) (total : ℕ) (s : State) (h : Holds core func wanted total s) (answer : Value) (none : first_held (escapes core answer s (running_locals core s)) (running_locals core s) ≡ None) where
  abbrev locals : List ℕ
  locals = running_locals core s

  abbrev left : List Object
  left = ended s.objects locals

  loses : Loses s.objects left locals
  loses = ended_loses s.objects locals

  count : length (locals_of (slice_get core.funcs s.running.func)) ≡ length func.mems
  count = ap (λ o. length (locals_of o)) h.here

  local_is : (b : ℕ) → is_among locals b ≡ true → IsKept s.objects b
  local_is b i =
      let r = in_range s.running.first_local _ b i in
      subst (IsKept s.objects) (sym r.2) (h.locals r.0 (omega (arith, r.1, count)))

  kept : (b : ℕ) → b < s.running.first_local → IsKept s.objects b → IsKept left b
  kept b lt k =
      let spared = loses.spared b k.0 (out_range s.running.first_local _ b lt) in (spared.0, spared.1 ∙ k.1)

  parts : (b : ℕ) → is_among locals b ≡ true → (is_pointer_to b (pointer_in answer) ≡ false) × NoHolder (inside_objects locals b s.objects) × NoHolder (in_all_waiting core b s.waiting)
  parts b i =
      let test = none_first (escapes core answer s locals) locals none b i in
      let both = or_parts (is_pointer_to b (pointer_in answer)) _ test in
      let two = none_append (inside_objects locals b s.objects) (in_all_waiting core b s.waiting) both.1 in
      (both.0, two.0, two.1)

  pub answer_fresh : HoldsFresh s.objects answer → HoldsFresh left answer
  answer_fresh f = spared_fresh s.objects left locals loses (pointer_in answer) f (λ b i. (parts b i).0)

  pub sane_left : Sane left s.queue
  sane_left = record {
    slots = spared_slots s.objects left locals loses h.sane.slots (λ b i. (parts b i).1);
    queued = λ b q.
        let was = loses.was b (queued_lives (object_at left b).standing q) in
        let same = at_ended s.objects locals b was.1 in
        let old = h.sane.queued b (ap (λ (o : Object). is_queued o.standing) (sym same) ∙ q) in
        (old.0, ap (λ (o : Object). is_heap o.sort) same ∙ old.1);
    in_queue = λ b i.
        let old = h.sane.in_queue b i in
        let heap = (h.sane.queued b old).1 in
        let out : is_among locals b ≡ false = false_from_ne_true _ (λ l. true≢false (sym heap ∙ (local_is b l).1)) in
        ap (λ (o : Object). is_queued o.standing) (at_ended s.objects locals b out) ∙ old;
  }

  pub statics_left : (k : ℕ) → k < length core.statics → IsKept left k
  statics_left k lt = kept k (omega (arith, h.above)) (h.statics k lt)

  pub waits_left : Waits core left s.running.first_local h.others s.waiting
  waits_left =
      spared_waits s.objects left locals loses core s.running.first_local h.others s.waiting kept (λ b i. none_reverse (in_waiting core b) s.waiting (parts b i).2) h.waits

  pub longer_left : s.running.first_local ≤ length left
  longer_left = omega (arith, h.below, loses.longer)

-- The frame that goes on

abbrev resumed_with : Option ℕ → Value → Frame → Frame
resumed_with r answer frame = let f = with_register r answer frame in record f { point = frame.point + 1 }

module _ (core : Core) (sound : IsSound core) (t : State) (caller : Frame) (rest : List Frame) (top depth others : ℕ) (w : WaitsAt core t.objects top depth caller) (waits : Waits core t.objects caller.first_local others rest) (sane : Sane t.objects t.queue) (statics : (k : ℕ) → k < length core.statics → IsKept t.objects k) (long : top ≤ length t.objects) (sum : t.scopes ≡ depth + others) (answer : Value) (fresh : HoldsFresh t.objects answer) where
  abbrev called : Option ℕ → Stm
  called r = record { line = w.line; kind = stm.Call w.callee r w.args }

  next : Contains ((caller.point + 1) ∷ []) (caller.point + 1)
  next = (0, omega arith, refl)

  back : (r : ℕ) → needed w.func.body (caller.point + 1) r ≡ true → is_live w.func.body caller.point r ≡ true
  back r n =
      live_back w.func.body caller.point (caller.point + 1) r (edge_at w.func.body caller.point r (called w.answer) w.at (caller.point + 1) next) n

  fresh_with : (a : Option ℕ) → a ≡ w.answer → (r : ℕ) → needed w.func.body (caller.point + 1) r ≡ true → HoldsFresh t.objects (register (resumed_with a answer caller) r)
  fresh_with None e r n = w.fresh r (back r n) (ap (λ a. takes_answer a r) (sym e))
  fresh_with (Some q) e r n =
      set_register t.objects caller.regs q r answer fresh (λ i. w.fresh r (back r n) (ap (λ a. takes_answer a r) (sym e) ∙ ne_eqb q r (λ j. i (sym j))))

  inside : caller.point + 1 < length w.func.body
  inside = (sound.functions caller.func w.func w.here).inside caller.point (called w.answer) w.at 0 0 (omega arith)

  resumes : (a : Option ℕ) → a ≡ w.answer → Holds core w.func needed t.scopes (record t { running = resumed_with a answer caller; waiting = rest })
  resumes None e = record {
    here = w.here;
    inside = inside;
    sane = sane;
    statics = statics;
    locals = w.locals;
    below = omega (arith, w.below, long);
    above = w.above;
    fresh = fresh_with None e;
    depth = depth;
    others = others;
    sum = sum;
    opens = goes caller.point (caller.point + 1) depth (called w.answer) w.opens w.at next;
    waits = waits;
  }
  resumes (Some q) e = record {
    here = w.here;
    inside = inside;
    sane = sane;
    statics = statics;
    locals = w.locals;
    below = omega (arith, w.below, long);
    above = w.above;
    fresh = fresh_with (Some q) e;
    depth = depth;
    others = others;
    sum = sum;
    opens = goes caller.point (caller.point + 1) depth (called w.answer) w.opens w.at next;
    waits = waits;
  }

  pub resumed_good : Good core (record t { running = resumed core answer caller; waiting = rest })
  resumed_good =
      let same : answer_register (statement_at core caller) ≡ w.answer = answer_is core caller w.func (called w.answer) w.here w.at in
      (w.func, resumes (answer_register (statement_at core caller)) same)

-- The operands of a statement of a sound core do not point to dead objects.

module _ (core : Core) (func : Func) where
  -- what an operand names is there
  abbrev pub Exists : Atom → Type 0
  Exists a = (sort : Sort) × (atom_sort core func a ≡ Some sort)

  abbrev pub AllExist : List Atom → Type 0
  AllExist [] = Unit {0}
  AllExist (a ∷ atoms) = Exists a × AllExist atoms

  all_taken : (sorts : List Sort) (atoms : List Atom) → map (atom_sort core func) atoms ≡ map (λ (sort : Sort). Some sort) sorts → AllExist atoms
  all_taken sorts [] e = tt
  all_taken [] (a ∷ atoms) e = absurd (cc)
  all_taken (sort ∷ sorts) (a ∷ atoms) e =
      let h : atom_sort core func a ≡ Some sort = cc in
      let rest : map (atom_sort core func) atoms ≡ map (λ (sort : Sort). Some sort) sorts = cc in
      ((sort, h), all_taken sorts atoms rest)

  call_exist : (args : List Atom) (o : Option Func) → TakesCall core func args o → AllExist args
  call_exist args None h = absurd h
  call_exist args (Some callee) h = all_taken _ args h

  format_exist : (args : List Atom) (o : Option (List ℕ)) → TakesFormat core func args o → AllExist args
  format_exist args None h = absurd h
  format_exist args (Some format) h = all_taken _ args h.1

  pub typed_exist : (kind : StmKind) → IsTyped core func kind → AllExist (operands kind)
  typed_exist (stm.Set r a) h = ((h.0, h.2), tt)
  typed_exist (stm.Conv k r a) h = ((Integer, h.1), tt)
  typed_exist (stm.Un op k r a) h = ((Integer, h.1), tt)
  typed_exist (stm.Bin op k r a b) h = ((Integer, h.1), ((Integer, h.2), tt))
  typed_exist (stm.Cmp op r a b) h = ((Integer, h.1), ((Integer, h.2), tt))
  typed_exist (stm.Add r p a n) h = ((Pointer, h.1), ((Integer, h.2), tt))
  typed_exist (stm.Sub r p a n) h = ((Pointer, h.1), ((Integer, h.2), tt))
  typed_exist (stm.Off r p c) h = ((Pointer, h.1), tt)
  typed_exist (stm.Diff r p q n) h = ((Pointer, h.1), ((Pointer, h.2), tt))
  typed_exist (stm.Pcmp op r p q) h = ((Pointer, h.1), ((Pointer, h.2), tt))
  typed_exist (stm.Test r p) h = ((Pointer, h.1), tt)
  typed_exist (stm.Load k r p) h = ((Pointer, h.1), tt)
  typed_exist (stm.Loadp r p) h = ((Pointer, h.1), tt)
  typed_exist (stm.Store k p a) h = ((Pointer, h.0), ((Integer, h.1), tt))
  typed_exist (stm.Storep p q) h = ((Pointer, h.0), ((Pointer, h.1), tt))
  typed_exist (stm.Copy p q n) h = ((Pointer, h.0), ((Pointer, h.1), tt))
  typed_exist (stm.Clear p n) h = ((Pointer, h), tt)
  typed_exist (stm.Zero a l) h = ((Integer, h), tt)
  typed_exist (stm.Case a v l) h = ((Integer, h), tt)
  typed_exist (stm.Call f r args) h = call_exist args (slice_get core.funcs f) h.1
  typed_exist (stm.Malloc r n t) h = ((Integer, h.1), tt)
  typed_exist (stm.Calloc r m n t) h = ((Integer, h.1), ((Integer, h.2), tt))
  typed_exist (stm.Realloc r p n t) h = ((Pointer, h.1), ((Integer, h.2), tt))
  typed_exist (stm.Free p) h = ((Pointer, h), tt)
  typed_exist (stm.Lib name r args) h = all_taken (lib_takes name) args h.1
  typed_exist (stm.Printf r k args) h = format_exist args (slice_get func.formats k) h.1
  typed_exist (stm.Return (Some a)) h = ((h.0, h.1), tt)
  typed_exist kind h = tt

there : {A B : Type 0} (f : A → B) (o : Option A) (y : B) → option_map f o ≡ Some y → (x : A) × (o ≡ Some x)
there f None y e = absurd (cc)
there f (Some x) y e = (x, refl)

module _ (core : Core) (func : Func) (total : ℕ) (s : State) (h : Holds core func needed total s) where
  atom_fresh : (a : Atom) → Exists core func a → ((r : ℕ) → is_register r a ≡ true → HoldsFresh s.objects (register s.running r)) → HoldsFresh s.objects (value_of s.running a)
  atom_fresh (atom.Reg r) i f = f r (eq-eqb r r refl)
  atom_fresh (atom.Int n) i f = refl
  atom_fresh atom.Null i f = refl
  atom_fresh (atom.Static k) i f =
      let x = there (λ (_ : program.Static). Pointer) (slice_get core.statics k) i.0 i.1 in
      (h.statics k (slice_get_within core.statics k x.0 x.1)).0
  atom_fresh (atom.Mem k) i f =
      let x = there (λ (_ : Mem). Pointer) (slice_get func.mems k) i.0 i.1 in
      (h.locals k (slice_get_within func.mems k x.0 x.1)).0

  none_stale : (atoms : List Atom) → AllExist core func atoms → ((r : ℕ) → list_any (is_register r) atoms ≡ true → HoldsFresh s.objects (register s.running r)) → list_any (holds_stale s.objects) (map (value_of s.running) atoms) ≡ false
  none_stale [] i f = refl
  none_stale (a ∷ atoms) i f =
      or_from (holds_stale s.objects (value_of s.running a)) _ (atom_fresh a i.0 (λ r e. f r (or_left (is_register r a) _ e))) (none_stale atoms i.1 (λ r e. f r (or_right (is_register r a) _ e)))

  pub operands_fresh : (stm : Stm) → slice_get func.body s.running.point ≡ Some stm → IsTyped core func stm.kind → list_any (holds_stale s.objects) (map (value_of s.running) (operands stm.kind)) ≡ false
  operands_fresh stm at typed =
      none_stale (operands stm.kind) (typed_exist core func stm.kind typed) (λ r e. h.fresh r (needed_read func.body s.running.point r stm at e))
