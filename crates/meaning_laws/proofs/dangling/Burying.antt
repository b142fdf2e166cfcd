-- Some objects die: what is not held by a pointer that counts stays as it should.
use Rattle.meaning_laws.proofs.Words.Core.{Core, Dead, Frame, Func, Holder, Live, Object, Pointer, Queued, Standing, State, Stm, Value, buried, buried_standing, first_held, is_dead, is_heap, is_live, is_pointer_to, is_queued, no_object, object_at}
use Rattle.meaning_laws.proofs.Words.Meaning.{Alive, AreFresh, Holds, IsFresh, IsKept, Sane, Waits, WaitsAt, answer_register, bury, counted_inside, holders, in_all_waiting, in_registers, in_running, in_waiting, inside_objects, inside_one, is_among, is_held, is_live_at, is_live_in, is_some_held, is_within, number, pointer_in, register, statement_at, statement_in, takes_answer}
use Rattle.meaning_laws.proofs.Words.Std.{Bool, List, None, Option, Some, [], and_from, ap, arith, cases_Bool, cases_lt, cond, enumerate_from, eq-eqb, eqb-true, false, false_from_ne_true, false≢true, filter, flat_map, flat_map-append, get_or, get_or-enumerate_from, get_or_past, length, length-enumerate_from, length-map, map, nat_eq, not, not_from_false, or_cases, or_from, pos, refl, reverse, reverse-append, slice_get, subst, suc, sym, true, true≢false, zero, ℕ, ⊎_elim, ◌&&◌, ◌++◌, ◌+◌, ◌<◌, ◌∙◌, ◌∷◌, ◌≡◌, ◌≤◌}
use Rattle.core_tree.specs.Statements.{written}
use Rattle.hs_base.specs.declared.values.Pointer.TheVariants as pointer

-- Where no holder of an object is found, no pointer to it stands where holders are looked for.

abbrev pub NoHolder : List Holder → Type 0
NoHolder holders = is_some_held holders ≡ false

pub none_append : (one other : List Holder) → NoHolder (one ++ other) → NoHolder one × NoHolder other
none_append [] other h = (refl, h)
none_append (x ∷ one) other h = absurd (true≢false h)

module _ {A : Type 0} where
  none_cond : (f : ℕ × A → Holder) (b : Bool) (x : ℕ × A) (rest : List (ℕ × A)) → NoHolder (map f (cond b (x ∷ rest) rest)) → (b ≡ false) × NoHolder (map f rest)
  none_cond f true x rest h = absurd (true≢false h)
  none_cond f false x rest h = (refl, h)

  none_found : (f : ℕ × A → Holder) (test : ℕ × A → Bool) (n : ℕ) (xs : List A) → NoHolder (map f (filter test (enumerate_from n xs))) → (k : ℕ) (d : A) → k < length xs → test (n + k, get_or xs k d) ≡ false
  none_found f test n [] h k d lt = absurd (omega arith)
  none_found f test n (x ∷ xs) h zero d lt =
      let e : n ≡ n + 0 = omega arith in
      subst (λ i. test (i, x) ≡ false) e (none_cond f (test (n, x)) (n, x) (filter test (enumerate_from (n + 1) xs)) h).0
  none_found f test n (x ∷ xs) h (suc k) d lt =
      let e : n + 1 + k ≡ n + suc k = omega arith in
      subst (λ i. test (i, get_or xs k d) ≡ false) e (none_found f test (n + 1) xs (none_cond f (test (n, x)) (n, x) (filter test (enumerate_from (n + 1) xs)) h).1 k d (omega arith))

  none_flat : (f : A → List Holder) (xs : List A) → NoHolder (flat_map f xs) → (k : ℕ) (d : A) → k < length xs → NoHolder (f (get_or xs k d))
  none_flat f [] h k d lt = absurd (omega arith)
  none_flat f (x ∷ xs) h zero d lt = (none_append (f x) (flat_map f xs) h).0
  none_flat f (x ∷ xs) h (suc k) d lt = none_flat f xs (none_append (f x) (flat_map f xs) h).1 k d (omega arith)

  -- none in any of the list
  abbrev pub NoHolders : (A → List Holder) → List A → Type 0
  NoHolders f [] = Unit {0}
  NoHolders f (x ∷ xs) = NoHolder (f x) × NoHolders f xs

  pub none_reverse : (f : A → List Holder) (xs : List A) → NoHolder (flat_map f (reverse xs)) → NoHolders f xs
  none_reverse f [] h = tt
  none_reverse f (x ∷ xs) h =
      let e : flat_map f (reverse (x ∷ xs)) ≡ flat_map f (reverse xs) ++ (f x ++ []) = ap (flat_map f) (reverse-append (x ∷ []) xs) ∙ flat_map-append f (reverse xs) (x ∷ []) in
      let both = none_append (flat_map f (reverse xs)) (f x ++ []) (subst NoHolder e h) in
      ((none_append (f x) [] both.1).0, none_reverse f xs both.0)

-- Objects

counted_is : (left : List ℕ) (birth b : ℕ) (o : Object) → is_dead o.standing ≡ false → is_among left b ≡ false → counted_inside left birth (b, o) ≡ inside_one birth o
counted_is left birth b o h i = ap (λ test. cond test [] (inside_one birth o)) (or_from (is_dead o.standing) (is_among left b) h i)

pub unheld_object : (left : List ℕ) (birth : ℕ) (objects : List Object) → NoHolder (inside_objects left birth objects) → (b : ℕ) → Alive objects b → is_among left b ≡ false → (k : ℕ) → is_pointer_to birth (get_or (object_at objects b).pointers k pointer.Null) ≡ false
unheld_object left birth objects h b alive out k =
    let lt = is_within objects b alive in
    let o = object_at objects b in
    let d : ℕ × Object = (0, no_object) in
    let at : get_or (enumerate_from 0 objects) b d ≡ (0 + b, o) = get_or-enumerate_from 0 objects b d lt in
    let zero_add : 0 + b ≡ b = omega arith in
    let none = none_flat (counted_inside left birth) (enumerate_from 0 objects) h b d (omega (arith, length-enumerate_from 0 objects)) in
    let here : NoHolder (counted_inside left birth (b, o)) = subst (λ i. NoHolder (counted_inside left birth (i, o))) zero_add (subst (λ (p : ℕ × Object). NoHolder (counted_inside left birth p)) at none) in
    let inside : NoHolder (inside_one birth o) = subst NoHolder (counted_is left birth b o alive out) here in
    ⊎_elim
    (λ within. none_found _ (λ (p : ℕ × Pointer). is_pointer_to birth p.1) 0 o.pointers inside k pointer.Null within)
    (λ past. ap (is_pointer_to birth) (get_or_past o.pointers k pointer.Null past))
    (cases_lt k (length o.pointers))

-- Registers

second_false : (x y : Bool) → (x && y) ≡ false → x ≡ true → y ≡ false
second_false true y h e = h
second_false false y h e = absurd (true≢false (sym e))

pub unheld_register : (counts : ℕ → Bool) (birth : ℕ) (frame : Frame) → NoHolder (in_registers counts birth frame) → (r : ℕ) → counts r ≡ true → is_pointer_to birth (pointer_in (register frame r)) ≡ false
unheld_register counts birth frame h r c =
    let none : Value = number (pos 0) in
    ⊎_elim
    (λ within.
    let zero_add : 0 + r ≡ r = omega arith in
    let found = none_found _ (λ (p : ℕ × Value). counts p.0 && is_pointer_to birth (pointer_in p.1)) 0 frame.regs h r none within in
    second_false (counts r) _ (subst (λ i. (counts i && is_pointer_to birth (pointer_in (get_or frame.regs r none))) ≡ false) zero_add found) c)
    (λ past. ap (λ v. is_pointer_to birth (pointer_in v)) (get_or_past frame.regs r none past))
    (cases_lt r (length frame.regs))

pub live_is : (core : Core) (frame : Frame) (func : Func) → slice_get core.funcs frame.func ≡ Some func → (r : ℕ) → is_live func.body frame.point r ≡ true → is_live_at core frame r ≡ true
live_is core frame func here r live = ap (λ o. is_live_in o frame.point r) here ∙ live

pub unheld_running : (core : Core) (birth : ℕ) (frame : Frame) (func : Func) → slice_get core.funcs frame.func ≡ Some func → NoHolder (in_running core birth frame) → (r : ℕ) → is_live func.body frame.point r ≡ true → is_pointer_to birth (pointer_in (register frame r)) ≡ false
unheld_running core birth frame func here h r live =
    unheld_register (is_live_at core frame) birth frame h r (live_is core frame func here r live)

-- the answer register of a frame is that of its statement
pub answer_is : (core : Core) (frame : Frame) (func : Func) (stm : Stm) → slice_get core.funcs frame.func ≡ Some func → slice_get func.body frame.point ≡ Some stm → answer_register (statement_at core frame) ≡ written stm.kind
answer_is core frame func stm here at =
    ap (λ o. answer_register (statement_in o frame.point)) here ∙ ap answer_register at

pub unheld_waiting : (core : Core) (birth : ℕ) (frame : Frame) (func : Func) (stm : Stm) → slice_get core.funcs frame.func ≡ Some func → slice_get func.body frame.point ≡ Some stm → NoHolder (in_waiting core birth frame) → (r : ℕ) → is_live func.body frame.point r ≡ true → takes_answer (written stm.kind) r ≡ false → is_pointer_to birth (pointer_in (register frame r)) ≡ false
unheld_waiting core birth frame func stm here at h r live free =
    let answer = answer_register (statement_at core frame) in
    let same = answer_is core frame func stm here at in
    unheld_register (λ q. is_live_at core frame q && not (takes_answer answer q)) birth frame h r (and_from (is_live_at core frame r) (not (takes_answer answer r)) (live_is core frame func here r live) (not_from_false _ (ap (λ a. takes_answer a r) same ∙ free)))

-- Queues

first_cond : (test b : Bool) (x : ℕ) (rest : Option ℕ) → cond test (Some x) rest ≡ None → (test ≡ false) × (rest ≡ None)
first_cond true b x rest h = absurd (cc)
first_cond false b x rest h = (refl, h)

pub none_first : (test : ℕ → Bool) (queue : List ℕ) → first_held test queue ≡ None → (b : ℕ) → is_among queue b ≡ true → test b ≡ false
none_first test [] h b i = absurd (true≢false (sym i))
none_first test (x ∷ queue) h b i =
    let both = first_cond (test x) true x (first_held test queue) h in
    ⊎_elim
    (λ here. subst (λ k. test k ≡ false) (eqb-true x b here) both.0)
    (λ there. none_first test queue both.1 b there)
    (or_cases (nat_eq x b) (is_among queue b) i)

-- Some objects die: what is not held by a pointer that counts stays as it should.

-- the objects of some births die, and the others stay as they are
pub record Loses (old new : List Object) (dying : List ℕ) : Type 0 where
  pub spared : (b : ℕ) → Alive old b → is_among dying b ≡ false → Alive new b × (is_heap (object_at new b).sort ≡ is_heap (object_at old b).sort)
  pub was : (b : ℕ) → Alive new b → Alive old b × (is_among dying b ≡ false) × ((object_at new b).pointers ≡ (object_at old b).pointers)
  pub longer : length old ≤ length new

module _ (old new : List Object) (dying : List ℕ) (l : Loses old new dying) where
  -- a pointer to none of those that die
  abbrev pub Spares : Pointer → Type 0
  Spares p = (b : ℕ) → is_among dying b ≡ true → is_pointer_to b p ≡ false

  pub spared_fresh : (p : Pointer) → IsFresh old p → Spares p → IsFresh new p
  spared_fresh pointer.Null h s = refl
  spared_fresh (pointer.At b offset) h s =
      ⊎_elim
      (λ dies. absurd (false≢true (sym (s b dies) ∙ eq-eqb b b refl)))
      (λ lives. (l.spared b h lives).0)
      (cases_Bool (is_among dying b))

  -- objects that stay point to objects that stay
  pub spared_slots : ((b : ℕ) → Alive old b → AreFresh old (object_at old b).pointers) → ((b : ℕ) → is_among dying b ≡ true → NoHolder (inside_objects dying b old)) → (b : ℕ) → Alive new b → AreFresh new (object_at new b).pointers
  spared_slots slots none b h =
      let was = l.was b h in
      subst (AreFresh new) (sym was.2) (λ k.
      spared_fresh (get_or (object_at old b).pointers k pointer.Null) (slots b was.0 k) (λ c dies. unheld_object dying c old (none c dies) b was.0 was.1 k))

  module _ (core : Core) where
    pub spared_waits : (top total : ℕ) (waiting : List Frame) → ((b : ℕ) → b < top → IsKept old b → IsKept new b) → ((b : ℕ) → is_among dying b ≡ true → NoHolders (in_waiting core b) waiting) → Waits core old top total waiting → Waits core new top total waiting
    spared_waits top total [] kept none h = h
    spared_waits top total (frame ∷ waiting) kept none h =
        let w = h.3 in
        let below = w.below in
        let at : WaitsAt core new top h.0 frame = record {
          func = w.func;
          here = w.here;
          line = w.line;
          callee = w.callee;
          answer = w.answer;
          args = w.args;
          at = w.at;
          locals = λ k lt. kept (frame.first_local + k) (omega arith) (w.locals k lt);
          below = w.below;
          above = w.above;
          fresh = λ r live free.
              spared_fresh (pointer_in (register frame r)) (w.fresh r live free) (λ b dies. unheld_waiting core b frame w.func _ w.here w.at (none b dies).0 r live free);
          opens = w.opens;
        } in
        (h.0, h.1, h.2, at, spared_waits frame.first_local h.1 waiting (λ b lt k. kept b (omega arith) k) (λ b dies. (none b dies).1) h.4)

-- Burying the queued objects

live_stays : (st : Standing) → is_dead st ≡ false → is_queued st ≡ false → is_dead (buried_standing st) ≡ false
live_stays Live h i = refl
live_stays (Queued line) h i = absurd (true≢false i)
live_stays Dead h i = h

was_live : (st : Standing) → is_dead (buried_standing st) ≡ false → (is_dead st ≡ false) × (is_queued st ≡ false)
was_live Live h = (refl, refl)
was_live (Queued line) h = absurd (true≢false h)
was_live Dead h = absurd (true≢false h)

pub none_queued : (st : Standing) → is_queued (buried_standing st) ≡ false
none_queued Live = refl
none_queued (Queued line) = refl
none_queued Dead = refl

pub at_buried : (objects : List Object) (b : ℕ) → object_at (buried objects) b ≡ record (object_at objects b) { standing = buried_standing (object_at objects b).standing }
at_buried [] b = refl
at_buried (o ∷ objects) zero = refl
at_buried (o ∷ objects) (suc b) = at_buried objects b

module _ (objects : List Object) (queue : List ℕ) (sane : Sane objects queue) where
  pub buried_loses : Loses objects (buried objects) queue
  buried_loses = record {
    spared = λ b h out.
        let not_queued : is_queued (object_at objects b).standing ≡ false = false_from_ne_true _ (λ q. true≢false (sym (sane.queued b q).0 ∙ out)) in
        (subst (λ (o : Object). is_dead o.standing ≡ false) (sym (at_buried objects b)) (live_stays (object_at objects b).standing h not_queued), subst (λ (o : Object). is_heap o.sort ≡ is_heap (object_at objects b).sort) (sym (at_buried objects b)) refl);
    was = λ b h.
        let live = was_live (object_at objects b).standing (subst (λ (o : Object). is_dead o.standing ≡ false) (at_buried objects b) h) in
        (live.0, false_from_ne_true _ (λ i. true≢false (sym (sane.in_queue b i) ∙ live.1)), ap (λ (o : Object). o.pointers) (at_buried objects b));
    longer = omega (arith, length-map objects (λ (o : Object). let dead : Object = record o { standing = buried_standing o.standing } in dead));
  }

  kept_buried : (b : ℕ) → IsKept objects b → IsKept (buried objects) b
  kept_buried b h =
      let out : is_among queue b ≡ false = false_from_ne_true _ (λ i. true≢false (sym (sane.queued b (sane.in_queue b i)).1 ∙ h.1)) in
      let s = buried_loses.spared b h.0 out in
      (s.0, s.1 ∙ h.1)

-- where no queued object is held, all of them can be buried
pub buried_holds : (core : Core) (func : Func) (total : ℕ) (s : State) → Holds core func is_live total s → first_held (is_held core s) s.queue ≡ None → Holds core func is_live total (bury s)
buried_holds core func total s h none = record {
  here = h.here;
  inside = h.inside;
  sane = record {
    slots = spared_slots s.objects (buried s.objects) s.queue loses h.sane.slots (λ b dies. (parts b dies).0);
    queued = λ b q. absurd (true≢false (sym q ∙ not_queued b));
    in_queue = λ b i. absurd (true≢false (sym i));
  };
  statics = λ k lt. kept_buried s.objects s.queue h.sane k (h.statics k lt);
  locals = λ k lt. kept_buried s.objects s.queue h.sane (s.running.first_local + k) (h.locals k lt);
  below = omega (arith, h.below, loses.longer);
  above = h.above;
  fresh = λ r live.
      spared_fresh s.objects (buried s.objects) s.queue loses (pointer_in (register s.running r)) (h.fresh r live) (λ b dies. unheld_running core b s.running func h.here (parts b dies).2 r live);
  depth = h.depth;
  others = h.others;
  sum = h.sum;
  opens = h.opens;
  waits = spared_waits s.objects (buried s.objects) s.queue loses core s.running.first_local h.others s.waiting (λ b lt k. kept_buried s.objects s.queue h.sane b k) (λ b dies. none_reverse (in_waiting core b) s.waiting (parts b dies).1) h.waits;
} where
  loses : Loses s.objects (buried s.objects) s.queue
  loses = buried_loses s.objects s.queue h.sane

  parts : (b : ℕ) → is_among s.queue b ≡ true → NoHolder (inside_objects s.queue b s.objects) × NoHolder (in_all_waiting core b s.waiting) × NoHolder (in_running core b s.running)
  parts b dies =
      let all : NoHolder (holders core s b s.queue) = none_first (is_held core s) s.queue none b dies in
      let two = none_append (inside_objects s.queue b s.objects ++ in_all_waiting core b s.waiting) (in_running core b s.running) all in
      let one = none_append (inside_objects s.queue b s.objects) (in_all_waiting core b s.waiting) two.0 in
      (one.0, one.1, two.1)

  not_queued : (b : ℕ) → is_queued (object_at (buried s.objects) b).standing ≡ false
  not_queued b =
      subst (λ (o : Object). is_queued o.standing ≡ false) (sym (at_buried s.objects b)) (none_queued (object_at s.objects b).standing)
