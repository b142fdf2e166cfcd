-- Registers for integers hold none of a run's pointers, and each waiting frame waits at the call of the next newer one.
use Rattle.meaning_laws.proofs.Words.Core.{Atom, Core, Event, Frame, Func, GivesResult, Integer, Layout, Object, Refusal, Sort, State, Value, atom_sort, is_pointer_to, pointers_to}
use Rattle.meaning_laws.proofs.Words.Meaning.{AreCounts, AreThose, Changes, CountedState, OnDone, Pins, Renumbers, SamePointers, address, answers, append_living, at_point, branch, changes, first_value, goes, heap_object, holds_pointer, in_registers, inside_living, is_among, kept, living, made, no_place, no_pointers, number, numbered, pointer_in, pointer_of_register, renumbered, start_of, value_of, with_new, with_objects, with_register, with_step, write}
use Rattle.meaning_laws.proofs.Words.Std.{AllByRecursion, Bool, Contains, Err, List, None, Ok, Option, Result, Some, [], ap, arith, cases_eq, cases_lt, cond, drop, enumerate_from, eq-eqb, eqb-true, false, false_from_ne_true, false≢true, filter, get_or, get_or-set_other, get_or-set_same, get_or_past, length, length-map, length-set, map, nat_eq, option_map, option_map_or, or_cases, or_from, or_left, or_right, pos, refl, set, slice_get, subst, suc, sum_by, sum_by-cons, sym, take, true, true≢false, zero, ℕ, ⊎_elim, ◌&&◌, ◌++◌, ◌+◌, ◌<◌, ◌∙◌, ◌∷◌, ◌≡◌}
use Rattle.std.specs.List.{IsDistinct}
use Rattle.meaning_laws.proofs.counts.Weighing.{Once, weigh_same, filter_weigh, sum_among}
use Rattle.meaning_laws.proofs.counts.Objects.{same_bool}
use Rattle.core_tree.specs.declared.program.Reg.{Reg as Register}
use Rattle.core_tree.specs.Sorts.{Pointer, sort_of, register_sort}
use Rattle.object_meaning.specs.counted.CountedState.{Next}
use Rattle.hs_base.specs.declared.values.Pointer.TheVariants as pointer
use Rattle.core_tree.specs.declared.statements.Atom.TheVariants as atom
use Rattle.core_tree.specs.declared.statements.StmKind.TheVariants as stm
use Rattle.hs_base.specs.Runs as runs
use Rattle.object_meaning.specs.objects.Going as object

-- Holders in registers are the pointers in pinned registers.

-- a register for integers holds no pointer
abbrev pub HasSorts : Func → List Value → Type 0
HasSorts func regs =
    (r : ℕ) → holds_pointer func r ≡ false → pointer_in (get_or regs r (number (pos 0))) ≡ pointer.Null

-- Lists of registers

among_from : (registers : List ℕ) (r : ℕ) (k : ℕ) → k < length registers → get_or registers k r ≡ r → is_among registers r ≡ true
among_from [] r k lt e = absurd (omega arith)
among_from (q ∷ registers) r zero lt e = or_left (nat_eq q r) (is_among registers r) (eq-eqb q r e)
among_from (q ∷ registers) r (suc k) lt e =
    or_right (nat_eq q r) (is_among registers r) (among_from registers r k (omega (arith, lt)) e)

among_contains : (registers : List ℕ) (r : ℕ) → is_among registers r ≡ true → Contains registers r
among_contains [] r h = absurd (false≢true h)
among_contains (q ∷ registers) r h =
    ⊎_elim
    (λ here. (0, omega arith, eqb-true q r here))
    (λ there. let c = among_contains registers r there in (suc c.0, omega (arith, c.1), c.2))
    (or_cases (nat_eq q r) (is_among registers r) h)

none_among : (q : ℕ) (registers : List ℕ) → AllByRecursion (λ r. nat_eq q r ≡ false) registers → is_among registers q ≡ false
none_among q [] h = refl
none_among q (r ∷ registers) h =
    or_from (nat_eq r q) (is_among registers q) (false_from_ne_true _ (λ e. true≢false (sym (eq-eqb q r (sym (eqb-true r q e))) ∙ h.0))) (none_among q registers h.1)

pub once_from : (registers : List ℕ) → IsDistinct nat_eq registers → Once registers
unfolding IsDistinct
once_from [] h = tt
once_from (q ∷ registers) h = (none_among q registers h.0, once_from registers h.1)

pub those_among : (test : ℕ → Bool) (registers : List ℕ) → AreThose test registers → (r : ℕ) → is_among registers r ≡ test r
those_among test registers h r =
    same_bool _ _ (λ i. (h.exact r).1 (among_contains registers r i)) (λ t. let c = (h.exact r).0 t in among_from registers r c.0 c.1 c.2)

-- Registers of a frame

if_same : (counts among : Bool) → counts ≡ among → cond (counts && true) 1 0 ≡ cond {A = ℕ} among 1 0
if_same true among e = ap (λ b. cond {A = ℕ} b 1 0) e
if_same false among e = ap (λ b. cond {A = ℕ} b 1 0) e

counted_register : (counts among points : Bool) → (points ≡ true → counts ≡ among) → cond (counts && points) 1 0 ≡ cond {A = ℕ} among (cond points 1 0) 0
counted_register counts among true h = if_same counts among (h refl)
counted_register true true false h = refl
counted_register true false false h = refl
counted_register false true false h = refl
counted_register false false false h = refl

module _ (frame : Frame) (registers : List ℕ) (once : Once registers) (x : ℕ) where
  abbrev points : Value → ℕ
  points v = cond (is_pointer_to x (pointer_in v)) 1 0

  pinned_sum : (registers : List ℕ) → pointers_to x (map (pointer_of_register frame) registers) ≡ sum_by (λ r. points (get_or frame.regs r (number (pos 0)))) registers
  pinned_sum [] = refl
  pinned_sum (r ∷ registers) =
      omega (arith, sum_by-cons (λ p. cond (is_pointer_to x p) 1 0) (pointer_of_register frame r) (map (pointer_of_register frame) registers), sum_by-cons (λ q. points (get_or frame.regs q (number (pos 0)))) r registers, pinned_sum registers)

  -- the holders of an object in the registers that pass a test are the pointers to it in the listed ones, where the test and the
  -- list agree at pointers to it
  pub held_registers : (counts : ℕ → Bool) → ((r : ℕ) → is_pointer_to x (pointer_of_register frame r) ≡ true → counts r ≡ is_among registers r) → length (in_registers counts x frame) ≡ pointers_to x (map (pointer_of_register frame) registers)
  held_registers counts agree =
      length-map (filter (λ (at : ℕ × Value). counts at.0 && is_pointer_to x (pointer_in at.1)) (enumerate_from 0 frame.regs)) _
      ∙ filter_weigh (λ (at : ℕ × Value). counts at.0 && is_pointer_to x (pointer_in at.1)) 0 frame.regs
      ∙ weigh_same _ _ 0 frame.regs frame.regs (number (pos 0)) refl (λ k lt.
      let here : k ≡ 0 + k = omega arith in
      let v = get_or frame.regs k (number (pos 0)) in
      subst (λ n. cond (counts n && is_pointer_to x (pointer_in v)) 1 0 ≡ cond (is_among registers n) (points v) 0) here (counted_register (counts k) (is_among registers k) (is_pointer_to x (pointer_in v)) (agree k)))
      ∙ sym (sum_among points (number (pos 0)) refl frame.regs registers once)
      ∙ sym (pinned_sum registers)

-- Registers for integers hold none of a run's pointers, and each waiting frame waits at the call of the next newer one.

-- a register that may not be there may take a value
abbrev pub FitsIn : Func → Option ℕ → Value → Type 0
FitsIn func None v = Unit {0}
FitsIn func (Some r) v = holds_pointer func r ≡ false → pointer_in v ≡ pointer.Null

pub set_sorts : (func : Func) (regs : List Value) → HasSorts func regs → (r : ℕ) (v : Value) → FitsIn func (Some r) v → HasSorts func (set regs r v)
set_sorts func regs h r v f = λ q n.
    ⊎_elim
    (λ e.
    ⊎_elim
    (λ lt. ap (λ i. pointer_in (get_or (set regs r v) i (number (pos 0)))) e ∙ ap pointer_in (get_or-set_same regs r v (number (pos 0)) lt) ∙ f (subst (λ i. holds_pointer func i ≡ false) e n))
    (λ le. ap pointer_in (get_or_past (set regs r v) q (number (pos 0)) (omega (arith, length-set regs r v, e, le))))
    (cases_lt r (length regs)))
    (λ o. ap pointer_in (get_or-set_other regs r q v (number (pos 0)) o) ∙ h q n)
    (cases_eq q r)

-- Values of a sort

of_pointers : (b : Bool) → cond b Pointer Integer ≡ Pointer → b ≡ true
of_pointers true h = refl
of_pointers false h = absurd (cc)

of_integers : (b : Bool) → cond b Pointer Integer ≡ Integer → b ≡ false
of_integers true h = absurd (cc)
of_integers false h = refl

pointer_of_sort : (o : Option Register) → option_map sort_of o ≡ Some Pointer → option_map_or (λ (reg : Register). reg.pointer) o false ≡ true
pointer_of_sort None h = absurd (cc)
pointer_of_sort (Some reg) h = of_pointers reg.pointer (cc)

integer_of_sort : (o : Option Register) → option_map sort_of o ≡ Some Integer → option_map_or (λ (reg : Register). reg.pointer) o false ≡ false
integer_of_sort None h = absurd (cc)
integer_of_sort (Some reg) h = of_integers reg.pointer (cc)

pub gives_pointer : (func : Func) (r : ℕ) → register_sort func r ≡ Some Pointer → (v : Value) → FitsIn func (Some r) v
gives_pointer func r h v = λ n. absurd (true≢false (sym (pointer_of_sort (slice_get func.regs r) h) ∙ n))

pub gives_pointer_result : (func : Func) (r : Option ℕ) → GivesResult func (Some Pointer) r → (v : Value) → FitsIn func r v
gives_pointer_result func None h v = tt
gives_pointer_result func (Some r) h v = gives_pointer func r h v

pub plain_fits : (func : Func) (r : Option ℕ) (v : Value) → pointer_in v ≡ pointer.Null → FitsIn func r v
plain_fits func None v e = tt
plain_fits func (Some r) v e = λ n. e

no_integer : {A : Type 0} (o : Option A) → option_map (λ _. Pointer) o ≡ Some Integer → ⊥
no_integer None h = cc
no_integer (Some x) h = cc

first_plain : (b : Bool) → pointer_in (cond b (address pointer.Null) (number (pos 0))) ≡ pointer.Null
first_plain true = refl
first_plain false = refl

-- first values are no pointers to objects
pub first_sorts : (regs : List Register) (r : ℕ) → option_map_or (λ (reg : Register). reg.pointer) (slice_get regs r) false ≡ false → pointer_in (get_or (map first_value regs) r (number (pos 0))) ≡ pointer.Null
first_sorts [] r h = refl
first_sorts (reg ∷ regs) zero h = first_plain reg.pointer
first_sorts (reg ∷ regs) (suc r) h = first_sorts regs r h

module _ (core : Core) (func : Func) (frame : Frame) (sorts : HasSorts func frame.regs) where
  pub integer_value : (a : Atom) → atom_sort core func a ≡ Some Integer → pointer_in (value_of frame a) ≡ pointer.Null
  integer_value (atom.Reg r) h = sorts r (integer_of_sort (slice_get func.regs r) h)
  integer_value (atom.Int n) h = refl
  integer_value atom.Null h = refl
  integer_value (atom.Static k) h = absurd (no_integer (slice_get core.statics k) h)
  integer_value (atom.Mem k) h = absurd (no_integer (slice_get func.mems k) h)

  -- a register of a function takes an operand of its sort
  pub value_fits : (taker : Func) (r : ℕ) (a : Atom) (sort : Sort) → register_sort taker r ≡ Some sort → atom_sort core func a ≡ Some sort → FitsIn taker (Some r) (value_of frame a)
  value_fits taker r a Integer h i = λ n. integer_value a i
  value_fits taker r a Pointer h i = gives_pointer taker r h (value_of frame a)

  argument_plain : (reg : Register) (a : Atom) → reg.pointer ≡ false → atom_sort core func a ≡ Some (sort_of reg) → pointer_in (value_of frame a) ≡ pointer.Null
  argument_plain reg a n e = integer_value a (e ∙ ap (λ b. Some (cond b Pointer Integer)) n)

  -- the registers of a call: its arguments, and first values
  pub argument_sorts : (regs : List Register) (n : ℕ) (args : List Atom) → map (atom_sort core func) args ≡ map (λ (sort : Sort). Some sort) (map sort_of (take n regs)) → (r : ℕ) → option_map_or (λ (reg : Register). reg.pointer) (slice_get regs r) false ≡ false → pointer_in (get_or (map (value_of frame) args ++ map first_value (drop (length (map (value_of frame) args)) regs)) r (number (pos 0))) ≡ pointer.Null
  argument_sorts regs n [] e r h = first_sorts regs r h
  argument_sorts regs zero (a ∷ args) e r h = absurd (cc)
  argument_sorts [] (suc n) (a ∷ args) e r h = absurd (cc)
  argument_sorts (reg ∷ regs) (suc n) (a ∷ args) e zero h = argument_plain reg a h (cc)
  argument_sorts (reg ∷ regs) (suc n) (a ∷ args) e (suc r) h = argument_sorts regs n args (cc) r h

-- Frames and queues

-- a waiting frame is at a call of a function, and its registers hold what they are for
pub record CallsIt (core : Core) (callee : ℕ) (frame : Frame) : Type 0 where
  pub func : Func
  pub here : slice_get core.funcs frame.func ≡ Some func
  pub line : ℕ
  pub answer : Option ℕ
  pub args : List Atom
  pub at : slice_get func.body frame.point ≡ Some (record { line = line; kind = stm.Call callee answer args })
  pub sorts : HasSorts func frame.regs

-- each waiting frame is at the call of the next newer one
abbrev pub Calls : Core → ℕ → List Frame → Type 0
Calls core callee [] = Unit {0}
Calls core callee (frame ∷ waiting) = CallsIt core callee frame × Calls core frame.func waiting

-- what holds of the frames and the queue beside what the laws of the object meaning say
pub record Orderly (core : Core) (running : Frame) (waiting : List Frame) (queue : List ℕ) : Type 0 where
  pub sorts : (func : Func) → slice_get core.funcs running.func ≡ Some func → HasSorts func running.regs
  pub calls : Calls core running.func waiting
  pub once : Once queue

abbrev pub InOrder : Core → State → Type 0
InOrder core s = Orderly core s.running s.waiting s.queue

pub same_func : (core : Core) (f : ℕ) (one other : Func) → slice_get core.funcs f ≡ Some one → slice_get core.funcs f ≡ Some other → one ≡ other
same_func core f one other h i = cc

-- a register takes a value, and the frame may come to another point
module _ (core : Core) (func : Func) (frame : Frame) (waiting : List Frame) (queue : List ℕ) (here : slice_get core.funcs frame.func ≡ Some func) (order : Orderly core frame waiting queue) (point : ℕ) (longer : List ℕ) (once : Once longer) where
  pub at_order : Orderly core (record frame { point = point }) waiting longer
  at_order = record { sorts = order.sorts; calls = order.calls; once = once }

  pub with_order : (r : Option ℕ) (v : Value) → FitsIn func r v → Orderly core (record (with_register r v frame) { point = point }) waiting longer
  with_order None v fits = record { sorts = order.sorts; calls = order.calls; once = once }
  with_order (Some r) v fits = record {
    sorts = λ f h.
        set_sorts f frame.regs (order.sorts f h) r v (subst (λ (g : Func). FitsIn g (Some r) v) (same_func core frame.func func f here h) fits);
    calls = order.calls;
    once = once;
  }

-- What a statement leads to in both meanings agrees.

-- a state with numbers is that state, and its numbers count
pub record Counted (pins : Pins) (s : State) (c : CountedState) : Type 0 where
  pub state : c.state ≡ s
  pub counts : AreCounts pins c

abbrev pub Agrees : Core → Pins → object.Next → Next → Type 0
Agrees core pins (runs.Goes b e t) (runs.Goes c f u) = Counted pins b c × (f ≡ e) × Counted pins t u × InOrder core t
Agrees core pins (runs.Stops b e t x) (runs.Stops c f u y) = Counted pins b c × (f ≡ e) × Counted pins t u × (y ≡ x)
Agrees core pins (runs.Goes b e t) (runs.Stops c f u y) = ⊥
Agrees core pins (runs.Stops b e t x) (runs.Goes c f u) = ⊥

module _ (core : Core) (pins : Pins) where
  -- with these numbers before a statement, where the run goes on, and where it ends, all count
  abbrev pub Alters : (ℕ → ℕ) → (State → State → ℕ → ℕ) → (ℕ → ℕ) → object.Next → Type 0
  Alters first others last (runs.Goes b e t) =
      AreCounts pins (kept first b) × AreCounts pins (kept (others b t) t) × InOrder core t
  Alters first others last (runs.Stops b e t x) = AreCounts pins (kept first b) × AreCounts pins (kept last t)

  pub alters_agree : (first : ℕ → ℕ) (others : State → State → ℕ → ℕ) (last : ℕ → ℕ) (n : object.Next) → Alters first others last n → Agrees core pins n (numbered first others last n)
  alters_agree first others last (runs.Goes b e t) h =
      (record { state = refl; counts = h.0 }, refl, record { state = refl; counts = h.1 }, h.2)
  alters_agree first others last (runs.Stops b e t x) h =
      (record { state = refl; counts = h.0 }, refl, record { state = refl; counts = h.1 }, refl)

  module _ (s : State) (func : Func) (here : slice_get core.funcs s.running.func ≡ Some func) (order : InOrder core s) (numbers : ℕ → ℕ) (counts : AreCounts pins (kept numbers s)) where
    -- the numbers stay
    abbrev pub Plain : object.Next → Type 0
    Plain n = Alters numbers (λ before after. numbers) numbers n

    pub write_order : (objects : List Object) (input : List ℕ) (r : Option ℕ) (v : Value) → FitsIn func r v → InOrder core (write (record s { objects = objects; input = input }) r v)
    write_order objects input r v fits =
        with_order core func s.running s.waiting s.queue here order ((write s r v).running.point) s.queue order.once r v fits

    pub on_order : (point : ℕ) → InOrder core (at_point s point)
    on_order point = at_order core func s.running s.waiting s.queue here order point s.queue order.once

    pub write_plain : (input : List ℕ) (events : List Event) (r : Option ℕ) (v : Value) → FitsIn func r v → Plain (goes s events (write (record s { input = input }) r v))
    write_plain input events r v fits = (counts, counts, write_order s.objects input r v fits)

    pub answers_plain : (line : ℕ) (r : Option ℕ) (result : Result Value Refusal) → OnDone (FitsIn func r) result → Plain (answers line s r result)
    answers_plain line r (Ok v) h = write_plain s.input [] r v h
    answers_plain line r (Err e) h = (counts, counts)

    pub changes_plain : (line : ℕ) (result : Result (List Object) Refusal) → OnDone (SamePointers s.objects) result → Plain (changes line s result)
    changes_plain line (Ok objects) h = (counts, λ x. omega (arith, counts x, h x), on_order (s.running.point + 1))
    changes_plain line (Err e) h = (counts, counts)

    -- one object has other pointers
    pub renumbered_counts : (b : ℕ) (t : State) → Renumbers s.objects t.objects b → t.waiting ≡ s.waiting → AreCounts pins (kept (renumbered b numbers s t) t)
    renumbered_counts b t h same =
        subst (λ w. AreCounts pins (kept (renumbered b numbers s t) (record t { waiting = w }))) (sym same) (λ x. omega (arith, counts x, h.number x))

    pub changes_alter : (line b : ℕ) (result : Result (List Object) Refusal) → OnDone (Changes s.objects b) result → Alters numbers (renumbered b numbers) numbers (changes line s result)
    changes_alter line b (Ok objects) h =
        (counts, renumbered_counts b (with_objects s objects) h refl, on_order (s.running.point + 1))
    changes_alter line b (Err e) h = (counts, counts)

    pub step_plain : (others : State → State → ℕ → ℕ) (n : ℕ) (next : State → object.Next) → ((m : ℕ) → Alters numbers others numbers (next (record s { steps = m }))) → Alters numbers others numbers (with_step n s next)
    step_plain others zero next h = (counts, counts)
    step_plain others (suc n) next h = h n

    pub branch_plain : (b : Bool) (l : ℕ) → Plain (branch b l s)
    branch_plain true l = (counts, counts, on_order l)
    branch_plain false l = (counts, counts, on_order (s.running.point + 1))

    -- a new object has no pointers
    pub new_living : (line n : ℕ) (element : Layout) (x : ℕ) → inside_living x (with_new line n element s).objects ≡ inside_living x s.objects
    new_living line n element x =
        let o = heap_object line n element in
        omega (arith, append_living s.objects (o ∷ []) x, no_pointers x (length o.slots), one_sum x o) where
          one_sum : (x : ℕ) (o : Object) → inside_living x (o ∷ []) ≡ living x o
          one_sum x o = omega arith

    pub none_plain : (r : ℕ) → FitsIn func (Some r) (address pointer.Null) → Plain (no_place r s)
    none_plain r fits = write_plain s.input [] (Some r) (address pointer.Null) fits

    pub made_plain : (b : Bool) (line r n : ℕ) (element : Layout) → ((v : Value) → FitsIn func (Some r) v) → Plain (made b line r n element s)
    made_plain false line r n element fits = none_plain r (fits (address pointer.Null))
    made_plain true line r n element fits =
        (counts, λ x. omega (arith, counts x, new_living line n element x), write_order (with_new line n element s).objects s.input (Some r) (address (start_of (length s.objects))) (fits (address (start_of (length s.objects)))))
