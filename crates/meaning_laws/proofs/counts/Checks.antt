-- The check at the end of the outermost scope: the numbers decide as the holders do.
use Rattle.meaning_laws.proofs.Words.Core.{Core, Event, Frame, Func, Holder, State, Stm, check_numbers, first_held, is_live, is_pointer_to, object_at, pointers_to}
use Rattle.meaning_laws.proofs.Words.Meaning.{Alive, AreCounts, AreExact, Pins, Sane, answer_register, counts_at, holders, holds_on, holds_pointer, in_all_waiting, in_registers, in_running, in_waiting, inside_objects, is_among, is_held, is_live_at, is_live_in, is_some_held, kept, more, numbered, pins_of, pointer_of_register, statement_at, takes_answer, without_those_inside}
use Rattle.meaning_laws.proofs.Words.Std.{Bool, List, None, Option, Some, [], ap, arith, cases_Bool, cond, false≢true, flat_map, flat_map-append, length, length-append, nat_eq, ne_eqb, not, refl, reverse, reverse-append, slice_get, subst, sum_by, sum_by-cons, sym, true, ℕ, ⊎_elim, ◌&&◌, ◌++◌, ◌+◌, ◌∙◌, ◌∷◌, ◌≡◌}
use Rattle.core_tree.specs.declared.statements.StmKind.TheVariants as stm
use Rattle.object_meaning.specs.objects.Scoping as object
use Rattle.meaning_laws.proofs.dangling.Burying.{answer_is}
use Rattle.object_meaning.specs.counted.Pinning.{pinned}
use Rattle.object_meaning.specs.counted.Checking as counted
use Rattle.meaning_laws.specs.counted.Counts.{in_pins}
use Rattle.meaning_laws.proofs.counts.Weighing.{Once}
use Rattle.meaning_laws.proofs.counts.Objects.{living_split, buried_living}
use Rattle.meaning_laws.proofs.counts.Sorting.{HasSorts, once_from, those_among, held_registers, CallsIt, Calls, InOrder, Agrees, Alters, alters_agree}
use Rattle.meaning_laws.proofs.dangling.Returning.{queued_lives}

-- Numbers and lists

pub some_is_positive : (holders : List Holder) → is_some_held holders ≡ not (nat_eq (length holders) 0)
some_is_positive [] = refl
some_is_positive (h ∷ holders) = sym (ap not (ne_eqb (length (h ∷ holders)) 0 (λ e. omega (arith, e))))

pub first_same : (f g : ℕ → Bool) → ((b : ℕ) → f b ≡ g b) → (births : List ℕ) → first_held f births ≡ first_held g births
first_same f g h [] = refl
first_same f g h (b ∷ births) =
    ap (λ t. cond t (Some b) (first_held f births)) (h b) ∙ ap (λ o. cond (g b) (Some b) o) (first_same f g h births)

flat_reverse : {A : Type 0} (f : A → List Holder) (xs : List A) → length (flat_map f (reverse xs)) ≡ sum_by (λ x. length (f x)) xs
flat_reverse f [] = refl
flat_reverse f (x ∷ xs) =
    let e : flat_map f (reverse (x ∷ xs)) ≡ flat_map f (reverse xs) ++ (f x ++ []) = ap (flat_map f) (reverse-append (x ∷ []) xs) ∙ flat_map-append f (reverse xs) (x ∷ []) in
    let none : length (f x ++ []) ≡ length (f x) + 0 = length-append (f x) [] in
    omega (arith, ap (λ hs. length hs) e, length-append (flat_map f (reverse xs)) (f x ++ []), none, flat_reverse f xs, sum_by-cons (λ y. length (f y)) x xs)

-- Registers that count

-- a register that points to an object is one for pointers
pub points_from : (func : Func) (frame : Frame) → HasSorts func frame.regs → (x r : ℕ) → is_pointer_to x (pointer_of_register frame r) ≡ true → holds_pointer func r ≡ true
points_from func frame sorts x r h =
    ⊎_elim
    (λ yes. yes)
    (λ no. absurd (false≢true (sym (ap (is_pointer_to x) (sorts r no)) ∙ h)))
    (cases_Bool (holds_pointer func r))

module _ (core : Core) (pins : Pins) (exact : AreExact core pins) where
  module _ (frame : Frame) (func : Func) (here : slice_get core.funcs frame.func ≡ Some func) (stm : Stm) (at : slice_get func.body frame.point ≡ Some stm) (sorts : HasSorts func frame.regs) where
    live_is : (r : ℕ) → is_live_at core frame r ≡ is_live func.body frame.point r
    live_is r = ap (λ o. is_live_in o frame.point r) here

    pinned_once : Once (pins_of pins frame.func frame.point)
    pinned_once = once_from _ (exact frame.func func here frame.point stm at).once

    pub pinned_is : (r : ℕ) → is_among (pins_of pins frame.func frame.point) r ≡ counts_at func frame.point stm.kind r
    pinned_is r = those_among _ _ (exact frame.func func here frame.point stm at) r

    -- a test of registers that is right where one holds a pointer
    held_where : (counts : ℕ → Bool) → ((r : ℕ) → holds_pointer func r ≡ true → counts r ≡ counts_at func frame.point stm.kind r) → (x : ℕ) → length (in_registers counts x frame) ≡ pointers_to x (pinned pins frame)
    held_where counts right x =
        held_registers frame (pins_of pins frame.func frame.point) pinned_once x counts (λ r h. right r (points_from func frame sorts x r h) ∙ sym (pinned_is r))

    -- where an object may be freed, and at the end of a scope
    pub held_running : ((r : ℕ) → counts_at func frame.point stm.kind r ≡ holds_on func frame.point r) → (x : ℕ) → length (in_running core x frame) ≡ pointers_to x (pinned pins frame)
    held_running all x =
        held_where (is_live_at core frame) (λ r h. live_is r ∙ sym (all r ∙ ap (λ b. b && is_live func.body frame.point r) h)) x

  pub held_waiting : (callee : ℕ) (frame : Frame) → CallsIt core callee frame → (x : ℕ) → length (in_waiting core x frame) ≡ pointers_to x (pinned pins frame)
  held_waiting callee frame w x =
      let called : Stm = record { line = w.line; kind = stm.Call callee w.answer w.args } in
      let answer = answer_register (statement_at core frame) in
      let same : answer ≡ w.answer = answer_is core frame w.func called w.here w.at in
      held_where frame w.func w.here called w.at w.sorts (λ r. is_live_at core frame r && not (takes_answer answer r)) (λ r h.
      ap (λ b. b && not (takes_answer answer r)) (live_is frame w.func w.here called w.at w.sorts r)
      ∙ ap (λ a. is_live w.func.body frame.point r && not (takes_answer a r)) same
      ∙ sym (ap (λ b. b && is_live w.func.body frame.point r && not (takes_answer w.answer r)) h)) x

  held_each : (callee : ℕ) (waiting : List Frame) → Calls core callee waiting → (x : ℕ) → sum_by (λ frame. length (in_waiting core x frame)) waiting ≡ in_pins pins x waiting
  held_each callee [] h x = refl
  held_each callee (frame ∷ waiting) h x =
      omega (arith, sum_by-cons (λ f. length (in_waiting core x f)) frame waiting, sum_by-cons (λ f. pointers_to x (pinned pins f)) frame waiting, held_waiting callee frame h.0 x, held_each frame.func waiting h.1 x)

  pub held_all_waiting : (callee : ℕ) (waiting : List Frame) → Calls core callee waiting → (x : ℕ) → length (in_all_waiting core x waiting) ≡ in_pins pins x waiting
  held_all_waiting callee waiting h x = flat_reverse (in_waiting core x) waiting ∙ held_each callee waiting h x

  -- The check

  module _ (s : State) (func : Func) (here : slice_get core.funcs s.running.func ≡ Some func) (stm : Stm) (at : slice_get func.body s.running.point ≡ Some stm) (all : (r : ℕ) → counts_at func s.running.point stm.kind r ≡ holds_on func s.running.point r) (order : InOrder core s) (sane : Sane s.objects s.queue) (numbers : ℕ → ℕ) (counts : AreCounts pins (kept numbers s)) where
    queue_lives : (b : ℕ) → is_among s.queue b ≡ true → Alive s.objects b
    queue_lives b i = queued_lives (object_at s.objects b).standing (sane.in_queue b i)

    -- the number of an object at the check is how many holders it has
    check_is : (b : ℕ) → without_those_inside s.objects s.queue (more numbers (pinned pins s.running)) b ≡ length (holders core s b s.queue)
    check_is b =
        omega (arith, counts b, living_split s.queue s.objects order.once queue_lives b, held_running s.running func here stm at (order.sorts func here) all b, held_all_waiting s.running.func s.waiting order.calls b, length-append (inside_objects s.queue b s.objects ++ in_all_waiting core b s.waiting) (in_running core b s.running), length-append (inside_objects s.queue b s.objects) (in_all_waiting core b s.waiting))

    check_same : first_held (is_held core s) s.queue ≡ check_numbers s.objects s.queue (more numbers (pinned pins s.running))
    check_same =
        first_same _ _ (λ b. some_is_positive (holders core s b s.queue) ∙ ap (λ n. not (nat_eq n 0)) (sym (check_is b))) s.queue

    decided_alters : (first : ℕ → ℕ) (before : State) (events : List Event) → AreCounts pins (kept first before) → (o : Option ℕ) → Alters core pins first (λ _ after. without_those_inside s.objects s.queue numbers) numbers (object.decided core o before events s)
    decided_alters first before events h (Some b) = (h, counts)
    decided_alters first before events h None =
        (h, λ x. omega (arith, counts x, buried_living s.objects s.queue sane order.once x), record { sorts = order.sorts; calls = order.calls; once = tt })

    pub checked_agrees : (first : ℕ → ℕ) (before : State) (events : List Event) → AreCounts pins (kept first before) → Agrees core pins (object.checked core before events s) (counted.checked core pins first before events numbers s)
    checked_agrees first before events h =
        let o = first_held (is_held core s) s.queue in
        subst (λ p. Agrees core pins (object.decided core o before events s) (numbered first (λ _ after. without_those_inside s.objects s.queue numbers) numbers (object.decided core p before events s))) check_same (alters_agree core pins first (λ _ after. without_those_inside s.objects s.queue numbers) numbers (object.decided core o before events s) (decided_alters first before events h o))
