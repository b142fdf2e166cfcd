-- Calls, and the end of memory locals at returns.
use Rattle.meaning_laws.proofs.Words.Core.{Atom, Core, Frame, Func, GivesResult, Holder, IsSound, IsTyped, State, Stm, TakesCall, Value, answer_sort, end_numbers, ended, first_held, is_pointer_to, pointers_to}
use Rattle.meaning_laws.proofs.Words.Meaning.{Alive, AreCounts, AreExact, Pins, answer_register, escapes, fewer, first_value, in_all_waiting, inside_objects, is_among, is_some_held, kept, locals_of, more, number, pins_of, pointer_in, pointer_of_register, registers_of, returned, running_locals, statement_at, values_of, with_objects, without_those_inside}
use Rattle.meaning_laws.proofs.Words.Std.{Bool, List, None, Option, Some, [], ap, arith, cond, drop, eq-eqb, false, length, length-append, map, nat_eq, ne_eqb, not, or_left, pos, range_with_len, refl, slice_get, subst, suc, sum_by-cons, sym, true, true≢false, zero, ℕ, ◌++◌, ◌+◌, ◌||◌, ◌∙◌, ◌∷◌, ◌≡◌}
use Rattle.core_tree.specs.declared.statements.StmKind.TheVariants as stm
use Rattle.object_meaning.specs.objects.Calls as object
use Rattle.object_meaning.specs.objects.Meaning as object_meaning
use Rattle.meaning_laws.specs.objects.Good.{HasLocals}
use Rattle.meaning_laws.proofs.dangling.Burying.{answer_is}
use Rattle.object_meaning.specs.counted.Pinning.{pinned}
use Rattle.object_meaning.specs.counted.Returning as counted
use Rattle.object_meaning.specs.counted.CountedMeaning as counted_meaning
use Rattle.meaning_laws.proofs.counts.Weighing.{Once}
use Rattle.meaning_laws.proofs.counts.Objects.{locals_living, living_split, ended_living}
use Rattle.meaning_laws.proofs.counts.Sorting.{HasSorts, FitsIn, plain_fits, value_fits, argument_sorts, CallsIt, Calls, Orderly, InOrder, same_func, with_order, Agrees, Alters, alters_agree, step_plain}
use Rattle.meaning_laws.proofs.counts.Checks.{some_is_positive, first_same, pinned_is, held_all_waiting}
use Rattle.meaning_laws.proofs.dangling.Returning.{in_range, out_range}

-- Lists of births

pub once_range : (a n : ℕ) → Once (range_with_len a n)
once_range a zero = tt
once_range a (suc n) = (out_range (a + 1) n a (omega arith), once_range (a + 1) n)

none_among : (registers : List ℕ) → ((r : ℕ) → is_among registers r ≡ false) → registers ≡ []
none_among [] h = refl
none_among (q ∷ registers) h =
    absurd (true≢false (sym (or_left (nat_eq q q) (is_among registers q) (eq-eqb q q refl)) ∙ h q))

-- an answer that points there, or a holder
or_count : (points : Bool) (holders : List Holder) (n : ℕ) → n ≡ length holders + cond points 1 0 → (points || is_some_held holders) ≡ not (nat_eq n 0)
or_count true holders n e = sym (ap not (ne_eqb n 0 (λ i. omega (arith, e, i))))
or_count false holders n e =
    let same : length holders ≡ n = omega (arith, e) in
    some_is_positive holders ∙ ap (λ m. not (nat_eq m 0)) same

module _ (core : Core) (sound : IsSound core) (pins : Pins) (exact : AreExact core pins) (s : State) (func : Func) (here : slice_get core.funcs s.running.func ≡ Some func) (order : InOrder core s) (numbers : ℕ → ℕ) (counts : AreCounts pins (kept numbers s)) (line : ℕ) where
  sorts : HasSorts func s.running.regs
  sorts = order.sorts func here

  -- Calls

  module _ (f : ℕ) (answer : Option ℕ) (args : List Atom) (at : slice_get func.body s.running.point ≡ Some (record { line = line; kind = stm.Call f answer args })) (taken : TakesCall core func args (slice_get core.funcs f)) where
    new_sorts : (g : Func) → slice_get core.funcs f ≡ Some g → HasSorts g (values_of s args ++ map first_value (drop (length (values_of s args)) (registers_of (slice_get core.funcs f))))
    new_sorts g h =
        subst (λ o. HasSorts g (values_of s args ++ map first_value (drop (length (values_of s args)) (registers_of o)))) (sym h) (argument_sorts core func s.running sorts g.regs g.params args (subst (λ o. TakesCall core func args o) h taken))

    call_alters : (m : ℕ) → Alters core pins numbers (λ before after. more numbers (pinned pins before.running)) numbers (object.call core line f (values_of s args) (record s { steps = m }))
    call_alters m = (
      counts,
      λ x. omega (arith, counts x, locals_living s.objects f x (locals_of (slice_get core.funcs f)), sum_by-cons (λ (frame : Frame). pointers_to x (pinned pins frame)) s.running s.waiting),
      record {
        sorts = new_sorts;
        calls = (record { func = func; here = here; line = line; answer = answer; args = args; at = at; sorts = sorts }, order.calls);
        once = order.once;
      },
    )

    pub call_agrees : (places : ℕ → Bool) → Agrees core pins (object_meaning.act core places line (stm.Call f answer args) s) (counted_meaning.act core pins places line (stm.Call f answer args) numbers s)
    call_agrees places =
        alters_agree core pins numbers (λ before after. more numbers (pinned pins before.running)) numbers (object_meaning.act core places line (stm.Call f answer args) s) (step_plain core pins s func here order numbers counts (λ before after. more numbers (pinned pins before.running)) s.steps (object.call core line f (values_of s args)) call_alters)

  -- Returns

  module _ (a : Option Atom) (at : slice_get func.body s.running.point ≡ Some (record { line = line; kind = stm.Return a })) (has_locals : HasLocals func s.objects s.running) where
    abbrev answer : Value
    answer = returned s a

    abbrev locals : List ℕ
    locals = running_locals core s

    abbrev stm_at : Stm
    stm_at = record { line = line; kind = stm.Return a }

    -- no register is live after a return
    no_pins : pinned pins s.running ≡ []
    no_pins =
        ap (map (pointer_of_register s.running)) (none_among (pins_of pins s.running.func s.running.point) (λ r. pinned_is core pins exact s.running func here stm_at at sorts r))

    locals_once : Once locals
    locals_once = once_range s.running.first_local (length (locals_of (slice_get core.funcs s.running.func)))

    locals_alive : (b : ℕ) → is_among locals b ≡ true → Alive s.objects b
    locals_alive b i =
        let r = in_range s.running.first_local (length (locals_of (slice_get core.funcs s.running.func))) b i in
        let many : length (locals_of (slice_get core.funcs s.running.func)) ≡ length func.mems = ap (λ o. length (locals_of o)) here in
        subst (Alive s.objects) (sym r.2) (has_locals r.0 (omega (arith, r.1, many))).0

    escapes_same : first_held (escapes core answer s locals) locals ≡ end_numbers s.objects locals (Some (pointer_in answer)) (more numbers (pinned pins s.running))
    escapes_same =
        first_same _ _ (λ b. or_count (is_pointer_to b (pointer_in answer)) (inside_objects locals b s.objects ++ in_all_waiting core b s.waiting) _ (omega (arith, counts b, living_split locals s.objects locals_once locals_alive b, held_all_waiting core pins exact s.running.func s.waiting order.calls b, length-append (inside_objects locals b s.objects) (in_all_waiting core b s.waiting), ap (pointers_to b) no_pins, sum_by-cons (λ p. cond (is_pointer_to b p) 1 0) (pointer_in answer) []))) locals

    -- what is left once the locals have ended
    abbrev left : State
    left = with_objects s (ended s.objects locals)

    abbrev fewer_numbers : ℕ → ℕ
    fewer_numbers = without_those_inside s.objects locals numbers

    left_counts : AreCounts pins (kept fewer_numbers left)
    left_counts = λ x. omega (arith, counts x, ended_living s.objects locals locals_once locals_alive x)

    answer_fits_in : (taker : Func) (r : Option ℕ) (a : Option Atom) → IsTyped core func (stm.Return a) → GivesResult taker (answer_sort core func a) r → FitsIn taker r (returned s a)
    answer_fits_in taker r None typed h = plain_fits taker r (number (pos 0)) refl
    answer_fits_in taker None (Some b) typed h = tt
    answer_fits_in taker (Some r) (Some b) typed h =
        value_fits core func s.running sorts taker r b typed.0 (subst (λ o. GivesResult taker o (Some r)) typed.1 h) typed.1

    answer_fits : (caller : Frame) (w : CallsIt core s.running.func caller) → FitsIn w.func w.answer answer
    answer_fits caller w =
        let typed = (sound.functions s.running.func func here).typed s.running.point stm_at at in
        let gives = (sound.functions caller.func w.func w.here).answers caller.point _ w.at in
        answer_fits_in w.func w.answer a typed (gives func here s.running.point stm_at at a refl)

    resumed_order : (caller : Frame) (rest : List Frame) (w : CallsIt core s.running.func caller) → Calls core caller.func rest → Orderly core (object.resumed core answer caller) rest s.queue
    resumed_order caller rest w calls =
        let called : Stm = record { line = w.line; kind = stm.Call s.running.func w.answer w.args } in
        let same : answer_register (statement_at core caller) ≡ w.answer = answer_is core caller w.func called w.here w.at in
        let was : Orderly core caller rest s.queue = record { sorts = λ f h. subst (λ (g : Func). HasSorts g caller.regs) (same_func core caller.func w.func f w.here h) w.sorts; calls = calls; once = order.once } in
        with_order core w.func caller rest s.queue w.here was (caller.point + 1) s.queue order.once (answer_register (statement_at core caller)) answer (subst (λ (r : Option ℕ). FitsIn w.func r answer) (sym same) (answer_fits caller w))

    go_back_agrees : (waiting : List Frame) → s.waiting ≡ waiting → Agrees core pins (object.go_back core answer waiting left) (counted.go_back core pins answer waiting fewer_numbers left)
    go_back_agrees [] e =
        alters_agree core pins fewer_numbers (λ _ after. fewer_numbers) fewer_numbers (object.go_back core answer [] left) (left_counts, left_counts)
    go_back_agrees (caller ∷ rest) e =
        let calls = subst (λ frames. Calls core s.running.func frames) e order.calls in
        alters_agree core pins fewer_numbers (λ _ after. fewer fewer_numbers (pinned pins caller)) fewer_numbers (object.go_back core answer (caller ∷ rest) left) (left_counts, λ x. after_counts caller rest e x, resumed_order caller rest calls.0 calls.1) where
          after_counts : (caller : Frame) (rest : List Frame) → s.waiting ≡ caller ∷ rest → AreCounts pins (kept (fewer fewer_numbers (pinned pins caller)) (record left { waiting = rest }))
          after_counts caller rest e x =
              let split = subst (λ frames. AreCounts pins (kept fewer_numbers (record left { waiting = frames }))) e left_counts in
              omega (arith, split x, sum_by-cons (λ (frame : Frame). pointers_to x (pinned pins frame)) caller rest)

    end_agrees : (o : Option ℕ) → Agrees core pins (object.end_locals core line answer o s) (counted.end_locals core pins line answer o numbers s)
    end_agrees (Some b) =
        alters_agree core pins numbers (λ _ after. numbers) numbers (object.end_locals core line answer (Some b) s) (counts, counts)
    end_agrees None = go_back_agrees s.waiting refl

    pub return_agrees : (places : ℕ → Bool) → Agrees core pins (object_meaning.act core places line (stm.Return a) s) (counted_meaning.act core pins places line (stm.Return a) numbers s)
    return_agrees places =
        let o = first_held (escapes core answer s locals) locals in
        subst (λ p. Agrees core pins (object.end_locals core line answer o s) (counted.end_locals core pins line answer p numbers s)) escapes_same (end_agrees o)
