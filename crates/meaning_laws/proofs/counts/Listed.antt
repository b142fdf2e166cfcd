-- Where pins stand in the order of their registers, they give the holders in order.
use Rattle.meaning_laws.proofs.Words.Core.{Core, EachStatement, Frame, Func, Holder, State, Stm, Value, is_live, is_pointer_to}
use Rattle.meaning_laws.proofs.Words.Meaning.{Pins, answer_register, counts_at, holders, holds_on, holds_pointer, in_all_waiting, in_registers, in_running, in_waiting, inside_objects, is_live_at, is_live_in, number, pins_of, pointer_in, pointer_of_register, statement_at, takes_answer}
use Rattle.meaning_laws.proofs.Words.Std.{Bool, List, None, Option, Some, [], and_parts, ap, append-nil, arith, cases_lt, cond, enumerate_from, false, false_from_ne_true, filter, flat_map, flat_map-append, get_or, get_or_past, length, map, not, option_map_or, pos, range_with_len, refl, reverse, reverse-append, slice_get, slice_get_within, subst, suc, sym, true, true≢false, zero, ℕ, ⊎_elim, ◌&&◌, ◌++◌, ◌+◌, ◌<◌, ◌∙◌, ◌∷◌, ◌≡◌, ◌≤◌}
use Rattle.hs_base.specs.declared.ends.Holder.TheVariants as holder
use Rattle.core_tree.specs.declared.program.Reg.{Reg as Register}
use Rattle.core_tree.specs.declared.statements.StmKind.TheVariants as stm
use Rattle.meaning_laws.proofs.dangling.Burying.{answer_is}
use Rattle.meaning_laws.proofs.counts.Sorting.{HasSorts, CallsIt, Calls, InOrder}
use Rattle.meaning_laws.proofs.counts.Checks.{points_from}

-- the pinned registers of a frame that point to an object
abbrev pub held_by_pins : Pins → ℕ → Frame → List Holder
held_by_pins pins birth frame =
    map (λ r. holder.Register frame.func r) (filter (λ r. is_pointer_to birth (pointer_of_register frame r)) (pins_of pins frame.func frame.point))

-- the holders of an object as pins give them, without those inside the objects that are left out: objects by birth, then frames
-- from the oldest to the running one
abbrev pub pinned_holders : Pins → State → ℕ → List ℕ → List Holder
pinned_holders pins s birth left =
    inside_objects left birth s.objects ++ flat_map (held_by_pins pins birth) (reverse s.waiting) ++ held_by_pins pins birth s.running

-- the pins of each point are the registers that count there, in their order
abbrev pub AreListed : Core → Pins → Type 0
AreListed core pins =
    (f : ℕ) (func : Func) → slice_get core.funcs f ≡ Some func → EachStatement func.body (λ point stm. pins_of pins f point ≡ filter (counts_at func point stm.kind) (range_with_len 0 (length func.regs)))

-- Filters over places

filter_same : (f g : ℕ → Bool) (a n : ℕ) → ((r : ℕ) → f r ≡ g r) → filter f (range_with_len a n) ≡ filter g (range_with_len a n)
filter_same f g a zero h = refl
filter_same f g a (suc n) h =
    ap (λ c. cond c (a ∷ filter f (range_with_len (a + 1) n)) (filter f (range_with_len (a + 1) n))) (h a)
    ∙ ap (λ rs. cond (g a) (a ∷ rs) rs) (filter_same f g (a + 1) n h)

twice : (f g : ℕ → Bool) (x : ℕ) (xs : List ℕ) (c : Bool) → f x ≡ c → filter g (cond c (x ∷ xs) xs) ≡ cond (c && g x) (x ∷ filter g xs) (filter g xs)
twice f g x xs true e = refl
twice f g x xs false e = refl

filter_twice : (f g : ℕ → Bool) (a n : ℕ) → filter g (filter f (range_with_len a n)) ≡ filter (λ r. f r && g r) (range_with_len a n)
filter_twice f g a zero = refl
filter_twice f g a (suc n) =
    twice f g a (filter f (range_with_len (a + 1) n)) (f a) refl
    ∙ ap (λ rs. cond (f a && g a) (a ∷ rs) rs) (filter_twice f g (a + 1) n)

-- none passes from a place on
filter_none : (f : ℕ → Bool) (a n : ℕ) → ((r : ℕ) → a ≤ r → f r ≡ false) → filter f (range_with_len a n) ≡ []
filter_none f a zero h = refl
filter_none f a (suc n) h =
    ap (λ c. cond c (a ∷ filter f (range_with_len (a + 1) n)) (filter f (range_with_len (a + 1) n))) (h a (omega arith))
    ∙ filter_none f (a + 1) n (λ r le. h r (omega (arith, le)))

filter_longer : (f : ℕ → Bool) (a m n : ℕ) → ((r : ℕ) → a ≤ r → f r ≡ true → (r < a + m) × (r < a + n)) → filter f (range_with_len a m) ≡ filter f (range_with_len a n)
filter_longer f a zero n h =
    sym (filter_none f a n (λ r le. false_from_ne_true _ (λ t. let b = (h r le t).0 in absurd (omega (arith, b, le)))))
filter_longer f a (suc m) zero h =
    filter_none f a (suc m) (λ r le. false_from_ne_true _ (λ t. let b = (h r le t).1 in absurd (omega (arith, b, le))))
filter_longer f a (suc m) (suc n) h =
    ap (λ rs. cond (f a) (a ∷ rs) rs) (filter_longer f (a + 1) m n (λ r le t. let b = h r (omega (arith, le)) t in (omega (arith, b.0), omega (arith, b.1))))

-- items of a list by their places
module _ (f : ℕ × Value → Bool) (g : ℕ → Bool) (make : ℕ → Holder) where
  places : (a : ℕ) (values : List Value) (d : Value) → ((k : ℕ) → k < length values → f (a + k, get_or values k d) ≡ g (a + k)) → map (λ (at : ℕ × Value). make at.0) (filter f (enumerate_from a values)) ≡ map make (filter g (range_with_len a (length values)))
  places a [] d h = refl
  places a (v ∷ values) d h =
      let here : a + 0 ≡ a = omega arith in
      let first : f (a, v) ≡ g a = subst (λ i. f (i, v) ≡ g i) here (h 0 (omega arith)) in
      let rest = places (a + 1) values d (λ k lt. let there : a + suc k ≡ a + 1 + k = omega arith in subst (λ i. f (i, get_or values k d) ≡ g i) there (h (suc k) (omega (arith, lt)))) in
      split (f (a, v)) ∙ ap (λ hs. cond (f (a, v)) (make a ∷ hs) hs) rest ∙ sym (split_too (f (a, v))) ∙ ap (λ c. map make (cond c (a ∷ filter g (range_with_len (a + 1) (length values))) (filter g (range_with_len (a + 1) (length values))))) first where
        split : (c : Bool) → map (λ (at : ℕ × Value). make at.0) (cond c ((a, v) ∷ filter f (enumerate_from (a + 1) values)) (filter f (enumerate_from (a + 1) values))) ≡ cond c (make a ∷ map (λ (at : ℕ × Value). make at.0) (filter f (enumerate_from (a + 1) values))) (map (λ (at : ℕ × Value). make at.0) (filter f (enumerate_from (a + 1) values)))
        split true = refl
        split false = refl

        split_too : (c : Bool) → map make (cond c (a ∷ filter g (range_with_len (a + 1) (length values))) (filter g (range_with_len (a + 1) (length values)))) ≡ cond c (make a ∷ map make (filter g (range_with_len (a + 1) (length values)))) (map make (filter g (range_with_len (a + 1) (length values))))
        split_too true = refl
        split_too false = refl

-- Registers

both_tests : (counts test points : Bool) → (points ≡ true → counts ≡ test) → (counts && points) ≡ (test && points)
both_tests counts test true h = ap (λ b. b && true) (h refl)
both_tests true true false h = refl
both_tests true false false h = refl
both_tests false true false h = refl
both_tests false false false h = refl

pub holder_within : (func : Func) (r : ℕ) → holds_pointer func r ≡ true → r < length func.regs
holder_within func r h = by_option (slice_get func.regs r) refl h where
  by_option : (o : Option Register) → slice_get func.regs r ≡ o → option_map_or (λ (reg : Register). reg.pointer) o false ≡ true → r < length func.regs
  by_option None e h = absurd (true≢false (sym h))
  by_option (Some reg) e h = slice_get_within func.regs r reg e

-- what frames hold, oldest first, where one is newer than all
pub turned : (f : Frame → List Holder) (frame : Frame) (waiting : List Frame) → flat_map f (reverse (frame ∷ waiting)) ≡ flat_map f (reverse waiting) ++ f frame
turned f frame waiting =
    ap (flat_map f) (reverse-append (frame ∷ []) waiting)
    ∙ flat_map-append f (reverse waiting) (frame ∷ [])
    ∙ ap (λ hs. flat_map f (reverse waiting) ++ hs) (append-nil (f frame))

module _ (core : Core) (pins : Pins) (listed : AreListed core pins) (x : ℕ) where
  module _ (frame : Frame) (func : Func) (here : slice_get core.funcs frame.func ≡ Some func) (stm : Stm) (at : slice_get func.body frame.point ≡ Some stm) (sorts : HasSorts func frame.regs) where
    abbrev points : ℕ → Bool
    points r = is_pointer_to x (pointer_of_register frame r)

    abbrev test : ℕ → Bool
    test r = counts_at func frame.point stm.kind r

    points_within : (r : ℕ) → points r ≡ true → r < length frame.regs
    points_within r h =
        ⊎_elim
        (λ lt. lt)
        (λ le. absurd (true≢false (sym h ∙ ap (λ v. is_pointer_to x (pointer_in v)) (get_or_past frame.regs r (number (pos 0)) le))))
        (cases_lt r (length frame.regs))

    live_is : (r : ℕ) → is_live_at core frame r ≡ is_live func.body frame.point r
    live_is r = ap (λ o. is_live_in o frame.point r) here

    by_pins : (counts : ℕ → Bool) → ((r : ℕ) → holds_pointer func r ≡ true → counts r ≡ test r) → in_registers counts x frame ≡ held_by_pins pins x frame
    by_pins counts right =
        let make = λ (r : ℕ). holder.Register frame.func r in
        let n = length func.regs in
        let of_frame = places (λ (i : ℕ × Value). counts i.0 && is_pointer_to x (pointer_in i.1)) (λ r. counts r && points r) make 0 frame.regs (number (pos 0)) (λ k lt. let there : k ≡ 0 + k = omega arith in ap (λ i. counts (0 + k) && is_pointer_to x (pointer_in (get_or frame.regs i (number (pos 0))))) there) in
        let tests = filter_same (λ r. counts r && points r) (λ r. test r && points r) 0 (length frame.regs) (λ r. both_tests (counts r) (test r) (points r) (λ p. right r (points_from func frame sorts x r p))) in
        let lengths = filter_longer (λ r. test r && points r) 0 (length frame.regs) n (λ r le t. let p = (and_parts (test r) (points r) t).1 in let one = points_within r p in let other = holder_within func r (points_from func frame sorts x r p) in (omega (arith, one), omega (arith, other))) in
        of_frame
        ∙ ap (map make) (tests ∙ lengths ∙ sym (filter_twice test points 0 n))
        ∙ ap (λ rs. map make (filter points rs)) (sym (listed frame.func func here frame.point stm at))

    pub running_by_pins : ((r : ℕ) → counts_at func frame.point stm.kind r ≡ holds_on func frame.point r) → in_running core x frame ≡ held_by_pins pins x frame
    running_by_pins all =
        by_pins (is_live_at core frame) (λ r h. live_is r ∙ sym (all r ∙ ap (λ b. b && is_live func.body frame.point r) h))

  waiting_by_pins : (callee : ℕ) (frame : Frame) → CallsIt core callee frame → in_waiting core x frame ≡ held_by_pins pins x frame
  waiting_by_pins callee frame w =
      let called : Stm = record { line = w.line; kind = stm.Call callee w.answer w.args } in
      let answer = answer_register (statement_at core frame) in
      let same : answer ≡ w.answer = answer_is core frame w.func called w.here w.at in
      by_pins frame w.func w.here called w.at w.sorts (λ r. is_live_at core frame r && not (takes_answer answer r)) (λ r h.
      ap (λ b. b && not (takes_answer answer r)) (live_is frame w.func w.here called w.at w.sorts r)
      ∙ ap (λ a. is_live w.func.body frame.point r && not (takes_answer a r)) same
      ∙ sym (ap (λ b. b && is_live w.func.body frame.point r && not (takes_answer w.answer r)) h))

  all_by_pins : (callee : ℕ) (waiting : List Frame) → Calls core callee waiting → in_all_waiting core x waiting ≡ flat_map (held_by_pins pins x) (reverse waiting)
  all_by_pins callee [] h = refl
  all_by_pins callee (frame ∷ waiting) h =
      turned (in_waiting core x) frame waiting
      ∙ ap (λ hs. hs ++ in_waiting core x frame) (all_by_pins frame.func waiting h.1)
      ∙ ap (λ hs. flat_map (held_by_pins pins x) (reverse waiting) ++ hs) (waiting_by_pins callee frame h.0)
      ∙ sym (turned (held_by_pins pins x) frame waiting)

  -- at a statement where an object may be freed
  pub holders_by_pins : (s : State) (func : Func) → slice_get core.funcs s.running.func ≡ Some func → (stm : Stm) → slice_get func.body s.running.point ≡ Some stm → ((r : ℕ) → counts_at func s.running.point stm.kind r ≡ holds_on func s.running.point r) → InOrder core s → (left : List ℕ) → holders core s x left ≡ pinned_holders pins s x left
  holders_by_pins s func here stm at all order left =
      ap (λ hs. inside_objects left x s.objects ++ hs ++ in_running core x s.running) (all_by_pins s.running.func s.waiting order.calls)
      ∙ ap (λ hs. inside_objects left x s.objects ++ flat_map (held_by_pins pins x) (reverse s.waiting) ++ hs) (running_by_pins s.running func here stm at (order.sorts func here) all)
