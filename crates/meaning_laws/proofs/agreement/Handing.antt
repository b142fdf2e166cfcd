-- The instructions that hand over the operands of a statement.
use Rattle.meaning_laws.proofs.Words.Core.{Atom, Code, Ending, Event, Frame, Instr, IsNumber, State, Value, after_zero, has_place}
use Rattle.meaning_laws.proofs.Words.Meaning.{CodeState, act_at, at_point, hand, hand_of, hand_or_act, handed_value, holds_stale, instr, number, testing, unsigned, value_of}
use Rattle.meaning_laws.proofs.Words.Std.{Bool, List, Some, [], ap, append-nil, append_assoc, arith, cond, false, int_lt, int_rem_euclid_is, ints, length, list_any, map, negsuc, or_parts, pos, refl, slice_get, slice_index, subst, suc, sym, true, unsigned_abs, ℕ, ℤ, ◌++◌, ◌+◌, ◌-ℤ◌, ◌<◌, ◌^◌, ◌∙◌, ◌∷◌, ◌≡◌}
use Rattle.hs_base.specs.Runs as runs
use Rattle.core_tree.specs.declared.statements.Atom.TheVariants as atom
use Rattle.object_meaning.specs.code.CodeMeaning.{step}
use Rattle.flat_code.specs.declared.instructions.Op.TheVariants as op
use Rattle.meaning_laws.proofs.agreement.Following.{going, after_first}
use Rattle.meaning_laws.proofs.form.Instructions.{InRange, AllInRange}

-- a number from 2^63 on is handed over by its low 64 bits
large : (n : ℕ) → n < 2 ^ 64 → unsigned (pos n -ℤ pos (2 ^ 64)) ≡ pos n
large n lt =
    ap (λ z. pos (unsigned_abs z)) (int_rem_euclid_is (pos n -ℤ pos (2 ^ 64)) (pos (2 ^ 64)) (2 ^ 64) 1 n (omega arith) refl (omega (arith, ints)))
    ∙ ap pos (omega arith)

-- one that may be signed, and one that is not
abbrev handing : ℤ → Bool → Instr
handing n is_small = cond is_small (instr op.HandInt 0 0 0 n) (instr op.HandUnsigned 0 0 0 (n -ℤ pos (2 ^ 64)))

handed_by : (frame : Frame) (n : ℤ) (is_small : Bool) → int_lt n (pos (2 ^ 63)) ≡ is_small → IsNumber n → handed_value frame (handing n is_small) (handing n is_small).op ≡ Some (number n)
handed_by frame n true e h = refl
handed_by frame (pos n) false e h = ap (λ z. Some (number z)) (large n (omega (arith, ints, h.1)))
handed_by frame (negsuc n) false e h = absurd (cc)

handed_integer : (frame : Frame) (n : ℤ) → IsNumber n → handed_value frame (hand_of (atom.Int n)) (hand_of (atom.Int n)).op ≡ Some (number n)
handed_integer frame n h = handed_by frame n (int_lt n (pos (2 ^ 63))) refl h

pub handed_is : (frame : Frame) (a : Atom) → InRange a → handed_value frame (hand_of a) (hand_of a).op ≡ Some (value_of frame a)
handed_is frame (atom.Int n) h = handed_integer frame n h
handed_is frame (atom.Reg r) h = refl
handed_is frame atom.Null h = refl
handed_is frame (atom.Static k) h = refl
handed_is frame (atom.Mem k) h = refl

-- a point does not matter to an operand
pub same_value : (frame : Frame) (point : ℕ) (a : Atom) → value_of (record frame { point = point }) a ≡ value_of frame a
same_value frame point (atom.Int n) = refl
same_value frame point (atom.Reg r) = refl
same_value frame point atom.Null = refl
same_value frame point (atom.Static k) = refl
same_value frame point (atom.Mem k) = refl

module _ (t : State) (numbers : ℕ → ℕ) where
  -- at an instruction, with some values handed over
  abbrev pub holding : ℕ → List Value → CodeState
  holding point values = record { state = at_point t point; handed = values; numbers = numbers }

module _ (code : Code) (fits : List Event → Event → Bool) (refused : Event → Ending) (heap : ℕ) (t : State) (numbers : ℕ → ℕ) where
  abbrev pub Hands : ℕ → List Atom → Type 0
  Hands point atoms = (k : ℕ) (a : Atom) → slice_get atoms k ≡ Some a → slice_get code.instrs (point + k) ≡ Some (hand_of a)

  one_handed : (trace : List Event) (point : ℕ) (values : List Value) (a : Atom) → slice_get code.instrs point ≡ Some (hand_of a) → InRange a → holds_stale t.objects (value_of t.running a) ≡ false → runs.led trace (testing fits refused (step code heap) trace (holding t numbers point values)) ≡ going trace (holding t numbers (point + 1) (values ++ value_of t.running a ∷ []))
  one_handed trace point values a at range fresh =
      let c = holding t numbers point values in
      let line = slice_index code.lines point in
      let i = hand_of a in
      let v = value_of t.running a in
      let is = handed_is c.state.running a range ∙ ap (λ w. Some w) (same_value t.running point a) in
      ap (λ o. runs.led trace (runs.tested fits refused trace (act_at code (has_place heap trace) o c))) at
      ∙ ap (λ o. runs.led trace (runs.tested fits refused trace (hand_or_act code (has_place heap trace) line i o c))) is
      ∙ ap (λ b. runs.led trace (runs.tested fits refused trace (hand b v c))) fresh
      ∙ ap (λ tr. going tr (holding t numbers (point + 1) (values ++ v ∷ []))) (append-nil trace)

  -- all operands are handed over, each by one instruction
  pub all_handed : (trace : List Event) (point : ℕ) (values : List Value) (atoms : List Atom) → Hands point atoms → AllInRange atoms → list_any (holds_stale t.objects) (map (value_of t.running) atoms) ≡ false → runs.after (testing fits refused (step code heap)) (going trace (holding t numbers point values)) (length atoms) ≡ going trace (holding t numbers (point + length atoms) (values ++ map (value_of t.running) atoms))
  all_handed trace point values [] at range fresh =
      let same : point + 0 ≡ point = omega arith in
      after_zero (testing fits refused (step code heap)) (going trace (holding t numbers point values)) ∙ ap (λ vs. going trace (holding t numbers point vs)) (sym (append-nil values)) ∙ ap (λ p. going trace (holding t numbers p (values ++ []))) (sym same)
  all_handed trace point values (a ∷ atoms) at range fresh =
      let v = value_of t.running a in
      let here : point + 0 ≡ point = omega arith in
      let both = or_parts (holds_stale t.objects v) (list_any (holds_stale t.objects) (map (value_of t.running) atoms)) fresh in
      let first = one_handed trace point values a (subst (λ p. slice_get code.instrs p ≡ Some (hand_of a)) here (at 0 a refl)) range.0 both.0 in
      let there : Hands (point + 1) atoms = λ k b e. let sum : point + suc k ≡ point + 1 + k = omega arith in subst (λ p. slice_get code.instrs p ≡ Some (hand_of b)) sum (at (suc k) b e) in
      let rest = all_handed trace (point + 1) (values ++ v ∷ []) atoms there range.1 both.1 in
      let sum : point + 1 + length atoms ≡ point + suc (length atoms) = omega arith in
      after_first (testing fits refused (step code heap)) (going trace (holding t numbers point values)) (length atoms)
      ∙ ap (λ r. runs.after (testing fits refused (step code heap)) r (length atoms)) first
      ∙ rest
      ∙ ap (λ p. going trace (holding t numbers p ((values ++ v ∷ []) ++ map (value_of t.running) atoms))) sum
      ∙ ap (λ vs. going trace (holding t numbers (point + suc (length atoms)) vs)) (append_assoc values (v ∷ []) (map (value_of t.running) atoms))
