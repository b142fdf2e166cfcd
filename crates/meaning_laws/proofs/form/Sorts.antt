-- What is handed over for an operand has the operand's sort.
use Rattle.meaning_laws.proofs.Words.Core.{Atom, Code, Core, Entry, Func, Instr, Integer, Mem, Reg, Sort, atom_sort, handed_sort, hands, parameter_sorts, register_sort, register_sorts, sort_of}
use Rattle.meaning_laws.proofs.Words.Meaning.{IsCompiled, IsEntry, Pins, hand_of, instr}
use Rattle.meaning_laws.proofs.Words.Std.{Bool, List, Option, Some, [], ap, arith, cond, false, int_lt, length, length-map, map, option_map, pos, refl, slice_get, suc, sym, take, take-map, true, zero, ℕ, ℤ, ◌-ℤ◌, ◌^◌, ◌∙◌, ◌∷◌, ◌≡◌}
use Rattle.core_tree.specs.Sorts.{Pointer}
use Rattle.core_tree.specs.declared.statements.Atom.TheVariants as atom
use Rattle.flat_code.specs.declared.instructions.Op.TheVariants as op
use Rattle.core_tree.specs.Sorts as core_sorts

-- What holds of each instruction that hands a value over holds of that of each operand.

module _ (P : Instr → Type 0) (registers : (r : ℕ) → P (instr op.HandReg r 0 0 (pos 0))) (integers : (n : ℤ) → P (instr op.HandInt 0 0 0 n)) (large : (n : ℤ) → P (instr op.HandUnsigned 0 0 0 n)) (null : P (instr op.HandNull 0 0 0 (pos 0))) (statics : (k : ℕ) → P (instr op.HandStatic k 0 0 (pos 0))) (locals : (k : ℕ) → P (instr op.HandLocal k 0 0 (pos 0))) where
  each_integer : (b : Bool) (n m : ℤ) → P (cond b (instr op.HandInt 0 0 0 n) (instr op.HandUnsigned 0 0 0 m))
  each_integer true n m = integers n
  each_integer false n m = large m

  pub each_hand : (a : Atom) → P (hand_of a)
  each_hand (atom.Reg r) = registers r
  each_hand (atom.Int n) = each_integer (int_lt n (pos (2 ^ 63))) n (n -ℤ pos (2 ^ 64))
  each_hand atom.Null = null
  each_hand (atom.Static k) = statics k
  each_hand (atom.Mem k) = locals k

-- What is handed over for an operand has the operand's sort.

abbrev is_pointer : Reg → Bool
is_pointer reg = reg.pointer

same_sorts : (regs : List Reg) → map sort_of (map is_pointer regs) ≡ map core_sorts.sort_of regs
same_sorts [] = refl
same_sorts (reg ∷ regs) = ap (λ sorts. sort_of reg.pointer ∷ sorts) (same_sorts regs)

same_sort : (regs : List Reg) (r : ℕ) → slice_get (map sort_of (map is_pointer regs)) r ≡ option_map core_sorts.sort_of (slice_get regs r)
same_sort [] r = refl
same_sort (reg ∷ regs) zero = refl
same_sort (reg ∷ regs) (suc r) = same_sort regs r

abbrev there : {X : Type 0} → List X → ℕ → Option Sort
there xs k = option_map (λ _. Pointer) (slice_get xs k)

-- lists of one length have elements at the same places
same_there : {X Y : Type 0} (xs : List X) (ys : List Y) (k : ℕ) → length xs ≡ length ys → there xs k ≡ there ys k
same_there [] [] k e = refl
same_there [] (y ∷ ys) k e = absurd (omega arith)
same_there (x ∷ xs) [] k e = absurd (omega arith)
same_there (x ∷ xs) (y ∷ ys) zero e = refl
same_there (x ∷ xs) (y ∷ ys) (suc k) e = same_there xs ys k (omega arith)

pub hands_over : (a : Atom) → hands (hand_of a).op ≡ true
hands_over a = each_hand (λ (i : Instr). hands i.op ≡ true) (λ r. refl) (λ n. refl) (λ n. refl) refl (λ k. refl) (λ k. refl) a

module _ (core : Core) {pins : Pins} (code : Code) (is : IsCompiled core pins code) (f : ℕ) (func : Func) (entry : Entry) (e : IsEntry core code f func entry) where
  pub registers_are : register_sorts entry ≡ map core_sorts.sort_of func.regs
  registers_are = ap (map sort_of) e.kinds ∙ same_sorts func.regs

  pub register_is : (r : ℕ) → register_sort entry r ≡ core_sorts.register_sort func r
  register_is r = ap (λ kinds. slice_get (map sort_of kinds) r) e.kinds ∙ same_sort func.regs r

  pub kinds_are : length entry.kinds ≡ length func.regs
  kinds_are = ap length e.kinds ∙ length-map func.regs is_pointer

  pub mems_are : length entry.mems ≡ length func.mems
  mems_are =
      sym (length-map entry.mems (slice_get code.layouts)) ∙ ap length e.mems ∙ length-map func.mems (λ (m : Mem). Some m.layout)

  pub parameters_are : parameter_sorts entry ≡ map core_sorts.sort_of (take func.params func.regs)
  parameters_are =
      ap (λ n. take n (register_sorts entry)) e.params ∙ ap (take func.params) registers_are ∙ take-map core_sorts.sort_of func.params func.regs

  handed_integer : (b : Bool) (n m : ℤ) → handed_sort code entry (cond b (instr op.HandInt 0 0 0 n) (instr op.HandUnsigned 0 0 0 m)) (cond b (instr op.HandInt 0 0 0 n) (instr op.HandUnsigned 0 0 0 m)).op ≡ Some Integer
  handed_integer true n m = refl
  handed_integer false n m = refl

  pub handed_is : (a : Atom) → handed_sort code entry (hand_of a) (hand_of a).op ≡ atom_sort core func a
  handed_is (atom.Reg r) = register_is r
  handed_is (atom.Int n) = handed_integer (int_lt n (pos (2 ^ 63))) n (n -ℤ pos (2 ^ 64))
  handed_is atom.Null = refl
  handed_is (atom.Static k) = same_there code.statics core.statics k is.few_statics
  handed_is (atom.Mem k) = same_there entry.mems func.mems k mems_are
