-- The lists of the code of a sound core are short.
use Rattle.meaning_laws.proofs.Words.Core.{AreShort, Code, Core, Func, IsShort, IsSound, Stm, StmKind, code_size, operands}
use Rattle.meaning_laws.proofs.Words.Meaning.{IsCompiled, Pins, code_length}
use Rattle.meaning_laws.proofs.Words.Std.{List, [], arith, length, refl, sum_by, sum_by-cons, sum_by-le-sum_by, ℕ, ◌*◌, ◌+◌, ◌∷◌, ◌≡◌, ◌≤◌}
use Rattle.core_tree.specs.declared.statements.StmKind.TheVariants as stm
use Rattle.meaning_laws.proofs.form.Parts.{before_all}
use Rattle.meaning_laws.proofs.form.Places.{weight, func_length}
use Rattle.meaning_laws.proofs.form.Sorts.{kinds_are, mems_are}
use Rattle.meaning_laws.proofs.form.Spots.{owner}
use Rattle.meaning_laws.proofs.form.Tables.{formats_are_short}

twice : {X : Type 0} (f : X → ℕ) (xs : List X) → sum_by (λ x. f x + f x) xs ≡ sum_by f xs + sum_by f xs
twice f [] = refl
twice f (x ∷ xs) = omega (arith, sum_by-cons f x xs, sum_by-cons (λ x. f x + f x) x xs, twice f xs)

abbrev size : Stm → ℕ
size stm = 1 + length (operands stm.kind)

-- a statement has at most one instruction more than it has operands, beside its own
kind_is_short : (kind : StmKind) → code_length kind ≤ (1 + length (operands kind)) + (1 + length (operands kind))
kind_is_short (stm.Off r p c) = omega arith
kind_is_short (stm.Case a v l) = omega arith
kind_is_short (stm.Copy p q n) = omega arith
kind_is_short (stm.Clear p n) = omega arith
kind_is_short kind = omega arith

func_is_short : (func : Func) → func_length func ≤ code_size func + code_size func
func_is_short func =
    let less = sum_by-le-sum_by weight (λ (s : Stm). size s + size s) func.body (λ s. kind_is_short s.kind) in
    omega (arith, less, twice size func.body)

module _ (core : Core) {pins : Pins} (code : Code) (is : IsCompiled core pins code) where
  -- at most two for each statement and each operand, and the first one
  instrs_are_few : length code.instrs ≤ 1 + (sum_by code_size core.funcs + sum_by code_size core.funcs)
  instrs_are_few =
      let less = sum_by-le-sum_by func_length (λ (func : Func). code_size func + code_size func) core.funcs func_is_short in
      omega (arith, is.few_instrs, before_all func_length core.funcs, less, twice code_size core.funcs)

  -- and so at most 14 for each, one for each function and one at the start
  pub few_instructions : length code.instrs ≤ 14 * sum_by code_size core.funcs + length core.funcs + 1
  few_instructions = omega (arith, instrs_are_few)

module _ (core : Core) {pins : Pins} (code : Code) (sound : IsSound core) (is : IsCompiled core pins code) where
  instrs_are_short : IsShort code.instrs
  instrs_are_short = omega (arith, instrs_are_few core code is, sound.code)

  pub lists_are_short : IsShort code.layouts → IsShort code.formats → AreShort code
  lists_are_short few_layouts few_formats =
      record {
        instrs = instrs_are_short;
        funcs = omega (arith, is.few_funcs, sound.short_funcs);
        registers = λ f entry listed.
            let o = owner core code is f entry listed in
            let short = sound.short f o.func o.here in
            (omega (arith, short.regs, kinds_are core code is f o.func entry o.matches), omega (arith, short.mems, mems_are core code is f o.func entry o.matches));
        statics = omega (arith, is.few_statics, sound.short_statics);
        layouts = few_layouts;
        formats = (few_formats, formats_are_short core code sound is);
      }
