-- A statement that was just emitted stands at the end.
use Rattle.std.proofs.Common.{◌≡◌, ℕ, ◌+◌, ◌<◌, suc, zero, List, [], ◌∷◌, ◌++◌, Option, Some, None, refl, ap, sym, ◌∙◌, length, map, arith}
use Rattle.std.specs.Prelude.{slice_get, pos}
use Rattle.std.specs.Option.{option_to_list}
use Rattle.c_types.specs.declared.layouts.Layout.{Layout}
use Rattle.core_tree.specs.declared.program.Core.{Core}
use Rattle.core_tree.specs.declared.program.Func.{Func}
use Rattle.core_tree.specs.declared.statements.Atom.{Atom}
use Rattle.core_tree.specs.declared.statements.Stm.{Stm}
use Rattle.core_tree.specs.declared.statements.StmKind.{StmKind}
use Rattle.core_tree.specs.declared.statements.StmKind.TheVariants as stm
use Rattle.core_tree.specs.Sound.{element_layouts}
use Rattle.flat_code.specs.declared.instructions.Instr.{Instr}
use Rattle.flat_code.specs.declared.instructions.Op.{Op}
use Rattle.flat_code.specs.declared.instructions.Op.TheVariants as op
use Rattle.flat_code.specs.declared.program.Code.{Code}
use Rattle.object_meaning.specs.compiled.Handing.{instr, hand_of, handed_atoms, code_length}
use Rattle.object_meaning.specs.compiled.Places.{place_of}
use Rattle.object_meaning.specs.compiled.Doing.{Does}
use Rattle.object_meaning.specs.compiled.Compiled.{IsStatement, format_of}
use Rattle.flat_codegen.specs.Emitting.{doing, block, with_statement}
use Rattle.flat_codegen.proofs.Gets.{get_next, get_part}
use Rattle.flat_codegen.proofs.Kept.{HasFormat}

module _ (core : Core) (code : Code) (f : ℕ) (func : Func) (place : ℕ → ℕ) (n m : ℕ) where
  -- the numbers of the layout and of the format of a statement are those
  record Numbered (kind : StmKind) : Type 0 where
    layouts : (t : Layout) → element_layouts kind ≡ t ∷ [] → slice_get code.layouts n ≡ Some t
    formats : (t : List ℕ) → format_of func kind ≡ Some t → slice_get code.formats m ≡ Some t

  -- the place of a target
  goes : ((l : ℕ) → place l ≡ place_of core f func.body l) → (o : Op) (l : ℕ) → instr o 0 (place l) 0 (pos 0) ≡ instr o 0 (place_of core f func.body l) 0 (pos 0)
  goes right o l = ap (λ (b : ℕ). instr o 0 b 0 (pos 0)) (right l)

  -- the instruction does what the statement does
  does_it : ((l : ℕ) → place l ≡ place_of core f func.body l) → (kind : StmKind) → HasFormat func kind → Numbered kind → Does core code f func kind (doing place n m kind)
  does_it right (stm.Jump l) s h = goes right op.Jump l
  does_it right (stm.Zero a l) s h = goes right op.Zero l
  does_it right (stm.Case a v l) s h = goes right op.Case l
  does_it right (stm.Loop l) s h = goes right op.Loop l
  does_it right (stm.Call g None args) s h = refl
  does_it right (stm.Call g (Some r) args) s h = refl
  does_it right (stm.Lib name None args) s h = refl
  does_it right (stm.Lib name (Some r) args) s h = refl
  does_it right (stm.Malloc r a t) s h = (n, refl, h.layouts t refl)
  does_it right (stm.Calloc r a b t) s h = (n, refl, h.layouts t refl)
  does_it right (stm.Realloc r p a t) s h = (n, refl, h.layouts t refl)
  does_it right (stm.Printf r k args) s h = (m, refl, h.formats s.0 s.1 ∙ sym s.1)
  does_it right (stm.Return None) s h = refl
  does_it right (stm.Return (Some a)) s h = refl
  does_it right kind s h = refl

-- each of some instructions has their line
lines_alike : (line : ℕ) (is : List Instr) (k : ℕ) → k < length is → slice_get (map (λ _. line) is) k ≡ Some line
lines_alike line [] k h = absurd (omega arith)
lines_alike line (i ∷ is) zero h = refl
lines_alike line (i ∷ is) (suc k) h = lines_alike line is k (omega arith)

-- an operand is handed over by the instruction at its place
hand_at : (atoms : List Atom) (i : Instr) (k : ℕ) (a : Atom) → slice_get atoms k ≡ Some a → slice_get (map hand_of atoms ++ i ∷ []) k ≡ Some (hand_of a)
hand_at [] i k a e = cc
hand_at (b ∷ atoms) i zero a e = let same : b ≡ a = cc in ap (λ (x : Atom). Some (hand_of x)) same
hand_at (b ∷ atoms) i (suc k) a e = hand_at atoms i k a e

-- behind all operands stands what takes them
taker_at : (atoms : List Atom) (i : Instr) → slice_get (map hand_of atoms ++ i ∷ []) (length atoms) ≡ Some i
taker_at [] i = refl
taker_at (b ∷ atoms) i = taker_at atoms i

-- how many instructions a statement has
block_length : (atoms : List Atom) (i : Instr) → length (map hand_of atoms ++ i ∷ []) ≡ length atoms + 1
block_length [] i = refl
block_length (b ∷ atoms) i = omega (arith, block_length atoms i)

pub length-block : (place : ℕ → ℕ) (n m : ℕ) (kind : StmKind) → length (block place n m kind) ≡ code_length kind
length-block place n m kind = block_length (handed_atoms kind) (doing place n m kind)

-- a layout and a format that were just added have the numbers that were next
numbered : (core : Core) (code : Code) (f : ℕ) (func : Func) (place : ℕ → ℕ) (stm : Stm) (pins : List ℕ) →
    Numbered core (with_statement place func code stm pins) f func place (length code.layouts) (length code.formats) stm.kind
numbered core code f func place stm pins = record {
  layouts = λ t e. ap (λ (ts : List Layout). slice_get (code.layouts ++ ts) (length code.layouts)) e ∙ get_next code.layouts t [];
  formats = λ t e. ap (λ (o : Option (List ℕ)). slice_get (code.formats ++ option_to_list o) (length code.formats)) e ∙ get_next code.formats t [];
}

-- a statement that was just emitted stands there
pub statement_stands : (core : Core) (code : Code) (f : ℕ) (func : Func) (place : ℕ → ℕ) (stm : Stm) (pins : List ℕ) → ((l : ℕ) → place l ≡ place_of core f func.body l) →
    HasFormat func stm.kind → length code.lines ≡ length code.instrs → IsStatement core (with_statement place func code stm pins) f func (length code.instrs) stm
statement_stands core code f func place stm pins right s same =
    let kind = stm.kind in
    let all = block place (length code.layouts) (length code.formats) kind in
    let taker = doing place (length code.layouts) (length code.formats) kind in
    record {
      hands = λ k a e. get_part code.instrs all (length code.instrs) k (hand_of a) refl (hand_at (handed_atoms kind) taker k a e);
      does = (taker, get_part code.instrs all (length code.instrs) (length (handed_atoms kind)) taker refl (taker_at (handed_atoms kind) taker), does_it core (with_statement place func code stm pins) f func place (length code.layouts) (length code.formats) right kind s (numbered core code f func place stm pins));
      lines = λ k h. get_part code.lines (map (λ _. stm.line) all) (length code.instrs) k stm.line (sym same) (lines_alike stm.line all k (let n : length all ≡ code_length kind = length-block place (length code.layouts) (length code.formats) kind in omega arith));
    }
