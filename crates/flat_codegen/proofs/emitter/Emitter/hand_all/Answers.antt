use Rattle.std.proofs.lemmas.Int.{ints, to_z-of_z}
use Rattle.std.specs.Prelude.{All, pos, FitsSigned}
use Rattle.std.specs.Int.{w128}
use Rattle.std.proofs.Common.{sym, [], ◌∷◌, subst, flat_map, arith}
use Rattle.core_tree.specs.Statements.{operands}
use Rattle.core_tree.specs.Sound.{IsNumber, atom_numbers, own_numbers}
use Rattle.flat_codegen.proofs.Gets.{all_left, all_right}
use Rattle.flat_codegen.proofs.emitter.Emitter.hand_all.Goals as goal

pub hand_operands-requires : goal.hand_operands-requires
hand_operands-requires c =
    all_left IsNumber (flat_map atom_numbers (operands c.args.kind.now)) (own_numbers c.args.kind.now) c.requires.numbers

pub hand_integer-requires : goal.hand_integer-requires
hand_integer-requires c =
    let all : All IsNumber (own_numbers c.args.kind.now) = all_right IsNumber (flat_map atom_numbers (operands c.args.kind.now)) (own_numbers c.args.kind.now) c.requires.numbers in
    let one : All IsNumber (c.in-Some.number ∷ []) = subst (All IsNumber) c.in-Some.ensures all in
    let number : IsNumber c.in-Some.number = one 0 (pos 0) (omega arith) in
    let fits : FitsSigned w128 c.in-Some.number = omega (arith, ints, number.0, number.1) in
    subst IsNumber (sym (to_z-of_z w128 c.in-Some.number fits)) number
