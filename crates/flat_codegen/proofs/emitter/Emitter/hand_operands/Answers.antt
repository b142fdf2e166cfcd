use Rattle.std.proofs.Common.{sym, arith}
use Rattle.std.proofs.lemmas.Grind.{common_steps}
use Rattle.std.proofs.lemmas.Option.{slice_get_cases}
use Rattle.core_tree.specs.Statements.{operands}
use Rattle.core_tree.specs.Sound.{IsNumber, atom_numbers}
use Rattle.flat_codegen.proofs.Gets.{all_of_each}
use Rattle.flat_codegen.proofs.Stepping.{hands_more}
use Rattle.flat_codegen.proofs.emitter.Emitter.hand_operands.Goals as goal
use Rattle.flat_codegen.proofs.emitter.Emitter.hand_operands.Goals.{in-Some+in_ok-hand, in_default}

pub hand-requires : goal.hand-requires
hand-requires c =
    all_of_each IsNumber atom_numbers (operands c.args.kind.now) c.loop-place.place c.in-Some.atom c.requires (sym c.in-Some.ensures)

pub loop-place-preserved : goal.loop-place-preserved
loop-place-preserved c =
    elim c.match-operand.branch [
      | in-Some+in_ok-hand w ↦
          let more = hands_more c.args.self.now.code c.args.line (operands c.args.kind.now) c.loop-place.place w.in-Some.atom (sym w.in-Some.ensures) in
          grind (arith, more)
      | in_default w ↦ grind (arith, common_steps, slice_get_cases)
    ]
