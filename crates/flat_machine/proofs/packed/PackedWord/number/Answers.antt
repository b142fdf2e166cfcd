use Rattle.std.proofs.Common.{rules}
use Rattle.std.proofs.lemmas.Int.{to_z-of_z}
use mir.Syntax.{w128}
use mir.Val.{SFits}
use Rattle.flat_machine.proofs.Fitting.{number_fits}
use Rattle.flat_machine.proofs.packed.PackedWord.number.Goals as goal

pub fitting-requires : goal.fitting-requires
fitting-requires c =
    let fits : SFits w128 c.args.n = search rules in
    rw (to_z-of_z w128 c.args.n fits) (number_fits c.args.kind c.args.n c.requires)
