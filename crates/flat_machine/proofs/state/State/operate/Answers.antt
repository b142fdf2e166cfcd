use Rattle.std.proofs.Common.{rules}
use Rattle.std.proofs.lemmas.Int.{to_z-of_z}
use mir.Syntax.{w128}
use mir.Val.{SFits}
use Rattle.flat_machine.proofs.Plain.{bin_alone, bin_traps}
use Rattle.flat_machine.proofs.state.State.operate.Goals as goal

pub returns-in-Ok-clause-alone : goal.returns-in-Ok-clause-alone
returns-in-Ok-clause-alone c = λ code sizes places s h.
    let fits : SFits w128 c.integer.result = search rules in
    let fits_other : SFits w128 c.integer-2.result = search rules in
    let operates = rw (to_z-of_z w128 c.integer.result fits, to_z-of_z w128 c.integer-2.result fits_other) at c.in-Ok.ensures.operates in
    let fits_n : SFits w128 c.in-Ok.n = search rules in
    let gives = rw (to_z-of_z w128 c.in-Ok.n fits_n) at c.give_number.ensures in
    bin_alone code sizes c.args.line c.args.instr places s c.args.self.now c.give_number.new.self h c.args.op c.args.kind c.integer.result c.integer-2.result c.in-Ok.n c.integer.ensures c.integer-2.ensures operates gives

pub returns-in-Err-clause-alone : goal.returns-in-Err-clause-alone
returns-in-Err-clause-alone c = λ code sizes places s h.
    let fits : SFits w128 c.integer.result = search rules in
    let fits_other : SFits w128 c.integer-2.result = search rules in
    let operates = rw (to_z-of_z w128 c.integer.result fits, to_z-of_z w128 c.integer-2.result fits_other) at c.in-Err.ensures.operates in
    bin_traps code sizes c.args.line c.args.instr places s c.args.self.now c.args.self.now h c.args.op c.args.kind c.integer.result c.integer-2.result c.in-Err.kind c.integer.ensures c.integer-2.ensures operates
