use Rattle.std.proofs.Common.{refl, sym}
use Rattle.flat_code.specs.declared.instructions.Op.TheVariants.{Call}
use Rattle.flat_machine.proofs.Image.{image_is}
use Rattle.flat_machine.proofs.Starts.{mems_there}
use Rattle.flat_machine.proofs.Stepped.{no_callee, no_cost, cost_is, taken_alone, taken_is}
use Rattle.flat_machine.proofs.steps.call.Goals as goal

pub unreachable-requires : goal.unreachable-requires
unreachable-requires g c = no_callee c.args.code.now c.args.instr c.args.state.now c.requires.may c.in_default.ensures.item

pub unreachable-requires-in_default-get : goal.unreachable-requires-in_default-get
unreachable-requires-in_default-get g c =
    no_cost c.args.loaded.now.costs c.args.code.now c.requires.loaded.costs c.args.instr.b c.in-Some.callee.now (sym c.in-Some.ensures.item) c.in_default-get.ensures.item

pub act_call-requires-clause-cost : goal.act_call-requires-clause-cost
act_call-requires-clause-cost g c =
    cost_is c.args.loaded.now.costs c.args.code.now c.requires.loaded.costs c.args.instr.b _ c.in-Some.callee.now (sym c.in-Some.ensures.item) c.in-Some-get.ensures.item

pub act_call-requires-clause-there : goal.act_call-requires-clause-there
act_call-requires-clause-there g c =
    mems_there c.args.code.now c.requires.formed c.args.instr.b c.in-Some.callee.now (sym c.in-Some.ensures.item)

pub act_call-requires-clause-here : goal.act_call-requires-clause-here
act_call-requires-clause-here g c = sym c.in-Some.ensures.item

pub returns-clause-alone : goal.returns-clause-alone
returns-clause-alone g c = λ fits places s h counts is.
    taken_alone c.args.code.now fits c.args.line c.args.instr Call s places c.args.state.now c.act_call.new.self c.act_call.result refl is (c.act_call.ensures.alone fits places s h counts)

pub returns-clause-image : goal.returns-clause-image
returns-clause-image g c = λ fits places s has h counts is.
    image_is c.args.code.now _ _ (taken_is c.args.code.now fits c.args.line c.args.instr Call s refl is) c.act_call.new.self c.act_call.result (c.act_call.ensures.image fits places s has h counts)
