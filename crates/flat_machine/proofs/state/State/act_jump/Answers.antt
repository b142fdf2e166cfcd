use Rattle.std.proofs.Common.{rules}
use Rattle.std.proofs.lemmas.Int.{to_z-of_z}
use mir.Syntax.{w128}
use mir.Val.{SFits}
use Rattle.flat_machine.proofs.Plain.{jump_alone, zero_alone, case_alone, loop_spent, loop_alone}
use Rattle.flat_machine.proofs.state.State.act_jump.Goals as goal

pub returns-in-Jump-clause-alone : goal.returns-in-Jump-clause-alone
returns-in-Jump-clause-alone c = λ code sizes places s h.
    rw c.in-Jump.is (jump_alone code sizes c.args.line c.args.instr places s c.args.self.now c.go_to.new.self h c.go_to.ensures)

pub returns-in-Zero-clause-alone : goal.returns-in-Zero-clause-alone
returns-in-Zero-clause-alone c = λ code sizes places s h.
    let fits : SFits w128 c.integer.result = search rules in
    let holds = rw (to_z-of_z w128 c.integer.result fits) at c.is_zero-holds.ensures in
    rw c.in-Zero.is (zero_alone code sizes c.args.line c.args.instr places s c.args.self.now c.branch-self.new.self h c.integer.result c.is_zero-holds.result c.integer.ensures holds c.branch-self.ensures)

pub returns-in-Case-clause-alone : goal.returns-in-Case-clause-alone
returns-in-Case-clause-alone c = λ code sizes places s h.
    let fits : SFits w128 c.integer-in-Case.result = search rules in
    let fits_other : SFits w128 c.integer-in-Case-2.result = search rules in
    let holds = rw (to_z-of_z w128 c.integer-in-Case.result fits, to_z-of_z w128 c.integer-in-Case-2.result fits_other) at c.compared-holds.ensures in
    rw c.in-Case.is (case_alone code sizes c.args.line c.args.instr places s c.args.self.now c.branch-self-in-Case.new.self h c.integer-in-Case.result c.integer-in-Case-2.result c.compared-holds.result c.integer-in-Case.ensures c.integer-in-Case-2.ensures holds c.branch-self-in-Case.ensures)

pub returns-then-not-take_step-clause-alone : goal.returns-then-not-take_step-clause-alone
returns-then-not-take_step-clause-alone c = λ code sizes places s h.
    rw c.in-Loop.is (loop_spent code sizes c.args.line c.args.instr places s c.args.self.now c.take_step.new.self h (c.take_step.ensures.no c.if-not-take_step.true).1)

pub returns-else-not-take_step-clause-alone : goal.returns-else-not-take_step-clause-alone
returns-else-not-take_step-clause-alone c = λ code sizes places s h.
    let yes = c.take_step.ensures.yes c.if-not-take_step.false in
    rw c.in-Loop.is (loop_alone code sizes c.args.line c.args.instr places s c.args.self.now c.take_step.new.self c.go_to-in-Loop.new.self h yes.0 yes.1 c.go_to-in-Loop.ensures)
