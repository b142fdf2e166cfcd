use Rattle.std.proofs.Common.{rules}
use Rattle.std.proofs.lemmas.Int.{to_z-of_z}
use mir.Syntax.{w128}
use mir.Val.{SFits}
use Rattle.flat_machine.proofs.Plain.{set_alone, conv_alone, un_alone, cmp_alone, test_alone}
use Rattle.flat_machine.proofs.state.State.act_values.Goals as goal

pub returns-in-Set-clause-alone : goal.returns-in-Set-clause-alone
returns-in-Set-clause-alone c = λ code sizes places s h.
    rw c.in-Set.is (set_alone code sizes c.args.line c.args.instr places s c.args.self.now c.give.new.self h c.word-word.result c.word-word.ensures c.give.ensures)

pub returns-in-Conv-clause-alone : goal.returns-in-Conv-clause-alone
returns-in-Conv-clause-alone c = λ code sizes places s h.
    let fits : SFits w128 c.integer.result = search rules in
    let value = rw (to_z-of_z w128 c.integer.result fits) at c.wrap-n.ensures.value in
    let fits_n : SFits w128 c.wrap-n.result = search rules in
    let gives = rw (to_z-of_z w128 c.wrap-n.result fits_n) at c.give_number.ensures in
    rw c.in-Conv.is (conv_alone code sizes c.args.line c.args.instr places s c.args.self.now c.give_number.new.self h c.in-Conv.kind c.integer.result c.wrap-n.result c.integer.ensures value gives)

pub returns-in-Un-clause-alone : goal.returns-in-Un-clause-alone
returns-in-Un-clause-alone c = λ code sizes places s h.
    let fits : SFits w128 c.integer-in-Un.result = search rules in
    let value = rw (to_z-of_z w128 c.integer-in-Un.result fits) at c.on_one-n.ensures.value in
    let fits_n : SFits w128 c.on_one-n.result = search rules in
    let gives = rw (to_z-of_z w128 c.on_one-n.result fits_n) at c.give_number-in-Un.ensures in
    rw c.in-Un.is (un_alone code sizes c.args.line c.args.instr places s c.args.self.now c.give_number-in-Un.new.self h c.in-Un.op c.in-Un.kind c.integer-in-Un.result c.on_one-n.result c.integer-in-Un.ensures value gives)

pub returns-in-Bin-clause-alone : goal.returns-in-Bin-clause-alone
returns-in-Bin-clause-alone c = λ code sizes places s h. rw c.in-Bin.is (c.operate.ensures.alone code sizes places s h)

pub returns-in-Cmp-clause-alone : goal.returns-in-Cmp-clause-alone
returns-in-Cmp-clause-alone c = λ code sizes places s h.
    let fits : SFits w128 c.integer-in-Cmp.result = search rules in
    let fits_other : SFits w128 c.integer-in-Cmp-2.result = search rules in
    let holds = rw (to_z-of_z w128 c.integer-in-Cmp.result fits, to_z-of_z w128 c.integer-in-Cmp-2.result fits_other) at c.compared-holds.ensures in
    rw c.in-Cmp.is (cmp_alone code sizes c.args.line c.args.instr places s c.args.self.now c.give-in-Cmp.new.self h c.in-Cmp.op c.integer-in-Cmp.result c.integer-in-Cmp-2.result c.compared-holds.result c.truth.result c.integer-in-Cmp.ensures c.integer-in-Cmp-2.ensures holds c.truth.ensures c.give-in-Cmp.ensures)

pub returns-in-Test-clause-alone : goal.returns-in-Test-clause-alone
returns-in-Test-clause-alone c = λ code sizes places s h.
    rw c.in-Test.is (test_alone code sizes c.args.line c.args.instr places s c.args.self.now c.give-in-Test.new.self h c.address.result c.is_some-holds.result c.truth-in-Test.result c.address.ensures c.is_some-holds.ensures c.truth-in-Test.ensures c.give-in-Test.ensures)
