use Rattle.std.proofs.Common.{◌≤◌, List, length, subst}
use Rattle.std.specs.List.{All}
use Rattle.std.proofs.lemmas.Result.{IfOk-weaker}
use Rattle.flat_code.specs.declared.program.Entry.{Entry}
use Rattle.code_rules.proofs.Loops.{not_said}
use Rattle.code_rules.proofs.PinFacts.{not_listed, sites_right}
use Rattle.code_rules.proofs.pins.sites_are_right.Goals as goal

pub returns-then-not-branch : goal.returns-then-not-branch
returns-then-not-branch c = not_listed c.args.code.now (not_said c.if-not-branch.true c.in_ok-each_instr.ensures)

pub returns : goal.returns
returns c =
    let code = c.args.code.now in let most = c.most_registers.result in
    let long = subst (λ (l : List Entry). All (λ (e : Entry). length e.kinds ≤ most) l) c.as_slice.ensures c.most_registers.ensures in
    IfOk-weaker c.pins_are_exact.result _ _ (sites_right code most long (c.in_ok-each_instr.ensures.0 c.if-not-branch.false)) c.pins_are_exact.ensures
