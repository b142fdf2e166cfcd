use Rattle.std.proofs.lemmas.Result.{IfOk-weaker}
use Rattle.code_rules.proofs.whole.keeps_flow.Goals as goal

pub returns : goal.returns
returns c =
    IfOk-weaker c.each_instr-6.result _ _
    (λ b both. (
      λ yes. record {
        inside = c.in_ok-each_instr.ensures.0 c.if-not-branch.false;
        ahead = c.in_ok-each_instr-2.ensures.0 c.if-not-branch-2.false;
        names = c.in_ok-each_instr-3.ensures.0 c.if-not-branch-3.false;
        operands = c.in_ok-each_instr-4.ensures.0 c.if-not-branch-4.false;
        registers = c.in_ok-each_instr-5.ensures.0 c.if-not-branch-5.false;
        afresh = both.0 yes;
      },
      λ keeps. both.1 keeps.afresh,
    ))
    c.each_instr-6.ensures
