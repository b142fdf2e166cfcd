use Rattle.std.proofs.Common.{refl, arith, below_more}
use Rattle.flat_code.specs.Sites.{has_site}
use Rattle.flat_code.specs.WellFormed.{EachInstr}
use Rattle.code_rules.specs.Answers.{PinsExact}
use Rattle.code_rules.proofs.Loops.{not_said}
use Rattle.code_rules.proofs.pins.pins_are_exact.Goals as goal

pub returns-then-not-branch : goal.returns-then-not-branch
returns-then-not-branch c =
    (λ no. absurd (cc), λ all. absurd (not_said c.if-not-branch.true c.in_ok-pins_are_exact_of.ensures (all c.loop-register.register c.loop-register-test.true)))

pub loop-register-preserved : goal.loop-register-preserved
loop-register-preserved c =
    below_more (λ r. EachInstr c.args.code.now (λ f entry point i. PinsExact c.args.code.now r entry point i (has_site i.op))) c.loop-register.register
    c.loop-register.invariant (c.in_ok-pins_are_exact_of.ensures.0 c.if-not-branch.false)

pub returns : goal.returns
returns c = (λ yes r less. c.loop-register.invariant r (omega arith), λ all. refl)
