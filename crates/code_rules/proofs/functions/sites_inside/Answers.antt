use Rattle.flat_code.specs.declared.program.Site.{Site}
use Rattle.code_rules.specs.Functions.{IsOfFunction}
use Rattle.code_rules.proofs.Loops.{all_of, more, no_more, not_said, transport}
use Rattle.code_rules.proofs.functions.sites_inside.Goals as goal

pub returns-then-not-is_of_function : goal.returns-then-not-is_of_function
returns-then-not-is_of_function c =
    let P : Site → Type 0 = λ site. IsOfFunction c.args.code.now site.instr in
    transport P c.as_slice-site-items.result.now c.args.code.now.sites c.as_slice-site-items.ensures _
    (no_more P c.as_slice-site-items.result.now c.loop-site.site-index c.site-item.result c.loop-site-test.true c.site-item.is (not_said c.if-not-is_of_function.true c.is_of_function.ensures))

pub loop-site-preserved : goal.loop-site-preserved
loop-site-preserved c =
    more (λ (site : Site). IsOfFunction c.args.code.now site.instr) c.as_slice-site-items.result.now c.loop-site.site-index c.site-item.result c.loop-site-test.true c.site-item.is c.loop-site.invariant
    (c.is_of_function.ensures.0 c.if-not-is_of_function.false)

pub returns : goal.returns
returns c =
    let P : Site → Type 0 = λ site. IsOfFunction c.args.code.now site.instr in
    transport P c.as_slice-site-items.result.now c.args.code.now.sites c.as_slice-site-items.ensures _
    (all_of P c.as_slice-site-items.result.now c.loop-site.site-index c.loop-site-test.false c.loop-site.invariant)
