use Rattle.std.proofs.Common.{subst}
use Rattle.std.proofs.lemmas.Result.{IfOk-weaker}
use Rattle.heapsafe.specs.declared.generated.Prepared.{Prepared}
use Rattle.heapsafe.specs.Generated.{IsPrepared}
use Rattle.heapsafe.proofs.Alone.{core_makes, core_went, refused_went, refused_makes}
use Rattle.heapsafe.proofs.generated.run_text.Goals as goal

pub returns-in-Core-clause-answers : goal.returns-in-Core-clause-answers
returns-in-Core-clause-answers c =
    let prepared = subst (λ (p : Prepared). IsPrepared c.args.text.now p) c.in-Core.is c.in_ok-core.ensures in
    IfOk-weaker c.run_core.result _ _
    (λ ran h. core_went c.args.text.now c.args.limits c.args.steps c.in-Core.core ran prepared.0 (h c.args.text.now))
    c.run_core.ensures.answers

pub returns-in-Core-clause-makes : goal.returns-in-Core-clause-makes
returns-in-Core-clause-makes c =
    let prepared = subst (λ (p : Prepared). IsPrepared c.args.text.now p) c.in-Core.is c.in_ok-core.ensures in
    IfOk-weaker c.run_core.result _ _
    (λ ran h. core_makes c.args.text.now c.args.limits c.args.steps c.in-Core.core ran.steps prepared.0 h)
    c.run_core.ensures.made

pub returns-in-Refused-clause-answers : goal.returns-in-Refused-clause-answers
returns-in-Refused-clause-answers c =
    let prepared = subst (λ (p : Prepared). IsPrepared c.args.text.now p) c.in-Refused.is c.in_ok-core.ensures in
    refused_went c.args.text.now c.args.limits c.args.steps c.in-Refused.status prepared

pub returns-in-Refused-clause-makes : goal.returns-in-Refused-clause-makes
returns-in-Refused-clause-makes c =
    let prepared = subst (λ (p : Prepared). IsPrepared c.args.text.now p) c.in-Refused.is c.in_ok-core.ensures in
    refused_makes c.args.text.now c.args.limits c.args.steps c.in-Refused.status prepared
