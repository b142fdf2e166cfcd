use Rattle.std.specs.Ordering.{int_eq}
use Rattle.elab_base.proofs.Puts.{put_found}
use Rattle.elab_base.proofs.cases.CaseList.insert.Goals as goal

pub invariant_of-self-in-Ok : goal.invariant_of-self-in-Ok
invariant_of-self-in-Ok c = λ v. put_found (λ x. int_eq x.0 v) _ _ _ _ _ _ c.in_ok-insert.ensures.items (c.self.invariant v) (c.in-Ok.ensures.updates.0 v)
