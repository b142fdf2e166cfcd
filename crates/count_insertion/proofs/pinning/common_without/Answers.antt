use Rattle.std.proofs.Common.{◌++◌, ap, ◌∙◌}
use Rattle.local_liveness.specs.Sets.{in_both}
use Rattle.count_insertion.specs.Counting.{passing}
use Rattle.count_insertion.proofs.Runs.{sides_pass}
use Rattle.count_insertion.proofs.pinning.common_without.Goals as goal

pub returns : goal.returns
returns c =
    let both = in_both c.args.one.now c.args.other.now in
    c.in_ok-push_common-2.ensures
    ∙ ap (λ rs. rs ++ passing both c.sides-until.result.1 c.args.bound) (c.in_ok-push_common.ensures ∙ ap (λ rs. rs ++ passing both 0 c.sides-until.result.0) c.new-registers.ensures)
    ∙ sides_pass c.args.answer both c.args.bound _ _ c.sides-until.ensures
