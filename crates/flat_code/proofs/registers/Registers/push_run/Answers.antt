use Rattle.std.proofs.Common.{◌≡◌, ◌+◌, ◌-◌, arith, ◌∙◌}
use Rattle.flat_code.proofs.RunLists.{counted_more}
use Rattle.flat_code.proofs.registers.Registers.push_run.Goals as goal

pub invariant_of-self-2 : goal.invariant_of-self-2
invariant_of-self-2 c =
    let many : c.in-Some.count ≡ c.self.inside.count + (c.args.last - c.args.first + 1) = c.in-Some.ensures.1 in
    record {
      each = c.in_ok-add.ensures.runs;
      counted = many ∙ counted_more c.self.inside.count (c.args.last - c.args.first + 1) c.args.first c.args.last c.self.inside.runs.items c.add.new.runs.items c.self.invariant.counted c.requires c.in_ok-add.ensures.added (omega arith);
    }
