use Rattle.std.proofs.Common.{rules}
use Rattle.std.proofs.Math.Dec.{ltb}
use Rattle.std.proofs.lemmas.List.Sorted.{IsPartitionPoint-from_clause, IsPartitionedBy-ltb}
use borrow.Author.Tests.{tests}
use Rattle.flat_code.specs.declared.registers.Run.{Run}
use Rattle.flat_code.proofs.registers.ended.Goals as goal

pub returns : goal.returns
returns c =
    IsPartitionPoint-from_clause (λ (run : Run). ltb run.last c.args.register) c.args.runs.now c.partition_point.result c.partition_point.ensures.partitioned
    (IsPartitionedBy-ltb (λ (run : Run). run.last) c.args.runs.now c.args.register c.requires) (λ a r q h. search (rules, tests))
