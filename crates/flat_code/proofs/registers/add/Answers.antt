use Rattle.std.proofs.Common.{◌≡◌, ◌-◌, ap, arith, ◌∙◌}
use Rattle.flat_code.specs.declared.registers.Run.{Run}
use Rattle.flat_code.proofs.RunLists.{longer, same_item}
use Rattle.flat_code.proofs.registers.add.Goals as goal

pub returns-then-index-run-clause-added : goal.returns-then-index-run-clause-added
returns-then-index-run-clause-added c =
    let k = c.len-count.result - 1 in
    let same : c.index_mut.result.now ≡ c.index.result.now = same_item c.args.runs.now.items k c.index_mut.result.now c.index.result.now (omega arith) c.index_mut.ensures.value c.index.ensures in
    let last : c.index_mut.result.now.last ≡ c.args.run.first - 1 = ap (λ (o : Run). o.last) same ∙ c.if-index-run.true in
    longer c.args.runs.now.items k c.index_mut.result.now c.args.run c.index_mut.ensures.value (omega arith) c.requires.runs c.requires.run (omega (arith, last, c.if-run-gt0.true))
