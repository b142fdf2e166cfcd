use Rattle.std.proofs.Common.{◌≤◌, length, take, arith}
use Rattle.std.proofs.lemmas.List.Elements.{All-weaker}
use Rattle.flat_code.specs.declared.program.Entry.{Entry}
use Rattle.code_rules.proofs.Loops.{more, whole}
use Rattle.code_rules.proofs.pins.most_registers.Goals as goal

pub loop-entry-preserved : goal.loop-entry-preserved
loop-entry-preserved c =
    let most = c.greater-most.result in
    more (λ (e : Entry). length e.kinds ≤ most) c.args.funcs.now c.loop-entry.entry-index c.entry-item.result c.loop-entry-test.true c.entry-item.is
    (All-weaker (λ (e : Entry). length e.kinds ≤ c.loop-entry.most) (λ (e : Entry). length e.kinds ≤ most) (λ e h. omega arith) (take c.loop-entry.entry-index c.args.funcs.now) c.loop-entry.invariant)
    (omega arith)

pub returns : goal.returns
returns c = whole (λ (e : Entry). length e.kinds ≤ c.loop-entry.most) c.args.funcs.now c.loop-entry.entry-index c.loop-entry-test.false c.loop-entry.invariant
