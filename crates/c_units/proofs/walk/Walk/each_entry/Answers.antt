use Rattle.c_tree.specs.StatementView.{entry_view}
use Rattle.c_units.proofs.ItemTurns.{item_next}
use Rattle.c_units.proofs.walk.Walk.each_entry.Goals as goal

pub loop-one-preserved : goal.loop-one-preserved
loop-one-preserved c =
    item_next entry_view c.args.list.now c.loop-one.list c.loop-one.one-index _ c.entry.new.entry c.loop-one.self c.entry.new.self c.args.self.now
    c.loop-one-test.true c.loop-one.invariant.0 c.loop-one.invariant.1 c.in_ok-entry.ensures.tree c.in_ok-entry.ensures.names
