use Rattle.std.proofs.Common.{refl, rules}
use Rattle.c_tree.specs.StatementView.{stmt_view}
use Rattle.c_units.proofs.ItemTurns.{item_next}
use Rattle.c_units.proofs.WalkSteps.{block_new, delay_new, items_in}
use Rattle.c_units.proofs.walk.Walk.+statements.Goals as goal

pub items-loop-one-preserved : goal.items-loop-one-preserved
items-loop-one-preserved t c =
    item_next stmt_view c.args.list.now c.loop-one.list c.loop-one.one-index _ c.stmt.new.stmt c.loop-one.self c.stmt.new.self c.args.self.now
    c.loop-one-test.true c.loop-one.invariant.0 c.loop-one.invariant.1 c.in_ok-stmt.ensures.tree c.in_ok-stmt.ensures.names

pub stmt_of-returns-in-Block-clause-tree : goal.stmt_of-returns-in-Block-clause-tree
stmt_of-returns-in-Block-clause-tree t c =
    block_new c.items.result c.args.self.now _ c.args.kind.now c.args.line c.in-Block.items c.in-Block.items _ c.items.new.list
    refl (items_in _ _ _ c.in-Block.items-is c.deref_mut.ensures.value) c.items.auto.list c.in-Block.is (search rules) c.items.ensures.trees

pub stmt_of-returns-in-Delay-clause-tree : goal.stmt_of-returns-in-Delay-clause-tree
stmt_of-returns-in-Delay-clause-tree t c =
    delay_new c.items-in-Delay.result c.args.self.now _ c.args.kind.now c.args.line c.in-Delay.items c.in-Delay.items _ c.items-in-Delay.new.list
    refl (items_in _ _ _ c.in-Delay.items-is c.deref_mut-in-Delay.ensures.value) c.items-in-Delay.auto.list c.in-Delay.is (search rules) c.items-in-Delay.ensures.trees
