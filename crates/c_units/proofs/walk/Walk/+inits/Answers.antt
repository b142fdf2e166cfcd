use Rattle.c_units.proofs.Words.Std.{ap, refl, values_o, values_o_at, with_items, ◌∙◌}
use Rattle.c_units.proofs.Words.Trees.{init_view}
use Rattle.c_tree.specs.contracts.statement.InitKind.{enum}
use Rattle.c_tree.specs.declared.statement.InitKind.TheVariants.{List}
use Rattle.c_units.proofs.ItemTurns.{item_next}
use Rattle.c_units.proofs.WalkSteps.{init_list_new, items_in}
use Rattle.c_units.proofs.walk.Walk.+inits.Goals as goal

pub inits-loop-one-preserved : goal.inits-loop-one-preserved
inits-loop-one-preserved t c =
    item_next init_view c.args.list.now c.loop-one.list c.loop-one.one-index _ c.init.new.init c.loop-one.self c.init.new.self c.args.self.now
    c.loop-one-test.true c.loop-one.invariant.0 c.loop-one.invariant.1 c.in_ok-init.ensures.tree c.in_ok-init.ensures.names

pub init-returns-in-List-clause-tree : goal.init-returns-in-List-clause-tree
init-returns-in-List-clause-tree t c =
    init_list_new c.inits.result c.args.self.now _ c.args.init.now.kind c.args.init.now.line c.in-List.list c.in-List.list c.in-List.field-1 _ c.inits.new.list
    c.in-List.is refl (items_in _ _ _ c.in-List.list-is c.deref_mut.ensures.value)
    (let h = ap (values_o enum 1) c.in-List.is ∙ values_o_at enum 1 (c.in-List.list, (c.in-List.field-1, tt)) in
    rw h (ap (λ v. List (with_items v c.inits.new.list) c.in-List.field-1) c.in-List.list-is)) c.inits.auto.list c.inits.ensures.trees
