use Rattle.c_units.proofs.Words.Std.{ap, refl, values_o, values_o_at, with_value, ◌∙◌}
use Rattle.c_units.proofs.Words.Trees.{Pointer}
use Rattle.c_units.proofs.Words.Units.{name_by}
use Rattle.c_tree.specs.contracts.tree.Declarator.{enum}
use Rattle.c_units.proofs.WalkSteps.{inside}
use Rattle.c_units.proofs.NamedSteps.{pointer_named, direct_named, parens_named}
use Rattle.c_units.proofs.walk.Walk.+named.Goals as goal

pub rename_declared-returns-in-Pointer : goal.rename_declared-returns-in-Pointer
rename_declared-returns-in-Pointer t c =
    pointer_named c.rename_declared.result (λ name. name_by c.args.binding c.args.self.now.suffix name) _ c.args.declarator.now c.in-Pointer.field-0 c.in-Pointer.field-1 c.in-Pointer.target
    (record c.in-Pointer.target { value = c.rename_declared.new.declarator }) _ c.in-Pointer.is (inside _ _ _ c.in-Pointer.target-is c.deref_mut.ensures.value)
    (let h = ap (values_o enum 0) c.in-Pointer.is ∙ values_o_at enum 0 (c.in-Pointer.field-0, (c.in-Pointer.field-1, (c.in-Pointer.target, tt))) in
    rw h (ap (λ b. Pointer c.in-Pointer.field-0 c.in-Pointer.field-1 (with_value b c.rename_declared.new.declarator)) c.in-Pointer.target-is))
    c.rename_declared.ensures

pub rename_declared-returns-in-Direct : goal.rename_declared-returns-in-Direct
rename_declared-returns-in-Direct t c =
    direct_named c.rename_base.result (λ name. name_by c.args.binding c.args.self.now.suffix name) _ c.args.declarator.now c.in-Direct.base c.rename_base.new.base _ c.in-Direct.field-1
    c.in-Direct.is c.in-Direct.base-is
    (let h = ap (values_o enum 1) c.in-Direct.is ∙ values_o_at enum 1 (c.in-Direct.base, (c.in-Direct.field-1, tt)) in rw h refl)
    c.rename_base.ensures

pub rename_base-returns-in-Parens : goal.rename_base-returns-in-Parens
rename_base-returns-in-Parens t c =
    parens_named c.rename_declared.result (λ name. name_by c.args.binding c.args.self.now.suffix name) c.args.base.now c.in-Parens.field-0 c.in-Parens.inner _ _
    c.in-Parens.is (inside _ _ _ c.in-Parens.inner-is c.deref_mut.ensures.value) c.rename_declared.ensures
