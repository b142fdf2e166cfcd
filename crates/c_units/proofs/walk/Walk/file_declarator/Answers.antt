use Rattle.c_units.proofs.Words.Std.{ap, option_copied, ◌∙◌}
use Rattle.c_units.proofs.Words.Trees.{declarator_tree}
use Rattle.c_units.proofs.Words.Units.{binding_as, mention}
use Rattle.c_units.proofs.NamedSteps.{file_made}
use Rattle.c_units.proofs.walk.Walk.file_declarator.Goals as goal

pub returns-clause-tree : goal.returns-clause-tree
returns-clause-tree c =
    file_made c.rename_declared.result c.args.role c.args.line (declarator_tree c.args.declarator.now) (declarator_tree c.declarator-2.new.declarator) (declarator_tree c.rename_declared.new.declarator)
    c.args.self.now c.mention.new.self c.declarator-2.new.self c.declare.new.self c.in-Some.name.now c.binding_as-binding.result (option_copied c.declared_name-2.result)
    c.in-Some.ensures (c.binding_as-binding.ensures ∙ ap (binding_as c.args.role c.args.self.now.own) c.as_slice.ensures)
    (c.in_ok-mention.ensures ∙ ap (λ n. mention c.binding_as-binding.result c.args.role n c.args.line c.args.self.now) c.as_slice-2.ensures)
    c.in_ok-declarator.ensures.tree c.in_ok-declarator.ensures.names c.in_ok-declare.ensures c.rename_declared.ensures
