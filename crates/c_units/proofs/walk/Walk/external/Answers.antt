use Rattle.c_units.proofs.Words.Std.{ap, ap₂, refl, ◌∙◌}
use Rattle.c_units.proofs.Words.Trees.{body_view, declarator_tree, params_of, specs_view}
use Rattle.c_units.proofs.Words.Units.{Defined, behind, behind_declarator, inside_params, left_scope, renamed, renamed_declarator}
use Rattle.c_units.proofs.FunctionSteps.{function_names, function_new}
use Rattle.c_units.proofs.WalkSteps.{if_by}
use Rattle.c_units.proofs.walk.Walk.external.Goals as goal

pub returns-in_ok-file_declarator-in-Function-clause-names : goal.returns-in_ok-file_declarator-in-Function-clause-names
returns-in_ok-file_declarator-in-Function-clause-names c =
    let y = c.file_declarator.new.self in
    function_names c.function_body.result c.args.self.now c.specs.new.self c.file_declarator.new.self c.args.decl.now c.in-Function.line c.in-Function.specs c.in-Function.declarator c.file_declarator.new.declarator c.in-Function.body c.in-Function.end
    c.in-Function.is (c.in_ok-specs-in-Function.ensures.names ∙ ap (λ s. behind (specs_view s) c.args.self.now) c.in-Function.specs-is)
    (c.in_ok-file_declarator-in-Function.ensures.tree ∙ ap₂ (λ l d. renamed_declarator Defined l (declarator_tree d) c.specs.new.self) c.in-Function.line-is c.in-Function.declarator-is)
    (c.in_ok-file_declarator-in-Function.ensures.names ∙ ap₂ (λ l d. behind_declarator Defined l (declarator_tree d) c.specs.new.self) c.in-Function.line-is c.in-Function.declarator-is) c.function_body.new.self
    (if_by c.function_body.result (λ h. h ∙ ap (λ b. left_scope y (behind (body_view b c.in-Function.end) (inside_params (params_of (declarator_tree c.file_declarator.new.declarator)) y))) c.in-Function.body-is)
    (c.function_body.ensures.names c.in-Function.end))

pub returns-in_ok-file_declarator-in-Function-clause-tree : goal.returns-in_ok-file_declarator-in-Function-clause-tree
returns-in_ok-file_declarator-in-Function-clause-tree c =
    let y = c.file_declarator.new.self in
    function_new c.function_body.result c.args.self.now c.specs.new.self c.file_declarator.new.self c.args.decl.now c.in-Function.line c.in-Function.specs c.in-Function.declarator c.file_declarator.new.declarator c.in-Function.body c.in-Function.end
    c.in-Function.is (c.in_ok-specs-in-Function.ensures.names ∙ ap (λ s. behind (specs_view s) c.args.self.now) c.in-Function.specs-is)
    (c.in_ok-file_declarator-in-Function.ensures.tree ∙ ap₂ (λ l d. renamed_declarator Defined l (declarator_tree d) c.specs.new.self) c.in-Function.line-is c.in-Function.declarator-is)
    (c.in_ok-file_declarator-in-Function.ensures.names ∙ ap₂ (λ l d. behind_declarator Defined l (declarator_tree d) c.specs.new.self) c.in-Function.line-is c.in-Function.declarator-is) _ c.specs.new.specs c.function_body.new.declarator c.function_body.new.body
    refl
    (c.in_ok-specs-in-Function.ensures.tree ∙ ap (λ s. renamed (specs_view s) c.args.self.now) c.in-Function.specs-is) c.function_body.ensures.same
    (if_by c.function_body.result (λ h. h ∙ ap (λ b. renamed (body_view b c.in-Function.end) (inside_params (params_of (declarator_tree c.file_declarator.new.declarator)) y)) c.in-Function.body-is)
    (c.function_body.ensures.tree c.in-Function.end))
