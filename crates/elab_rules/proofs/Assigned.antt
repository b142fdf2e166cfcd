-- An assignment to a scalar, in its steps.
use Rattle.std.proofs.Common.{◌≡◌, ℕ, Ok, subst, sym, ap, ◌∙◌}
use Rattle.c_tree.specs.Tree.{Tree}
use Rattle.c_decls.specs.Refusals.{Checked, then}
use Rattle.c_decls.specs.Typed.{PlainTyped}
use Rattle.c_decls.specs.PlaceRules.{assigned}
use Rattle.c_decls.specs.Expressions.{line_of}
use Rattle.elab_base.specs.declared.code.Mark.{Mark}
use Rattle.elab_base.specs.Marks.{mark_of, cut}
use Rattle.elaboration.specs.Context.{Code, Context, With}
use Rattle.elaboration.specs.Conversions.{Found, valued_from}
use Rattle.elaboration.specs.Assignments.{set_to, scalar_assigned}
use Rattle.elab_rules.specs.Behind.{Behind, From}
use Rattle.elab_rules.specs.GrowthEquations.{Grown, valued_from_grown, cut_back}

pub scalar_done : (line : ℕ) (code : Code) (before : Mark) (tree : Tree) (target : Found) (d : Context × Found) (typed : PlainTyped) (v r : Context × Found) →
    mark_of code ≡ before → Behind code.pieces d.0.code.pieces →
    assigned line (line_of tree) d.0.tags target.typed d.1.typed ≡ Ok typed →
    valued_from tree d.0 d.1 ≡ Ok v →
    r ≡ set_to line (cut before v.0.code) typed target v →
    scalar_assigned line code tree target d ≡ Ok r
scalar_done line code before tree target d typed v r m h first second third =
    let P : With Found → Type 0 = λ a. Grown code.pieces a in
    let g : From code.pieces v.0 = subst P second (valued_from_grown code.pieces tree d.0 d.1 h) in
    let k : cut before v.0.code ≡ code = ap (λ (n : Mark). cut n v.0.code) (sym m) ∙ cut_back code v.0.code g in
    ap (λ (a : Checked PlainTyped). then a (λ t. then (valued_from tree d.0 d.1) (λ w. let whole : With Found = Ok (set_to line code t target w) in whole))) first
    ∙ ap (λ (a : With Found). then a (λ w. let whole : With Found = Ok (set_to line code typed target w) in whole)) second
    ∙ ap (λ (w : Context × Found). let whole : With Found = Ok w in whole) (sym (third ∙ ap (λ (before_code : Code). set_to line before_code typed target v) k))
