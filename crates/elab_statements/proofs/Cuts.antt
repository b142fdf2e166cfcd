-- The code of a value stands behind the code before it, and is cut off again.
use Rattle.std.proofs.Common.{◌≡◌, ℕ, Option, None, Ok, subst, ap, sym, ◌∙◌}
use Rattle.c_types.specs.Types.{PlainType}
use Rattle.c_tree.specs.declared.tree.ExprKind.{ExprKind}
use Rattle.c_tree.specs.View.{expr_tree}
use Rattle.elab_base.specs.declared.code.Mark.{Mark}
use Rattle.elab_base.specs.Marks.{mark_of, cut}
use Rattle.elab_rules.specs.Behind.{From}
use Rattle.elab_rules.specs.GrowthEquations.{Grown, none_behind, cut_back, valued_grown}
use Rattle.elab_rules.specs.FoundEquations.{found_grown}
use Rattle.c_tree.specs.Tree.{Tree}
use Rattle.c_decls.specs.declared.refusal.TypeKind.{TypeKind}
use Rattle.c_decls.specs.Refusals.{then}
use Rattle.c_decls.specs.PlaceRules.{unconverted, converts}
use Rattle.c_decls.specs.TypeRules.{barred}
use Rattle.elaboration.specs.Context.{Code, Context, With}
use Rattle.elaboration.specs.Reallocates.{opened}
use Rattle.elaboration.specs.Initializers.{Target, fill_scalar, scalar}
use Rattle.elaboration.specs.Conversions.{Found}
use Rattle.elaboration.specs.Expressions.{found, value_of}

pub cut_value : (kind : ExprKind) (line : ℕ) (wanted : PlainType) (c : Context) (d : Context × Found) (m : Mark) →
    m ≡ mark_of c.code → value_of (expr_tree kind line) wanted c ≡ Ok d → cut m d.0.code ≡ c.code
cut_value kind line wanted c d m h e =
    let P : With Found → Type 0 = λ a. Grown c.code.pieces a in
    let g : From c.code.pieces d.0 = subst P e
    (valued_grown c.code.pieces (expr_tree kind line) (found (expr_tree kind line) wanted c)
    (found_grown c.code.pieces kind line wanted c (none_behind c.code.pieces))) in
    ap (λ (n : Mark). cut n d.0.code) h ∙ cut_back c.code d.0.code g

-- a scalar whose value is in hand and converts
pub scalar_found : (kind : ExprKind) (at line : ℕ) (type : PlainType) (offset : ℕ) (target : Target) (c begun d : Context) (f : Found) (m : Mark) →
    begun ≡ opened (expr_tree kind at) c → m ≡ mark_of begun.code → value_of (expr_tree kind at) type begun ≡ Ok (d, f) → unconverted type f.typed ≡ None →
    scalar (expr_tree kind at) line type offset target c ≡ fill_scalar (expr_tree kind at) line type offset (cut m d.code) (d, f) target
scalar_found kind at line type offset target c begun d f m b h done none =
    let e : Tree = expr_tree kind at in
    let begins : scalar e line type offset target c ≡ then (value_of e type begun) (λ (x : Context × Found). converts line type x.1.typed (fill_scalar e line type offset begun.code x target)) =
    ap (λ (k : Context). then (value_of e type k) (λ (x : Context × Found). converts line type x.1.typed (fill_scalar e line type offset k.code x target))) (sym b) in
    begins
    ∙ ap (λ (a : With Found). then a (λ (x : Context × Found). converts line type x.1.typed (fill_scalar e line type offset begun.code x target))) done
    ∙ ap (λ (bar : Option TypeKind). barred bar line (fill_scalar e line type offset begun.code (d, f) target)) none
    ∙ ap (λ (code : Code). fill_scalar e line type offset code (d, f) target) (sym (cut_value kind at type begun (d, f) m h done))
