-- A function of the core by its parts.
use Rattle.std.proofs.Common.{◌≡◌, ℕ, List, ◌++◌, length, replicate, ap, sym, ◌∙◌}
use Rattle.core_tree.specs.declared.program.Func.{Func}
use Rattle.core_tree.specs.declared.statements.Stm.{Stm}
use Rattle.elaboration.specs.Context.{Piece, Declared, Walked, Context}
use Rattle.elaboration.specs.Resolving.{register_by, static_by, function_by, point_in, body_of, numbers_of, temporary, pointer_register, plain_name, function_of}
use Rattle.elab_core.specs.NumbersBy.{point_at, IsPlaced}

pub body_is : (c : Context) (w : Walked) (locals integers variables : ℕ) (functions : List Declared) (ps : List Piece) (body : List Stm) →
    locals ≡ length w.running.locals → integers ≡ w.code.most_integers → variables ≡ length c.variables → functions ≡ c.functions → ps ≡ w.code.pieces →
    body ≡ body_of (record { register = register_by locals integers; point = point_in w.code.pieces; static = static_by variables; function = function_by functions }) ps →
    body ≡ body_of (numbers_of c w) w.code.pieces
body_is c w locals integers variables functions ps body l n v f p h =
    let same : body_of (record { register = register_by locals integers; point = point_in w.code.pieces; static = static_by variables; function = function_by functions }) ps ≡ body_of (numbers_of c w) w.code.pieces =
    λ i. body_of (record { register = register_by (l i) (n i); point = point_in w.code.pieces; static = static_by (v i); function = function_by (f i) }) (p i) in
    h ∙ same

pub placed_along : (xs ys : List ℕ) (total : ℕ) (ps qs : List Piece) → xs ≡ ys → ps ≡ qs → IsPlaced xs total ps → IsPlaced ys total qs
placed_along xs ys total ps qs e p h =
    λ label. sym (ap (λ (points : List ℕ). point_at points total label) e) ∙ h label ∙ ap (λ (l : List Piece). point_in l label) p

pub function_is : (c : Context) (w : Walked) (f : Func) → f.name ≡ plain_name w.name → f.line ≡ w.running.line → f.params ≡ w.params →
    f.regs ≡ w.running.locals ++ (replicate w.code.most_integers temporary ++ replicate w.code.most_pointers pointer_register) → f.mems ≡ w.running.mems →
    f.body ≡ body_of (numbers_of c w) w.code.pieces → f.formats ≡ w.running.formats → f ≡ function_of c w
function_is c w f name line params regs mems body formats =
    λ i. record { name = name i; line = line i; params = params i; regs = regs i; mems = mems i; body = body i; formats = formats i }
