-- Enumerators by their trees.
use Rattle.std.proofs.Common.{◌≡◌, ◌+◌, ◌<◌, ℕ, ℤ, length, drop, get_or, Bool, true, false, cond, List, Option, Some, None, option_map, Ok, Box, Global, refl, sym, ap, ◌∙◌}
use Rattle.std.specs.Prelude.{◌&&◌, not, is_some}
use Rattle.c_types.specs.Types.{PlainType}
use Rattle.c_tree.specs.declared.tree.Expr.{Expr}
use Rattle.c_tree.specs.declared.tree.Enumerator.{Enumerator, out-Enumerator, roll-out-Enumerator}
use Rattle.c_tree.specs.Forms as f
use Rattle.c_tree.specs.Tree.{Tree, Trees, At, Node, none, ◌▹◌}
use Rattle.c_tree.specs.View.{enumerator_tree, name_leaf}
use Rattle.c_tree.specs.StatementView.{maybe, expr_view, trees}
use Rattle.c_tree.specs.ViewEquations.{enumerator_value_tree}
use Rattle.c_decls.specs.declared.refusal.TypeKind.TheVariants.{DeclaredTwice}
use Rattle.c_decls.specs.Named as n
use Rattle.c_decls.specs.Named.{PlainNamed}
use Rattle.c_decls.specs.Refusals.{Checked, then, unless}
use Rattle.c_decls.specs.ScopeList.{named_in, innermost, with_name}
use Rattle.elaboration.specs.Context.{Context}
use Rattle.elaboration.specs.Declarators.{constant, enumerator, enumerators}
use Rattle.elaboration.specs.Locals.{is_same_again, is_file, is_twice_in, declared_as}
use Rattle.elab_types.specs.Steps.{held, enumerator_by, enumerator_step}
use Rattle.elab_types.proofs.Turns.{then_then, left_next}

abbrev value_tree : ℕ → List ℕ → Option (Box Expr Global) → Tree
value_tree line name value =
    Node f.Enumerator (At line ▹ name_leaf name ▹ maybe f.MaybeValue expr_view (option_map (λ b. b.value) value) ▹ none)

tree_is : (e : Enumerator) (value : Option (Box Expr Global)) → (out-Enumerator e).value ≡ value →
    enumerator_tree e ≡ value_tree (out-Enumerator e).line (out-Enumerator e).name value
tree_is e value h =
    ap enumerator_tree (sym (roll-out-Enumerator e))
    ∙ enumerator_value_tree (out-Enumerator e).line (out-Enumerator e).name (out-Enumerator e).value
    ∙ ap (λ v. value_tree (out-Enumerator e).line (out-Enumerator e).name v) h

value_step : (line : ℕ) (name : List ℕ) (value : Option (Box Expr Global)) (next : ℤ) (c : Context) →
    enumerator_step (value_tree line name value) next c ≡ enumerator_by line name (held (option_map (λ b. b.value) value)) next c
value_step line name None next c = refl
value_step line name (Some value) next c = refl

pub step_is : (e : Enumerator) (next : ℤ) (c : Context) →
    enumerator_step (enumerator_tree e) next c
    ≡ enumerator_by (out-Enumerator e).line (out-Enumerator e).name (held (option_map (λ b. b.value) (out-Enumerator e).value)) next c
step_is e next c =
    ap (λ t. enumerator_step t next c) (tree_is e (out-Enumerator e).value refl)
    ∙ value_step (out-Enumerator e).line (out-Enumerator e).name (out-Enumerator e).value next c

-- one enumerator and those behind it
value_goes : (line : ℕ) (name : List ℕ) (value : Option (Box Expr Global)) (rest : Trees) (next : ℤ) (c : Context) →
    enumerators (value_tree line name value ▹ rest) next c
    ≡ then (enumerator_step (value_tree line name value) next c) (λ e. enumerators rest e.1 e.0)
unfolding enumerators
value_goes line name None rest next c = refl
value_goes line name (Some value) rest next c =
    sym (ap (λ a. then a (λ e. enumerators rest e.1 e.0)) (then_then (constant (expr_view value.value) c) (λ k. Ok (k.0, k.1.value)) (λ v. enumerator line name v.1 v.0))
    ∙ then_then (constant (expr_view value.value) c) (λ k. enumerator line name k.1.value k.0) (λ e. enumerators rest e.1 e.0))

pub enumerators_go : (e : Enumerator) (rest : Trees) (next : ℤ) (c : Context) →
    enumerators (enumerator_tree e ▹ rest) next c
    ≡ then (enumerator_step (enumerator_tree e) next c) (λ m. enumerators rest m.1 m.0)
enumerators_go e rest next c =
    let is = tree_is e (out-Enumerator e).value refl in
    ap (λ t. enumerators (t ▹ rest) next c) is
    ∙ value_goes (out-Enumerator e).line (out-Enumerator e).name (out-Enumerator e).value rest next c
    ∙ sym (ap (λ t. then (enumerator_step t next c) (λ m. enumerators rest m.1 m.0)) is)

pub enumerators_end : (next : ℤ) (c : Context) → enumerators none next c ≡ Ok c
unfolding enumerators
enumerators_end next c = refl

pub enumerators_next : (list : List Enumerator) (i : ℕ) (item : Enumerator) (a b : ℤ) (c d : Context) (whole : Checked Context) →
    item ≡ get_or list i item → i < length list → enumerator_step (enumerator_tree item) a c ≡ Ok (d, b) →
    enumerators (trees enumerator_tree (drop i list)) a c ≡ whole →
    enumerators (trees enumerator_tree (drop (i + 1) list)) b d ≡ whole
enumerators_next list i item a b c d whole at below stepped so_far =
    left_next enumerator_tree (λ e next c. enumerator_step (enumerator_tree e) next c) enumerators (λ next d. d) enumerators_end enumerators_go
    list i item a b c d whole at below stepped so_far

-- a tag is never declared again in its scope

never_again : (file : Bool) (before : PlainNamed) (type : PlainType) → not (file && is_same_again before (n.Tag type)) ≡ true
never_again true (n.Object t i) type = refl
never_again true (n.Register t i) type = refl
never_again true (n.Function t i) type = refl
never_again true (n.Typedef t) type = refl
never_again true (n.Constant t v) type = refl
never_again true (n.BuiltIn i) type = refl
never_again true (n.Tag t) type = refl
never_again false before type = refl

abbrev declares : ℕ → List ℕ → PlainNamed → Context → Bool → Bool → Checked Context
declares line name named c twice again =
    unless twice DeclaredTwice line (Ok (record c { scopes = cond again c.scopes (with_name c.scopes name named) }))

abbrev fresh : ℕ → List ℕ → PlainNamed → Context → Bool → Checked Context
fresh line name named c taken =
    unless taken DeclaredTwice line (Ok (record c { scopes = with_name c.scopes name named }))

by_found : (line : ℕ) (name : List ℕ) (type : PlainType) (c : Context) (file : Bool) (found : Option PlainNamed) →
    declares line name (n.Tag type) c (is_twice_in file (n.Tag type) found) (is_some found) ≡ fresh line name (n.Tag type) c (is_some found)
by_found line name type c file None = refl
by_found line name type c file (Some before) =
    ap (λ twice. declares line name (n.Tag type) c twice true) (never_again file before type)

pub tag_declared : (line : ℕ) (name : List ℕ) (type : PlainType) (c : Context) →
    declared_as line name (n.Tag type) c ≡
    unless (is_some (named_in name (innermost c.scopes))) DeclaredTwice line
    (Ok (record c { scopes = with_name c.scopes name (n.Tag type) }))
tag_declared line name type c = by_found line name type c (is_file c.scopes.inner) (named_in name (innermost c.scopes))
