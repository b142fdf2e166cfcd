-- The parameters next to the name of a declarator, layer by layer.
use Rattle.std.proofs.Common.{◌≡◌, ℕ, Bool, List, Option, Some, None, is_some, Vec, Global, refl, ap, sym, ◌∙◌}
use Rattle.c_tree.specs.declared.tree.Base.{Base}
use Rattle.c_tree.specs.declared.tree.Base.TheVariants as b
use Rattle.c_tree.specs.declared.tree.Suffix.{Suffix}
use Rattle.c_tree.specs.ViewEquations.{direct_tree}
use Rattle.c_tree.specs.StatementView.{trees, suffix_view}
use Rattle.c_tree.specs.declared.tree.Declarator.{Declarator}
use Rattle.c_tree.specs.declared.tree.Declarator.TheVariants as d
use Rattle.c_tree.specs.Forms as f
use Rattle.c_tree.specs.Scopes.{params_of, params_among, suffix_params, leads_to_name, first_list}
use Rattle.c_tree.specs.Tree.{Trees, Leaf, At, Node, none, ◌▹◌}
use Rattle.c_tree.specs.View.{declarator_tree, base_tree}
use Rattle.c_tree.specs.Words.{Word}

first_alone : (parts : Option Trees) → first_list parts None ≡ parts
first_alone None = refl
first_alone (Some parts) = refl

one_part : (declarator : Declarator) → params_among (declarator_tree declarator ▹ none) ≡ params_of (declarator_tree declarator)
unfolding params_of declarator_tree leads_to_name
one_part (d.Pointer' line consts p target) = first_alone (params_of (declarator_tree (d.Pointer' line consts p target)))
one_part (d.Direct' base shape suffixes) = first_alone (params_of (declarator_tree (d.Direct' base shape suffixes)))

pub declared_params : (declarator : Declarator) → params_of (Node f.Declared (declarator_tree declarator ▹ none)) ≡ params_of (declarator_tree declarator)
unfolding params_of leads_to_name
declared_params declarator = one_part declarator

pub pointer_params : (line consts : ℕ) (target : Declarator) → params_of (Node (f.Pointer consts) (At line ▹ declarator_tree target ▹ none)) ≡ params_of (declarator_tree target)
unfolding params_of leads_to_name
pointer_params line consts target = one_part target

pub name_params : (word : Word) (suffixes : Trees) → params_of (Node f.Direct (Leaf word ▹ Node f.Suffixes suffixes ▹ none)) ≡ suffix_params (Node f.Suffixes suffixes ▹ none)
unfolding params_of leads_to_name
name_params word suffixes = refl

pub nothing_params : (suffixes : Trees) → params_of (Node f.Direct (Node f.Nothing none ▹ Node f.Suffixes suffixes ▹ none)) ≡ None
unfolding params_of leads_to_name
nothing_params suffixes = refl

pub parens_params : (line : ℕ) (inner : Declarator) (suffixes : Trees) → params_of (Node f.Direct (Node f.Parens (At line ▹ declarator_tree inner ▹ none) ▹ Node f.Suffixes suffixes ▹ none)) ≡ params_of (declarator_tree inner)
unfolding params_of leads_to_name
parens_params line inner suffixes = rw (one_part inner) (first_alone (params_of (declarator_tree inner)))

-- behind a name the first suffix decides
pub named_function : (declarator : Declarator) (base : Base) (name : List ℕ) (suffixes : Vec Suffix Global) (first : List Suffix) (result : Bool) →
    declarator ≡ d.Direct base suffixes → base ≡ b.Name name → first ≡ suffixes.items →
    result ≡ is_some (suffix_params (Node f.Suffixes (trees suffix_view first) ▹ none)) →
    result ≡ is_some (params_of (declarator_tree declarator))
unfolding params_of leads_to_name base_tree
named_function declarator base name suffixes first result is_direct is_name is_first h =
    let named : declarator_tree declarator ≡ Node f.Direct (base_tree (b.Name name) ▹ Node f.Suffixes (trees suffix_view suffixes.items) ▹ none) =
    ap declarator_tree (is_direct ∙ ap (λ x. d.Direct x suffixes) is_name) ∙ direct_tree (b.Name name) suffixes in
    h ∙ ap (λ xs. is_some (suffix_params (Node f.Suffixes (trees suffix_view xs) ▹ none))) is_first ∙ sym (ap (λ tree. is_some (params_of tree)) named)
