-- The parameters of a function that is defined.
use Rattle.c_units.proofs.Words.Std.{Box, Err, Global, IfOk, List, None, Ok, Option, Result, Some, Vec, [], ap, ap₂, arith, get_or, length, refl, set, sym, with_items, ℕ, ◌<◌, ◌∙◌, ◌∷◌, ◌≡◌, ◌≤◌}
use Rattle.c_units.proofs.Words.Trees.{Base, Declarator, Expr, Node, Param, Suffix, SuffixKind, Tree, Trees, base_tree, declarator_tree, direct_tree, first_list, is_scope, leads_to_name, none, param_view, params_among, params_of, params_tree, roll-Suffix, suffix_params, suffix_tree, suffix_view, trees, ◌▹◌}
use Rattle.c_units.proofs.Words.Units.{Names, all_behind, in_turn, kind_params, with_params}
use Rattle.c_tree.specs.declared.tree.Declarator.TheVariants as d
use Rattle.c_tree.specs.declared.tree.Base.TheVariants as b
use Rattle.c_tree.specs.declared.tree.SuffixKind.TheVariants as s
use Rattle.c_tree.specs.Forms as f
use Rattle.c_units.proofs.ListTurns.{params_turn}
use Rattle.c_units.proofs.WalkSteps.{if_by, held, items_in}

list_none : (list : Option Trees) → first_list list None ≡ list
list_none None = refl
list_none (Some parts) = refl

among_declarator : (declarator : Declarator) → params_among (declarator_tree declarator ▹ none) ≡ params_of (declarator_tree declarator)
unfolding declarator_tree params_among
among_declarator (d.Pointer' line consts p target) = list_none (params_of (declarator_tree (d.Pointer' line consts p target)))
among_declarator (d.Direct' base shape suffixes) = list_none (params_of (declarator_tree (d.Direct' base shape suffixes)))

pub pointer_params : (declarator : Declarator) (line consts : ℕ) (target : Box Declarator Global) → declarator ≡ d.Pointer line consts target →
    params_of (declarator_tree declarator) ≡ params_of (declarator_tree target.value)
unfolding declarator_tree params_of params_among leads_to_name
pointer_params declarator line consts target h =
    ap (λ (k : Declarator). params_of (declarator_tree k)) h ∙ among_declarator target.value

pub direct_params : (declarator : Declarator) (base : Base) (suffixes : Vec Suffix Global) → declarator ≡ d.Direct base suffixes →
    params_of (declarator_tree declarator) ≡ params_of (Node f.Direct (base_tree base ▹ Node f.Suffixes (trees suffix_view suffixes.items) ▹ none))
direct_params declarator base suffixes h =
    ap (λ (k : Declarator). params_of (declarator_tree k)) h ∙ ap (λ (tree : Tree). params_of tree) (direct_tree base suffixes)

module _ (base : Base) (parts : Trees) where
  pub nothing_params : base ≡ b.Nothing → params_of (Node f.Direct (base_tree base ▹ Node f.Suffixes parts ▹ none)) ≡ None
  unfolding base_tree params_of params_among leads_to_name
  nothing_params h =
      ap (λ (k : Base). params_of (Node f.Direct (base_tree k ▹ Node f.Suffixes parts ▹ none))) h

  pub name_params : (name : List ℕ) → base ≡ b.Name name →
      params_of (Node f.Direct (base_tree base ▹ Node f.Suffixes parts ▹ none)) ≡ suffix_params (Node f.Suffixes parts ▹ none)
  unfolding base_tree params_of params_among leads_to_name
  name_params name h =
      ap (λ (k : Base). params_of (Node f.Direct (base_tree k ▹ Node f.Suffixes parts ▹ none))) h

  pub parens_params : (line : ℕ) (declarator : Box Declarator Global) → base ≡ b.Parens line declarator →
      params_of (Node f.Direct (base_tree base ▹ Node f.Suffixes parts ▹ none)) ≡ params_of (declarator_tree declarator.value)
  unfolding base_tree params_of params_among leads_to_name
  parens_params line declarator h =
      ap (λ (k : Base). params_of (Node f.Direct (base_tree k ▹ Node f.Suffixes parts ▹ none))) h
      ∙ list_none (params_among (declarator_tree declarator.value ▹ none))
      ∙ among_declarator declarator.value

-- the line of a suffix, and those behind it, do not matter
any_line : (kind : SuffixKind) (line : ℕ) (rest : Trees) →
    suffix_params (Node f.Suffixes (suffix_tree kind line ▹ rest) ▹ none) ≡ kind_params kind
unfolding suffix_tree suffix_params
any_line (s.Array' length) line rest = refl
any_line s.Void line rest = refl
any_line (s.Params' shape params) line rest = refl

pub first_is : (xs : List Suffix) (x : Suffix) → 0 < length xs → x ≡ get_or xs 0 x →
    suffix_params (Node f.Suffixes (trees suffix_view xs) ▹ none) ≡ kind_params x.kind
first_is [] x h e = absurd (omega (arith, h))
first_is (y ∷ ys) x h e =
    any_line y.kind y.line (trees suffix_view ys) ∙ ap (λ (z : Suffix). kind_params z.kind) (sym e)

pub none_is : (xs : List Suffix) → length xs ≤ 0 → suffix_params (Node f.Suffixes (trees suffix_view xs) ▹ none) ≡ None
unfolding suffix_params
none_is [] h = refl
none_is (x ∷ xs) h = absurd (omega (arith, h))

set_first : (xs : List Suffix) (r : Suffix) → 0 < length xs → (d : Suffix) → suffix_view r ≡ suffix_view (get_or xs 0 d) →
    trees suffix_view (set xs 0 r) ≡ trees suffix_view xs
set_first [] r h d e = absurd (omega (arith, h))
set_first (y ∷ ys) r h d e = ap (λ (t : Tree). t ▹ trees suffix_view ys) e

-- the first of some suffixes is changed to one of the same tree
pub first_same : {T E : Type 0} (r : Result T E) (xs : List Suffix) (d : Suffix) (kind : SuffixKind) → 0 < length xs →
    ((line : ℕ) → IfOk r (λ _. suffix_tree kind line ≡ suffix_tree (get_or xs 0 d).kind line)) →
    IfOk r (λ _. trees suffix_view (set xs 0 (roll-Suffix (record { line = (get_or xs 0 d).line; kind = kind }))) ≡ trees suffix_view xs)
first_same r xs d kind h e = if_by r (set_first xs (record { line = (get_or xs 0 d).line; kind = kind }) h d) (e (get_or xs 0 d).line)

-- a declarator keeps its tree where its parts do
pub direct_same : {T E : Type 0} (r : Result T E) (old : Declarator) (b base base' : Base) (v suffixes : Vec Suffix Global) (list news : List Suffix) →
    old ≡ d.Direct base suffixes → b ≡ base → v ≡ suffixes → list ≡ v.items → length news ≡ length list →
    IfOk r (λ _. base_tree base' ≡ base_tree b) → IfOk r (λ _. trees suffix_view news ≡ trees suffix_view list) →
    IfOk r (λ _. declarator_tree (d.Direct base' (with_items v news)) ≡ declarator_tree old)
direct_same (Ok x) old b base base' v suffixes list news is same all rest long one more =
    direct_tree base' (with_items v news)
    ∙ ap (λ (l : List Suffix). Node f.Direct (base_tree base' ▹ Node f.Suffixes (trees suffix_view l) ▹ none)) (held v list news rest long)
    ∙ ap₂ (λ (t : Tree) (l : Trees). Node f.Direct (t ▹ Node f.Suffixes l ▹ none)) (one ∙ ap (λ (o : Base). base_tree o) same)
    (more ∙ ap (λ (l : List Suffix). trees suffix_view l) (items_in v suffixes list all rest))
    ∙ sym (ap (λ (o : Declarator). declarator_tree o) is ∙ direct_tree base suffixes)
direct_same (Err x) old b base base' v suffixes list news is same all rest long one more = tt

module _ (x : Names) where
  pub array_params : (kind : SuffixKind) (length : Option (Box Expr Global)) → kind ≡ s.Array length → with_params (kind_params kind) x ≡ x
  unfolding suffix_tree suffix_params
  array_params kind length h = ap (λ (k : SuffixKind). with_params (kind_params k) x) h

  pub void_params : (kind : SuffixKind) → kind ≡ s.Void → with_params (kind_params kind) x ≡ x
  unfolding suffix_tree suffix_params all_behind
  void_params kind h = ap (λ (k : SuffixKind). with_params (kind_params k) x) h

  pub list_params : (kind : SuffixKind) (params : Vec Param Global) → kind ≡ s.Params params →
      with_params (kind_params kind) x ≡ in_turn (trees param_view params.items) x
  unfolding suffix_params all_behind is_scope
  list_params kind params h =
      ap (λ (k : SuffixKind). with_params (kind_params k) x) h
      ∙ ap (λ (tree : Tree). with_params (suffix_params (Node f.Suffixes (tree ▹ none) ▹ none)) x) (params_tree params 0)
      ∙ (params_turn (trees param_view params.items) x).0
