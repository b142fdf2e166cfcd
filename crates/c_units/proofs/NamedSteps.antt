-- A declarator that gets another name where it stands.
use Rattle.c_units.proofs.Words.Std.{Box, Global, IfOk, List, Option, Result, Some, Vec, ap, ap₂, refl, sym, ℕ, ◌∙◌, ◌≡◌}
use Rattle.c_units.proofs.Words.Trees.{At, Base, Declarator, Node, Suffix, Tree, Trees, base_tree, declarator_tree, direct_tree, leads_to_name, name_among, name_of, none, suffix_view, trees, ◌▹◌}
use Rattle.c_units.proofs.Words.Units.{Binding, Names, Role, all_with_name, behind, binding_as, declare, mention, name_by, renamed, renamed_declarator, with_name}
use Rattle.c_tree.specs.declared.tree.Declarator.TheVariants as d
use Rattle.c_tree.specs.declared.tree.Base.TheVariants as b
use Rattle.c_tree.specs.Forms as f
use Rattle.c_units.proofs.BoundTrees.{name_same}
use Rattle.c_units.proofs.FileWalks.{mention_suffix, declare_suffix, behind_suffix}
use Rattle.c_units.proofs.FileNames.{first_alone, named_made}
use Rattle.c_units.proofs.WalkSteps.{if_by}

-- the name behind a line, and that before suffixes
behind_line : (line consts : ℕ) (tree : Tree) → name_of (Node (f.Pointer consts) (At line ▹ tree ▹ none)) ≡ name_of tree
unfolding name_of name_among leads_to_name
behind_line line consts tree = first_alone (name_of tree)

in_parens : (line : ℕ) (tree : Tree) → name_of (Node f.Parens (At line ▹ tree ▹ none)) ≡ name_of tree
unfolding name_of name_among leads_to_name
in_parens line tree = first_alone (name_of tree)

before_suffixes : (tree : Tree) (parts : Trees) → name_of (Node f.Direct (tree ▹ Node f.Suffixes parts ▹ none)) ≡ name_of tree
unfolding name_of name_among leads_to_name
before_suffixes tree parts = first_alone (name_of tree)

pointer_with : (name : List ℕ) (line consts : ℕ) (tree : Tree) → with_name name (Node (f.Pointer consts) (At line ▹ tree ▹ none)) ≡ Node (f.Pointer consts) (At line ▹ with_name name tree ▹ none)
unfolding with_name all_with_name leads_to_name
pointer_with name line consts tree = refl

parens_with : (name : List ℕ) (line : ℕ) (tree : Tree) → with_name name (Node f.Parens (At line ▹ tree ▹ none)) ≡ Node f.Parens (At line ▹ with_name name tree ▹ none)
unfolding with_name all_with_name leads_to_name
parens_with name line tree = refl

direct_with : (name : List ℕ) (tree : Tree) (parts : Trees) → with_name name (Node f.Direct (tree ▹ Node f.Suffixes parts ▹ none)) ≡ Node f.Direct (with_name name tree ▹ Node f.Suffixes parts ▹ none)
unfolding with_name all_with_name leads_to_name
direct_with name tree parts = refl

module _ {T E : Type 0} (r : Result T E) (F : List ℕ → List ℕ) where
  pub pointer_named : (new old : Declarator) (line consts : ℕ) (target target' : Box Declarator Global) (one : Declarator) →
      old ≡ d.Pointer line consts target → one ≡ target.value → new ≡ d.Pointer line consts target' →
      ((name : List ℕ) → name_of (declarator_tree one) ≡ Some name → IfOk r (λ _. declarator_tree target'.value ≡ with_name (F name) (declarator_tree one))) →
      (name : List ℕ) → name_of (declarator_tree old) ≡ Some name → IfOk r (λ _. declarator_tree new ≡ with_name (F name) (declarator_tree old))
  unfolding declarator_tree
  pointer_named new old line consts target target' one is first made here name e = if_by r (λ h.
      ap (λ (o : Declarator). declarator_tree o) made
      ∙ ap (λ (a : Tree). Node (f.Pointer consts) (At line ▹ a ▹ none)) (h ∙ ap (λ (o : Declarator). with_name (F name) (declarator_tree o)) first)
      ∙ sym (pointer_with (F name) line consts (declarator_tree target.value))
      ∙ sym (ap (λ (o : Declarator). with_name (F name) (declarator_tree o)) is))
      (here name (ap (λ (o : Declarator). name_of (declarator_tree o)) first ∙ sym (behind_line line consts (declarator_tree target.value))
      ∙ sym (ap (λ (o : Declarator). name_of (declarator_tree o)) is) ∙ e))

  pub direct_named : (new old : Declarator) (base base' one : Base) (suffixes : Vec Suffix Global) →
      old ≡ d.Direct base suffixes → one ≡ base → new ≡ d.Direct base' suffixes →
      ((name : List ℕ) → name_of (base_tree one) ≡ Some name → IfOk r (λ _. base_tree base' ≡ with_name (F name) (base_tree one))) →
      (name : List ℕ) → name_of (declarator_tree old) ≡ Some name → IfOk r (λ _. declarator_tree new ≡ with_name (F name) (declarator_tree old))
  direct_named new old base base' one suffixes is first made here name e = if_by r (λ h.
      ap (λ (o : Declarator). declarator_tree o) made ∙ direct_tree base' suffixes
      ∙ ap (λ (a : Tree). Node f.Direct (a ▹ Node f.Suffixes (trees suffix_view suffixes.items) ▹ none)) (h ∙ ap (λ (o : Base). with_name (F name) (base_tree o)) first)
      ∙ sym (direct_with (F name) (base_tree base) (trees suffix_view suffixes.items))
      ∙ sym (ap (λ (t : Tree). with_name (F name) t) (ap (λ (o : Declarator). declarator_tree o) is ∙ direct_tree base suffixes)))
      (here name (ap (λ (o : Base). name_of (base_tree o)) first ∙ sym (before_suffixes (base_tree base) (trees suffix_view suffixes.items))
      ∙ sym (ap (λ (t : Tree). name_of t) (ap (λ (o : Declarator). declarator_tree o) is ∙ direct_tree base suffixes)) ∙ e))

  pub parens_named : (old : Base) (line : ℕ) (inner inner' : Box Declarator Global) (one : Declarator) →
      old ≡ b.Parens line inner → one ≡ inner.value →
      ((name : List ℕ) → name_of (declarator_tree one) ≡ Some name → IfOk r (λ _. declarator_tree inner'.value ≡ with_name (F name) (declarator_tree one))) →
      (name : List ℕ) → name_of (base_tree old) ≡ Some name → IfOk r (λ _. base_tree (b.Parens line inner') ≡ with_name (F name) (base_tree old))
  unfolding base_tree
  parens_named old line inner inner' one is first here name e = if_by r (λ h.
      ap (λ (a : Tree). Node f.Parens (At line ▹ a ▹ none)) (h ∙ ap (λ (o : Declarator). with_name (F name) (declarator_tree o)) first)
      ∙ sym (parens_with (F name) line (declarator_tree inner.value))
      ∙ sym (ap (λ (o : Base). with_name (F name) (base_tree o)) is))
      (here name (ap (λ (o : Declarator). name_of (declarator_tree o)) first ∙ sym (in_parens line (declarator_tree inner.value))
      ∙ sym (ap (λ (o : Base). name_of (base_tree o)) is) ∙ e))

-- a declarator at file scope that got its name behind its walk
pub file_made : {T E : Type 0} (r : Result T E) (role : Role) (line : ℕ) (tree new made : Tree) (s m behind_it last : Names) (name : List ℕ) (binding : Binding) (declared : Option (List ℕ)) →
    Some name ≡ name_of tree → binding ≡ binding_as role s.own name → m ≡ mention binding role name line s → new ≡ renamed tree m →
    behind_it ≡ behind tree m → last ≡ declare declared binding behind_it →
    ((n : List ℕ) → name_of new ≡ Some n → IfOk r (λ _. made ≡ with_name (name_by binding last.suffix n) new)) →
    IfOk r (λ _. made ≡ renamed_declarator role line tree s)
file_made r role line tree new made s m behind_it last name binding declared is bound mentioned one known after here =
    let suffix : last.suffix ≡ s.suffix =
    ap (λ (u : Names). u.suffix) after ∙ declare_suffix declared binding behind_it ∙ ap (λ (u : Names). u.suffix) known ∙ behind_suffix tree m
    ∙ ap (λ (u : Names). u.suffix) mentioned ∙ mention_suffix binding role name line s in
    if_by r (λ h.
    h ∙ ap₂ (λ (l : List ℕ) (t : Tree). with_name (name_by binding l name) t) suffix one
    ∙ ap (λ (u : Names). with_name (name_by binding s.suffix name) (renamed tree u)) mentioned
    ∙ ap (λ (w : Binding). with_name (name_by w s.suffix name) (renamed tree (mention w role name line s))) bound
    ∙ sym (named_made role line tree s name (sym is)))
    (here name (ap (λ (t : Tree). name_of t) one ∙ name_same tree m ∙ sym is))
