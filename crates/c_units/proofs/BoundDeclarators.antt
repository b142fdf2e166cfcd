-- A declarator as it stands in the program: with another name, and with the same parameters.
use Rattle.c_units.proofs.Words.Std.{Bool, List, None, Option, Some, [], ap, ap₂, false, if◌then◌else◌, option_map, refl, replicate, subst, subst₂, suc, sym, true, zero, ℕ, ◌++◌, ◌∙◌, ◌∷◌, ◌≡◌}
use Rattle.c_units.proofs.Words.Trees.{At, Base, Declarator, Form, Item, Leaf, Node, Part, Place, Row_of-Suffix, Tree, Trees, Word, base_tree, count, declarator_tree, end_of-Suffix, first_list, first_name, is_scope, key, leads_to_name, more_of-Suffix, name_among, name_of, none, params_among, params_of, places, shape, suffix_params, suffix_tree, suffix_trees, word_name, ◌▹◌}
use Rattle.c_units.proofs.Words.Units.{Names, Scope, after, after_all, all_renamed, all_with_name, behind, left_part, made, renamed, with_name, word_as}
use Rattle.c_tree.specs.declared.word.Keyword.TheVariants as k
use Rattle.c_tree.specs.declared.tree.Declarator.TheVariants as d
use Rattle.c_tree.specs.declared.tree.Base.TheVariants as b
use Rattle.c_tree.specs.declared.tree.SuffixKind.TheVariants as s
use Rattle.c_tree.specs.Words as w
use Rattle.c_tree.specs.Forms as f
use Rattle.c_tree.specs.Places as p
use Rattle.c_units.specs.Names as n
use Rattle.c_units.specs.Binding.{left, entered}

-- the same name for a declarator that has one
abbrev pub named_so : List ℕ → Option (List ℕ) → Option (List ℕ)
named_so name old = option_map (λ _. name) old

first_so : (name : List ℕ) (x y : Option (List ℕ)) → first_name (named_so name x) (named_so name y) ≡ named_so name (first_name x y)
first_so name None y = refl
first_so name (Some one) y = refl

word_so : (name : List ℕ) (word : Word) → word_name (word_as name word) ≡ named_so name (word_name word)
word_so name (w.Name bytes) = refl
word_so name word = refl

node_so : (leads : Bool) (form : Form) (name : List ℕ) (parts : Trees) → leads_to_name form ≡ leads →
    name_among (all_with_name name parts) ≡ named_so name (name_among parts) →
    name_of (if leads then Node form (all_with_name name parts) else Node form parts) ≡ named_so name (if leads then name_among parts else None)
unfolding name_of
node_so true form name parts e h = ap (λ (x : Bool). if x then name_among (all_with_name name parts) else None) e ∙ h
node_so false form name parts e h = ap (λ (x : Bool). if x then name_among parts else None) e

mutual
  unfolding with_name all_with_name name_of name_among

  pub name_so : (name : List ℕ) (tree : Tree) → name_of (with_name name tree) ≡ named_so name (name_of tree)
  name_so name (Leaf word) = word_so name word
  name_so name (At line) = refl
  name_so name (Node form parts) = node_so (leads_to_name form) form name parts refl (names_so name parts)

  names_so : (name : List ℕ) (parts : Trees) → name_among (all_with_name name parts) ≡ named_so name (name_among parts)
  names_so name none = refl
  names_so name (tree ▹ rest) =
      ap₂ first_name (name_so name tree) (names_so name rest) ∙ first_so name (name_of tree) (name_among rest)

first_none : (x : Option Trees) → first_list x None ≡ x
first_none None = refl
first_none (Some parts) = refl

-- a second part behind a line
behind_line : (line : ℕ) (x y : Tree) (ps : List Place) (t : Scope) → ((u : Scope) → after x u ≡ after y u) →
    after_all (At line ▹ x ▹ none) ps t ≡ after_all (At line ▹ y ▹ none) ps t
unfolding after after_all
behind_line line x y [] t h = refl
behind_line line x y (place ∷ []) t h = refl
behind_line line x y (place ∷ next ∷ ps) t h =
    let u : Scope = left_part (is_scope place) t t in
    ap (λ (v : Scope). after_all none ps (left_part (is_scope next) u v)) (h u)

consts_none : (count : ℕ) (rest : List Item) → places (replicate count (key k.Const) ++ rest) ≡ places rest
consts_none zero rest = refl
consts_none (suc count) rest = consts_none count rest

-- parameters as they stand in the program, where this is known before them
abbrev pub AreRenamed : Option Trees → Option Trees → Type 0
AreRenamed new old = (x : Names) × (new ≡ option_map (λ ps. all_renamed ps (p.Params ∷ []) x) old)

-- a tree that is a node
abbrev IsNode : Tree → Type 0
IsNode tree = (form : Form) × (parts : Trees) × (tree ≡ Node form parts)

with_node_by : (leads : Bool) (form : Form) (more parts : Trees) → IsNode (if leads then Node form more else Node form parts)
with_node_by true form more parts = (form, more, refl)
with_node_by false form more parts = (form, parts, refl)

with_node : (name : List ℕ) (tree : Tree) → IsNode tree → IsNode (with_name name tree)
unfolding with_name
with_node name tree h =
    subst (λ (x : Tree). IsNode (with_name name x)) (sym h.2)
    (with_node_by (leads_to_name h.0) h.0 (all_with_name name h.1) h.1)

alone : (tree : Tree) → IsNode tree → params_among (tree ▹ none) ≡ params_of tree
unfolding params_among
alone tree h =
    subst (λ (x : Tree). params_among (x ▹ none) ≡ params_of x) (sym h.2) (first_none (params_of (Node h.0 h.1)))

are_renamed : (new new' old old' : Option Trees) → new ≡ new' → old ≡ old' → AreRenamed new old → AreRenamed new' old'
are_renamed new new' old old' e g h = subst₂ AreRenamed e g h

suffix_kept : (m : _) (row : Row_of-Suffix m) (x : Names) →
    AreRenamed (suffix_params (renamed (Node f.Suffixes (suffix_trees row)) x ▹ none)) (suffix_params (Node f.Suffixes (suffix_trees row) ▹ none))
unfolding suffix_trees suffix_tree suffix_params behind renamed all_renamed made shape n.entered is_scope
suffix_kept m end_of-Suffix x = (x, refl)
suffix_kept m (more_of-Suffix line (s.Array' length) rest) x = (x, refl)
suffix_kept m (more_of-Suffix line s.Void rest) x = (x, refl)
suffix_kept m (more_of-Suffix line (s.Params' k params) rest) x = (record x { inside = true }, refl)

-- a declarator as it stands in the program, before it gets its name there
abbrev pub Keeps : List ℕ → Tree → Tree → Type 0
Keeps name new old =
    IsNode old × IsNode new × ((t : Scope) → after (with_name name new) t ≡ after new t)
    × (params_of (with_name name new) ≡ params_of new) × AreRenamed (params_of new) (params_of old)

-- the same of what its suffixes stand behind
abbrev KeepsBase : List ℕ → Tree → Tree → Type 0
KeepsBase name new old =
    ((t : Scope) → after (with_name name new) t ≡ after new t)
    × ((parts more : Trees) → AreRenamed (suffix_params (Node f.Suffixes more ▹ none)) (suffix_params (Node f.Suffixes parts ▹ none)) →
    (params_among (with_name name new ▹ Node f.Suffixes more ▹ none) ≡ params_among (new ▹ Node f.Suffixes more ▹ none))
    × AreRenamed (params_among (new ▹ Node f.Suffixes more ▹ none)) (params_among (old ▹ Node f.Suffixes parts ▹ none)))

pub pointer_renamed : (consts line : ℕ) (tree : Tree) (x : Names) →
    renamed (Node (f.Pointer consts) (At line ▹ tree ▹ none)) x ≡ Node (f.Pointer consts) (At line ▹ renamed tree x ▹ none)
unfolding behind renamed all_renamed made shape n.entered is_scope
pointer_renamed consts line tree x =
    ap (λ (ps : List Place). Node (f.Pointer consts) (all_renamed (At line ▹ tree ▹ none) (p.Line ∷ ps) x)) (consts_none consts (Part p.AnyDeclarator ∷ []))

keeps_pointer : (name : List ℕ) (consts line : ℕ) (new old : Tree) → Keeps name new old →
    Keeps name (Node (f.Pointer consts) (At line ▹ new ▹ none)) (Node (f.Pointer consts) (At line ▹ old ▹ none))
unfolding with_name all_with_name leads_to_name params_of params_among after left entered
keeps_pointer name consts line new old h = (
  (f.Pointer consts, At line ▹ old ▹ none, refl),
  (f.Pointer consts, At line ▹ new ▹ none, refl),
  λ t. behind_line line (with_name name new) new (places (shape (f.Pointer consts) 2)) t h.2,
  alone (with_name name new) (with_node name new h.1) ∙ h.3 ∙ sym (alone new h.1),
  are_renamed (params_of new) (params_among (new ▹ none)) (params_of old) (params_among (old ▹ none)) (sym (alone new h.1)) (sym (alone old h.0)) h.4,
)

keeps_parens : (name : List ℕ) (line : ℕ) (new old : Tree) → Keeps name new old →
    KeepsBase name (Node f.Parens (At line ▹ new ▹ none)) (Node f.Parens (At line ▹ old ▹ none))
unfolding with_name all_with_name leads_to_name params_of params_among after left entered
keeps_parens name line new old h = (
  λ t. behind_line line (with_name name new) new (places (shape f.Parens 2)) t h.2,
  λ parts more e. (
    ap (λ (x : Option Trees). first_list x None) (alone (with_name name new) (with_node name new h.1) ∙ h.3 ∙ sym (alone new h.1)),
    are_renamed (params_of new) (first_list (params_among (new ▹ none)) None) (params_of old) (first_list (params_among (old ▹ none)) None)
        (sym (first_none (params_among (new ▹ none)) ∙ alone new h.1)) (sym (first_none (params_among (old ▹ none)) ∙ alone old h.0)) h.4,
  ),
)

keeps_direct : (name : List ℕ) (new old : Tree) (parts more : Trees) → KeepsBase name new old →
    AreRenamed (suffix_params (Node f.Suffixes more ▹ none)) (suffix_params (Node f.Suffixes parts ▹ none)) →
    Keeps name (Node f.Direct (new ▹ Node f.Suffixes more ▹ none)) (Node f.Direct (old ▹ Node f.Suffixes parts ▹ none))
unfolding with_name all_with_name leads_to_name params_of after after_all left entered shape is_scope
keeps_direct name new old parts more h e = (
  (f.Direct, old ▹ Node f.Suffixes parts ▹ none, refl),
  (f.Direct, new ▹ Node f.Suffixes more ▹ none, refl),
  λ t. ap (λ (u : Scope). after (Node f.Suffixes more) u) (h.0 t),
  (h.1 parts more e).0,
  (h.1 parts more e).1,
)

mutual
  unfolding declarator_tree base_tree behind renamed all_renamed made shape n.entered is_scope with_name params_among after params_of leads_to_name

  -- a declarator of the code
  pub declarator_kept : (declarator : Declarator) (name : List ℕ) (x : Names) → Keeps name (renamed (declarator_tree declarator) x) (declarator_tree declarator)
  declarator_kept (d.Pointer' line consts p target) name x =
      subst (λ (tree : Tree). Keeps name tree (Node (f.Pointer consts) (At line ▹ declarator_tree target ▹ none)))
      (sym (pointer_renamed consts line (declarator_tree target) x))
      (keeps_pointer name consts line (renamed (declarator_tree target) x) (declarator_tree target) (declarator_kept target name x))
  declarator_kept (d.Direct' base m suffixes) name x =
      keeps_direct name (renamed (base_tree base) x) (base_tree base) (suffix_trees suffixes) _ (base_kept base name x)
      (suffix_kept _ suffixes (behind (base_tree base) x))

  base_kept : (base : Base) (name : List ℕ) (x : Names) → KeepsBase name (renamed (base_tree base) x) (base_tree base)
  base_kept b.Nothing name x = (λ t. refl, λ parts more e. (refl, (x, refl)))
  base_kept (b.Name old) name x = (λ t. refl, λ parts more e. (refl, e))
  base_kept (b.Parens' line p target) name x =
      keeps_parens name line (renamed (declarator_tree target) x) (declarator_tree target) (declarator_kept target name x)
