-- A tree as it stands in the program has the form and declares the names that it has and declares in the unit.
use Rattle.c_units.proofs.Words.Std.{Bool, List, None, Option, Some, [], ap, false, if◌then◌else◌, inl, inr, refl, subst, suc, sym, true, ℕ, ◌∙◌, ◌∷◌, ◌≡◌, ◌⊎◌}
use Rattle.c_units.proofs.Words.Trees.{At, Form, Leaf, Node, Place, Tree, Trees, count, first_name, is_scope, leads_to_name, name_among, name_of, none, places, shape, ◌▹◌}
use Rattle.c_units.proofs.Words.Units.{HasNoDots, HaveNoDots, IsWithoutDot, Names, Scope, all_renamed, behind, made, renamed, use_of}
use Rattle.c_tree.specs.Words as w
use Rattle.c_tree.specs.Forms as f
use Rattle.c_tree.specs.Places as p
use Rattle.c_units.specs.Names.{named}
use Rattle.c_units.specs.Names as n

-- the parts of a name in an expression, and all others, of which nothing is told
abbrev pub IsName : Trees → Type 0
IsName parts = (line : ℕ) × (name : List ℕ) × (parts ≡ At line ▹ Leaf (w.Name name) ▹ none)

abbrev pub IsOther : Trees → Type 0
IsOther parts = ((x : Names) → named parts x ≡ Node f.Name parts) × ((s : Scope) → use_of parts s ≡ s)

pub name_parts : (parts : Trees) → IsName parts ⊎ IsOther parts
unfolding named
name_parts (At line ▹ Leaf (w.Name name) ▹ none) = inl (line, name, refl)
name_parts parts = inr (λ x. refl, λ s. refl)

-- what is made stays a node of its form
pub made_node : (form : Form) (parts : Trees) (x : Names) → (new : Trees) × (made form parts x ≡ Node form new)
unfolding made named
made_node f.Name (At line ▹ Leaf (w.Name name) ▹ none) x = (_, refl)
made_node form parts x = (parts, refl)

made_name : (form : Form) (parts new : Trees) (x : Names) → name_among new ≡ name_among parts → name_of (made form new x) ≡ name_of (Node form parts)
unfolding made named name_of leads_to_name
made_name f.Name parts (At line ▹ Leaf (w.Name name) ▹ none) x h = refl
made_name form parts new x h = ap (λ (o : Option (List ℕ)). if leads_to_name form then o else None) h

mutual
  unfolding renamed all_renamed name_of name_among

  -- a tree declares the names that it declares
  pub name_same : (tree : Tree) (x : Names) → name_of (renamed tree x) ≡ name_of tree
  name_same (Leaf word) x = refl
  name_same (At line) x = refl
  name_same (Node form parts) x =
      let ps = places (shape form (count parts)) in
      made_name form parts (all_renamed parts ps (n.entered form parts x)) x (names_same parts ps (n.entered form parts x))

  pub names_same : (parts : Trees) (ps : List Place) (x : Names) → name_among (all_renamed parts ps x) ≡ name_among parts
  names_same none ps x = refl
  names_same (tree ▹ rest) [] x = refl
  names_same (tree ▹ rest) (place ∷ ps) x =
      let next = n.left_part (is_scope place) x (behind tree x) in
      ap (λ (o : Option (List ℕ)). first_name o (name_among (all_renamed rest ps next))) (name_same tree x)
      ∙ ap (λ (o : Option (List ℕ)). first_name (name_of tree) o) (names_same rest ps next)

pub count_same : (parts : Trees) (ps : List Place) (x : Names) → count (all_renamed parts ps x) ≡ count parts
unfolding all_renamed
count_same none ps x = refl
count_same (tree ▹ rest) [] x = refl
count_same (tree ▹ rest) (place ∷ ps) x = ap suc (count_same rest ps (n.left_part (is_scope place) x (behind tree x)))

-- the name of a tree of a text has no dot
first_plain : (x y : Option (List ℕ)) → IsWithoutDot x → IsWithoutDot y → IsWithoutDot (first_name x y)
first_plain None y h g = g
first_plain (Some name) y h g = h

node_plain : (leads : Bool) (name : Option (List ℕ)) → IsWithoutDot name → IsWithoutDot (if leads then name else None)
node_plain true name h = h
node_plain false name h = tt

mutual
  unfolding name_of name_among HasNoDots HaveNoDots

  pub name_plain : (tree : Tree) → HasNoDots tree → IsWithoutDot (name_of tree)
  name_plain (Leaf word) h = h
  name_plain (At line) h = tt
  name_plain (Node form parts) h = node_plain (leads_to_name form) (name_among parts) (names_plain parts h)

  pub names_plain : (parts : Trees) → HaveNoDots parts → IsWithoutDot (name_among parts)
  names_plain none h = tt
  names_plain (tree ▹ rest) h = first_plain (name_of tree) (name_among rest) (name_plain tree h.0) (names_plain rest h.1)

-- the parts of a node that are no name in an expression stay such
other_node : (tree : Tree) (rest parts : Trees) (form : Form) → tree ≡ Node form parts → IsOther (tree ▹ rest)
unfolding named
other_node tree rest parts form h = subst (λ (y : Tree). IsOther (y ▹ rest)) (sym h) (λ x. refl, λ s. refl)

other_second : (line : ℕ) (tree : Tree) (rest parts : Trees) (form : Form) → tree ≡ Node form parts → IsOther (At line ▹ tree ▹ rest)
unfolding named
other_second line tree rest parts form h = subst (λ (y : Tree). IsOther (At line ▹ y ▹ rest)) (sym h) (λ x. refl, λ s. refl)

abbrev pub name_places : List Place
name_places = p.Line ∷ p.Name ∷ []

pub stays_other : (parts : Trees) (x : Names) → IsName parts ⊎ (IsOther parts × IsOther (all_renamed parts name_places x))
unfolding named renamed all_renamed
stays_other (Node form parts ▹ rest) x = inr ((λ y. refl, λ s. refl), other_node _ _ _ form (made_node form _ x).1)
stays_other (At line ▹ Node form parts ▹ rest) x = inr ((λ y. refl, λ s. refl), other_second line _ _ _ form (made_node form _ _).1)
stays_other (At line ▹ Leaf (w.Name name) ▹ none) x = inl (line, name, refl)
stays_other parts x = inr ((λ y. refl, λ s. refl), (λ y. refl, λ s. refl))
