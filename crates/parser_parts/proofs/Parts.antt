-- Parts behind parts: their trees and how deep they are.
use Rattle.std.proofs.Common.{◌≡◌, ℕ, ◌+◌, List, [], ◌∷◌, max, refl, sym, ◌∙◌, arith}
use Rattle.c_tree.specs.Tree.{Tree, Trees, Leaf, none, ◌▹◌}
use Rattle.c_tree.specs.Depth.{depth, layers, layers_all, below, greatest_depth, greatest_below}
use Rattle.c_tree.specs.Forms as f
use Rattle.c_tree.specs.Scopes.{suffix_params}
use Rattle.std.specs.Prelude.{is_some}
use Rattle.c_tree.specs.Tree.{At, Node}
use Rattle.c_tree.specs.StatementView.{trees}
use Rattle.c_tree.specs.View.{literal_leaves}
use Rattle.grammar_reading.specs.Reading.{snoc}

pub depth_behind : (parts : Trees) (last : Tree) → greatest_depth (snoc parts last) ≡ max (greatest_depth parts) (depth last)
unfolding greatest_depth
depth_behind none last = omega arith
depth_behind (first ▹ rest) last = let ih = depth_behind rest last in omega (arith, ih)

-- string literals have no depth
pub leaves_flat : (list : List (List ℕ)) → greatest_depth (literal_leaves list) ≡ 0
unfolding greatest_depth layers below
leaves_flat [] = refl
leaves_flat (first ∷ list) = let rest = leaves_flat list in omega (arith, rest)

pub layers_behind : (parts : Trees) (last : Tree) → layers_all (snoc parts last) ≡ layers_all parts + layers last
unfolding layers_all
layers_behind none last = omega arith
layers_behind (first ▹ rest) last = let ih = layers_behind rest last in omega (arith, ih)

pub below_behind : (parts : Trees) (last : Tree) → greatest_below (snoc parts last) ≡ max (greatest_below parts) (below last)
unfolding greatest_below
below_behind none last = omega arith
below_behind (first ▹ rest) last = let ih = below_behind rest last in omega (arith, ih)

-- the first suffix alone says whether there are parameters next to the name
pub first_decides : (first : Tree) (rest : Trees) → is_some (suffix_params (Node f.Suffixes (first ▹ rest) ▹ none)) ≡ is_some (suffix_params (Node f.Suffixes (first ▹ none) ▹ none))
unfolding suffix_params
first_decides (Leaf word) rest = refl
first_decides (At line) rest = refl
first_decides (Node f.FunctionSuffix none) rest = refl
first_decides (Node f.FunctionSuffix (line ▹ none)) rest = refl
first_decides (Node f.FunctionSuffix (line ▹ params ▹ none)) rest = refl
first_decides (Node f.FunctionSuffix (line ▹ params ▹ more ▹ others)) rest = refl
first_decides (Node _ parts) rest = refl

pub same_first : (first : Tree) (rest : Trees) (last : Tree) → is_some (suffix_params (Node f.Suffixes (snoc (first ▹ rest) last) ▹ none)) ≡ is_some (suffix_params (Node f.Suffixes (first ▹ rest) ▹ none))
same_first first rest last = first_decides first (snoc rest last) ∙ sym (first_decides first rest)

-- a suffix behind others, and the first one
pub behind_some : {A : Type 0} (view : A → Tree) (list : List A) (last : Tree) → (list ≡ [] → ⊥) → is_some (suffix_params (Node f.Suffixes (snoc (trees view list) last) ▹ none)) ≡ is_some (suffix_params (Node f.Suffixes (trees view list) ▹ none))
behind_some view [] last h = absurd (h refl)
behind_some view (first ∷ list) last h = same_first (view first) (trees view list) last

pub behind_none : {A : Type 0} (view : A → Tree) (list : List A) (last : Tree) → list ≡ [] → is_some (suffix_params (Node f.Suffixes (snoc (trees view list) last) ▹ none)) ≡ is_some (suffix_params (Node f.Suffixes (last ▹ none) ▹ none))
behind_none view [] last h = refl
behind_none view (first ∷ list) last h = cc
