-- Trees that are made of those of texts.
use Rattle.std.specs.Prelude.{◌≤◌, ℕ, List, [], ◌∷◌, All, length}
use Rattle.std.specs.List.{sum_by}
use Rattle.c_lexer.specs.Tokens.{IsLexed}
use Rattle.c_lexer.specs.declared.token.Token.{Token}
use Rattle.c_tree.specs.HasTree.{HasTree}
use Rattle.c_tree.specs.Renaming.{RenamesSome}
use Rattle.c_tree.specs.Tree.{Tree, Trees, Leaf, At, Node, none, ◌▹◌}
use Rattle.c_tree.specs.Words as w
use Rattle.c_tree.specs.Words.{Word}
use Rattle.core_tree.specs.Sound.{IsShort}

-- trees one behind another
abbrev pub joined : Trees → Trees → Trees
joined none others = others
joined (tree ▹ rest) others = tree ▹ joined rest others

abbrev pub all_joined : List Trees → Trees
all_joined [] = none
all_joined (unit ∷ units) = joined unit (all_joined units)

-- each of these texts, by its tokens, has its tree
abbrev pub HaveTrees : List (List Token) → List Trees → Type 0
HaveTrees [] [] = Unit {0}
HaveTrees (tokens ∷ texts) (unit ∷ units) = (All IsLexed tokens × HasTree tokens unit) × HaveTrees texts units
HaveTrees texts units = ⊥

-- each name of a tree is such a one
abbrev pub WordNames : (List ℕ → Type 0) → Word → Type 0
WordNames W (w.Name bytes) = W bytes
WordNames W _ = Unit {0}

abbrev mutual
  pub Names : (List ℕ → Type 0) → Tree → Type 0
  Names W (Leaf word) = WordNames W word
  Names W (At line) = Unit {0}
  Names W (Node _ parts) = AllNames W parts

  pub AllNames : (List ℕ → Type 0) → Trees → Type 0
  AllNames W none = Unit {0}
  AllNames W (tree ▹ rest) = Names W tree × AllNames W rest

-- the external declarations of a tree are some of those of texts, in their order, with names that may have a suffix
pub record IsMadeOf (texts : List (List Token)) (units : List Trees) (unit : Trees) : Type 0 where
  pub trees : HaveTrees texts units
  pub renamed : RenamesSome (all_joined units) unit

-- the texts have at most so many tokens together, and the names of the tree are shorter than 2 to the 32
pub record IsSmall (texts : List (List Token)) (unit : Trees) : Type 0 where
  pub few : sum_by (λ (tokens : List Token). length tokens) texts ≤ 268435456
  pub short : AllNames IsShort unit

-- a tree is made of those of some texts, and is small
abbrev pub IsOfTexts : Trees → Type 0
IsOfTexts unit =
    (texts : List (List Token)) × (units : List Trees) × IsMadeOf texts units unit × IsSmall texts unit
