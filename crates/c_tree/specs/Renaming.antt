-- Trees that differ from others in names alone, some of which have a suffix there.
use Rattle.std.specs.Prelude.{◌≡◌, ◌≤◌, ◌⊎◌, ⊤, ℕ, List, [], ◌∷◌, ◌++◌, length, codes}
use Rattle.c_tree.specs.Words as w
use Rattle.c_tree.specs.Words.{Word}
use Rattle.c_tree.specs.Tree.{Tree, Trees, Leaf, At, Node, none, ◌▹◌}

-- a suffix begins with a dot, which no name of a text has (C99 6.4.2.1)
abbrev pub IsDotted : List ℕ → Type 0
IsDotted [] = ⊤
IsDotted (b ∷ rest) = b ≡ 46

-- a name, and perhaps a suffix of at most three bytes behind it; `main` has none
pub record IsSuffixed (name new : List ℕ) : Type 0 where
  pub suffix : List ℕ
  pub is : new ≡ name ++ suffix
  pub dotted : IsDotted suffix
  pub short : length suffix ≤ 3
  pub main : name ≡ codes "main" → suffix ≡ []

-- a word that is the same, or a name with a suffix
abbrev pub IsRenamed : Word → Word → Type 0
IsRenamed (w.Name name) new = (named : List ℕ) × (new ≡ w.Name named) × IsSuffixed name named
IsRenamed word new = new ≡ word

unfoldable mutual
  -- a tree of the same form and lines
  pub Renames : Tree → Tree → Type 0
  Renames (Leaf word) (Leaf new) = IsRenamed word new
  Renames (At line) (At new) = new ≡ line
  Renames (Node form parts) (Node new news) = (new ≡ form) × RenamesAll parts news
  Renames tree new = ⊥

  pub RenamesAll : Trees → Trees → Type 0
  RenamesAll none none = ⊤
  RenamesAll (tree ▹ rest) (new ▹ news) = Renames tree new × RenamesAll rest news
  RenamesAll trees news = ⊥

-- some of these trees in their order, so renamed
unfoldable pub RenamesSome : Trees → Trees → Type 0
RenamesSome none none = ⊤
RenamesSome none news = ⊥
RenamesSome (tree ▹ rest) none = RenamesSome rest none
RenamesSome (tree ▹ rest) (new ▹ news) =
    (Renames tree new × RenamesSome rest news) ⊎ RenamesSome rest (new ▹ news)
