-- The name `main`, which no suffix makes of another name or another name of it.
use Rattle.core_soundness.proofs.Words.Std.{◌≡◌, ◌==◌, ℕ, Bool, true, false, cond, List, [], ◌∷◌, ◌++◌, ◌⊎◌, inl, inr, refl, ap, eq-eqb, arith, eqb-true, append-nil, codes, IfSome}
use Rattle.core_soundness.proofs.Words.Trees.{is_space, is_letter, is_digit, is_name_byte, class_of, kind_of, IsToken, IsDotted, IsSuffixed, name_of, Tree, Trees, Node, none, ◌▹◌}
use Rattle.core_soundness.proofs.Words.Facts.{AllNames, Each}
use Rattle.c_lexer.specs.declared.token.TokenKind.TheVariants as kind
use Rattle.c_tree.specs.Forms as f
use Rattle.elaboration.specs.Resolving.{plain_name}
use Rattle.core_soundness.proofs.Scopes.{name_named}

-- a name that is `main` without its suffix has none
abbrev pub IsOwn : List ℕ → Type 0
IsOwn name = plain_name name ≡ codes "main" → name ≡ codes "main"

-- so is the name of a function that is defined, and of each of some
abbrev pub HasOwnName : Tree → Type 0
HasOwnName (Node f.Function (line ▹ words ▹ Node f.Declared (declarator ▹ none) ▹ body ▹ none)) =
    IfSome (name_of declarator) IsOwn
HasOwnName tree = Unit {0}

abbrev pub HaveOwnNames : Trees → Type 0
HaveOwnNames unit = Each HasOwnName unit

-- a token that is a name

-- a name is what it is without its suffix, or has a dot behind that
IsCut : List ℕ → List ℕ → Type 0
IsCut name cut = (name ≡ cut) ⊎ ((rest : List ℕ) × (name ≡ cut ++ 46 ∷ rest))

cut_more : (b : ℕ) (name cut : List ℕ) → IsCut name cut → IsCut (b ∷ name) (b ∷ cut)
unfolding IsCut
cut_more b name cut h3 = search arith fits 100

name_cut : (name : List ℕ) → IsCut name (plain_name name)
unfolding IsCut
name_cut [] = inl refl
name_cut (b ∷ rest) = by (b == 46) refl (cut_more b rest (plain_name rest) (name_cut rest))
  where
    by : (t : Bool) → (b == 46) ≡ t → IsCut (b ∷ rest) (b ∷ plain_name rest) → IsCut (b ∷ rest) (cond t [] (b ∷ plain_name rest))
    by true e h = inr (rest, ap (λ (k : ℕ). k ∷ rest) (eqb-true b 46 e))
    by false e h = h

pub own_name : (name : List ℕ) → IsToken kind.Name name → IsOwn name
unfolding IsCut kind_of class_of is_space is_letter is_digit is_name_byte
own_name name token e = grind (arith, name_cut)

-- a suffix keeps that

plain_suffix : (name suffix : List ℕ) → IsDotted suffix → plain_name (name ++ suffix) ≡ plain_name name
plain_suffix [] [] h = refl
plain_suffix [] (b ∷ rest) h = ap (λ (t : Bool). cond t [] (b ∷ plain_name rest)) (eq-eqb b 46 h)
plain_suffix (b ∷ name) suffix h = ap (λ (xs : List ℕ). cond (b == 46) [] (b ∷ xs)) (plain_suffix name suffix h)

pub own_kept : (name new : List ℕ) → IsSuffixed name new → IsOwn name → IsOwn new
own_kept name new s own e = search (arith, plain_suffix, append-nil)

-- the names of functions that are defined

pub own_trees : (unit : Trees) → AllNames IsOwn unit → HaveOwnNames unit
own_trees none h = tt
own_trees (tree ▹ rest) h = (search (arith, name_named) fits 100, own_trees rest h.1)
