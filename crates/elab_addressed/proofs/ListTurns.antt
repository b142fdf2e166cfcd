-- Parts of a node that are gone through in turn.
use Rattle.std.proofs.Common.{◌≡◌, ◌≤◌, ℕ, zero, suc, Bool, false, ◌||◌, List, ◌∷◌, refl, ap, ◌∙◌, arith}
use Rattle.std.specs.Prelude.{replicate}
use Rattle.c_tree.specs.Forms as f
use Rattle.c_tree.specs.Places.{Place, Expression}
use Rattle.c_tree.specs.Places as p
use Rattle.c_tree.specs.Tree.{Trees, At, Node, none, ◌▹◌, count}
use Rattle.c_tree.specs.Grammar.{shape, rows, commas, behind_commas, some_commas, some}
use Rattle.c_tree.specs.Scopes.{places, is_scope, has_typedef}
use Rattle.elaboration.specs.Addressed.{Taken, taken, all_taken, left, left_part}
use Rattle.elab_addressed.specs.Turns.{in_turn, settled}

-- parts of places that are no scopes
turn : (place : Place) → is_scope place ≡ false → (parts : Trees) (n : ℕ) (t : Taken) → count parts ≤ n →
    all_taken parts (replicate n place) t ≡ in_turn parts t
unfolding all_taken
turn place plain none zero t h = refl
turn place plain none (suc n) t h = refl
turn place plain (tree ▹ rest) zero t h = absurd (omega (arith, h))
turn place plain (tree ▹ rest) (suc n) t h =
    ap (λ (b : Bool). all_taken rest (replicate n place) (left_part b t (taken tree t))) plain
    ∙ turn place plain rest n (taken tree t) (omega (arith, h))

places_rows : (place : Place) (n : ℕ) → places (rows place n) ≡ replicate n place
places_rows place zero = refl
places_rows place (suc n) = ap (λ (ps : List Place). place ∷ ps) (places_rows place n)

places_behind : (place : Place) (n : ℕ) → places (behind_commas place n) ≡ replicate n place
places_behind place zero = refl
places_behind place (suc n) = ap (λ (ps : List Place). place ∷ ps) (places_behind place n)

places_commas : (place : Place) (n : ℕ) → places (commas place n) ≡ replicate n place
places_commas place zero = refl
places_commas place (suc n) = ap (λ (ps : List Place). place ∷ ps) (places_behind place n)

rows_turn : (place : Place) → is_scope place ≡ false → (parts : Trees) (t : Taken) →
    all_taken parts (places (rows place (count parts))) t ≡ in_turn parts t
rows_turn place plain parts t =
    ap (λ (ps : List Place). all_taken parts ps t) (places_rows place (count parts))
    ∙ turn place plain parts (count parts) t (omega arith)

commas_turn : (place : Place) → is_scope place ≡ false → (parts : Trees) (t : Taken) →
    all_taken parts (places (commas place (count parts))) t ≡ in_turn parts t
commas_turn place plain parts t =
    ap (λ (ps : List Place). all_taken parts ps t) (places_commas place (count parts))
    ∙ turn place plain parts (count parts) t (omega arith)

some_turn : (place : Place) → is_scope place ≡ false → (parts : Trees) (t : Taken) →
    all_taken parts (places (some place (count parts))) t ≡ in_turn parts t
unfolding all_taken
some_turn place plain none t = refl
some_turn place plain (tree ▹ rest) t = rows_turn place plain (tree ▹ rest) t

some_commas_turn : (place : Place) → is_scope place ≡ false → (parts : Trees) (t : Taken) →
    all_taken parts (places (some_commas place (count parts))) t ≡ in_turn parts t
unfolding all_taken
some_commas_turn place plain none t = refl
some_commas_turn place plain (tree ▹ rest) t = commas_turn place plain (tree ▹ rest) t

module _ (parts : Trees) (t : Taken) where
  pub arguments_turn : taken (Node f.Arguments parts) t ≡ settled t (in_turn parts t)
  unfolding taken left shape is_scope
  arguments_turn = ap (λ (x : Taken). settled t x) (commas_turn (Expression 14) refl parts t)

  pub strings_turn : taken (Node f.Strings parts) t ≡ settled t (in_turn parts t)
  unfolding taken left shape is_scope
  strings_turn = ap (λ (x : Taken). settled t x) (some_turn p.Str refl parts t)

  pub members_turn : taken (Node f.Members parts) t ≡ settled t (in_turn parts t)
  unfolding taken left shape is_scope
  members_turn = ap (λ (x : Taken). settled t x) (some_turn p.Member refl parts t)

  pub member_names_turn : taken (Node f.MemberNames parts) t ≡ settled t (in_turn parts t)
  unfolding taken left shape is_scope
  member_names_turn = ap (λ (x : Taken). settled t x) (some_commas_turn p.Declarator refl parts t)

  pub enumerators_turn : taken (Node f.Enumerators parts) t ≡ settled t (in_turn parts t)
  unfolding taken left shape is_scope
  enumerators_turn = ap (λ (x : Taken). settled t x) (some_commas_turn p.Enumerator refl parts t)

  pub suffixes_turn : taken (Node f.Suffixes parts) t ≡ settled t (in_turn parts t)
  unfolding taken left shape is_scope
  suffixes_turn = ap (λ (x : Taken). settled t x) (rows_turn p.Suffix refl parts t)

  pub params_turn : taken (Node f.Params parts) t ≡ settled t (in_turn parts t)
  unfolding taken left shape is_scope
  params_turn = ap (λ (x : Taken). settled t x) (commas_turn p.Param refl parts t)

  pub names_turn : taken (Node f.Names parts) t ≡ settled t (in_turn parts t)
  unfolding taken left shape is_scope
  names_turn = ap (λ (x : Taken). settled t x) (commas_turn p.Entry refl parts t)

  pub inits_turn : taken (Node f.Inits parts) t ≡ settled t (in_turn parts t)
  unfolding taken left shape is_scope
  inits_turn = ap (λ (x : Taken). settled t x) (some_commas_turn p.Init refl parts t)

  pub items_turn : taken (Node f.Items parts) t ≡ settled t (in_turn parts t)
  unfolding taken left shape is_scope
  items_turn = ap (λ (x : Taken). settled t x) (rows_turn p.Item refl parts t)

  pub specs_turn : (line : ℕ) → taken (Node f.Specs (At line ▹ parts)) t ≡ record (in_turn parts t) { typedef = has_typedef parts || t.typedef }
  unfolding taken left shape is_scope has_typedef all_taken
  specs_turn line =
      ap (λ (x : Taken). record x { typedef = has_typedef parts || t.typedef }) (rows_turn p.SpecWord refl parts t)
