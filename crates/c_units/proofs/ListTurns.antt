-- Parts of a node that are gone through in turn.
use Rattle.c_units.proofs.Words.Std.{Bool, List, ap, arith, false, refl, replicate, suc, zero, ℕ, ◌∙◌, ◌∷◌, ◌≡◌, ◌≤◌}
use Rattle.c_units.proofs.Words.Trees.{At, Expression, Node, Place, Trees, behind_commas, commas, count, is_scope, none, places, rows, shape, some, some_commas, ◌▹◌}
use Rattle.c_units.proofs.Words.Units.{Names, all_behind, all_renamed, behind, each_renamed, entered, in_turn, left, made, renamed}
use Rattle.c_tree.specs.Forms as f
use Rattle.c_tree.specs.Places as p
use Rattle.c_units.specs.Names.{left_part}

-- parts at these places are gone through in turn
abbrev Turns : Trees → List Place → Names → Type 0
Turns parts ps s = (all_behind parts ps s ≡ in_turn parts s) × (all_renamed parts ps s ≡ each_renamed parts s)

turn : (place : Place) → is_scope place ≡ false → (parts : Trees) (n : ℕ) (s : Names) → count parts ≤ n → Turns parts (replicate n place) s
unfolding all_behind all_renamed
turn place plain none zero s h = (refl, refl)
turn place plain none (suc n) s h = (refl, refl)
turn place plain (tree ▹ rest) zero s h = absurd (omega (arith, h))
turn place plain (tree ▹ rest) (suc n) s h =
    let more = turn place plain rest n (behind tree s) (omega (arith, h)) in (
      ap (λ (b : Bool). all_behind rest (replicate n place) (left_part b s (behind tree s))) plain ∙ more.0,
      ap (λ (b : Bool). renamed tree s ▹ all_renamed rest (replicate n place) (left_part b s (behind tree s))) plain
          ∙ ap (λ (t : Trees). renamed tree s ▹ t) more.1,
    )

places_rows : (place : Place) (n : ℕ) → places (rows place n) ≡ replicate n place
places_rows place zero = refl
places_rows place (suc n) = ap (λ (ps : List Place). place ∷ ps) (places_rows place n)

places_behind : (place : Place) (n : ℕ) → places (behind_commas place n) ≡ replicate n place
places_behind place zero = refl
places_behind place (suc n) = ap (λ (ps : List Place). place ∷ ps) (places_behind place n)

places_commas : (place : Place) (n : ℕ) → places (commas place n) ≡ replicate n place
places_commas place zero = refl
places_commas place (suc n) = ap (λ (ps : List Place). place ∷ ps) (places_behind place n)

at_places : (parts : Trees) (ps qs : List Place) (s : Names) → ps ≡ qs → Turns parts qs s → Turns parts ps s
at_places parts ps qs s e h =
    (ap (λ (l : List Place). all_behind parts l s) e ∙ h.0, ap (λ (l : List Place). all_renamed parts l s) e ∙ h.1)

rows_turn : (place : Place) → is_scope place ≡ false → (parts : Trees) (s : Names) → Turns parts (places (rows place (count parts))) s
rows_turn place plain parts s =
    at_places parts (places (rows place (count parts))) (replicate (count parts) place) s (places_rows place (count parts))
    (turn place plain parts (count parts) s (omega arith))

commas_turn : (place : Place) → is_scope place ≡ false → (parts : Trees) (s : Names) → Turns parts (places (commas place (count parts))) s
commas_turn place plain parts s =
    at_places parts (places (commas place (count parts))) (replicate (count parts) place) s (places_commas place (count parts))
    (turn place plain parts (count parts) s (omega arith))

some_turn : (place : Place) → is_scope place ≡ false → (parts : Trees) (s : Names) → Turns parts (places (some place (count parts))) s
unfolding all_behind all_renamed
some_turn place plain none s = (refl, refl)
some_turn place plain (tree ▹ rest) s = rows_turn place plain (tree ▹ rest) s

some_commas_turn : (place : Place) → is_scope place ≡ false → (parts : Trees) (s : Names) → Turns parts (places (some_commas place (count parts))) s
unfolding all_behind all_renamed
some_commas_turn place plain none s = (refl, refl)
some_commas_turn place plain (tree ▹ rest) s = commas_turn place plain (tree ▹ rest) s

module _ (parts : Trees) (s : Names) where
  pub arguments_turn : (behind (Node f.Arguments parts) s ≡ in_turn parts s) × (renamed (Node f.Arguments parts) s ≡ Node f.Arguments (each_renamed parts s))
  unfolding behind renamed left entered made shape is_scope
  arguments_turn = let h = commas_turn (Expression 14) refl parts s in (h.0, ap (λ (t : Trees). Node f.Arguments t) h.1)

  pub strings_turn : (behind (Node f.Strings parts) s ≡ in_turn parts s) × (renamed (Node f.Strings parts) s ≡ Node f.Strings (each_renamed parts s))
  unfolding behind renamed left entered made shape is_scope
  strings_turn = let h = some_turn p.Str refl parts s in (h.0, ap (λ (t : Trees). Node f.Strings t) h.1)

  pub members_turn : (behind (Node f.Members parts) s ≡ in_turn parts s) × (renamed (Node f.Members parts) s ≡ Node f.Members (each_renamed parts s))
  unfolding behind renamed left entered made shape is_scope
  members_turn = let h = some_turn p.Member refl parts s in (h.0, ap (λ (t : Trees). Node f.Members t) h.1)

  pub member_names_turn : (behind (Node f.MemberNames parts) s ≡ in_turn parts s) × (renamed (Node f.MemberNames parts) s ≡ Node f.MemberNames (each_renamed parts s))
  unfolding behind renamed left entered made shape is_scope
  member_names_turn = let h = some_commas_turn p.Declarator refl parts s in (h.0, ap (λ (t : Trees). Node f.MemberNames t) h.1)

  pub enumerators_turn : (behind (Node f.Enumerators parts) s ≡ in_turn parts s) × (renamed (Node f.Enumerators parts) s ≡ Node f.Enumerators (each_renamed parts s))
  unfolding behind renamed left entered made shape is_scope
  enumerators_turn = let h = some_commas_turn p.Enumerator refl parts s in (h.0, ap (λ (t : Trees). Node f.Enumerators t) h.1)

  pub suffixes_turn : (behind (Node f.Suffixes parts) s ≡ in_turn parts s) × (renamed (Node f.Suffixes parts) s ≡ Node f.Suffixes (each_renamed parts s))
  unfolding behind renamed left entered made shape is_scope
  suffixes_turn = let h = rows_turn p.Suffix refl parts s in (h.0, ap (λ (t : Trees). Node f.Suffixes t) h.1)

  pub params_turn : (behind (Node f.Params parts) s ≡ in_turn parts s) × (renamed (Node f.Params parts) s ≡ Node f.Params (each_renamed parts s))
  unfolding behind renamed left entered made shape is_scope
  params_turn = let h = commas_turn p.Param refl parts s in (h.0, ap (λ (t : Trees). Node f.Params t) h.1)

  pub names_turn : (behind (Node f.Names parts) s ≡ in_turn parts s) × (renamed (Node f.Names parts) s ≡ Node f.Names (each_renamed parts s))
  unfolding behind renamed left entered made shape is_scope
  names_turn = let h = commas_turn p.Entry refl parts s in (h.0, ap (λ (t : Trees). Node f.Names t) h.1)

  pub inits_turn : (behind (Node f.Inits parts) s ≡ in_turn parts s) × (renamed (Node f.Inits parts) s ≡ Node f.Inits (each_renamed parts s))
  unfolding behind renamed left entered made shape is_scope
  inits_turn = let h = some_commas_turn p.Init refl parts s in (h.0, ap (λ (t : Trees). Node f.Inits t) h.1)

  pub items_turn : (behind (Node f.Items parts) s ≡ in_turn parts s) × (renamed (Node f.Items parts) s ≡ Node f.Items (each_renamed parts s))
  unfolding behind renamed left entered made shape is_scope
  items_turn = let h = rows_turn p.Item refl parts s in (h.0, ap (λ (t : Trees). Node f.Items t) h.1)

  pub specs_turn : (line : ℕ) → (behind (Node f.Specs (At line ▹ parts)) s ≡ in_turn parts s) × (renamed (Node f.Specs (At line ▹ parts)) s ≡ Node f.Specs (At line ▹ each_renamed parts s))
  unfolding behind renamed all_behind all_renamed left entered made shape is_scope
  specs_turn line = let h = rows_turn p.SpecWord refl parts s in (h.0, ap (λ (t : Trees). Node f.Specs (At line ▹ t)) h.1)
