-- The longest front of a list that passes a test.
use Rattle.std.proofs.Common.{◌≡◌, ℕ, Bool, true, ◌+◌, List, [], ◌∷◌, ◌++◌, drop, refl, sym, ◌∙◌, subst}
use Rattle.std.proofs.lemmas.Bool.{both_ways, and_parts}
use Rattle.std.specs.List.{list_all, prefix_len, take_while}
use Rattle.std.proofs.lemmas.List.{take-append-drop}
use Rattle.c_print.specs.Item.{StartsOutside}
use Rattle.c_print.specs.ItemEquations.{front_passes, rest_starts_outside}

module _ (test : ℕ → Bool) where
  -- there is one such front
  pub one_front : (a b r s : List ℕ) → a ++ r ≡ b ++ s → list_all test a ≡ true → list_all test b ≡ true →
      StartsOutside test r → StartsOutside test s → (a ≡ b) × (r ≡ s)
  one_front [] [] r s same p q x y = (refl, same)
  one_front [] (c ∷ b) r s same p q x y =
      absurd (both_ways (test c) (subst (StartsOutside test) same x) (and_parts (test c) (list_all test b) q).0)
  one_front (c ∷ a) [] r s same p q x y =
      absurd (both_ways (test c) (subst (StartsOutside test) (sym same) y) (and_parts (test c) (list_all test a) p).0)
  one_front (c ∷ a) (d ∷ b) r s same p q x y =
      let head : c ≡ d = cc in
      let tail : a ++ r ≡ b ++ s = cc in
      let more = one_front a b r s tail (and_parts (test c) (list_all test a) p).1 (and_parts (test d) (list_all test b) q).1 x y in
      let front = more.0 in
      (cc, more.1)

  -- and it is what is taken
  pub take_while_front : (bytes front behind : List ℕ) → bytes ≡ front ++ behind → list_all test front ≡ true →
      StartsOutside test behind → take_while test bytes ≡ front
  take_while_front bytes front behind whole passes outside =
      (one_front (take_while test bytes) front (drop (prefix_len test bytes) bytes) behind
      (take-append-drop (prefix_len test bytes) bytes ∙ whole) (front_passes test bytes) passes (rest_starts_outside test bytes) outside).0
