-- Slots below an offset and within bytes from there.
use Rattle.std.proofs.Common.{◌≡◌, ℕ, ◌+◌, ◌-◌, ◌≤◌, ◌⊎◌, inl, inr, Bool, true, false, ◌&&◌, List, [], ◌∷◌, length, Ok, refl, sym, ◌∙◌, arith}
use Rattle.std.specs.Prelude.{nat_le, nat_lt, nat_eq, cond, map}
use Rattle.std.proofs.lemmas.Bool.Decides.{nat_tests}
use Rattle.std.proofs.lemmas.Bool.{and_parts}
use Rattle.hs_base.specs.declared.values.Pointer.{Pointer}
use Rattle.hs_base.specs.declared.values.Pointer.TheVariants as pointer
use Rattle.hs_base.specs.Object.{Object, object_at}
use Rattle.object_meaning.specs.objects.Memory.{copied}
use Rattle.hs_base.specs.Access.{slots_below, slots_within, distances, same_numbers}

-- no slot is below an offset and within bytes from there
apart : (s offset n : ℕ) (a : Bool) → nat_lt s offset ≡ a → (a ≡ false) ⊎ ((nat_le offset s && nat_le (s + 4) (offset + n)) ≡ false)
apart s offset n false e = inl refl
apart s offset n true e = let no : nat_le offset s ≡ false = grind (arith, nat_tests) in inr (rw no refl)

step : (a b : Bool) (s most : ℕ) (xs ys : List ℕ) → (a ≡ false) ⊎ (b ≡ false) → length xs + length ys ≤ most → length (cond a (s ∷ xs) xs) + length (cond b (s ∷ ys) ys) ≤ most + 1
step true true s most xs ys (inl e) h = absurd (cc)
step true true s most xs ys (inr e) h = absurd (cc)
step true false s most xs ys e h = omega arith
step false true s most xs ys e h = omega arith
step false false s most xs ys e h = omega arith

pub below_within : (slots : List ℕ) (offset n : ℕ) → length (slots_below slots offset) + length (slots_within slots offset n) ≤ length slots
below_within [] offset n = omega arith
below_within (s ∷ slots) offset n =
    let more = step (nat_lt s offset) (nat_le offset s && nat_le (s + 4) (offset + n)) s (length slots) (slots_below slots offset) (slots_within slots offset n) (apart s offset n (nat_lt s offset) refl) (below_within slots offset n) in
    omega arith

-- as many slots are within both ranges where they stand at the same distances
same_length : (xs ys : List ℕ) → same_numbers xs ys ≡ true → length xs ≡ length ys
same_length [] [] e = refl
same_length [] (y ∷ ys) e = absurd (cc)
same_length (x ∷ xs) [] e = absurd (cc)
same_length (x ∷ xs) (y ∷ ys) e = let rest = same_length xs ys (and_parts (nat_eq x y) (same_numbers xs ys) e).1 in omega arith

length_distances : (f : ℕ → ℕ) (xs : List ℕ) → length (map f xs) ≡ length xs
length_distances f [] = refl
length_distances f (x ∷ xs) = let rest = length_distances f xs in omega arith

pub same_count : (slots others : List ℕ) (to from n : ℕ) → same_numbers (distances slots to n) (distances others from n) ≡ true → length (slots_within slots to n) ≡ length (slots_within others from n)
same_count slots others to from n e =
    sym (length_distances (λ s. s - to) (slots_within slots to n)) ∙ same_length (distances slots to n) (distances others from n) e
    ∙ length_distances (λ s. s - from) (slots_within others from n)

-- no slot is within no bytes, so a copy of none reads none
none_within : (slots : List ℕ) (offset : ℕ) → slots_within slots offset 0 ≡ []
none_within [] offset = refl
none_within (s ∷ slots) offset =
    let none = none_within slots offset in
    elim (nat_le offset s) as (λ b. nat_le offset s ≡ b → cond (b && nat_le (s + 4) (offset + 0)) (s ∷ slots_within slots offset 0) (slots_within slots offset 0) ≡ []) [
      | true ↦ λ e. let no : nat_le (s + 4) (offset + 0) ≡ false = grind (arith, nat_tests) in rw (no, none) refl
      | false ↦ λ e. none
    ]
    refl

pub none_copied : (objects : List Object) (d s : Pointer) → copied objects d s 0 ≡ Ok objects
none_copied objects d pointer.Null = refl
none_copied objects d (pointer.At birth offset) = rw (none_within (object_at objects birth).slots offset) refl
