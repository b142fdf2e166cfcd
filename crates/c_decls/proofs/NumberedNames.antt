-- Names by their places.
use Rattle.std.proofs.Common.{◌≡◌, ℕ, zero, suc, ◌+◌, ◌<◌, ◌≤◌, Bool, true, false, cond, not, ◌&&◌, ◌||◌, List, [], ◌∷◌, ◌++◌, length, take, get_or, Option, Some, None, refl, sym, ap, ◌∙◌, arith, true≢false}
use Rattle.std.specs.Prelude.{bytes_eq}
use Rattle.std.specs.List.{list_any}
use Rattle.c_decls.specs.declared.built_in.BuiltIn.{BuiltIn}
use Rattle.c_decls.specs.Named as named
use Rattle.c_decls.specs.ScopeList.{Table, named_in}
use Rattle.c_decls.specs.BuiltIns.{name_of, numbered_from, all_differ}

-- as many entries as names
pub length-numbered_from : (n : ℕ) (names : List BuiltIn) → length (numbered_from n names) ≡ length names
length-numbered_from n [] = refl
length-numbered_from n (name ∷ rest) = ap suc (length-numbered_from (n + 1) rest)

-- the next entry is the next name with its number
pub next_entry : (n m : ℕ) (names : List BuiltIn) (i : ℕ) (name other : BuiltIn) → m ≡ n + i → i < length names → name ≡ get_or names i other
    → take (suc i) (numbered_from n names) ≡ take i (numbered_from n names) ++ (name_of name, named.BuiltIn m) ∷ []
next_entry n m [] i name other number within at = absurd (omega (arith, within))
next_entry n m (first ∷ rest) zero name other number within at =
    let same : n ≡ m = omega (arith, number) in
    λ j. (name_of (sym at j), named.BuiltIn (same j)) ∷ []
next_entry n m (first ∷ rest) (suc i) name other number within at =
    ap (λ t. (name_of first, named.BuiltIn n) ∷ t)
    (next_entry (n + 1) m rest i name other (omega (arith, number)) (omega (arith, within)) at)

-- a test that no item passes is not passed by one of them
none_passes : {A : Type 0} (test : A → Bool) (xs : List A) (i : ℕ) (x other : A) → list_any test xs ≡ false → i < length xs → x ≡ get_or xs i other → test x ≡ false
none_passes test [] i x other none within at = absurd (omega (arith, within))
none_passes test (y ∷ ys) zero x other none within at = by (test y) (ap test at) none
  where
    by : (b : Bool) → test x ≡ b → (b || list_any test ys) ≡ false → test x ≡ false
    by true e h = absurd (true≢false h)
    by false e h = e
none_passes test (y ∷ ys) (suc i) x other none within at = none_passes test ys i x other (by (test y) none) (omega (arith, within)) at
  where
    by : (b : Bool) → (b || list_any test ys) ≡ false → list_any test ys ≡ false
    by true h = absurd (true≢false h)
    by false h = h

-- where no name stands twice, the next name is new
pub next_is_new : (n : ℕ) (names : List BuiltIn) (i : ℕ) (name other : BuiltIn) → all_differ names ≡ true → i < length names → name ≡ get_or names i other
    → named_in (name_of name) (take i (numbered_from n names)) ≡ None
next_is_new n [] i name other differ within at = absurd (omega (arith, within))
next_is_new n (first ∷ rest) zero name other differ within at = refl
next_is_new n (first ∷ rest) (suc i) name other differ within at =
    by (list_any (λ later. bytes_eq (name_of later) (name_of first)) rest) differ
    (λ none. none_passes (λ later. bytes_eq (name_of later) (name_of first)) rest i name other none (omega (arith, within)) at)
    (λ later. next_is_new (n + 1) rest i name other later (omega (arith, within)) at)
  where
    other_name : (b : Bool) → bytes_eq (name_of name) (name_of first) ≡ b → b ≡ false
        → named_in (name_of name) (take i (numbered_from (n + 1) rest)) ≡ None
        → cond (bytes_eq (name_of name) (name_of first)) (Some (named.BuiltIn n)) (named_in (name_of name) (take i (numbered_from (n + 1) rest))) ≡ None
    other_name b e f later = ap (λ t. cond t (Some (named.BuiltIn n)) (named_in (name_of name) (take i (numbered_from (n + 1) rest)))) (e ∙ f) ∙ later

    by : (b : Bool) → (not b && all_differ rest) ≡ true → (b ≡ false → bytes_eq (name_of name) (name_of first) ≡ false)
        → (all_differ rest ≡ true → named_in (name_of name) (take i (numbered_from (n + 1) rest)) ≡ None)
        → cond (bytes_eq (name_of name) (name_of first)) (Some (named.BuiltIn n)) (named_in (name_of name) (take i (numbered_from (n + 1) rest))) ≡ None
    by true h none later = absurd (true≢false (sym h))
    by false h none later = other_name false (none refl) refl (later h)
