-- Fronts of lists: how many elements pass a test, in a front of the list with anything behind it.
use Rattle.std.proofs.Common.{◌≡◌, ℕ, zero, suc, ◌+◌, ◌-◌, ◌<◌, ◌≤◌, Bool, true, false, cond, ◌&&◌, List, [], ◌∷◌, ◌++◌, length, take, drop, refl, ap, sym, arith}
use Rattle.std.specs.Prelude.{Option, Some, None, option_map}
use Rattle.std.specs.List.{prefix_len, list_all}

-- where one more than an answer is known, the answer is one less
pub map_suc_some : (o : Option ℕ) (n : ℕ) → option_map suc o ≡ Some n → (m : ℕ) × ((o ≡ Some m) × (n ≡ suc m))
map_suc_some None n e = absurd (cc)
map_suc_some (Some m) n e = let h : suc m ≡ n = cc in (m, (refl, sym h))

module _ (p : ℕ → Bool) where
  pub prefix_len_within : (xs : List ℕ) → prefix_len p xs ≤ length xs
  prefix_len_within [] = omega arith
  prefix_len_within (x ∷ xs) = by (p x) (prefix_len_within xs) where
    by : (c : Bool) → prefix_len p xs ≤ length xs → cond c (1 + prefix_len p xs) 0 ≤ suc (length xs)
    by true h = omega (arith, h)
    by false h = omega arith

  -- the front of that length passes
  pub prefix_len_all : (xs : List ℕ) → list_all p (take (prefix_len p xs) xs) ≡ true
  prefix_len_all [] = refl
  prefix_len_all (x ∷ xs) = by (p x) refl (prefix_len_all xs) where
    by : (c : Bool) → p x ≡ c → list_all p (take (prefix_len p xs) xs) ≡ true → list_all p (take (cond c (1 + prefix_len p xs) 0) (x ∷ xs)) ≡ true
    by true e h = let s : 1 + prefix_len p xs ≡ suc (prefix_len p xs) = omega arith in rw (s, e) h
    by false e h = refl

  -- a longer front does not
  pub prefix_len_more : (xs : List ℕ) (m : ℕ) → prefix_len p xs < m → m ≤ length xs → list_all p (take m xs) ≡ false
  prefix_len_more [] m lt le = absurd (omega (arith, lt, le))
  prefix_len_more (x ∷ xs) zero lt le = absurd (omega (arith, lt))
  prefix_len_more (x ∷ xs) (suc m) lt le = by (p x) refl lt (λ h. prefix_len_more xs m h (omega (arith, le))) where
    by : (c : Bool) → p x ≡ c → cond c (1 + prefix_len p xs) 0 < suc m → (prefix_len p xs < m → list_all p (take m xs) ≡ false) → (p x && list_all p (take m xs)) ≡ false
    by true e lt ih = rw e (ih (omega (arith, lt)))
    by false e lt ih = rw e refl

  -- it depends on the first bytes alone, up to and with the one that does not pass
  pub prefix_len_kept : (xs : List ℕ) (n : ℕ) (rest : List ℕ) → prefix_len p xs < n → n ≤ length xs → prefix_len p (take n xs ++ rest) ≡ prefix_len p xs
  prefix_len_kept [] n rest lt le = absurd (omega (arith, lt, le))
  prefix_len_kept (x ∷ xs) zero rest lt le = absurd (omega (arith, lt))
  prefix_len_kept (x ∷ xs) (suc n) rest lt le = by (p x) lt (λ h. prefix_len_kept xs n rest h (omega (arith, le))) where
    by : (c : Bool) → cond c (1 + prefix_len p xs) 0 < suc n → (prefix_len p xs < n → prefix_len p (take n xs ++ rest) ≡ prefix_len p xs) → cond c (1 + prefix_len p (take n xs ++ rest)) 0 ≡ cond c (1 + prefix_len p xs) 0
    by true lt ih = ap (λ k. 1 + k) (ih (omega (arith, lt)))
    by false lt ih = refl

  pub prefix_len_over : (xs : List ℕ) (n : ℕ) (rest : List ℕ) → n ≤ prefix_len p xs → n ≤ prefix_len p (take n xs ++ rest)
  prefix_len_over xs zero rest le = omega arith
  prefix_len_over [] (suc n) rest le = absurd (omega (arith, le))
  prefix_len_over (x ∷ xs) (suc n) rest le = by (p x) le (λ h. prefix_len_over xs n rest h) where
    by : (c : Bool) → suc n ≤ cond c (1 + prefix_len p xs) 0 → (n ≤ prefix_len p xs → n ≤ prefix_len p (take n xs ++ rest)) → suc n ≤ cond c (1 + prefix_len p (take n xs ++ rest)) 0
    by true le ih = let h = ih (omega (arith, le)) in omega (arith, h)
    by false le ih = absurd (omega (arith, le))

-- what is left behind the first bytes of a front
pub drop_front : (xs : List ℕ) (m n : ℕ) (rest : List ℕ) → m ≤ n → n ≤ length xs → drop m (take n xs ++ rest) ≡ take (n - m) (drop m xs) ++ rest
drop_front xs zero n rest h k = let e : n - 0 ≡ n = omega arith in rw e refl
drop_front xs (suc m) zero rest h k = absurd (omega (arith, h))
drop_front [] (suc m) (suc n) rest h k = absurd (omega (arith, k))
drop_front (x ∷ xs) (suc m) (suc n) rest h k =
    let e : suc n - suc m ≡ n - m = omega arith in
    rw e (drop_front xs m n rest (omega (arith, h)) (omega (arith, k)))

-- a shorter front of a front
pub take_front : (xs : List ℕ) (m n : ℕ) (rest : List ℕ) → m ≤ n → n ≤ length xs → take m (take n xs ++ rest) ≡ take m xs
take_front xs zero n rest h k = refl
take_front xs (suc m) zero rest h k = absurd (omega (arith, h))
take_front [] (suc m) (suc n) rest h k = absurd (omega (arith, k))
take_front (x ∷ xs) (suc m) (suc n) rest h k = ap (λ t. x ∷ t) (take_front xs m n rest (omega (arith, h)) (omega (arith, k)))
