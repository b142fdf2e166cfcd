-- One turn more of a loop.
use Rattle.std.proofs.Common.{◌≡◌, ℕ, zero, suc, ◌+◌, ◌-◌, ◌*◌, ◌^◌, ◌<◌, List, [], ◌∷◌, ◌++◌, length, map, take, drop, get_or, set, refl, sym, ap, ◌∙◌, arith, append_assoc}
use Rattle.std.specs.List.{range_with_len, enumerate_from, flat_map}
use Rattle.std.proofs.lemmas.List.{append-nil, take_more, map-append}
use Rattle.std.proofs.lemmas.Grind.{flat_map-append}
use Rattle.std.proofs.lemmas.Nat.{mul-add-lt}
use Rattle.hs_base.specs.Object.{Object, Dead, object_at}
use Rattle.hs_base.specs.Access.{with_object}
use Rattle.hs_base.specs.Freeing.{ended}
use Rattle.c_types.specs.Layouts.{AreSlots}

pub range_more : (a n : ℕ) → range_with_len a (n + 1) ≡ range_with_len a n ++ (a + n) ∷ []
range_more a zero = let e : a ≡ a + 0 = omega arith in ap (λ k. k ∷ []) e
range_more a (suc n) =
    let e : suc n + 1 ≡ suc (n + 1) = omega arith in
    let f : a + suc n ≡ a + 1 + n = omega arith in
    rw (e, f) (ap (λ ks. a ∷ ks) (range_more (a + 1) n))

pub flat_more : {A : Type 0} (f : ℕ → List A) (k : ℕ) → flat_map f (range_with_len 0 (k + 1)) ≡ flat_map f (range_with_len 0 k) ++ f k
flat_more f k =
    let e : 0 + k ≡ k = omega arith in
    ap (flat_map f) (range_more 0 k) ∙ flat_map-append f (range_with_len 0 k) ((0 + k) ∷ []) ∙ rw e (ap (λ ks. flat_map f (range_with_len 0 k) ++ ks) (append-nil (f k)))

enumerate_last : {X : Type 0} (n : ℕ) (xs : List X) (x : X) → enumerate_from n (xs ++ x ∷ []) ≡ enumerate_from n xs ++ (n + length xs, x) ∷ []
enumerate_last n [] x = let e : n ≡ n + 0 = omega arith in ap (λ k. (k, x) ∷ []) e
enumerate_last n (y ∷ xs) x =
    let e : n + 1 + length xs ≡ n + suc (length xs) = omega arith in
    ap (λ ks. (n, y) ∷ ks) (enumerate_last (n + 1) xs x ∙ ap (λ k. enumerate_from (n + 1) xs ++ (k, x) ∷ []) e)

take_length : {X : Type 0} (xs : List X) (i : ℕ) → i < length xs → length (take i xs) ≡ i
take_length [] i h = absurd (omega arith)
take_length (x ∷ xs) zero h = refl
take_length (x ∷ xs) (suc i) h = ap suc (take_length xs i (omega arith))

-- one item more is pushed to those that are made of the items so far
pub pushed : {X Y : Type 0} (f : ℕ × X → Y) (xs : List X) (i : ℕ) (x : X) (y : Y) (before old new : List Y) → i < length xs → x ≡ get_or xs i x → y ≡ f (i, x) → old ≡ before ++ map f (enumerate_from 0 (take i xs)) → new ≡ old ++ y ∷ [] → new ≡ before ++ map f (enumerate_from 0 (take (i + 1) xs))
pushed f xs i x y before old new h is made was grown =
    let at : take (i + 1) xs ≡ take i xs ++ x ∷ [] = take_more xs i x h ∙ ap (λ z. take i xs ++ z ∷ []) (sym is) in
    let n : 0 + length (take i xs) ≡ i = omega (arith, take_length xs i h) in
    let last : enumerate_from 0 (take (i + 1) xs) ≡ enumerate_from 0 (take i xs) ++ (i, x) ∷ [] = ap (enumerate_from 0) at ∙ enumerate_last 0 (take i xs) x ∙ ap (λ k. enumerate_from 0 (take i xs) ++ (k, x) ∷ []) n in
    grown ∙ ap (λ os. os ++ y ∷ []) was ∙ ap (λ z. (before ++ map f (enumerate_from 0 (take i xs))) ++ z ∷ []) made
    ∙ append_assoc before (map f (enumerate_from 0 (take i xs))) (f (i, x) ∷ [])
    ∙ ap (λ ys. before ++ ys) (sym (map-append f (enumerate_from 0 (take i xs)) ((i, x) ∷ [])))
    ∙ ap (λ es. before ++ map f es) (sym last)

-- the items so far are changed in place
pub changed : {X : Type 0} (f : X → X) (xs : List X) (i : ℕ) (d : X) → i < length xs → set (map f (take i xs) ++ drop i xs) i (f (get_or xs i d)) ≡ map f (take (i + 1) xs) ++ drop (i + 1) xs
changed f [] i d h = absurd (omega arith)
changed f (x ∷ xs) zero d h = refl
changed f (x ∷ xs) (suc i) d h = let e : suc i + 1 ≡ suc (i + 1) = omega arith in rw e (ap (λ ys. f x ∷ ys) (changed f xs i d (omega arith)))

pub unchanged : {X : Type 0} (f : X → X) (xs : List X) (i : ℕ) (d : X) → i < length xs → get_or (map f (take i xs) ++ drop i xs) i d ≡ get_or xs i d
unchanged f [] i d h = absurd (omega arith)
unchanged f (x ∷ xs) zero d h = refl
unchanged f (x ∷ xs) (suc i) d h = unchanged f xs i d (omega arith)

-- one object more dies
pub ended_more : (objects new : List Object) (first k count : ℕ) → k < count → new ≡ with_object objects (first + k) (record (object_at objects (first + k)) { standing = Dead }) → ended objects (range_with_len (first + k) (count - k)) ≡ ended new (range_with_len (first + (k + 1)) (count - (k + 1)))
ended_more objects new first k count h is =
    let e : count - k ≡ suc (count - (k + 1)) = omega arith in
    let f : first + (k + 1) ≡ first + k + 1 = omega arith in
    rw (e, f, is) refl

-- slots inside an element that is moved up by whole elements
inside_high : (low high : ℕ) (slots : List ℕ) → AreSlots low high slots → (k d : ℕ) → k < length slots → get_or slots k d < high
inside_high low high [] h k d b = absurd (omega arith)
inside_high low high (slot ∷ slots) h zero d b = let le = h.1 in omega arith
inside_high low high (slot ∷ slots) h (suc k) d b = inside_high (slot + 4) high slots h.3 k d (omega arith)

pub moved_fit : (count size k : ℕ) (slots : List ℕ) → AreSlots 0 size slots → count * size < 2 ^ 32 → k < count → (j d : ℕ) → j < length slots → k * size + get_or slots j d < 2 ^ 32
moved_fit count size k slots h fits lt j d b =
    let in_element = inside_high 0 size slots h j d b in
    let all = mul-add-lt k size (get_or slots j d) count lt in_element in omega arith
