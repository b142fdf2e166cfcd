-- What the sets of macros hold.
use Rattle.std.proofs.Common.{◌≡◌, ◌∙◌, ℕ, zero, suc, ◌+◌, ◌-◌, ◌<◌, ◌≤◌, Bool, true, false, cond, not, ◌&&◌, ◌||◌, nat_lt, nat_eq, List, [], ◌∷◌, map, Result, Ok, Err, refl, sym, ap, subst, arith}
use Rattle.std.specs.FinSet as set
use Rattle.std.specs.List.{list_any, filter, range_with_len}
use Rattle.std.specs.Cmp.{unsigned_tied}
use Rattle.std.specs.Prelude.{IfOk, IfSome, IsTrue, is_some, Option, Some, None}
use Rattle.std.proofs.lemmas.Bool.{ltb-true, ltb-false, lt-ltb, le-ltb, eqb-true, eqb-false, eq-eqb, ne_eqb}
use Rattle.std.proofs.lemmas.Cmp.{nat_cmp_total}
use Rattle.std.proofs.lemmas.List.Folds.{list_any-append}
use Rattle.c_pre.specs.Table.{Numbers}
use Rattle.c_pre.specs.Trees.{has, members, numbers}
use Rattle.c_pre.specs.declared.hidden.Tree.{Tree, Empty, Range, Parts'}

-- a number is one of some
abbrev is_one : ℕ → List ℕ → Bool
is_one n ns = list_any (λ m. nat_eq m n) ns

-- a number lies from one on and below another
abbrev pub lies : ℕ → ℕ → ℕ → Bool
lies from to n = not (nat_lt n from) && nat_lt n to

-- two tests that hold of the same are one
pub alike : (a b : Bool) → (a ≡ true → b ≡ true) → (b ≡ true → a ≡ true) → a ≡ b
alike true b f g = sym (f refl)
alike false true f g = g refl
alike false false f g = refl

-- a number that lies there
pub lies_is : (from to n : ℕ) → from ≤ n → n < to → lies from to n ≡ true
lies_is from to n low high = ap (λ b. not b && nat_lt n to) (le-ltb n from low) ∙ lt-ltb n to high

not_both : (a b : Bool) → (not a && b) ≡ true → (a ≡ false) × (b ≡ true)
not_both true b is = cc
not_both false b is = (refl, is)

pub is_lies : (from to n : ℕ) → lies from to n ≡ true → (from ≤ n) × (n < to)
is_lies from to n is =
    let both = not_both (nat_lt n from) (nat_lt n to) is in (ltb-false n from both.0, ltb-true n to both.1)

either : (a b : Bool) → (a || b) ≡ true → (P : Type 0) → (a ≡ true → P) → (b ≡ true → P) → P
either true b is P f g = f refl
either false b is P f g = g is

or_left : (a b : Bool) → a ≡ true → (a || b) ≡ true
or_left true b is = refl
or_left false b is = cc

or_right : (a b : Bool) → b ≡ true → (a || b) ≡ true
or_right true b is = refl
or_right false b is = is

in_range : (from len n : ℕ) → is_one n (range_with_len from len) ≡ lies from (from + len) n
in_range from zero n =
    alike false (lies from (from + zero) n) (λ is. cc) (λ is. let h = is_lies from (from + zero) n is in absurd (omega (arith, h.0, h.1)))
in_range from (suc len) n =
    ap (λ b. nat_eq from n || b) (in_range (from + 1) len n)
    ∙ alike (nat_eq from n || lies (from + 1) (from + 1 + len) n) (lies from (from + suc len) n)
    (λ is. either (nat_eq from n) (lies (from + 1) (from + 1 + len) n) is (lies from (from + suc len) n ≡ true)
    (λ e. let same = eqb-true from n e in lies_is from (from + suc len) n (omega (arith, same)) (omega (arith, same)))
    (λ h. let more = is_lies (from + 1) (from + 1 + len) n h in lies_is from (from + suc len) n (omega (arith, more.0)) (omega (arith, more.1))))
    (λ is. let h = is_lies from (from + suc len) n is in by (nat_eq from n) refl h)
  where
    above : ((from ≡ n) → ⊥) → from ≤ n → from + 1 ≤ n
    above differ low = omega (arith, differ, low)

    by : (b : Bool) → nat_eq from n ≡ b → (from ≤ n) × (n < from + suc len) → (nat_eq from n || lies (from + 1) (from + 1 + len) n) ≡ true
    by true e h = or_left (nat_eq from n) (lies (from + 1) (from + 1 + len) n) e
    by false e h =
        let differ = eqb-false from n e in
        or_right (nat_eq from n) (lies (from + 1) (from + 1 + len) n) (lies_is (from + 1) (from + 1 + len) n (above differ h.0) (omega (arith, h.1)))

range_members : (from to n : ℕ) → lies from (from + (to - from)) n ≡ lies from to n
range_members from to n =
    alike (lies from (from + (to - from)) n) (lies from to n)
    (λ is. let h = is_lies from (from + (to - from)) n is in lies_is from to n h.0 (omega (arith, h.0, h.1)))
    (λ is. let h = is_lies from to n is in lies_is from (from + (to - from)) n h.0 (omega (arith, h.0, h.1)))

filtered : (half n : ℕ) (ns : List ℕ) → is_one n (filter (λ m. nat_lt m half) ns) ≡ (nat_lt n half && is_one n ns)
filtered half n [] = none (nat_lt n half)
  where
    none : (b : Bool) → false ≡ (b && false)
    none true = refl
    none false = refl
filtered half n (m ∷ ns) = by (nat_lt m half) refl (filtered half n ns)
  where
    rest : List ℕ
    rest = filter (λ k. nat_lt k half) ns

    there : (a b c : Bool) → (a ≡ true → b ≡ true) → (a || (b && c)) ≡ (b && (a || c))
    there true true c f = refl
    there true false c f = sym (f refl)
    there false true c f = refl
    there false false c f = refl

    gone : (a b c : Bool) → (a ≡ true → b ≡ false) → (b && c) ≡ (b && (a || c))
    gone true true c f = absurd (no (f refl))
      where
        no : true ≡ false → ⊥
        no is = cc
    gone true false c f = refl
    gone false b c f = refl

    by : (b : Bool) → nat_lt m half ≡ b → is_one n rest ≡ (nat_lt n half && is_one n ns) → is_one n (cond b (m ∷ rest) rest) ≡ (nat_lt n half && (nat_eq m n || is_one n ns))
    by true e more =
        ap (λ c. nat_eq m n || c) more
        ∙ there (nat_eq m n) (nat_lt n half) (is_one n ns) (λ h. subst (λ k. nat_lt k half ≡ true) (eqb-true m n h) e)
    by false e more =
        more ∙ gone (nat_eq m n) (nat_lt n half) (is_one n ns) (λ h. subst (λ k. nat_lt k half ≡ false) (eqb-true m n h) e)

moved : (half n : ℕ) (ns : List ℕ) → is_one n (map (λ m. m + half) ns) ≡ (not (nat_lt n half) && is_one (n - half) ns)
moved half n [] = none (not (nat_lt n half))
  where
    none : (b : Bool) → false ≡ (b && false)
    none true = refl
    none false = refl
moved half n (m ∷ ns) =
    ap (λ b. nat_eq (m + half) n || b) (moved half n ns)
    ∙ by (nat_lt n half) refl
  where
    by : (b : Bool) → nat_lt n half ≡ b → (nat_eq (m + half) n || (not (nat_lt n half) && is_one (n - half) ns)) ≡ (not (nat_lt n half) && (nat_eq m (n - half) || is_one (n - half) ns))
    by true e =
        let low = ltb-true n half e in
        ap (λ b. nat_eq (m + half) n || (not b && is_one (n - half) ns)) e
        ∙ ap (λ b. b || false) (ne_eqb (m + half) n (λ same. omega (arith, low, same)))
        ∙ sym (ap (λ b. not b && (nat_eq m (n - half) || is_one (n - half) ns)) e)
    by false e =
        let high = ltb-false n half e in
        ap (λ b. nat_eq (m + half) n || (not b && is_one (n - half) ns)) e
        ∙ ap (λ b. b || is_one (n - half) ns) (alike (nat_eq (m + half) n) (nat_eq m (n - half)) (λ is. eq-eqb m (n - half) (omega (arith, high, eqb-true (m + half) n is))) (λ is. eq-eqb (m + half) n (omega (arith, high, eqb-true m (n - half) is))))
        ∙ sym (ap (λ b. not b && (nat_eq m (n - half) || is_one (n - half) ns)) e)

parted : (b x y : Bool) → ((b && x) || (not b && y)) ≡ cond b x y
parted true true y = refl
parted true false y = refl
parted false x y = refl

in_members : (tree : Tree) (n : ℕ) → is_one n (members tree) ≡ has tree n
in_members Empty n = refl
in_members (Range from to) n = in_range from (to - from) n ∙ range_members from to n
in_members (Parts' p half low high) n =
    list_any-append (λ m. nat_eq m n) (filter (λ m. nat_lt m half) (members low)) (map (λ m. m + half) (members high))
    ∙ (λ i. filtered half n (members low) i || moved half n (members high) i)
    ∙ (λ i. (nat_lt n half && in_members low n i) || (not (nat_lt n half) && in_members high (n - half) i))
    ∙ parted (nat_lt n half) (has low n) (has high (n - half))

-- what a set holds
pub contained : (tree : Tree) (n : ℕ) → set.contains (numbers tree) n ≡ has tree n
unfolding numbers
contained tree n = set.contains-from_list_nat (members tree) n ∙ in_members tree n

-- a set is what it holds
pub is_set : (tree : Tree) (s : Numbers) → ((n : ℕ) → has tree n ≡ set.contains s n) → numbers tree ≡ s
is_set tree s holds =
    set.same_set nat_cmp_total set.nat_cmp-IsAntisymmetric (numbers tree) s (λ n. contained tree n ∙ holds n)

-- the same where another set has the same numbers
pub same_set : (tree other : Tree) (s : Numbers) → numbers other ≡ s → ((n : ℕ) → has tree n ≡ has other n) → numbers tree ≡ s
same_set tree other s is same =
    is_set tree s (λ n. same n ∙ sym (contained other n) ∙ ap (λ (t : Numbers). set.contains t n) is)

holds : (tree : Tree) (s : Numbers) → numbers tree ≡ s → (n : ℕ) → has tree n ≡ set.contains s n
holds tree s is n = sym (contained tree n) ∙ ap (λ (t : Numbers). set.contains t n) is

pub union_set : (tree left right : Tree) (s t : Numbers) → numbers left ≡ s → numbers right ≡ t → ((n : ℕ) → has tree n ≡ (has left n || has right n)) → numbers tree ≡ set.union s t
union_set tree left right s t is are all =
    is_set tree (set.union s t) (λ n. all n ∙ (λ i. holds left s is n i || holds right t are n i) ∙ sym (set.contains-union nat_cmp_total s t n))

pub intersection_set : (tree left right : Tree) (s t : Numbers) → numbers left ≡ s → numbers right ≡ t → ((n : ℕ) → has tree n ≡ (has left n && has right n)) → numbers tree ≡ set.intersection s t
intersection_set tree left right s t is are all =
    is_set tree (set.intersection s t) (λ n. all n ∙ (λ i. holds left s is n i && holds right t are n i) ∙ sym (set.contains-intersection nat_cmp_total s t n))

swapped : (a b : Bool) → (a || b) ≡ (b || a)
swapped true true = refl
swapped true false = refl
swapped false true = refl
swapped false false = refl

-- one number lies from itself on and below the next
one_lies : (number n : ℕ) → lies number (number + 1) n ≡ nat_eq n number
one_lies number n =
    alike (lies number (number + 1) n) (nat_eq n number)
    (λ is. let h = is_lies number (number + 1) n is in eq-eqb n number (omega (arith, h.0, h.1)))
    (λ is. let same = eqb-true n number is in lies_is number (number + 1) n (omega (arith, same)) (omega (arith, same)))

pub with_set : (tree left : Tree) (s : Numbers) (number next : ℕ) → numbers left ≡ s → next ≡ number + 1 → ((n : ℕ) → has tree n ≡ (has left n || has (Range number next) n)) → numbers tree ≡ set.insert s number
with_set tree left s number next is after all =
    is_set tree (set.insert s number) (λ n.
    all n
    ∙ (λ i. holds left s is n i || lies number (after i) n)
    ∙ (λ i. set.contains s n || one_lies number n i)
    ∙ swapped (set.contains s n) (nat_eq n number)
    ∙ sym (set.contains-insert nat_cmp_total s number n ∙ ap (λ b. b || set.contains s n) (unsigned_tied n number)))

pub on_ok : {T E : Type 0} (P Q : T → Type 0) (r : Result T E) → ((x : T) → P x → Q x) → IfOk r P → IfOk r Q
on_ok P Q (Ok x) f h = f x h
on_ok P Q (Err e) f h = tt

both_parts : (b x y z w : Bool) → cond b (x && y) (z && w) ≡ (cond b x z && cond b y w)
both_parts true x y z w = refl
both_parts false x y z w = refl

-- what two sets have both, part by part
pub common_parts : (half : ℕ) (left right left_low left_high right_low right_high low high both : Tree)
    → ((n : ℕ) → has left n ≡ cond (nat_lt n half) (has left_low n) (has left_high (n - half)))
    → ((n : ℕ) → has right n ≡ cond (nat_lt n half) (has right_low n) (has right_high (n - half)))
    → ((n : ℕ) → has low n ≡ (has left_low n && has right_low n)) → ((n : ℕ) → has high n ≡ (has left_high n && has right_high n))
    → ((n : ℕ) → has both n ≡ cond (nat_lt n half) (has low n) (has high (n - half)))
    → (n : ℕ) → has both n ≡ (has left n && has right n)
common_parts half left right left_low left_high right_low right_high low high both l r lo hi is n =
    is n
    ∙ (λ i. cond (nat_lt n half) (lo n i) (hi (n - half) i))
    ∙ both_parts (nat_lt n half) (has left_low n) (has right_low n) (has left_high (n - half)) (has right_high (n - half))
    ∙ sym (λ i. l n i && r n i)

-- two sets that have the same numbers, where a test says so
pub same_numbers : {A : Type 0} (o : Option A) (left right : Tree) (s t : Numbers) → numbers left ≡ s → numbers right ≡ t → IfSome o (λ _. (n : ℕ) → has left n ≡ has right n) → IsTrue (is_some o) → s ≡ t
same_numbers (Some x) left right s t is are same h = sym is ∙ same_set left right t are same
same_numbers None left right s t is are same h = cc
