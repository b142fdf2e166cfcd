-- The largest member of a union, and the union rule by it.
use Rattle.std.proofs.Common.{◌≡◌, ◌≤◌, ◌<◌, ◌+◌, ℕ, suc, zero, List, [], ◌∷◌, Some, None, take, length, get_or, refl, ap, sym, ◌∙◌, arith, IsSomeAnd, take_all}
use Rattle.std.specs.List.{AllByRecursion, slice_get}
use Rattle.std.proofs.lemmas.List.{take_more}
use Rattle.std.proofs.lemmas.Option.{slice_get_read}
use Rattle.c_types.specs.declared.bodies.Member.{Member}
use Rattle.c_types.specs.Layouts.{Known}
use Rattle.c_types.specs.Slots.{member_size, IsLargest}
use Rattle.c_types.proofs.Sound.{all_push}

pub record IsLargestSoFar (k : Known) (members : List Member) (largest greatest place : ℕ) : Type 0 where
  pub within : largest < length members
  pub greatest_is : (m : Member) → slice_get members largest ≡ Some m → greatest ≡ member_size k m
  pub most : AllByRecursion (λ (other : Member). member_size k other ≤ greatest) (take place members)

all_below : (k : Known) (ms : List Member) (a b : ℕ) → a ≤ b → AllByRecursion (λ (o : Member). member_size k o ≤ a) ms → AllByRecursion (λ (o : Member). member_size k o ≤ b) ms
all_below k [] a b h s = tt
all_below k (m ∷ ms) a b h s = ((let here = s.0 in omega arith), all_below k ms a b h s.1)

one_more :
    (k : Known) (members : List Member) (place bound : ℕ) (m : Member) → place < length members → m ≡ get_or members place m → member_size k m ≤ bound →
    AllByRecursion (λ (o : Member). member_size k o ≤ bound) (take place members) → AllByRecursion (λ (o : Member). member_size k o ≤ bound) (take (place + 1) members)
one_more k members place bound m h at b all =
    rw (take_more members place m h, ← at) (all_push (λ (o : Member). member_size k o ≤ bound) (take place members) m all b)

pub larger_found :
    (k : Known) (members : List Member) (largest greatest place size : ℕ) (m : Member) → place < length members → m ≡ get_or members place m →
    member_size k m ≡ size → greatest < size → IsLargestSoFar k members largest greatest place → IsLargestSoFar k members place size (place + 1)
larger_found k members largest greatest place size m h at is more so_far = record {
  within = h;
  greatest_is = λ other e.
      let mine : slice_get members place ≡ Some m = slice_get_read members (length members) place m refl h at in
      let same : Some other ≡ Some m = sym e ∙ mine in
      let equal : other ≡ m = cc in
      sym (ap (member_size k) equal ∙ is);
  most =
      one_more k members place size m h at (let e = is in omega arith)
      (all_below k (take place members) greatest size (omega arith) so_far.most);
}

pub none_larger :
    (k : Known) (members : List Member) (largest greatest place size : ℕ) (m : Member) → place < length members → m ≡ get_or members place m →
    member_size k m ≡ size → size ≤ greatest → IsLargestSoFar k members largest greatest place → IsLargestSoFar k members largest greatest (place + 1)
none_larger k members largest greatest place size m h at is less so_far = record {
  within = so_far.within;
  greatest_is = so_far.greatest_is;
  most = one_more k members place greatest m h at (let e = is in omega arith) so_far.most;
}

past_end : {X : Type 0} (xs : List X) (i : ℕ) → slice_get xs i ≡ None → length xs ≤ i
past_end [] i e = omega arith
past_end (x ∷ xs) zero e = cc
past_end (x ∷ xs) (suc i) e = let more = past_end xs i e in omega arith

pub largest_is :
    (k : Known) (members : List Member) (largest greatest place : ℕ) → length members ≤ place → IsLargestSoFar k members largest greatest place →
    IsSomeAnd (slice_get members largest) (IsLargest k members)
largest_is k members largest greatest place h so_far =
    elim (slice_get members largest) as (λ o. slice_get members largest ≡ o → IsSomeAnd o (IsLargest k members)) [
      | None ↦ λ e. let past = past_end members largest e in let within = so_far.within in absurd (omega arith)
      | Some m ↦ λ e.
          let all = rw (take_all place members h) at so_far.most in
          all_below k members greatest (member_size k m) (let is = so_far.greatest_is m e in omega arith) all
    ]
    refl
