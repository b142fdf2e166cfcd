-- The bytes of a number, and lists with another in place of some items. Equations, proved from `Access`.
use Rattle.std.proofs.Common.{◌≡◌, ◌<◌, ◌≤◌, ◌+◌, ◌-◌, ◌/◌, ◌%◌, ◌^◌, ℕ, zero, suc, List, [], ◌∷◌, ◌++◌, length, get_or, take, drop, refl, sym, ap, subst, ◌∙◌, length-append, length-drop, get_or-take, get_or-drop, append-nil, add-zero, add-sub_of_le, add-lt-add_of_le_of_lt, le_refl, le_trans, lt_of_lt_of_le, le-add_right, div-one, pow-suc}
use Rattle.std.specs.Int.{byte_at, bytes_low_first}
use Rattle.std.proofs.Math.Nat.{div-div-eq-div-mul}
use Rattle.std.proofs.lemmas.List.{get_or_append_left, get_or-append-add, length-take-le, take-append-drop}
use Rattle.hs_base.specs.Access.{bytes_of, overlaid}

-- The bytes of a number: how many, and that they are std's

pub length-bytes_of : (n value : ℕ) → length (bytes_of n value) ≡ n
length-bytes_of zero value = refl
length-bytes_of (suc n) value = ap suc (length-bytes_of n (value / 256))

-- std's bytes of a number, from byte i upward
byte_is : (i value : ℕ) → byte_at i value ≡ value / 256 ^ i % 256
byte_is zero value = ap (λ n. n % 256) (sym (div-one value))
byte_is (suc i) value = refl

bytes_from : (i n value : ℕ) → bytes_low_first i n value ≡ bytes_of n (value / 256 ^ i)
bytes_from i zero value = refl
bytes_from i (suc n) value =
    let tail : bytes_low_first (suc i) n value ≡ bytes_of n (value / 256 ^ i / 256) =
    bytes_from (suc i) n value ∙ ap (λ d. bytes_of n (value / d)) (pow-suc 256 i) ∙ ap (bytes_of n) (sym (div-div-eq-div-mul value (256 ^ i) 256)) in
    λ k. byte_is i value k ∷ tail k

pub bytes_are : (n value : ℕ) → bytes_low_first 0 n value ≡ bytes_of n value
bytes_are n value = bytes_from 0 n value ∙ ap (bytes_of n) (div-one value)

-- A list with another in place of as many items

-- no new items
pub overlaid_none : {A : Type 0} (items : List A) (place : ℕ) → overlaid items place [] ≡ items
overlaid_none items place =
    ap (λ l. l ++ drop (place + 0) items) (append-nil (take place items))
    ∙ ap (λ i. take place items ++ drop i items) (add-zero place) ∙ take-append-drop place items

module _ {A : Type 0} (items : List A) (place : ℕ) (new : List A) (inside : place + length new ≤ length items) where
  -- the length of what stands before the new items, and up to their end
  before_len : length (take place items) ≡ place
  before_len = length-take-le place items (le_trans (le-add_right place (length new)) inside)

  front_len : length (take place items ++ new) ≡ place + length new
  front_len = length-append (take place items) new ∙ ap (λ n. n + length new) before_len

  -- as many items as before
  pub overlaid_len : length (overlaid items place new) ≡ length items
  overlaid_len =
      length-append (take place items ++ new) (drop (place + length new) items)
      ∙ (λ i. front_len i + length-drop (place + length new) items i) ∙ add-sub_of_le inside

  -- an item before the new ones
  pub at_before : (k : ℕ) (d : A) → k < place → get_or (overlaid items place new) k d ≡ get_or items k d
  at_before k d less =
      get_or_append_left (take place items ++ new) (drop (place + length new) items) d k
      (subst (λ n. k < n) (sym front_len) (lt_of_lt_of_le less (le-add_right place (length new))))
      ∙ get_or_append_left (take place items) new d k (subst (λ n. k < n) (sym before_len) less)
      ∙ get_or-take place items k d less

  -- one of the new ones
  pub at_inside : (k : ℕ) (d : A) → k < length new → get_or (overlaid items place new) (place + k) d ≡ get_or new k d
  at_inside k d less =
      get_or_append_left (take place items ++ new) (drop (place + length new) items) d (place + k)
      (subst (λ n. place + k < n) (sym front_len) (add-lt-add_of_le_of_lt (le_refl place) less))
      ∙ ap (λ n. get_or (take place items ++ new) (n + k) d) (sym before_len) ∙ get_or-append-add (take place items) new k d

  -- an item behind them
  pub at_behind : (k : ℕ) (d : A) → place + length new ≤ k → get_or (overlaid items place new) k d ≡ get_or items k d
  at_behind k d more =
      let past = k - (place + length new) in
      let back : place + length new + past ≡ k = add-sub_of_le more in
      ap (λ i. get_or (overlaid items place new) i d) (sym back ∙ ap (λ n. n + past) (sym front_len))
      ∙ get_or-append-add (take place items ++ new) (drop (place + length new) items) past d
      ∙ get_or-drop (place + length new) items past d ∙ ap (λ i. get_or items i d) back
