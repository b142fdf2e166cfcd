-- Strings, byte by byte.
use Rattle.std.proofs.Common.{◌≡◌, ◌≢◌, ℕ, suc, ◌+◌, ◌-◌, ◌<◌, ◌≤◌, List, [], ◌∷◌, ◌++◌, true, false, Result, Ok, Err, refl, sym, ap, ◌∙◌, arith, append_assoc, pos, negsuc, ℤ}
use Rattle.std.specs.Prelude.{nat_eq, nat_lt}
use Rattle.std.proofs.lemmas.List.{append-nil}
use Rattle.std.proofs.lemmas.Bool.Decides.{nat_tests}
use Rattle.hs_base.specs.declared.ends.TrapKind.TheVariants as trap
use Rattle.hs_base.specs.declared.values.Pointer.{Pointer}
use Rattle.hs_base.specs.Access.{Refusal, Trapped, and_then}
use Rattle.hs_base.specs.Object.{Object}
use Rattle.object_meaning.specs.objects.Strings.{byte_behind, with_byte, string_from, string_at, room_at, byte_order, order_from, order_of}

-- a text in front of what is read
abbrev pub in_front : List ℕ → Result (List ℕ) Refusal → Result (List ℕ) Refusal
in_front text rest = and_then rest (λ bytes. Ok (text ++ bytes))

in_front_none : (r : Result (List ℕ) Refusal) → r ≡ in_front [] r
in_front_none (Ok bytes) = refl
in_front_none (Err e) = refl

joined : (text : List ℕ) (byte : ℕ) (r : Result (List ℕ) Refusal) → in_front text (and_then r (λ bytes. Ok (byte ∷ bytes))) ≡ in_front (text ++ byte ∷ []) r
joined text byte (Ok bytes) = ap Ok (sym (append_assoc text (byte ∷ []) bytes))
joined text byte (Err e) = refl

one_less : (room i : ℕ) → i < room → room - i ≡ suc (room - (i + 1))
one_less room i h = omega arith

module _ (objects : List Object) (p : Pointer) where
  pub read_none : string_at objects p ≡ in_front [] (string_from objects p 0 (room_at objects p - 0))
  read_none =
      let same : room_at objects p ≡ room_at objects p - 0 = omega arith in
      ap (string_from objects p 0) same ∙ in_front_none (string_from objects p 0 (room_at objects p - 0))

  module _ (text : List ℕ) (i room : ℕ) (inside : i < room) where
    first : (r : Result ℕ Refusal) → byte_behind objects p i ≡ r → in_front text (string_from objects p i (room - i)) ≡ in_front text (and_then r (λ byte. with_byte byte (string_from objects p (i + 1) (room - (i + 1)))))
    first r e = rw (one_less room i inside, e) refl

    pub read_refused : (e : Refusal) → byte_behind objects p i ≡ Err e → in_front text (string_from objects p i (room - i)) ≡ Err e
    read_refused e is = first (Err e) is

    pub read_end : (byte : ℕ) → byte_behind objects p i ≡ Ok byte → byte ≡ 0 → in_front text (string_from objects p i (room - i)) ≡ Ok text
    read_end byte is end = first (Ok byte) is ∙ rw end (ap Ok (append-nil text))

    pub read_more : (byte : ℕ) → byte_behind objects p i ≡ Ok byte → byte ≢ 0 → in_front text (string_from objects p i (room - i)) ≡ in_front (text ++ byte ∷ []) (string_from objects p (i + 1) (room - (i + 1)))
    read_more byte is some =
        let not_zero : nat_eq byte 0 ≡ false = grind (arith, nat_tests) in
        first (Ok byte) is ∙ rw not_zero (joined text byte (string_from objects p (i + 1) (room - (i + 1))))

  pub read_over : (text : List ℕ) (i room : ℕ) → room ≤ i → in_front text (string_from objects p i (room - i)) ≡ Err (Trapped trap.Bounds)
  read_over text i room h = let none : room - i ≡ 0 = omega arith in rw none refl

-- The order of two strings
module _ (objects : List Object) (p q : Pointer) where
  pub order_none : order_of objects p q ≡ order_from objects p q 0 (room_at objects p - 0)
  order_none = let same : room_at objects p ≡ room_at objects p - 0 = omega arith in ap (order_from objects p q 0) same

  module _ (i room : ℕ) (inside : i < room) where
    both : (r s : Result ℕ Refusal) → byte_behind objects p i ≡ r → byte_behind objects q i ≡ s → order_from objects p q i (room - i) ≡ and_then r (λ a. and_then s (λ b. byte_order a b (order_from objects p q (i + 1) (room - (i + 1)))))
    both r s e f = rw (one_less room i inside, e, f) refl

    pub order_refused : (e : Refusal) → byte_behind objects p i ≡ Err e → order_from objects p q i (room - i) ≡ Err e
    order_refused e is = both (Err e) (byte_behind objects q i) is refl

    pub order_other_refused : (a : ℕ) (e : Refusal) → byte_behind objects p i ≡ Ok a → byte_behind objects q i ≡ Err e → order_from objects p q i (room - i) ≡ Err e
    order_other_refused a e is other = both (Ok a) (Err e) is other

    pub order_here : (a b : ℕ) → byte_behind objects p i ≡ Ok a → byte_behind objects q i ≡ Ok b → order_from objects p q i (room - i) ≡ byte_order a b (order_from objects p q (i + 1) (room - (i + 1)))
    order_here a b is other = both (Ok a) (Ok b) is other

  pub order_over : (i room : ℕ) → room ≤ i → order_from objects p q i (room - i) ≡ Err (Trapped trap.Bounds)
  order_over i room h = let none : room - i ≡ 0 = omega arith in rw none refl

pub byte_less : (a b : ℕ) (rest : Result ℤ Refusal) → a < b → byte_order a b rest ≡ Ok (negsuc 0)
byte_less a b rest h = let yes : nat_lt a b ≡ true = grind (arith, nat_tests) in rw yes refl

pub byte_greater : (a b : ℕ) (rest : Result ℤ Refusal) → b < a → byte_order a b rest ≡ Ok (pos 1)
byte_greater a b rest h =
    let not_less : nat_lt a b ≡ false = grind (arith, nat_tests) in
    let yes : nat_lt b a ≡ true = grind (arith, nat_tests) in rw (not_less, yes) refl

pub byte_same : (a b : ℕ) (rest : Result ℤ Refusal) → b ≤ a → a ≤ b → a ≢ 0 → byte_order a b rest ≡ rest
byte_same a b rest h g some =
    let not_less : nat_lt a b ≡ false = grind (arith, nat_tests) in
    let not_more : nat_lt b a ≡ false = grind (arith, nat_tests) in
    let not_zero : nat_eq a 0 ≡ false = grind (arith, nat_tests) in rw (not_less, not_more, not_zero) refl
