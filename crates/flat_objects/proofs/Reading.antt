-- Strings, byte by byte.
use Rattle.std.proofs.Common.{inl, inr, ◌≡◌, ◌≢◌, ℕ, zero, suc, ◌+◌, ◌-◌, ◌<◌, ◌≤◌, List, [], ◌∷◌, cond, Result, Ok, Err, length, refl, sym, ap, ◌∙◌, arith, pos, negsuc, ℤ}
use Rattle.std.specs.Prelude.{nat_eq, nat_lt, slice_index}
use Rattle.std.proofs.lemmas.Bool.{ne_eqb, cases_eq, lt-ltb, le-ltb}
use Rattle.hs_base.specs.declared.values.Pointer.{Pointer}
use Rattle.hs_base.specs.Access.{Refusal, and_then}
use Rattle.hs_base.specs.Object.{Object}
use Rattle.object_meaning.specs.objects.Strings.{byte_behind, with_byte, string_from, byte_order, order_from}

-- how many bytes, after so many
abbrev pub counted : ℕ → Result (List ℕ) Refusal → Result ℕ Refusal
counted n rest = and_then rest (λ bytes. Ok (n + length bytes))

one_more : (n byte : ℕ) (r : Result (List ℕ) Refusal) → counted n (and_then r (λ bytes. Ok (byte ∷ bytes))) ≡ counted (n + 1) r
one_more n byte (Ok bytes) = let e : n + suc (length bytes) ≡ n + 1 + length bytes = omega arith in ap Ok e
one_more n byte (Err e) = refl

pub length_told : (r : Result (List ℕ) Refusal) (n : ℕ) → counted 0 r ≡ Ok n → (bytes : List ℕ) × (r ≡ Ok bytes) × (n ≡ length bytes)
length_told (Ok bytes) n h = let e : 0 + length bytes ≡ n = cc in (bytes, refl, omega arith)
length_told (Err e) n h = absurd (cc)

pub refusal_told : (r : Result (List ℕ) Refusal) (e : Refusal) → counted 0 r ≡ Err e → r ≡ Err e
refusal_told (Ok bytes) e h = absurd (cc)
refusal_told (Err d) e h = let same : d ≡ e = cc in ap Err same

one_less : (room i : ℕ) → i < room → room - i ≡ suc (room - (i + 1))
one_less room i h = omega arith

-- a zero ends the string, and any other byte goes on
byte_ends : (byte : ℕ) (rest : Result (List ℕ) Refusal) → byte ≡ 0 → with_byte byte rest ≡ Ok []
byte_ends byte rest e = ap (λ b. with_byte b rest) e

byte_goes : (byte : ℕ) (rest : Result (List ℕ) Refusal) → byte ≢ 0 → with_byte byte rest ≡ and_then rest (λ bytes. Ok (byte ∷ bytes))
byte_goes byte rest some = ap (λ t. cond t (Ok []) (and_then rest (λ bytes. Ok (byte ∷ bytes)))) (ne_eqb byte 0 some)

module _ (objects : List Object) (p : Pointer) (i room : ℕ) (inside : i < room) where
  first : (n : ℕ) (r : Result ℕ Refusal) → byte_behind objects p i ≡ r → counted n (string_from objects p i (room - i)) ≡ counted n (and_then r (λ byte. with_byte byte (string_from objects p (i + 1) (room - (i + 1)))))
  first n r e =
      ap (λ m. counted n (string_from objects p i m)) (one_less room i inside)
      ∙ ap (λ s. counted n (and_then s (λ byte. with_byte byte (string_from objects p (i + 1) (room - (i + 1)))))) e

  pub count_refused : (n : ℕ) (e : Refusal) → byte_behind objects p i ≡ Err e → counted n (string_from objects p i (room - i)) ≡ Err e
  count_refused n e is = first n (Err e) is

  pub count_end : (n byte : ℕ) → byte_behind objects p i ≡ Ok byte → byte ≡ 0 → counted n (string_from objects p i (room - i)) ≡ Ok n
  count_end n byte is end =
      let same : n + 0 ≡ n = omega arith in
      first n (Ok byte) is ∙ ap (counted n) (byte_ends byte (string_from objects p (i + 1) (room - (i + 1))) end) ∙ ap Ok same

  pub count_more : (n byte : ℕ) → byte_behind objects p i ≡ Ok byte → byte ≢ 0 → counted n (string_from objects p i (room - i)) ≡ counted (n + 1) (string_from objects p (i + 1) (room - (i + 1)))
  count_more n byte is some =
      let rest = string_from objects p (i + 1) (room - (i + 1)) in
      first n (Ok byte) is ∙ ap (counted n) (byte_goes byte rest some) ∙ one_more n byte rest

-- The bytes of a string

-- a string that has a first byte
record Begins (r : Result ℕ Refusal) (rest : Result (List ℕ) Refusal) (bytes : List ℕ) : Type 0 where
  byte : ℕ
  others : List ℕ
  here : r ≡ Ok byte
  more : rest ≡ Ok others
  all : bytes ≡ byte ∷ others

begins_with : (byte : ℕ) (rest : Result (List ℕ) Refusal) (bytes : List ℕ) → and_then rest (λ others. Ok (byte ∷ others)) ≡ Ok bytes → Begins (Ok byte) rest bytes
begins_with byte (Ok others) bytes h = record { byte = byte; others = others; here = refl; more = refl; all = cc }
begins_with byte (Err e) bytes h = absurd (cc)

begins : (r : Result ℕ Refusal) (rest : Result (List ℕ) Refusal) (bytes : List ℕ) → and_then r (λ byte. with_byte byte rest) ≡ Ok bytes → 0 < length bytes → Begins r rest bytes
begins (Err e) rest bytes h some = absurd (cc)
begins (Ok byte) rest bytes h some =
    elim (cases_eq byte 0) [
      | inl zero_is ↦
          let ends = byte_ends byte rest zero_is in
          let none : bytes ≡ [] = cc in
          let empty : length bytes ≡ 0 = ap length none in
          absurd (omega arith)
      | inr not_zero ↦ begins_with byte rest bytes (sym (byte_goes byte rest not_zero) ∙ h)
    ]

pub string_has : (objects : List Object) (p : Pointer) (i most : ℕ) (bytes : List ℕ) (k : ℕ) → string_from objects p i most ≡ Ok bytes → k < length bytes → byte_behind objects p (i + k) ≡ Ok (slice_index bytes k)
string_has objects p i zero bytes k h less = absurd (cc)
string_has objects p i (suc most) bytes zero h less =
    let b = begins (byte_behind objects p i) (string_from objects p (i + 1) most) bytes h (omega arith) in
    let place : i + 0 ≡ i = omega arith in
    ap (byte_behind objects p) place ∙ b.here ∙ ap (λ l. let r : Result ℕ Refusal = Ok (slice_index l 0) in r) (sym b.all)
string_has objects p i (suc most) bytes (suc k) h less =
    let b = begins (byte_behind objects p i) (string_from objects p (i + 1) most) bytes h (omega arith) in
    let place : i + suc k ≡ i + 1 + k = omega arith in
    let rest : k < length b.others = omega (arith, ap length b.all) in
    ap (byte_behind objects p) place ∙ string_has objects p (i + 1) most b.others k b.more rest ∙ ap (λ l. let r : Result ℕ Refusal = Ok (slice_index l (suc k)) in r) (sym b.all)

-- The order of two strings

module _ (objects : List Object) (p q : Pointer) (i room : ℕ) (inside : i < room) where
  both : (r s : Result ℕ Refusal) → byte_behind objects p i ≡ r → byte_behind objects q i ≡ s → order_from objects p q i (room - i) ≡ and_then r (λ a. and_then s (λ b. byte_order a b (order_from objects p q (i + 1) (room - (i + 1)))))
  both r s e f =
      ap (order_from objects p q i) (one_less room i inside)
      ∙ (λ j. and_then (e j) (λ a. and_then (f j) (λ b. byte_order a b (order_from objects p q (i + 1) (room - (i + 1))))))

  pub order_refused : (e : Refusal) → byte_behind objects p i ≡ Err e → order_from objects p q i (room - i) ≡ Err e
  order_refused e is = both (Err e) (byte_behind objects q i) is refl

  pub order_other_refused : (a : ℕ) (e : Refusal) → byte_behind objects p i ≡ Ok a → byte_behind objects q i ≡ Err e → order_from objects p q i (room - i) ≡ Err e
  order_other_refused a e is other = both (Ok a) (Err e) is other

  pub order_here : (a b : ℕ) → byte_behind objects p i ≡ Ok a → byte_behind objects q i ≡ Ok b → order_from objects p q i (room - i) ≡ byte_order a b (order_from objects p q (i + 1) (room - (i + 1)))
  order_here a b is other = both (Ok a) (Ok b) is other

pub byte_less : (a b : ℕ) (rest : Result ℤ Refusal) → a < b → byte_order a b rest ≡ Ok (negsuc 0)
byte_less a b rest h = ap (λ t. cond t (Ok (negsuc 0)) (cond (nat_lt b a) (Ok (pos 1)) (cond (nat_eq a 0) (Ok (pos 0)) rest))) (lt-ltb a b h)

pub byte_greater : (a b : ℕ) (rest : Result ℤ Refusal) → b < a → byte_order a b rest ≡ Ok (pos 1)
byte_greater a b rest h =
    let less = le-ltb a b (omega arith) in
    let more = lt-ltb b a h in
    λ i. cond (less i) (Ok (negsuc 0)) (cond (more i) (Ok (pos 1)) (cond (nat_eq a 0) (Ok (pos 0)) rest))

pub byte_zero : (a b : ℕ) (rest : Result ℤ Refusal) → b ≤ a → a ≤ b → a ≡ 0 → byte_order a b rest ≡ Ok (pos 0)
byte_zero a b rest h g zero_is =
    let less = le-ltb a b h in
    let more = le-ltb b a g in
    (λ i. cond (less i) (Ok (negsuc 0)) (cond (more i) (Ok (pos 1)) (cond (nat_eq a 0) (Ok (pos 0)) rest))) ∙ ap (λ n. cond (nat_eq n 0) (Ok (pos 0)) rest) zero_is

pub byte_same : (a b : ℕ) (rest : Result ℤ Refusal) → b ≤ a → a ≤ b → a ≢ 0 → byte_order a b rest ≡ rest
byte_same a b rest h g some =
    let less = le-ltb a b h in
    let more = le-ltb b a g in
    let none = ne_eqb a 0 some in
    λ i. cond (less i) (Ok (negsuc 0)) (cond (more i) (Ok (pos 1)) (cond (none i) (Ok (pos 0)) rest))
