-- The first bytes of a text, and one piece more.
use Rattle.std.proofs.Common.{◌≡◌, ℕ, ◌+◌, ◌≤◌, ◌↔◌, Bool, true, false, List, ◌++◌, length, take, drop, sym, ap, ◌∙◌, arith, length-append}
use Rattle.std.specs.Prelude.{nat_lt}
use Rattle.std.proofs.Math.Seq.{take-add}
use Rattle.std.proofs.lemmas.Bool.{ltb-false}
use Rattle.std.proofs.lemmas.List.{append-nil, take_all, length-take-le, length-take}
use Rattle.hs_base.specs.ReadAll.{IsFront, ReadsMore}

pub more : (text front new part : List ℕ) (n : ℕ) (b : Bool) → nat_lt 0 n ≡ b → IsFront text front → take n part ≡ take n (drop (length front) text) → n ≤ length (drop (length front) text) → ((n ≡ 0) ↔ (length text ≤ length front)) → new ≡ front ++ take n part → ReadsMore text new b
more text front new part n false none_read is same long end e =
    let none : n ≡ 0 = omega (arith, ltb-false 0 n none_read) in
    e ∙ ap (λ k. front ++ take k part) none ∙ append-nil front ∙ is ∙ take_all (length front) text (end.0 none)
more text front new part n true some is same long end e =
    let whole : new ≡ take (length front + n) text = e ∙ ap (λ p. front ++ p) same ∙ ap (λ f. f ++ take n (drop (length front) text)) is ∙ sym (take-add (length front) n text) in
    let long_new : length new ≡ length front + n = ap length e ∙ length-append front (take n part) ∙ ap (λ k. length front + k) (ap length same ∙ length-take-le n (drop (length front) text) long) in
    whole ∙ ap (λ k. take k text) (sym long_new)

pub not_longer : (text front : List ℕ) → IsFront text front → length front ≤ length text
not_longer text front is =
    omega (arith, ap length is, length-take (length front) text)
