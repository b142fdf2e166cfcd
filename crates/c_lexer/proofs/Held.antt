-- No type holds a value of 65 bits.
use Rattle.std.proofs.Common.{◌≡◌, ℕ, ◌<◌, ◌^◌, false, List, [], ◌∷◌, refl, arith}
use Rattle.std.proofs.lemmas.Bool.{lt-leb, or_from}
use Rattle.std.specs.Prelude.{nat_le}
use Rattle.std.specs.List.{list_any}
use Rattle.c_lexer.specs.Numbers.{NumberType, Int, Unsigned, Long, UnsignedLong, LongLong, UnsignedLongLong, greatest, types_of, is_held}
use Rattle.c_lexer.specs.declared.number.Base.{Base}
use Rattle.c_lexer.specs.declared.number.Suffix.{Suffix}

over : (t : NumberType) (v : ℕ) → (v < 2 ^ 64 → ⊥) → nat_le v (greatest t) ≡ false
over Int v h = lt-leb v (greatest Int) (omega (arith, h))
over Unsigned v h = lt-leb v (greatest Unsigned) (omega (arith, h))
over Long v h = lt-leb v (greatest Long) (omega (arith, h))
over UnsignedLong v h = lt-leb v (greatest UnsignedLong) (omega (arith, h))
over LongLong v h = lt-leb v (greatest LongLong) (omega (arith, h))
over UnsignedLongLong v h = lt-leb v (greatest UnsignedLongLong) (omega (arith, h))

none : (ts : List NumberType) (v : ℕ) → (v < 2 ^ 64 → ⊥) → list_any (λ t. nat_le v (greatest t)) ts ≡ false
none [] v h = refl
none (t ∷ ts) v h = or_from (nat_le v (greatest t)) _ (over t v h) (none ts v h)

pub is_held_over : (base : Base) (suffix : Suffix) (v : ℕ) → (v < 2 ^ 64 → ⊥) → is_held base suffix v ≡ false
unfolding is_held
is_held_over base suffix v h = none (types_of base suffix) v h
