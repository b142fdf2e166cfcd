-- The test of two types finds exactly the equal ones. Proved from `Typed`.
use Rattle.std.proofs.Common.{◌≡◌, ℕ, zero, suc, true, false, refl, sym, ap, ◌∙◌, nat_eq}
use Rattle.std.proofs.lemmas.Bool.{and_from, and_parts, eq-eqb, eqb-true, false≢true}
use Rattle.c_types.specs.declared.types.IntType.{IntType}
use Rattle.c_types.specs.declared.types.IntType.TheVariants as i
use Rattle.c_types.specs.Types.{PlainType, PlainTypes, Void, Int, Pointer, Array, Struct, Union, Function, none, first}
use Rattle.c_decls.specs.Typed.{same, all_same, number_of}

abbrev numbered : ℕ → IntType
numbered zero = i.Char
numbered (suc zero) = i.SChar
numbered (suc (suc zero)) = i.UChar
numbered (suc (suc (suc zero))) = i.Short
numbered (suc (suc (suc (suc zero)))) = i.UShort
numbered (suc (suc (suc (suc (suc zero))))) = i.Int
numbered (suc (suc (suc (suc (suc (suc zero)))))) = i.UInt
numbered (suc (suc (suc (suc (suc (suc (suc zero))))))) = i.Long
numbered (suc (suc (suc (suc (suc (suc (suc (suc zero)))))))) = i.ULong
numbered (suc (suc (suc (suc (suc (suc (suc (suc (suc zero))))))))) = i.LongLong
numbered (suc (suc (suc (suc (suc (suc (suc (suc (suc (suc n)))))))))) = i.ULongLong

numbered-number_of : (t : IntType) → numbered (number_of t) ≡ t
numbered-number_of i.Char = refl
numbered-number_of i.SChar = refl
numbered-number_of i.UChar = refl
numbered-number_of i.Short = refl
numbered-number_of i.UShort = refl
numbered-number_of i.Int = refl
numbered-number_of i.UInt = refl
numbered-number_of i.Long = refl
numbered-number_of i.ULong = refl
numbered-number_of i.LongLong = refl
numbered-number_of i.ULongLong = refl

same_integers : (a b : IntType) → nat_eq (number_of a) (number_of b) ≡ true → a ≡ b
same_integers a b e =
    sym (numbered-number_of a) ∙ (ap numbered (eqb-true (number_of a) (number_of b) e) ∙ numbered-number_of b)

mutual
  unfolding same all_same

  pub same_equal : (a b : PlainType) → same a b ≡ true → a ≡ b
  same_equal Void Void e = refl
  same_equal (Int a) (Int b) e = ap Int (same_integers a b e)
  same_equal (Pointer a) (Pointer b) e = ap Pointer (same_equal a b e)
  same_equal (Array a m) (Array b n) e =
      let elements = same_equal a b (and_parts (same a b) (nat_eq m n) e).0 in
      let lengths = eqb-true m n (and_parts (same a b) (nat_eq m n) e).1 in
      λ j. Array (elements j) (lengths j)
  same_equal (Struct a) (Struct b) e = ap Struct (eqb-true a b e)
  same_equal (Union a) (Union b) e = ap Union (eqb-true a b e)
  same_equal (Function a params) (Function b others) e =
      let answers = same_equal a b (and_parts (same a b) (all_same params others) e).0 in
      let rest = all_same_equal params others (and_parts (same a b) (all_same params others) e).1 in
      λ j. Function (answers j) (rest j)
  same_equal a b e = absurd (false≢true e)

  pub all_same_equal : (a b : PlainTypes) → all_same a b ≡ true → a ≡ b
  all_same_equal none none e = refl
  all_same_equal (first a params) (first b others) e =
      let types = same_equal a b (and_parts (same a b) (all_same params others) e).0 in
      let rest = all_same_equal params others (and_parts (same a b) (all_same params others) e).1 in
      λ j. first (types j) (rest j)
  all_same_equal a b e = absurd (false≢true e)

mutual
  unfolding same all_same

  pub same_itself : (a : PlainType) → same a a ≡ true
  same_itself Void = refl
  same_itself (Int a) = eq-eqb (number_of a) (number_of a) refl
  same_itself (Pointer a) = same_itself a
  same_itself (Array a m) = and_from (same a a) (nat_eq m m) (same_itself a) (eq-eqb m m refl)
  same_itself (Struct a) = eq-eqb a a refl
  same_itself (Union a) = eq-eqb a a refl
  same_itself (Function a params) = and_from (same a a) (all_same params params) (same_itself a) (all_same_itself params)

  pub all_same_itself : (a : PlainTypes) → all_same a a ≡ true
  all_same_itself none = refl
  all_same_itself (first a params) = and_from (same a a) (all_same params params) (same_itself a) (all_same_itself params)
