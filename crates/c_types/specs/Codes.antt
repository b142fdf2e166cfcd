-- Tables of tags told apart as trees of numbers.
use Rattle.std.specs.Prelude.{◌≡◌, ℕ, zero, suc, List, Bool, refl}
use Rattle.std.specs.Coded.{Coded, code_by, coded×, coded_list, coded_ℕ, coded_bool}
use Rattle.std.proofs.Common.{ap, sym, ◌∙◌}
use base.Stored.{Gv, gnil, gnum, gcons}
use Rattle.c_types.specs.declared.types.IntType.{IntType}
use Rattle.c_types.specs.declared.types.IntType.TheVariants as i
use Rattle.c_types.specs.declared.tags.TagInfo.{TagInfo}
use Rattle.c_types.specs.Types.{PlainType, PlainTypes, Void, Int, Pointer, Array, Struct, Union, Function, none, first}
use Rattle.c_types.specs.TagTable.{TagTable, CompletedTag}

abbrev number : IntType → ℕ
number i.Char = 0
number i.SChar = 1
number i.UChar = 2
number i.Short = 3
number i.UShort = 4
number i.Int = 5
number i.UInt = 6
number i.Long = 7
number i.ULong = 8
number i.LongLong = 9
number i.ULongLong = 10

abbrev numbered : ℕ → IntType
numbered zero = i.Char
numbered (suc zero) = i.SChar
numbered (suc (suc zero)) = i.UChar
numbered (suc (suc (suc zero))) = i.Short
numbered (suc (suc (suc (suc zero)))) = i.UShort
numbered (suc (suc (suc (suc (suc zero))))) = i.Int
numbered (suc (suc (suc (suc (suc (suc zero)))))) = i.UInt
numbered (suc (suc (suc (suc (suc (suc (suc zero))))))) = i.Long
numbered (suc (suc (suc (suc (suc (suc (suc (suc zero)))))))) = i.ULong
numbered (suc (suc (suc (suc (suc (suc (suc (suc (suc zero))))))))) = i.LongLong
numbered (suc (suc (suc (suc (suc (suc (suc (suc (suc (suc n)))))))))) = i.ULongLong

numbered-number : (t : IntType) → numbered (number t) ≡ t
numbered-number i.Char = refl
numbered-number i.SChar = refl
numbered-number i.UChar = refl
numbered-number i.Short = refl
numbered-number i.UShort = refl
numbered-number i.Int = refl
numbered-number i.UInt = refl
numbered-number i.Long = refl
numbered-number i.ULong = refl
numbered-number i.LongLong = refl
numbered-number i.ULongLong = refl

abbrev mutual
  pub type_tree : PlainType → Gv
  type_tree Void = gcons (gnum 0) gnil
  type_tree (Int int) = gcons (gnum 1) (gnum (number int))
  type_tree (Pointer target) = gcons (gnum 2) (type_tree target)
  type_tree (Array element length) = gcons (gnum 3) (gcons (type_tree element) (gnum length))
  type_tree (Struct tag) = gcons (gnum 4) (gnum tag)
  type_tree (Union tag) = gcons (gnum 5) (gnum tag)
  type_tree (Function answer params) = gcons (gnum 6) (gcons (type_tree answer) (types_tree params))

  pub types_tree : PlainTypes → Gv
  types_tree none = gnil
  types_tree (first type rest) = gcons (type_tree type) (types_tree rest)

number_inj : (x y : IntType) → number x ≡ number y → x ≡ y
number_inj x y e = sym (numbered-number x) ∙ (ap numbered e ∙ numbered-number y)

mutual
  pub type_tree_inj : (x y : PlainType) → type_tree x ≡ type_tree y → x ≡ y
  type_tree_inj Void Void e = refl
  type_tree_inj Void y e = cc
  type_tree_inj (Int a) (Int b) e = let same : number a ≡ number b = cc in ap Int (number_inj a b same)
  type_tree_inj (Int a) y e = cc
  type_tree_inj (Pointer a) (Pointer b) e = let same : type_tree a ≡ type_tree b = cc in ap Pointer (type_tree_inj a b same)
  type_tree_inj (Pointer a) y e = cc
  type_tree_inj (Array a m) (Array b n) e =
      let same : type_tree a ≡ type_tree b = cc in let length : m ≡ n = cc in
      let elements : a ≡ b = type_tree_inj a b same in cc
  type_tree_inj (Array a m) y e = cc
  type_tree_inj (Struct m) (Struct n) e = let same : m ≡ n = cc in ap Struct same
  type_tree_inj (Struct m) y e = cc
  type_tree_inj (Union m) (Union n) e = let same : m ≡ n = cc in ap Union same
  type_tree_inj (Union m) y e = cc
  type_tree_inj (Function a as') (Function b bs) e =
      let same : type_tree a ≡ type_tree b = cc in let rest : types_tree as' ≡ types_tree bs = cc in
      let answers : a ≡ b = type_tree_inj a b same in let params : as' ≡ bs = types_tree_inj as' bs rest in cc
  type_tree_inj (Function a as') y e = cc

  pub types_tree_inj : (xs ys : PlainTypes) → types_tree xs ≡ types_tree ys → xs ≡ ys
  types_tree_inj none none e = refl
  types_tree_inj none (first b bs) e = cc
  types_tree_inj (first a as') none e = cc
  types_tree_inj (first a as') (first b bs) e =
      let same : type_tree a ≡ type_tree b = cc in let rest : types_tree as' ≡ types_tree bs = cc in
      let heads : a ≡ b = type_tree_inj a b same in let tails : as' ≡ bs = types_tree_inj as' bs rest in cc

abbrev pub type_code : Coded PlainType
type_code = record { code = type_tree; inj = type_tree_inj }

abbrev pub info_code : Coded TagInfo
info_code =
    code_by (Bool × List ℕ) (coded× coded_bool (coded_list coded_ℕ)) (λ i. (i.is_union, i.name)) (λ p. record { is_union = p.0; name = p.1 }) (λ _. refl)

abbrev pub completed_code : Coded CompletedTag
completed_code =
    code_by (ℕ × (Bool × List (List ℕ × PlainType))) (coded× coded_ℕ (coded× coded_bool (coded_list (coded× (coded_list coded_ℕ) type_code))))
    (λ t. (t.tag, (t.is_union, t.members))) (λ p. record { tag = p.0; is_union = p.1.0; members = p.1.1 }) (λ _. refl)

abbrev pub table_code : Coded TagTable
table_code =
    code_by (List TagInfo × List CompletedTag) (coded× (coded_list info_code) (coded_list completed_code))
    (λ t. (t.made, t.completed)) (λ p. record { made = p.0; completed = p.1 }) (λ _. refl)
