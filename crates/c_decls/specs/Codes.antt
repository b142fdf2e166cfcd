-- Scopes told apart as trees of numbers.
use Rattle.std.specs.Prelude.{◌≡◌, ℕ, zero, suc, ℤ, pos, List, refl}
use Rattle.std.specs.Coded.{Coded, code_by, coded×, coded_list, coded_ℕ, coded_ℤ}
use Rattle.c_types.specs.Types.{PlainType, Void, Int}
use Rattle.c_types.specs.Codes.{type_code}
use Rattle.c_decls.specs.Named.{PlainNamed, Object, Register, Function, Typedef, Constant, BuiltIn, Tag}
use Rattle.c_decls.specs.ScopeList.{Table, ScopeList}

abbrev pub parts_of : PlainNamed → ℕ × (PlainType × (ℕ × ℤ))
parts_of (Object type index) = (0, (type, (index, pos 0)))
parts_of (Register type index) = (1, (type, (index, pos 0)))
parts_of (Function type index) = (2, (type, (index, pos 0)))
parts_of (Typedef type) = (3, (type, (0, pos 0)))
parts_of (Constant type value) = (4, (Int type, (0, value)))
parts_of (BuiltIn index) = (5, (Void, (index, pos 0)))
parts_of (Tag type) = (6, (type, (0, pos 0)))

abbrev pub constant_of : PlainType → ℤ → PlainNamed
constant_of (Int type) value = Constant type value
constant_of type value = Tag type

abbrev pub named_of : ℕ → PlainType → ℕ → ℤ → PlainNamed
named_of zero type index value = Object type index
named_of (suc zero) type index value = Register type index
named_of (suc (suc zero)) type index value = Function type index
named_of (suc (suc (suc zero))) type index value = Typedef type
named_of (suc (suc (suc (suc zero)))) type index value = constant_of type value
named_of (suc (suc (suc (suc (suc zero))))) type index value = BuiltIn index
named_of (suc (suc (suc (suc (suc (suc n)))))) type index value = Tag type

abbrev pub of_parts : ℕ × (PlainType × (ℕ × ℤ)) → PlainNamed
of_parts p = named_of p.0 p.1.0 p.1.1.0 p.1.1.1

pub of_parts-parts_of : (named : PlainNamed) → of_parts (parts_of named) ≡ named
of_parts-parts_of (Object type index) = refl
of_parts-parts_of (Register type index) = refl
of_parts-parts_of (Function type index) = refl
of_parts-parts_of (Typedef type) = refl
of_parts-parts_of (Constant type value) = refl
of_parts-parts_of (BuiltIn index) = refl
of_parts-parts_of (Tag type) = refl

abbrev pub named_code : Coded PlainNamed
named_code =
    code_by (ℕ × (PlainType × (ℕ × ℤ))) (coded× coded_ℕ (coded× type_code (coded× coded_ℕ coded_ℤ))) parts_of of_parts of_parts-parts_of

abbrev pub table_code : Coded Table
table_code = coded_list (coded× (coded_list coded_ℕ) named_code)

abbrev pub scopes_code : Coded ScopeList
scopes_code =
    code_by (Table × List Table) (coded× table_code (coded_list table_code)) (λ s. (s.file, s.inner)) (λ p. record { file = p.0; inner = p.1 }) (λ _. refl)
