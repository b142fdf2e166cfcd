-- Calls.
use Rattle.std.proofs.Common.{◌≡◌, ℕ, zero, suc, ◌+◌, ◌<◌, ◌≤◌, Bool, true, false, cond, List, [], ◌∷◌, ◌++◌, map, length, take, drop, get_or, Option, Some, None, Ok, Err, refl, sym, ap, ◌∙◌, arith, add-one, append_assoc}
use Rattle.std.specs.Prelude.{option_map}
use Rattle.std.specs.Option.{option_or}
use Rattle.std.specs.List.{find}
use Rattle.std.proofs.Math.Seq.{drop-cons}
use Rattle.std.proofs.lemmas.List.{append-nil, drop_all}
use Rattle.c_types.specs.declared.types.CType.{CType}
use Rattle.c_types.specs.Types.{PlainType, PlainTypes, none, first, plain, plain_list}
use Rattle.c_lexer.specs.Literals.{literal_values}
use Rattle.c_tree.specs.View.{literal_leaves}
use Rattle.c_decls.specs.declared.refusal.TypeKind.{TypeKind}
use Rattle.c_decls.specs.declared.typed.Typed.{Typed}
use Rattle.c_decls.specs.Refusals.{Checked, refused, unless}
use Rattle.c_decls.specs.Typed.{PlainTyped, plain_typed, value, int}
use Rattle.c_decls.specs.TypeRules.{barred}
use Rattle.c_decls.specs.PlaceRules.{length_of, all_convert, unconverted}
use Rattle.c_decls.specs.declared.refusal.TypeKind.TheVariants.{ArgumentCount, Format}
use Rattle.c_decls.specs.Callees.{Takes, call, prints, is_format, suit}
use Rattle.c_print.specs.Pieces.{pieces_of}
use Rattle.c_decls.specs.Expressions.{joined}
use Rattle.std.specs.Prelude.{not, nat_eq, ◌&&◌}
use Rattle.std.proofs.lemmas.Bool.{ne_eqb}
use Rattle.std.proofs.lemmas.List.{length-map}
use Rattle.c_typing.specs.declared.callees.Basic.{Basic}
use Rattle.c_typing.specs.declared.callees.Basic.TheVariants as b
use Rattle.c_typing.specs.Callee.{plain_basic, plain_basics, first_bar}

-- one parameter more
pub basics_push : (xs : List CType) (ys : List Basic) (k : ℕ) (x : CType) → k < length ys →
    plain x ≡ plain_basic (get_or ys k b.Void) → plain_list xs ≡ plain_basics (take k ys) →
    plain_list (xs ++ x ∷ []) ≡ plain_basics (take (suc k) ys)
basics_push [] [] k x h p e = absurd (omega arith)
basics_push (a ∷ xs) [] k x h p e = absurd (omega arith)
basics_push [] (y ∷ ys) zero x h p e = ap (λ t. first t none) p
basics_push [] (y ∷ ys) (suc k) x h p e = cc
basics_push (a ∷ xs) (y ∷ ys) zero x h p e = cc
basics_push (a ∷ xs) (y ∷ ys) (suc k) x h p e =
    let heads : plain a ≡ plain_basic y = cc in
    let tails : plain_list xs ≡ plain_basics (take k ys) = cc in
    let more : plain_list (xs ++ x ∷ []) ≡ plain_basics (take (suc k) ys) = basics_push xs ys k x (omega arith) p tails in
    λ j. first (heads j) (more j)

-- one literal more
pub joined_more : (parts : List (List ℕ)) (i : ℕ) (part : List ℕ) → part ≡ get_or parts i part → i < length parts →
    joined (literal_leaves (take (suc i) parts)) ≡ joined (literal_leaves (take i parts)) ++ literal_values part
joined_more [] i part at h = absurd (omega arith)
joined_more (p ∷ parts) zero part at h = append-nil (literal_values p) ∙ ap literal_values (sym at)
joined_more (p ∷ parts) (suc i) part at h =
    ap (λ more. literal_values p ++ more) (joined_more parts i part at (omega arith))
    ∙ sym (append_assoc (literal_values p) (joined (literal_leaves (take i parts))) (literal_values part))

-- there are as many parameters as types
pub length_of_list : (types : List CType) → length_of (plain_list types) ≡ length types
length_of_list [] = refl
length_of_list (type ∷ rest) = ap suc (length_of_list rest)

-- all convert where none is barred
pub all_barred : (line : ℕ) (types : PlainTypes) (arguments : List PlainTyped) (answer : Checked PlainTyped) →
    all_convert line types arguments answer ≡ barred (first_bar types arguments) line answer
all_barred line none arguments answer = refl
all_barred line (first type rest) [] answer = refl
all_barred line (first type rest) (e ∷ arguments) answer =
    ap (barred (unconverted type e) line) (all_barred line rest arguments answer)
    ∙ by (unconverted type e)
  where
    by : (bar : Option TypeKind) → barred bar line (barred (first_bar rest arguments) line answer)
        ≡ barred (option_or bar (first_bar rest arguments)) line answer
    by None = refl
    by (Some kind) = refl

-- one parameter on
pub bar_at : (types : List CType) (arguments : List Typed) (i : ℕ) (type : CType) (e : Typed) →
    type ≡ get_or types i type → e ≡ get_or arguments i e → i < length types → i < length arguments →
    first_bar (plain_list (drop i types)) (map plain_typed (drop i arguments))
    ≡ option_or (unconverted (plain type) (plain_typed e))
    (first_bar (plain_list (drop (suc i) types)) (map plain_typed (drop (suc i) arguments)))
bar_at types arguments i type e at is below within =
    λ j. first_bar (plain_list (parts j)) (map plain_typed (others j))
  where
    parts : drop i types ≡ type ∷ drop (suc i) types
    parts = drop-cons types i type below ∙ ap (λ x. x ∷ drop (suc i) types) (sym at)

    others : drop i arguments ≡ e ∷ drop (suc i) arguments
    others = drop-cons arguments i e within ∙ ap (λ x. x ∷ drop (suc i) arguments) (sym is)

-- without arguments or parameters nothing is barred
pub none_barred : (types : PlainTypes) → first_bar types [] ≡ None
none_barred none = refl
none_barred (first type rest) = refl

-- another number of arguments is refused
pub miscounted : (line : ℕ) (literal : Option (List ℕ)) (answer : PlainType) (types : List CType) (arguments : List Typed) →
    (length arguments ≡ length types → ⊥) →
    call line literal (Takes answer (plain_list types)) (map plain_typed arguments) ≡ refused ArgumentCount line
miscounted line literal answer types arguments other =
    ap (λ test. unless (not test) ArgumentCount line (all_convert line (plain_list types) (map plain_typed arguments) (Ok (value answer))))
    ((λ j. nat_eq (length-map arguments plain_typed j) (length_of_list types j)) ∙ ne_eqb (length arguments) (length types) other)

-- as many arguments as parameters are tried one by one
pub counted : (line : ℕ) (literal : Option (List ℕ)) (answer : PlainType) (types : List CType) (arguments : List Typed) →
    length arguments ≡ length types →
    call line literal (Takes answer (plain_list types)) (map plain_typed arguments)
    ≡ barred (first_bar (plain_list types) (map plain_typed arguments)) line (Ok (value answer))
counted line literal answer types arguments same =
    ap (λ test. unless (not test) ArgumentCount line (all_convert line (plain_list types) (map plain_typed arguments) (Ok (value answer))))
    ((λ j. nat_eq (length-map arguments plain_typed j) (length_of_list types j)) ∙ equal_numbers (length arguments) (length types) same)
    ∙ all_barred line (plain_list types) (map plain_typed arguments) (Ok (value answer))
  where
    equal_numbers : (m n : ℕ) → m ≡ n → nat_eq m n ≡ true
    equal_numbers m n e = grind arith

-- a format takes the arguments behind it
pub printed : (line : ℕ) (bytes : List ℕ) (arguments : List Typed) → 0 < length arguments →
    prints line (Some bytes) (map plain_typed arguments)
    ≡ unless (not (is_format bytes && suit (pieces_of bytes) (map plain_typed (drop 1 arguments)))) Format line (Ok int)
printed line bytes [] some = absurd (omega arith)
printed line bytes (format ∷ rest) some = refl
