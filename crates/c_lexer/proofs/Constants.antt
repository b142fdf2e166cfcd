-- What the form of a token says of an integer constant.
use Rattle.std.proofs.Common.{◌≡◌, ℕ, ◌<◌, ◌^◌, Bool, true, false, cond, List, [], ◌∷◌, inl, inr, length, refl, ap, sym, ◌∙◌, arith}
use Rattle.std.proofs.lemmas.Bool.{cases_lt, false≢true}
use Rattle.std.specs.Prelude.{Option, Some, None, SomeIff, ◌==◌}
use Rattle.std.specs.List.{list_all}
use Rattle.c_lexer.specs.Bytes.{is_name_byte, is_number_byte, class_of}
use Rattle.c_lexer.specs.Names.{is_keyword}
use Rattle.c_lexer.specs.Numbers.{base_of, form_of, number_value, digits_of, behind_digits, suffix_of, is_held}
use Rattle.c_lexer.specs.Gaps.{is_on_line, comment_end}
use Rattle.c_lexer.specs.Signs.{is_sign}
use Rattle.c_lexer.specs.Pieces.{is_empty, ends_at, number_kind_by, literal_end, block_kind, slash_kind, hash_kind, quote_kind, kind_by, kind_of, IsToken}
use Rattle.c_lexer.specs.declared.bytes.ByteClass.{ByteClass}
use Rattle.c_lexer.specs.declared.bytes.ByteClass.TheVariants.{Space, Letter, Digit, Quote, Hash, Slash, Mark, Other}
use Rattle.c_lexer.specs.declared.number.Suffix.{Suffix}
use Rattle.c_lexer.specs.declared.token.TokenKind.TheVariants.{Keyword, Name, Int, Char, Str, Sign}
use Rattle.c_lexer.specs.declared.token.LexKind.TheVariants.{BadByte, LiteralTooWide}
use Rattle.c_lexer.specs.declared.piece.PieceKind.{PieceKind}
use Rattle.c_lexer.specs.declared.piece.PieceKind.TheVariants.{Gap, Token, Refused}
use Rattle.c_lexer.proofs.Held.{is_held_over}

-- the form of a number: a suffix, and a type that holds the value
pub record IsConstant (w : List ℕ) : Type 0 where
  pub suffix : Suffix
  pub form : form_of w ≡ Some suffix
  pub held : is_held (base_of w) suffix (number_value w) ≡ true

-- a test that gives another kind
other_kind : (c : Bool) (kind found : PieceKind) → cond c (Some kind) None ≡ Some found → kind ≡ found
other_kind true kind found e = cc
other_kind false kind found e = absurd (cc)

ended_kind : (o : Option ℕ) (n : ℕ) (kind found : PieceKind) → ends_at o n kind ≡ Some found → kind ≡ found
ended_kind None n kind found e = absurd (cc)
ended_kind (Some m) n kind found e = other_kind (m == n) kind found e

block_other : (o : Option ℕ) (n : ℕ) → block_kind o n ≡ Some (Token Int) → ⊥
block_other None n e = cc
block_other (Some m) n e = let h : Gap ≡ Token Int = other_kind (m == n) Gap (Token Int) e in cc

name_other : (c : Bool) → Token (cond c Keyword Name) ≡ Token Int → ⊥
name_other true e = cc
name_other false e = cc

literal_other : (c : Bool) → Token (cond c Char Str) ≡ Token Int → ⊥
literal_other true e = cc
literal_other false e = cc

quote_other : (c : ℕ) (u : List ℕ) → quote_kind c u ≡ Some (Token Int) → ⊥
quote_other c [] e = cc
quote_other c (d ∷ u) e = literal_other (c == 39) (ended_kind (literal_end c (d ∷ u)) (length (d ∷ u)) _ (Token Int) e)

hash_other : (u : List ℕ) → hash_kind false u ≡ Some (Token Int) → ⊥
hash_other [] e = cc
hash_other (c ∷ u) e = cc

slash_other : (u : List ℕ) → slash_kind u ≡ Some (Token Int) → ⊥
slash_other [] e = cc
slash_other (c ∷ u) e = by (c == 47) (c == 42) e where
  by : (x y : Bool) → cond x (cond (list_all is_on_line u) (Some Gap) None) (cond y (block_kind (comment_end false u) (length u)) (cond (is_sign (47 ∷ c ∷ u)) (Some (Token Sign)) None)) ≡ Some (Token Int) → ⊥
  by true y e = let h : Gap ≡ Token Int = other_kind (list_all is_on_line u) Gap (Token Int) e in cc
  by false true e = block_other (comment_end false u) (length u) e
  by false false e = let h : Token Sign ≡ Token Int = other_kind (is_sign (47 ∷ c ∷ u)) (Token Sign) (Token Int) e in cc

constant_by : (o : Option Suffix) (w : List ℕ) → form_of w ≡ o → number_kind_by o w ≡ Token Int → IsConstant w
constant_by None w form e = absurd (cc)
constant_by (Some suffix) w form e = by (is_held (base_of w) suffix (number_value w)) refl e where
  by : (c : Bool) → is_held (base_of w) suffix (number_value w) ≡ c → cond c (Token Int) (Refused LiteralTooWide) ≡ Token Int → IsConstant w
  by true h e = record { suffix = suffix; form = form; held = h }
  by false h e = absurd (cc)

class_constant : (class : ByteClass) (c : ℕ) (u : List ℕ) → kind_by false class c u ≡ Some (Token Int) → IsConstant (c ∷ u)
class_constant Space c u e = let h : Gap ≡ Token Int = other_kind (is_empty u) Gap (Token Int) e in absurd (cc)
class_constant Letter c u e = absurd (name_other (is_keyword (c ∷ u)) (other_kind (list_all is_name_byte u) _ (Token Int) e))
class_constant Digit c u e = constant_by (form_of (c ∷ u)) (c ∷ u) refl (other_kind (list_all is_number_byte u) _ (Token Int) e)
class_constant Quote c u e = absurd (quote_other c u e)
class_constant Hash c u e = absurd (hash_other u e)
class_constant Slash c u e = absurd (slash_other u e)
class_constant Mark c u e = let h : Token Sign ≡ Token Int = other_kind (is_sign (c ∷ u)) (Token Sign) (Token Int) e in absurd (cc)
class_constant Other c u e = let h : Refused BadByte ≡ Token Int = other_kind (is_empty u) (Refused BadByte) (Token Int) e in absurd (cc)

-- an integer constant has the form of one
pub constant_facts : (w : List ℕ) → IsToken Int w → IsConstant w
unfolding kind_of
constant_facts [] e = absurd (cc)
constant_facts (c ∷ u) e = class_constant (class_of c) c u e

-- its value has at most 64 bits
pub constant_fits : (w : List ℕ) → IsConstant w → number_value w < 2 ^ 64
constant_fits w h = elim (cases_lt (number_value w) (2 ^ 64)) [
  | inl lt ↦ lt
  | inr le ↦ absurd (false≢true (sym (is_held_over (base_of w) h.suffix (number_value w) (λ lt. omega (arith, lt, le))) ∙ h.held))
]

-- what the parts of an integer constant are
pub record Read (w : List ℕ) : Type 0 where
  pub suffix : Suffix
  pub read : suffix_of (behind_digits w) ≡ Some suffix
  pub form : form_of w ≡ Some suffix
  pub held : is_held (base_of w) suffix (number_value w) ≡ true
  pub fits : number_value w < 2 ^ 64

pub constant_read : (w : List ℕ) → IsToken Int w → Read w
constant_read w token = let h = constant_facts w token in record {
  suffix = h.suffix;
  read = by (length (digits_of w) == 0) h.suffix h.form;
  form = h.form;
  held = h.held;
  fits = constant_fits w h;
} where
  by : (c : Bool) (suffix : Suffix) → cond c None (suffix_of (behind_digits w)) ≡ Some suffix → suffix_of (behind_digits w) ≡ Some suffix
  by true suffix e = absurd (cc)
  by false suffix e = e

-- an option that is there exactly where a fact holds
pub there_where : (o : Option ℕ) (P : Type 0) (v : ℕ) → SomeIff o P v → P → o ≡ Some v
there_where None P v h p = absurd (h p)
there_where (Some x) P v h p = ap Some h.1
