-- A token with a space or an end of line behind it is the longest piece there, so what is written is read again.
use Rattle.std.proofs.Common.{◌≡◌, ℕ, zero, suc, ◌+◌, ◌-◌, ◌<◌, ◌≤◌, Bool, true, false, not, cond, ◌||◌, List, [], ◌∷◌, ◌++◌, length, take, drop, inl, inr, refl, ap, subst, sym, ◌∙◌, arith}
use Rattle.std.proofs.lemmas.Bool.{eqb-true, ne_eqb, or_cases, or_from, and_parts, and_right, and_left, cond-false, false_from_ne_true, false≢true}
use Rattle.std.proofs.lemmas.List.{take_at, take_all, drop_at, length-append}
use Rattle.std.proofs.lemmas.List.Folds.{list_all-append}
use Rattle.std.proofs.lemmas.Slice.Eq.{bytes_eq-Decides}
use Rattle.std.proofs.Math.Seq.{take-append-add}
use Rattle.std.specs.Prelude.{Option, Some, None, Ok, ◌==◌, bytes_eq}
use Rattle.std.specs.List.{list_all, list_any, All}
use Rattle.c_lexer.specs.Bytes.{is_space, is_letter, is_digit, is_name_byte, is_number_byte, is_mark, class_of}
use Rattle.c_lexer.specs.Gaps.{is_on_line, comment_end, include_end}
use Rattle.c_lexer.specs.Signs.{is_single_sign, is_double_sign, is_triple_sign, is_sign, double_signs, triple_signs}
use Rattle.c_lexer.specs.Pieces.{is_empty, ends_at, literal_end, quote_kind, hash_kind, block_kind, slash_kind, kind_by, kind_of, Longest, IsToken}
use Rattle.c_lexer.specs.Readers.{piece}
use Rattle.c_lexer.specs.Tokens.{first_place, behind, IsCut, answer_of}
use Rattle.c_lexer.specs.Written.{is_separator, Written, IsWritten, written_text, token_spellings, written_spellings, WrittenIsRead}
use Rattle.c_lexer.specs.declared.bytes.ByteClass.{ByteClass}
use Rattle.c_lexer.specs.declared.bytes.ByteClass.TheVariants.{Space, Letter, Digit, Quote, Hash, Slash, Mark, Other}
use Rattle.c_lexer.specs.declared.token.TokenKind.{TokenKind}
use Rattle.c_lexer.specs.declared.token.TokenKind.TheVariants.{Sign}
use Rattle.c_lexer.specs.declared.token.Token.{Token as TextToken}
use Rattle.c_lexer.specs.declared.token.LexKind.TheVariants.{BadByte}
use Rattle.c_lexer.specs.declared.piece.PieceKind.{PieceKind}
use Rattle.c_lexer.specs.declared.piece.PieceKind.TheVariants.{Gap, Token, Refused}
use Rattle.c_lexer.specs.declared.piece.Piece.{Piece}
use Rattle.c_lexer.specs.declared.place.Place.{Place}
use Rattle.c_lexer.proofs.Kept.{literal_ends}
use Rattle.c_lexer.proofs.LongestPieces.{LongestBy, longest_from, space_longest}

-- Separators.

-- what holds of the space and of byte 10 holds of each separator
separators : (P : ℕ → Type 0) (b : ℕ) → is_separator b ≡ true → P 32 → P 10 → P b
separators P b h space line = elim (or_cases (b == 32) (b == 10) h) [
  | inl e ↦ subst P (sym (eqb-true b 32 e)) space
  | inr e ↦ subst P (sym (eqb-true b 10 e)) line
]

no_name : (b : ℕ) → is_separator b ≡ true → is_name_byte b ≡ false
unfolding is_name_byte is_letter is_digit
no_name b h = separators (λ n. is_name_byte n ≡ false) b h refl refl

no_number : (b : ℕ) → is_separator b ≡ true → is_number_byte b ≡ false
unfolding is_number_byte is_name_byte is_letter is_digit
no_number b h = separators (λ n. is_number_byte n ≡ false) b h refl refl

no_mark : (b : ℕ) → is_separator b ≡ true → is_single_sign (b ∷ []) ≡ false
unfolding is_mark
no_mark b h = separators (λ n. is_single_sign (n ∷ []) ≡ false) b h refl refl

no_slash : (b : ℕ) → is_separator b ≡ true → (b == 47) ≡ false
no_slash b h = separators (λ n. (n == 47) ≡ false) b h refl refl

no_star : (b : ℕ) → is_separator b ≡ true → (b == 42) ≡ false
no_star b h = separators (λ n. (n == 42) ≡ false) b h refl refl

space_class : (b : ℕ) → is_separator b ≡ true → class_of b ≡ Space
unfolding class_of is_space
space_class b h = separators (λ n. class_of n ≡ Space) b h refl refl

-- a test that fails at one byte fails for all
all_fails : (p : ℕ → Bool) (u : List ℕ) (b : ℕ) (v : List ℕ) → p b ≡ false → list_all p (u ++ b ∷ v) ≡ false
all_fails p u b v e = list_all-append p u (b ∷ v) ∙ and_right (list_all p u) _ (and_left (p b) _ e)

-- no word of a list has a separator
clean : ℕ → Bool
clean c = not (is_separator c)

not_among : (words : List (List ℕ)) (w : List ℕ) → list_all (list_all clean) words ≡ true → list_all clean w ≡ false → list_any (bytes_eq w) words ≡ false
not_among [] w all e = refl
not_among (word ∷ words) w all e =
    let p = and_parts (list_all clean word) _ all in
    or_from (bytes_eq w word) _
    (false_from_ne_true (bytes_eq w word) (λ h. false≢true (sym e ∙ (ap (list_all clean) ((bytes_eq-Decides w word).0 h) ∙ p.0))))
    (not_among words w p.1 e)

no_sign : (w : List ℕ) (b : ℕ) (v : List ℕ) → is_separator b ≡ true → is_sign (w ++ b ∷ v) ≡ false
unfolding is_double_sign is_triple_sign clean
no_sign w b v h =
    or_from (is_single_sign (w ++ b ∷ v) || is_double_sign (w ++ b ∷ v)) (is_triple_sign (w ++ b ∷ v))
    (or_from (is_single_sign (w ++ b ∷ v)) (is_double_sign (w ++ b ∷ v)) (single w v) (not_among double_signs (w ++ b ∷ v) refl dirty))
    (not_among triple_signs (w ++ b ∷ v) refl dirty) where
      dirty : list_all clean (w ++ b ∷ v) ≡ false
      dirty = all_fails clean w b v (rw h refl)

      single : (w v : List ℕ) → is_single_sign (w ++ b ∷ v) ≡ false
      single [] [] = no_mark b h
      single [] (c ∷ v) = refl
      single (a ∷ []) v = refl
      single (a ∷ c ∷ w) v = refl

-- A token and a separator.

-- a piece that ends at its length is found there
ended : (o : Option ℕ) (long : ℕ) (kind found : PieceKind) → ends_at o long kind ≡ Some found → o ≡ Some long
ended None long kind found e = absurd (cc)
ended (Some n) long kind found e = by (n == long) refl e where
  by : (c : Bool) → (n == long) ≡ c → cond c (Some kind) None ≡ Some found → Some n ≡ Some long
  by true h e = ap Some (eqb-true n long h)
  by false h e = absurd (cc)

none_found : (found : TokenKind) → None ≡ Some (Token found) → ⊥
none_found found e = cc

not_gap : (c : Bool) (found : TokenKind) → cond c (Some Gap) None ≡ Some (Token found) → ⊥
not_gap true found e = cc
not_gap false found e = cc

not_bad : (c : Bool) (found : TokenKind) → cond c (Some (Refused BadByte)) None ≡ Some (Token found) → ⊥
not_bad true found e = cc
not_bad false found e = cc

not_block : (o : Option ℕ) (long : ℕ) (found : TokenKind) → block_kind o long ≡ Some (Token found) → ⊥
not_block None long found e = cc
not_block (Some n) long found e = not_gap (n == long) found e

not_hash : (fresh : Bool) (w : List ℕ) (found : TokenKind) → hash_kind fresh w ≡ Some (Token found) → ⊥
not_hash true [] found e = cc
not_hash false [] found e = cc
not_hash false (c ∷ w) found e = cc
not_hash true (c ∷ w) found e = by (include_end (c ∷ w)) e where
  by : (o : Option ℕ) → ends_at o (suc (length w)) Gap ≡ Some (Token found) → ⊥
  by None e = cc
  by (Some n) e = not_gap (n == suc (length w)) found e

module _ (b : ℕ) (v : List ℕ) (separated : is_separator b ≡ true) where
  quote_closed : (c : ℕ) (u : List ℕ) (found : TokenKind) → quote_kind c u ≡ Some (Token found) → quote_kind c (u ++ b ∷ v) ≡ None
  quote_closed c [] found e = absurd (cc)
  quote_closed c (d ∷ u) found e =
      let at : literal_end c (d ∷ u) ≡ Some (suc (length u)) = ended _ _ _ _ e in
      let all : take (suc (length u)) (d ∷ u) ++ b ∷ v ≡ d ∷ u ++ b ∷ v = ap (λ t. t ++ b ∷ v) (take_all (suc (length u)) (d ∷ u) (omega arith)) in
      let same : literal_end c (d ∷ u ++ b ∷ v) ≡ Some (suc (length u)) = ap (literal_end c) (sym all) ∙ (literal_ends c).kept (d ∷ u) (suc (length u)) (b ∷ v) at in
      let long = length-append u (b ∷ v) in
      rw same (cond-false (suc (length u) == suc (length (u ++ b ∷ v))) _ None (ne_eqb (suc (length u)) (suc (length (u ++ b ∷ v))) (omega (arith, long))))

  slash_closed : (u : List ℕ) (found : TokenKind) → slash_kind u ≡ Some (Token found) → slash_kind (u ++ b ∷ v) ≡ None
  slash_closed [] found e = rw (no_slash b separated, no_star b separated) (cond-false (is_sign (47 ∷ b ∷ v)) _ None (no_sign (47 ∷ []) b v separated))
  slash_closed (d ∷ u) found e = by (d == 47) refl (d == 42) refl e where
    by : (x : Bool) → (d == 47) ≡ x → (y : Bool) → (d == 42) ≡ y → cond x (cond (list_all is_on_line u) (Some Gap) None) (cond y (block_kind (comment_end false u) (length u)) (cond (is_sign (47 ∷ d ∷ u)) (Some (Token Sign)) None)) ≡ Some (Token found) → slash_kind (d ∷ u ++ b ∷ v) ≡ None
    by true h y k e = absurd (not_gap (list_all is_on_line u) found e)
    by false h true k e = absurd (not_block (comment_end false u) (length u) found e)
    by false h false k e = rw (h, k) (cond-false (is_sign (47 ∷ d ∷ (u ++ b ∷ v))) _ None (no_sign (47 ∷ d ∷ u) b v separated))

  -- no longer piece begins where a token stands before a separator
  closed : (fresh : Bool) (class : ByteClass) (c : ℕ) (u : List ℕ) (found : TokenKind) → kind_by false class c u ≡ Some (Token found) → kind_by fresh class c (u ++ b ∷ v) ≡ None
  closed fresh Space c u found e = absurd (not_gap (is_empty u) found e)
  closed fresh Letter c u found e = cond-false (list_all is_name_byte (u ++ b ∷ v)) _ None (all_fails is_name_byte u b v (no_name b separated))
  closed fresh Digit c u found e = cond-false (list_all is_number_byte (u ++ b ∷ v)) _ None (all_fails is_number_byte u b v (no_number b separated))
  closed fresh Quote c u found e = quote_closed c u found e
  closed fresh Hash c u found e = absurd (not_hash false u found e)
  closed fresh Slash c u found e = slash_closed u found e
  closed fresh Mark c u found e = cond-false (is_sign (c ∷ u ++ b ∷ v)) _ None (no_sign (c ∷ u) b v separated)
  closed fresh Other c u found e = absurd (not_bad (is_empty u) found e)

-- the same bytes are the same token wherever they stand
anywhere : (fresh : Bool) (class : ByteClass) (c : ℕ) (u : List ℕ) (found : TokenKind) → kind_by false class c u ≡ Some (Token found) → kind_by fresh class c u ≡ Some (Token found)
anywhere fresh Space c u found e = e
anywhere fresh Letter c u found e = e
anywhere fresh Digit c u found e = e
anywhere fresh Quote c u found e = e
anywhere fresh Hash c u found e = absurd (not_hash false u found e)
anywhere fresh Slash c u found e = e
anywhere fresh Mark c u found e = e
anywhere fresh Other c u found e = e

-- a token is the longest piece before a separator
pub token_longest : (fresh : Bool) (kind : TokenKind) (w : List ℕ) (b : ℕ) (rest : List ℕ) → IsToken kind w → is_separator b ≡ true → Longest fresh (w ++ b ∷ rest) (piece (Token kind) (length w))
unfolding kind_of
token_longest fresh kind [] b rest form separated = absurd (cc)
token_longest fresh kind (c ∷ u) b rest form separated = record {
  some = omega arith;
  within = let h = length-append u (b ∷ rest) in omega (arith, h);
  formed = ap (kind_by fresh (class_of c) c) (take_at u (b ∷ rest) (length u) refl) ∙ anywhere fresh (class_of c) c u kind form;
  longest = over;
} where
  over : (m : ℕ) → suc (length u) < m → m ≤ suc (length (u ++ b ∷ rest)) → kind_of fresh (take m (c ∷ u ++ b ∷ rest)) ≡ None
  over zero lt le = absurd (omega (arith, lt))
  over (suc m) lt le =
      let more : m ≡ length u + suc (m - length u - 1) = omega (arith, lt) in
      let front : take m (u ++ b ∷ rest) ≡ u ++ b ∷ take (m - length u - 1) rest = ap (λ n. take n (u ++ b ∷ rest)) more ∙ take-append-add u (b ∷ rest) (suc (m - length u - 1)) in
      ap (kind_by fresh (class_of c) c) front ∙ closed b (take (m - length u - 1) rest) separated fresh (class_of c) c u kind form

-- a separator is a gap
separator_longest : (fresh : Bool) (b : ℕ) (rest : List ℕ) → is_separator b ≡ true → Longest fresh (b ∷ rest) (piece Gap 1)
separator_longest fresh b rest h =
    let P : ByteClass → Type 0 = λ class. LongestBy fresh class b rest (piece Gap 1) in
    longest_from fresh b rest (piece Gap 1) (subst P (sym (space_class b h)) (space_longest fresh b rest))

-- What is written is read again.

-- the pieces of a text that is written, and the tokens of it
record ReadsBack (place : Place) (ws : List Written) : Type 0 where
  pieces : List Piece
  tokens : List TextToken
  cut : IsCut place (written_text ws) pieces
  answer : answer_of place (written_text ws) pieces ≡ Ok tokens
  same : token_spellings tokens ≡ written_spellings ws

-- each of the tokens is written
AllWritten : List Written → Type 0
AllWritten [] = Unit {0}
AllWritten (w ∷ ws) = IsWritten w × AllWritten ws

all_written : (ws : List Written) → All IsWritten ws → AllWritten ws
unfolding AllWritten
all_written [] all = tt
all_written (w ∷ ws) all = (all 0 w (omega arith), all_written ws (λ k d h. all (suc k) d (omega (arith, h))))

reads_back : (place : Place) (ws : List Written) → AllWritten ws → ReadsBack place ws
unfolding AllWritten
reads_back place [] all = record { pieces = []; tokens = []; cut = refl; answer = refl; same = refl }
reads_back place (w ∷ ws) all = back (reads_back (behind (behind place w.bytes) (w.separator ∷ [])) ws all.1) where
  text : List ℕ
  text = w.separator ∷ written_text ws

  front : take (length w.bytes) (w.bytes ++ w.separator ∷ written_text ws) ≡ w.bytes
  front = take_at w.bytes (w.separator ∷ written_text ws) (length w.bytes) refl

  rest : drop (length w.bytes) (w.bytes ++ w.separator ∷ written_text ws) ≡ w.separator ∷ written_text ws
  rest = drop_at w.bytes (w.separator ∷ written_text ws) (length w.bytes) refl

  token : TextToken
  token = record { line = place.line; kind = w.kind; bytes = w.bytes }

  back : ReadsBack (behind (behind place w.bytes) (w.separator ∷ [])) ws → ReadsBack place (w ∷ ws)
  back later = record {
    pieces = piece (Token w.kind) (length w.bytes) ∷ piece Gap 1 ∷ later.pieces;
    tokens = token ∷ later.tokens;
    cut = (
      token_longest place.fresh w.kind w.bytes w.separator (written_text ws) all.0.token all.0.separated,
      rw (front, rest) (separator_longest (behind place w.bytes).fresh w.separator (written_text ws) all.0.separated, later.cut),
    );
    answer = rw (front, rest, later.answer) refl;
    same = ap (λ l. (w.kind, w.bytes) ∷ l) later.same;
  }

pub written_is_read : WrittenIsRead
written_is_read ws all =
    let r = reads_back first_place ws (all_written ws all) in (r.tokens, (r.pieces, r.cut, r.answer), r.same)
