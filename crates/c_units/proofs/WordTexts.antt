-- External declarations that are spelled alike have words of the same kinds and spellings, where names may have a suffix.
use Rattle.c_units.proofs.Words.Std.{Bool, List, None, Option, Some, [], and_parts, and_right, ap, append_assoc, append_cancel_left, ap₂, arith, cond, cond-false, false, length, length-append, list_all, list_all-append, not, refl, subst, suc, sym, take, take-append-add, take_at, true, zero, ℕ, ⊤, ◌&&◌, ◌++◌, ◌+◌, ◌-◌, ◌<◌, ◌==◌, ◌∙◌, ◌∷◌, ◌≡◌, ◌≤◌}
use Rattle.c_units.proofs.Words.Trees.{BadByte, ByteClass, Digit, Gap, Hash, IsToken, Letter, LiteralTooWide, Longest, Mark, Other, PieceKind, Quote, Refused, Sign, Slash, Space, Token, TokenKind, TokensAreLongest, Word, base_of, block_kind, class_of, comment_end, ends_at, form_of, is_digit, is_empty, is_held, is_letter, is_name_byte, is_number_byte, is_on_line, is_separator, is_sign, kind_by, kind_of, literal_end, literal_kind, longest_one, number_kind, number_kind_by, number_value, piece, quote_kind, separator, slash_kind, word_bytes, word_kind, word_spellings, words_text}
use Rattle.c_lexer.specs.declared.number.Suffix.{Suffix}
use Rattle.c_lexer.specs.declared.token.TokenKind.TheVariants as t
use Rattle.c_lexer.specs.declared.piece.Piece.{Piece}
use Rattle.c_tree.specs.declared.word.Sign.TheVariants as s
use Rattle.c_tree.specs.Words as w

-- no space and no end of line
abbrev pub clean : ℕ → Bool
clean b = not (is_separator b)

-- what stands behind the token that a word begins with: nothing, or the suffix of a name
abbrev pub IsEnd : TokenKind → List ℕ → Type 0
IsEnd kind [] = ⊤
IsEnd kind (b ∷ rest) = (b ≡ 46) × (kind ≡ t.Name) × (list_all clean rest ≡ true)

-- a word begins with a token of its kind
pub record Begins (word : Word) : Type 0 where
  pub core : List ℕ
  pub end : List ℕ
  pub is : word_bytes word ≡ core ++ end
  pub token : IsToken (word_kind word) core
  pub ends : IsEnd (word_kind word) end

abbrev pub AllBegin : List Word → Type 0
AllBegin [] = ⊤
AllBegin (word ∷ rest) = Begins word × AllBegin rest

-- A name is the longest piece before a dot.

abbrev found : TokenKind → Option PieceKind
found kind = Some (Token kind)

not_gap : (c : Bool) → cond c (Some Gap) None ≡ found t.Name → ⊥
not_gap true e = cc
not_gap false e = cc

not_number_by : (o : Option Suffix) (u : List ℕ) → Some (number_kind_by o u) ≡ found t.Name → ⊥
not_number_by None u e = cc
not_number_by (Some suffix) u e = by (is_held (base_of u) suffix (number_value u)) e where
  by : (c : Bool) → Some (cond c (Token t.Int) (Refused LiteralTooWide)) ≡ found t.Name → ⊥
  by true k = cc
  by false k = cc

not_number : (c : Bool) (u : List ℕ) → cond c (Some (number_kind u)) None ≡ found t.Name → ⊥
not_number true u e = not_number_by (form_of u) u e
not_number false u e = cc

not_literal : (c : Bool) → found (cond c t.Char t.Str) ≡ found t.Name → ⊥
not_literal true e = cc
not_literal false e = cc

not_ended : (o : Option ℕ) (n quote : ℕ) → ends_at o n (Token (literal_kind quote)) ≡ found t.Name → ⊥
not_ended None n quote e = cc
not_ended (Some m) n quote e = by (m == n) e where
  by : (c : Bool) → cond c (found (literal_kind quote)) None ≡ found t.Name → ⊥
  by true k = not_literal (quote == 39) k
  by false k = cc

not_quote : (quote : ℕ) (u : List ℕ) → quote_kind quote u ≡ found t.Name → ⊥
not_quote quote [] e = cc
not_quote quote (b ∷ u) e = not_ended (literal_end quote (b ∷ u)) (suc (length u)) quote e

not_sign : (c : Bool) → cond c (found t.Sign) None ≡ found t.Name → ⊥
not_sign true e = cc
not_sign false e = cc

not_slash : (u : List ℕ) → slash_kind u ≡ found t.Name → ⊥
not_slash [] e = cc
not_slash (b ∷ u) e = by (b == 47) (b == 42) e where
  block : (o : Option ℕ) (n : ℕ) → block_kind o n ≡ found t.Name → ⊥
  block None n k = cc
  block (Some m) n k = not_gap (m == n) k

  by : (x y : Bool) → cond x (cond (list_all is_on_line u) (Some Gap) None) (cond y (block_kind (comment_end false u) (length u)) (cond (is_sign (47 ∷ b ∷ u)) (found t.Sign) None)) ≡ found t.Name → ⊥
  by true y k = not_gap (list_all is_on_line u) k
  by false true k = block (comment_end false u) (length u) k
  by false false k = not_sign (is_sign (47 ∷ b ∷ u)) k

not_other : (c : Bool) → cond c (Some (Refused BadByte)) None ≡ found t.Name → ⊥
not_other true e = cc
not_other false e = cc

-- a name begins with a letter
letter : (class : ByteClass) (c : ℕ) (u : List ℕ) → kind_by false class c u ≡ found t.Name → class ≡ Letter
letter Space c u e = absurd (not_gap (is_empty u) e)
letter Letter c u e = refl
letter Digit c u e = absurd (not_number (list_all is_number_byte u) (c ∷ u) e)
letter Quote c u e = absurd (not_quote c u e)
letter Hash c [] e = absurd (cc)
letter Hash c (b ∷ u) e = absurd (cc)
letter Slash c u e = absurd (not_slash u e)
letter Mark c u e = absurd (not_sign (is_sign (c ∷ u)) e)
letter Other c u e = absurd (not_other (is_empty u) e)

dot_fails : (u v : List ℕ) → list_all is_name_byte (u ++ 46 ∷ v) ≡ false
unfolding is_name_byte is_letter is_digit
dot_fails u v = list_all-append is_name_byte u (46 ∷ v) ∙ and_right (list_all is_name_byte u) false refl

no_longer : (class : ByteClass) (c : ℕ) (u v : List ℕ) → class ≡ Letter → kind_by false class c (u ++ 46 ∷ v) ≡ None
no_longer class c u v e =
    subst (λ (x : ByteClass). kind_by false x c (u ++ 46 ∷ v) ≡ None) (sym e)
    (cond-false (list_all is_name_byte (u ++ 46 ∷ v)) _ None (dot_fails u v))

name_longest : (name rest : List ℕ) → IsToken t.Name name → Longest false (name ++ 46 ∷ rest) (piece (Token t.Name) (length name))
unfolding kind_of
name_longest [] rest form = absurd (cc)
name_longest (c ∷ u) rest form = record {
  some = omega arith;
  within = let h = length-append u (46 ∷ rest) in omega (arith, h);
  formed = ap (kind_by false (class_of c) c) (take_at u (46 ∷ rest) (length u) refl) ∙ form;
  longest = over;
} where
  over : (m : ℕ) → suc (length u) < m → m ≤ suc (length (u ++ 46 ∷ rest)) → kind_of false (take m (c ∷ u ++ 46 ∷ rest)) ≡ None
  over zero lt le = absurd (omega (arith, lt))
  over (suc m) lt le =
      let more : m ≡ length u + suc (m - length u - 1) = omega (arith, lt) in
      let front : take m (u ++ 46 ∷ rest) ≡ u ++ 46 ∷ take (m - length u - 1) rest = ap (λ n. take n (u ++ 46 ∷ rest)) more ∙ take-append-add u (46 ∷ rest) (suc (m - length u - 1)) in
      ap (kind_by false (class_of c) c) front ∙ no_longer (class_of c) c u (take (m - length u - 1) rest) (letter (class_of c) c u form)

-- Words are told apart.

-- the token that a word begins with is the longest piece before what stands behind it, by the law `tokens_are_longest`
begun_by : TokensAreLongest → (kind : TokenKind) (core end : List ℕ) (b : ℕ) (rest : List ℕ) → IsToken kind core → IsEnd kind end → is_separator b ≡ true →
    Longest false (core ++ (end ++ b ∷ rest)) (piece (Token kind) (length core))
begun_by longest kind core [] b rest form ends separated = longest false kind core b rest form separated
begun_by longest kind core (d ∷ end) b rest form ends separated =
    subst (λ (k : TokenKind). Longest false (core ++ (d ∷ end ++ b ∷ rest)) (piece (Token k) (length core))) (sym ends.1)
    (subst (λ (n : ℕ). Longest false (core ++ (n ∷ end ++ b ∷ rest)) (piece (Token t.Name) (length core))) (sym ends.0)
    (name_longest core (end ++ b ∷ rest) (subst (λ (k : TokenKind). IsToken k core) ends.1 form)))

one_token : (k l : TokenKind) → Token k ≡ Token l → k ≡ l
one_token k l e = cc

piece_kind : (k l : TokenKind) (m n : ℕ) → piece (Token k) m ≡ piece (Token l) n → k ≡ l
piece_kind k l m n e = one_token k l (ap (λ (p : Piece). p.kind) e)

piece_length : (k l : TokenKind) (m n : ℕ) → piece (Token k) m ≡ piece (Token l) n → m ≡ n
piece_length k l m n e = ap (λ (p : Piece). p.len) e

first_is : (a b : ℕ) (x y : List ℕ) → a ∷ x ≡ b ∷ y → a ≡ b
first_is a b x y e = cc

rest_is : (a b : ℕ) (x y : List ℕ) → a ∷ x ≡ b ∷ y → x ≡ y
rest_is a b x y e = cc

false_true : false ≡ true → ⊥
false_true e = cc

not_clean : (b : ℕ) (rest : List ℕ) → is_separator b ≡ true → list_all clean (b ∷ rest) ≡ true → ⊥
not_clean b rest h e = false_true (sym (ap (λ (x : Bool). not x && list_all clean rest) h) ∙ e)

more_clean : (b : ℕ) (rest : List ℕ) → list_all clean (b ∷ rest) ≡ true → list_all clean rest ≡ true
more_clean b rest e = (and_parts (clean b) (list_all clean rest) e).1

-- a text is cut at its first separator in one way
cut_one : (x y : List ℕ) (a b : ℕ) (u v : List ℕ) → list_all clean x ≡ true → list_all clean y ≡ true → is_separator a ≡ true → is_separator b ≡ true →
    x ++ a ∷ u ≡ y ++ b ∷ v → (x ≡ y) × (u ≡ v)
cut_one [] [] a b u v h g s r e = (refl, rest_is a b u v e)
cut_one [] (d ∷ y) a b u v h g s r e =
    absurd (not_clean d y (subst (λ (n : ℕ). is_separator n ≡ true) (first_is a d u (y ++ b ∷ v) e) s) g)
cut_one (c ∷ x) [] a b u v h g s r e =
    absurd (not_clean c x (subst (λ (n : ℕ). is_separator n ≡ true) (sym (first_is c b (x ++ a ∷ u) v e)) r) h)
cut_one (c ∷ x) (d ∷ y) a b u v h g s r e =
    let more = cut_one x y a b u v (more_clean c x h) (more_clean d y g) s r (rest_is c d (x ++ a ∷ u) (y ++ b ∷ v) e) in
    (ap₂ (λ (n : ℕ) (l : List ℕ). n ∷ l) (first_is c d (x ++ a ∷ u) (y ++ b ∷ v) e) more.0, more.1)

end_clean : (kind : TokenKind) (end : List ℕ) → IsEnd kind end → list_all clean end ≡ true
end_clean kind [] h = refl
end_clean kind (b ∷ rest) h = ap (λ (n : ℕ). clean n && list_all clean rest) h.0 ∙ h.2

-- two words that begin one text are alike, and so is what stands behind them
abbrev Alike : Word → Word → List ℕ → List ℕ → Type 0
Alike word other u v = (word_kind word ≡ word_kind other) × (word_bytes word ≡ word_bytes other) × (u ≡ v)

words_alike : TokensAreLongest → (word other : Word) (a b : ℕ) (u v : List ℕ) → Begins word → Begins other → is_separator a ≡ true → is_separator b ≡ true →
    word_bytes word ++ a ∷ u ≡ word_bytes other ++ b ∷ v → Alike word other u v
words_alike longest word other a b u v x y s r e =
    let one : List ℕ = x.core ++ (x.end ++ a ∷ u) in
    let two : List ℕ = y.core ++ (y.end ++ b ∷ v) in
    let same : one ≡ two =
    sym (append_assoc x.core x.end (a ∷ u)) ∙ sym (ap (λ (l : List ℕ). l ++ a ∷ u) x.is) ∙ e ∙ ap (λ (l : List ℕ). l ++ b ∷ v) y.is ∙ append_assoc y.core y.end (b ∷ v) in
    let p : Piece = piece (Token (word_kind word)) (length x.core) in
    let q : Piece = piece (Token (word_kind other)) (length y.core) in
    let pieces : p ≡ q =
    longest_one false two p q (subst (λ (l : List ℕ). Longest false l p) same (begun_by longest (word_kind word) x.core x.end a u x.token x.ends s))
    (begun_by longest (word_kind other) y.core y.end b v y.token y.ends r) in
    let long : length x.core ≡ length y.core = piece_length (word_kind word) (word_kind other) (length x.core) (length y.core) pieces in
    let core : x.core ≡ y.core =
    sym (take_at x.core (x.end ++ a ∷ u) (length x.core) refl) ∙ ap₂ (λ (n : ℕ) (l : List ℕ). take n l) long same ∙ take_at y.core (y.end ++ b ∷ v) (length y.core) refl in
    let tails : x.end ++ a ∷ u ≡ y.end ++ b ∷ v =
    append_cancel_left y.core (x.end ++ a ∷ u) (y.end ++ b ∷ v) (sym (ap (λ (l : List ℕ). l ++ (x.end ++ a ∷ u)) core) ∙ same) in
    let cut = cut_one x.end y.end a b u v (end_clean (word_kind word) x.end x.ends) (end_clean (word_kind other) y.end y.ends) s r tails in (
      piece_kind (word_kind word) (word_kind other) (length x.core) (length y.core) pieces,
      x.is ∙ ap₂ (λ (l m : List ℕ). l ++ m) core cut.0 ∙ sym y.is,
      cut.1,
    )

mark_separated : (sign : Sign) → is_separator (separator (w.Mark sign)) ≡ true
mark_separated s.Semicolon = refl
mark_separated s.LeftBrace = refl
mark_separated s.RightBrace = refl
mark_separated sign = refl

separated : (word : Word) → is_separator (separator word) ≡ true
separated (w.Mark sign) = mark_separated sign
separated word = refl

no_text : (x : List ℕ) (b : ℕ) (rest : List ℕ) → [] ≡ x ++ b ∷ rest → ⊥
no_text [] b rest e = cc
no_text (c ∷ x) b rest e = cc

-- words of one text have the same kinds and spellings
pub words_back : TokensAreLongest → (ws vs : List Word) → AllBegin ws → AllBegin vs → words_text ws ≡ words_text vs → word_spellings ws ≡ word_spellings vs
unfolding words_text
words_back longest [] [] h g e = refl
words_back longest [] (v ∷ vs) h g e = absurd (no_text (word_bytes v) (separator v) (words_text vs) e)
words_back longest (w ∷ ws) [] h g e = absurd (no_text (word_bytes w) (separator w) (words_text ws) (sym e))
words_back longest (w ∷ ws) (v ∷ vs) h g e =
    let first = words_alike longest w v (separator w) (separator v) (words_text ws) (words_text vs) h.0 g.0 (separated w) (separated v) e in
    ap₂ (λ (x : TokenKind × List ℕ) (l : List (TokenKind × List ℕ)). x ∷ l)
    (ap₂ (λ (k : TokenKind) (l : List ℕ). (k, l)) first.0 first.1) (words_back longest ws vs h.1 g.1 first.2)
