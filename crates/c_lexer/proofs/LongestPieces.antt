-- The piece that is read at the front of a text is the longest there is.
use Rattle.std.proofs.Common.{◌≡◌, ◌≢◌, ℕ, zero, suc, ◌+◌, ◌<◌, ◌≤◌, Bool, true, false, cond, ◌&&◌, List, [], ◌∷◌, ◌++◌, length, take, drop, lit<, inl, inr, refl, ap, subst, sym, ◌∙◌, arith}
use Rattle.std.proofs.lemmas.List.{length-take-le, take-append-drop, take-take, append-nil, take_all}
use Rattle.std.proofs.Math.Seq.{take-length}
use Rattle.std.proofs.lemmas.Bool.{ne_eqb, eq-eqb, eqb-true, or_cases, or_from, or_left, or_right, and_parts, and_from, leb-true, le-leb, cond-true, cond-false, false_from_ne_true, false≢true}
use Rattle.std.proofs.lemmas.Slice.Eq.{bytes_eq-Decides}
use Rattle.std.specs.Prelude.{Option, Some, None, ◌==◌, ◌||◌, nat_le, bytes_eq}
use Rattle.std.specs.List.{prefix_len, list_all, list_any}
use Rattle.c_lexer.specs.Bytes.{is_space, is_letter, is_digit, is_name_byte, is_number_byte, is_mark, class_of}
use Rattle.c_lexer.specs.Names.{name_kind}
use Rattle.c_lexer.specs.Gaps.{is_on_line, comment_end, include_end}
use Rattle.c_lexer.specs.Signs.{is_single_sign, is_double_sign, is_triple_sign, is_sign, double_signs, triple_signs}
use Rattle.c_lexer.specs.Pieces.{is_empty, ends_at, number_kind, literal_end, literal_kind, quote_kind, hash_kind, block_kind, slash_kind, kind_by, kind_of, Longest}
use Rattle.c_lexer.specs.Readers.{piece, sign_length, name_piece, number_piece, piece_to, literal_piece, hash_piece, block_piece, slash_piece, piece_by, piece_at}
use Rattle.c_lexer.specs.declared.bytes.ByteClass.{ByteClass}
use Rattle.c_lexer.specs.declared.bytes.ByteClass.TheVariants.{Space, Letter, Digit, Quote, Hash, Slash, Mark, Other}
use Rattle.c_lexer.specs.declared.token.TokenKind.TheVariants.{Sign}
use Rattle.c_lexer.specs.declared.token.LexKind.TheVariants.{BadByte, OpenComment, Literal, Directive}
use Rattle.c_lexer.specs.declared.piece.PieceKind.{PieceKind}
use Rattle.c_lexer.specs.declared.piece.PieceKind.TheVariants.{Gap, Token, Refused}
use Rattle.c_lexer.specs.declared.piece.Piece.{Piece}
use Rattle.c_lexer.proofs.Fronts.{prefix_len_within, prefix_len_all, prefix_len_more}
use Rattle.c_lexer.proofs.Kept.{Ends, comment_ends, literal_ends, include_ends}

-- What the class of a byte says of the byte.

-- the class, from the tests in their order
classed : Bool → Bool → Bool → Bool → Bool → Bool → Bool → ByteClass
classed s l d q h sl m = cond s Space (cond l Letter (cond d Digit (cond q Quote (cond h Hash (cond sl Slash (cond m Mark Other))))))

letter_of : (s l d q h sl m : Bool) → classed s l d q h sl m ≡ Letter → l ≡ true
unfolding classed
letter_of true l d q h sl m e = absurd (cc)
letter_of false true d q h sl m e = refl
letter_of false false true q h sl m e = absurd (cc)
letter_of false false false true h sl m e = absurd (cc)
letter_of false false false false true sl m e = absurd (cc)
letter_of false false false false false true m e = absurd (cc)
letter_of false false false false false false true e = absurd (cc)
letter_of false false false false false false false e = absurd (cc)

digit_of : (s l d q h sl m : Bool) → classed s l d q h sl m ≡ Digit → d ≡ true
unfolding classed
digit_of true l d q h sl m e = absurd (cc)
digit_of false true d q h sl m e = absurd (cc)
digit_of false false true q h sl m e = refl
digit_of false false false true h sl m e = absurd (cc)
digit_of false false false false true sl m e = absurd (cc)
digit_of false false false false false true m e = absurd (cc)
digit_of false false false false false false true e = absurd (cc)
digit_of false false false false false false false e = absurd (cc)

slash_of : (s l d q h sl m : Bool) → classed s l d q h sl m ≡ Slash → sl ≡ true
unfolding classed
slash_of true l d q h sl m e = absurd (cc)
slash_of false true d q h sl m e = absurd (cc)
slash_of false false true q h sl m e = absurd (cc)
slash_of false false false true h sl m e = absurd (cc)
slash_of false false false false true sl m e = absurd (cc)
slash_of false false false false false true m e = refl
slash_of false false false false false false true e = absurd (cc)
slash_of false false false false false false false e = absurd (cc)

mark_of : (s l d q h sl m : Bool) → classed s l d q h sl m ≡ Mark → m ≡ true
unfolding classed
mark_of true l d q h sl m e = absurd (cc)
mark_of false true d q h sl m e = absurd (cc)
mark_of false false true q h sl m e = absurd (cc)
mark_of false false false true h sl m e = absurd (cc)
mark_of false false false false true sl m e = absurd (cc)
mark_of false false false false false true m e = absurd (cc)
mark_of false false false false false false true e = refl
mark_of false false false false false false false e = absurd (cc)

tests_of : (b : ℕ) → class_of b ≡ classed (is_space b) (is_letter b) (is_digit b) (b == 39 || b == 34) (b == 35) (b == 47) (is_mark b)
unfolding class_of classed
tests_of b = refl

letter_is : (b : ℕ) → class_of b ≡ Letter → is_name_byte b ≡ true
unfolding is_name_byte
letter_is b e = or_left (is_letter b) (is_digit b) (letter_of _ _ _ _ _ _ _ (sym (tests_of b) ∙ e))

digit_is : (b : ℕ) → class_of b ≡ Digit → is_number_byte b ≡ true
unfolding is_name_byte is_number_byte
digit_is b e = or_left (is_letter b || is_digit b) (b == 46) (or_right (is_letter b) (is_digit b) (digit_of _ _ _ _ _ _ _ (sym (tests_of b) ∙ e)))

slash_is : (b : ℕ) → class_of b ≡ Slash → b ≡ 47
slash_is b e = eqb-true b 47 (slash_of _ _ _ _ _ _ _ (sym (tests_of b) ∙ e))

mark_is : (b : ℕ) → class_of b ≡ Mark → is_mark b ≡ true
mark_is b e = mark_of _ _ _ _ _ _ _ (sym (tests_of b) ∙ e)

-- Signs.

-- each of these words has this length
AllLong : ℕ → List (List ℕ) → Type 0
AllLong n [] = Unit {0}
AllLong n (word ∷ words) = (length word ≡ n) × AllLong n words

among_long : (n : ℕ) (words : List (List ℕ)) → AllLong n words → (w : List ℕ) → list_any (bytes_eq w) words ≡ true → length w ≡ n
unfolding AllLong
among_long n [] all w e = absurd (cc)
among_long n (word ∷ words) all w e =
    elim (or_cases (bytes_eq w word) _ e) [ inl h ↦ ap length ((bytes_eq-Decides w word).0 h) ∙ all.0 | inr h ↦ among_long n words all.1 w h ]

single_long : (w : List ℕ) → is_single_sign w ≡ true → length w ≡ 1
single_long [] e = absurd (cc)
single_long (a ∷ []) e = refl
single_long (a ∷ b ∷ w) e = absurd (cc)

double_long : (w : List ℕ) → is_double_sign w ≡ true → length w ≡ 2
unfolding is_double_sign AllLong
double_long w e = among_long 2 double_signs (refl, (refl, (refl, (refl, (refl, (refl, (refl, (refl, (refl, (refl, (refl, (refl, (refl, (refl, (refl, (refl, (refl, (refl, (refl, tt))))))))))))))))))) w e

triple_long : (w : List ℕ) → is_triple_sign w ≡ true → length w ≡ 3
unfolding is_triple_sign AllLong
triple_long w e = among_long 3 triple_signs (refl, (refl, tt)) w e

no_sign : (w : List ℕ) → length w ≢ 1 → (is_double_sign w ≡ true → ⊥) → (is_triple_sign w ≡ true → ⊥) → is_sign w ≡ false
no_sign w single double triple =
    or_from _ _ (or_from _ _ (false_from_ne_true _ (λ h. single (single_long w h))) (false_from_ne_true _ double)) (false_from_ne_true _ triple)

sign_single : (w : List ℕ) → is_single_sign w ≡ true → is_sign w ≡ true
sign_single w e = or_left (is_single_sign w || is_double_sign w) (is_triple_sign w) (or_left (is_single_sign w) (is_double_sign w) e)

sign_double : (w : List ℕ) → is_double_sign w ≡ true → is_sign w ≡ true
sign_double w e = or_left (is_single_sign w || is_double_sign w) (is_triple_sign w) (or_right (is_single_sign w) (is_double_sign w) e)

sign_triple : (w : List ℕ) → is_triple_sign w ≡ true → is_sign w ≡ true
sign_triple w e = or_right (is_single_sign w || is_double_sign w) (is_triple_sign w) e

-- the sign of that length is the longest at the front of the text
pub record LongestSign (text : List ℕ) (n : ℕ) : Type 0 where
  pub some : 0 < n
  pub within : n ≤ length text
  pub sign : is_sign (take n text) ≡ true
  pub longest : (m : ℕ) → n < m → m ≤ length text → is_sign (take m text) ≡ false

module _ (b : ℕ) (t : List ℕ) (single : is_single_sign (b ∷ []) ≡ true) where
  text : List ℕ
  text = b ∷ t

  double_here : (m : ℕ) → m ≤ length text → is_double_sign (take m text) ≡ true → m ≡ 2
  double_here m le h = sym (length-take-le m text le) ∙ double_long (take m text) h

  triple_here : (m : ℕ) → m ≤ length text → is_triple_sign (take m text) ≡ true → m ≡ 3
  triple_here m le h = sym (length-take-le m text le) ∙ triple_long (take m text) h

  single_not : (m : ℕ) → 1 < m → m ≤ length text → length (take m text) ≢ 1
  single_not m lt le h = let e = length-take-le m text le in omega (arith, e, h, lt)

  one_byte : (nat_le 3 (length text) && is_triple_sign (take 3 text)) ≡ false → (nat_le 2 (length text) && is_double_sign (take 2 text)) ≡ false → LongestSign text 1
  unfolding text
  one_byte is3 is2 = record { some = lit< tt; within = omega arith; sign = sign_single (b ∷ []) single; longest = over } where
    over : (m : ℕ) → 1 < m → m ≤ length (b ∷ t) → is_sign (take m (b ∷ t)) ≡ false
    over m lt le = no_sign _ (single_not m lt le)
        (λ h. let e = double_here m le h in let long = rw e at le in false≢true (sym is2 ∙ and_from _ _ (le-leb 2 _ long) (rw e at h)))
        (λ h. let e = triple_here m le h in let long = rw e at le in false≢true (sym is3 ∙ and_from _ _ (le-leb 3 _ long) (rw e at h)))

  two_bytes : (nat_le 3 (length text) && is_triple_sign (take 3 text)) ≡ false → (nat_le 2 (length text) && is_double_sign (take 2 text)) ≡ true → LongestSign text 2
  unfolding text
  two_bytes is3 is2 = record { some = lit< tt; within = leb-true 2 (length text) (and_parts (nat_le 2 (length text)) (is_double_sign (take 2 text)) is2).0; sign = sign_double (take 2 text) (and_parts (nat_le 2 (length text)) (is_double_sign (take 2 text)) is2).1; longest = over } where
    over : (m : ℕ) → 2 < m → m ≤ length (b ∷ t) → is_sign (take m (b ∷ t)) ≡ false
    over m lt le = no_sign _ (single_not m (omega (arith, lt)) le)
        (λ h. let e = double_here m le h in omega (arith, e, lt))
        (λ h. let e = triple_here m le h in let long = rw e at le in false≢true (sym is3 ∙ and_from _ _ (le-leb 3 _ long) (rw e at h)))

  three_bytes : (nat_le 3 (length text) && is_triple_sign (take 3 text)) ≡ true → LongestSign text 3
  unfolding text
  three_bytes is3 = record { some = lit< tt; within = leb-true 3 (length text) (and_parts (nat_le 3 (length text)) (is_triple_sign (take 3 text)) is3).0; sign = sign_triple (take 3 text) (and_parts (nat_le 3 (length text)) (is_triple_sign (take 3 text)) is3).1; longest = over } where
    over : (m : ℕ) → 3 < m → m ≤ length (b ∷ t) → is_sign (take m (b ∷ t)) ≡ false
    over m lt le = no_sign _ (single_not m (omega (arith, lt)) le)
        (λ h. let e = double_here m le h in omega (arith, e, lt))
        (λ h. let e = triple_here m le h in omega (arith, e, lt))

  pub sign_longest : LongestSign (b ∷ t) (sign_length (b ∷ t))
  unfolding sign_length text
  sign_longest = by (nat_le 3 (length (b ∷ t)) && is_triple_sign (take 3 (b ∷ t))) refl (nat_le 2 (length (b ∷ t)) && is_double_sign (take 2 (b ∷ t))) refl where
    by : (c : Bool) → (nat_le 3 (length (b ∷ t)) && is_triple_sign (take 3 (b ∷ t))) ≡ c → (d : Bool) → (nat_le 2 (length (b ∷ t)) && is_double_sign (take 2 (b ∷ t))) ≡ d → LongestSign (b ∷ t) (cond c 3 (cond d 2 1))
    by true h d k = three_bytes h
    by false h true k = two_bytes h k
    by false h false k = one_byte h k

-- Pieces up to an end that a reader finds.

module _ (f : List ℕ → Option ℕ) (ends : Ends f) where
  -- the reader finds the same end where nothing follows it
  pub end_kept : (t : List ℕ) (n : ℕ) → f t ≡ Some n → f (take n t) ≡ Some n
  end_kept t n e = ap f (sym (append-nil (take n t))) ∙ ends.kept t n [] e

  -- and in every longer front
  pub end_longer : (t : List ℕ) (n m : ℕ) → f t ≡ Some n → n ≤ m → f (take m t) ≡ Some n
  end_longer t n m e le =
      let parts : take n t ++ drop n (take m t) ≡ take m t = ap (λ u. u ++ drop n (take m t)) (sym (take-take n m t le)) ∙ take-append-drop n (take m t) in
      ap f (sym parts) ∙ ends.kept t n (drop n (take m t)) e

  pub ends_here : (kind : PieceKind) (t : List ℕ) (n : ℕ) → f t ≡ Some n → ends_at (f (take n t)) (length (take n t)) kind ≡ Some kind
  ends_here kind t n e = rw (end_kept t n e) (cond-true (n == length (take n t)) (Some kind) None (eq-eqb n (length (take n t)) (sym (length-take-le n t (ends.within t n e)))))

  pub ends_beyond : (kind : PieceKind) (t : List ℕ) (m : ℕ) → m ≤ length t → ((n : ℕ) → f t ≡ Some n → n < m) → ends_at (f (take m t)) (length (take m t)) kind ≡ None
  ends_beyond kind t m le before = by (f (take m t)) refl where
    -- an end at m in the front is an end at m in the text
    whole : (k : ℕ) → f (take m t) ≡ Some k → k ≡ length (take m t) → ⊥
    whole k e is =
        let same : k ≡ m = is ∙ length-take-le m t le in
        let all : take k (take m t) ≡ take m t = take_all k (take m t) (omega (arith, is)) in
        let found : f t ≡ Some k = ap f (sym (ap (λ u. u ++ drop m t) all ∙ take-append-drop m t)) ∙ ends.kept (take m t) k (drop m t) e in
        let h = before k found in omega (arith, h, same)

    at : (k : ℕ) → f (take m t) ≡ Some k → (c : Bool) → (k == length (take m t)) ≡ c → cond c (Some kind) None ≡ None
    at k e true h = absurd (whole k e (eqb-true k (length (take m t)) h))
    at k e false h = refl

    by : (o : Option ℕ) → f (take m t) ≡ o → ends_at o (length (take m t)) kind ≡ None
    by None e = refl
    by (Some k) e = at k e (k == length (take m t)) refl

some_here : (m n : ℕ) → Some m ≡ Some n → m ≡ n
some_here m n e = cc

-- Each class of first bytes.

-- the piece is the longest of its class, with the first byte apart
pub record LongestBy (fresh : Bool) (c : ByteClass) (b : ℕ) (t : List ℕ) (p : Piece) : Type 0 where
  pub rest : ℕ
  pub long : p.len ≡ suc rest
  pub within : rest ≤ length t
  pub formed : kind_by fresh c b (take rest t) ≡ Some p.kind
  pub longest : (m : ℕ) → rest < m → m ≤ length t → kind_by fresh c b (take m t) ≡ None

pub longest_from : (fresh : Bool) (b : ℕ) (t : List ℕ) (p : Piece) → LongestBy fresh (class_of b) b t p → Longest fresh (b ∷ t) p
unfolding kind_of
longest_from fresh b t p h = record {
  some = omega (arith, h.long);
  within = omega (arith, h.long, h.within);
  formed = rw h.long h.formed;
  longest = over;
} where
  over : (m : ℕ) → p.len < m → m ≤ suc (length t) → kind_of fresh (take m (b ∷ t)) ≡ None
  over zero lt le = absurd (omega (arith, lt))
  over (suc m) lt le = h.longest m (omega (arith, h.long, lt)) (omega (arith, le))

not_empty : (t : List ℕ) (m : ℕ) → 0 < m → m ≤ length t → is_empty (take m t) ≡ false
not_empty t zero some le = absurd (omega (arith, some))
not_empty [] (suc m) some le = absurd (omega (arith, le))
not_empty (b ∷ w) (suc m) some le = refl

pub space_longest : (fresh : Bool) (b : ℕ) (t : List ℕ) → LongestBy fresh Space b t (piece Gap 1)
space_longest fresh b t = record { rest = 0; long = refl; within = omega arith; formed = refl; longest = λ m lt le. rw (not_empty t m lt le) refl }

other_longest : (fresh : Bool) (b : ℕ) (t : List ℕ) → LongestBy fresh Other b t (piece (Refused BadByte) 1)
other_longest fresh b t = record { rest = 0; long = refl; within = omega arith; formed = refl; longest = λ m lt le. rw (not_empty t m lt le) refl }

-- a run of bytes that pass a test
run_longest : (fresh : Bool) (c : ByteClass) (p : ℕ → Bool) (kind : List ℕ → PieceKind) (b : ℕ) (t : List ℕ) → p b ≡ true → ((w : List ℕ) → kind_by fresh c b w ≡ cond (list_all p w) (Some (kind (b ∷ w))) None) → LongestBy fresh c b t (piece (kind (take (prefix_len p (b ∷ t)) (b ∷ t))) (prefix_len p (b ∷ t)))
run_longest fresh c p kind b t first is = record {
  rest = prefix_len p t;
  long = long;
  within = prefix_len_within p t;
  formed = is (take (prefix_len p t) t) ∙ (cond-true (list_all p (take (prefix_len p t) t)) _ None (prefix_len_all p t) ∙ ap (λ n. Some (kind (take n (b ∷ t)))) (sym long));
  longest = λ m lt le. is (take m t) ∙ cond-false (list_all p (take m t)) _ None (prefix_len_more p t m lt le);
} where
  long : prefix_len p (b ∷ t) ≡ suc (prefix_len p t)
  long = rw first (omega arith)

letter_longest : (fresh : Bool) (b : ℕ) (t : List ℕ) → class_of b ≡ Letter → LongestBy fresh Letter b t (name_piece (b ∷ t))
letter_longest fresh b t e = run_longest fresh Letter is_name_byte (λ w. Token (name_kind w)) b t (letter_is b e) (λ w. refl)

digit_longest : (fresh : Bool) (b : ℕ) (t : List ℕ) → class_of b ≡ Digit → LongestBy fresh Digit b t (number_piece (b ∷ t))
digit_longest fresh b t e = run_longest fresh Digit is_number_byte number_kind b t (digit_is b e) (λ w. refl)

-- a first byte alone, or a piece up to an end
to_longest : (fresh : Bool) (c : ByteClass) (b : ℕ) (t : List ℕ) (f : List ℕ → Option ℕ) (kind other : PieceKind) → Ends f → kind_by fresh c b [] ≡ Some other → ((w : List ℕ) → is_empty w ≡ false → kind_by fresh c b w ≡ ends_at (f w) (length w) kind) → LongestBy fresh c b t (piece_to (f t) kind other)
to_longest fresh c b t f kind other ends alone is = by (f t) refl where
  by : (o : Option ℕ) → f t ≡ o → LongestBy fresh c b t (piece_to o kind other)
  by None e = record {
    rest = 0;
    long = refl;
    within = omega arith;
    formed = alone;
    longest = λ m lt le. is (take m t) (not_empty t m lt le) ∙ ends_beyond f ends kind t m le (λ n h. absurd (apart n (sym e ∙ h)));
  } where
    apart : (n : ℕ) → None ≡ Some n → ⊥
    apart n h = cc
  by (Some n) e = record {
    rest = n;
    long = omega arith;
    within = ends.within t n e;
    formed = is (take n t) (not_empty t n (ends.some t n e) (ends.within t n e)) ∙ ends_here f ends kind t n e;
    longest = λ m lt le. is (take m t) (not_empty t m (omega (arith, lt)) le) ∙ ends_beyond f ends kind t m le (λ k h. omega (arith, lt, some_here n k (sym e ∙ h)));
  }

quote_longest : (fresh : Bool) (b : ℕ) (t : List ℕ) → LongestBy fresh Quote b t (literal_piece b t)
quote_longest fresh b t = to_longest fresh Quote b t (literal_end b) (Token (literal_kind b)) (Refused Literal) (literal_ends b) refl is where
  is : (w : List ℕ) → is_empty w ≡ false → quote_kind b w ≡ ends_at (literal_end b w) (length w) (Token (literal_kind b))
  is [] e = absurd (cc)
  is (c ∷ w) e = refl

hash_longest : (fresh : Bool) (b : ℕ) (t : List ℕ) → LongestBy fresh Hash b t (hash_piece fresh t)
hash_longest true b t = to_longest true Hash b t include_end Gap (Refused Directive) include_ends refl is where
  is : (w : List ℕ) → is_empty w ≡ false → hash_kind true w ≡ ends_at (include_end w) (length w) Gap
  is [] e = absurd (cc)
  is (c ∷ w) e = refl
hash_longest false b t = record { rest = 0; long = refl; within = omega arith; formed = refl; longest = over t } where
  over : (t : List ℕ) (m : ℕ) → 0 < m → m ≤ length t → hash_kind false (take m t) ≡ None
  over t zero lt le = absurd (omega (arith, lt))
  over [] (suc m) lt le = absurd (omega (arith, le))
  over (c ∷ w) (suc m) lt le = refl

mark_longest : (fresh : Bool) (b : ℕ) (t : List ℕ) → class_of b ≡ Mark → LongestBy fresh Mark b t (piece (Token Sign) (sign_length (b ∷ t)))
mark_longest fresh b t e = by (sign_length (b ∷ t)) (sign_longest b t (or_left (is_mark b) (b == 47) (mark_is b e))) where
  by : (n : ℕ) → LongestSign (b ∷ t) n → LongestBy fresh Mark b t (piece (Token Sign) n)
  by zero h = absurd (omega (arith, h.some))
  by (suc n) h = record {
    rest = n;
    long = refl;
    within = omega (arith, h.within);
    formed = cond-true (is_sign (b ∷ take n t)) (Some (Token Sign)) None h.sign;
    longest = λ m lt le. cond-false (is_sign (b ∷ take m t)) (Some (Token Sign)) None (h.longest (suc m) (omega (arith, lt)) (omega (arith, le)));
  }

-- A `/` and what follows.

slash_line : (c : ℕ) (w : List ℕ) → (c == 47) ≡ true → slash_kind (c ∷ w) ≡ cond (list_all is_on_line w) (Some Gap) None
slash_line c w e = rw e refl

slash_block : (c : ℕ) (w : List ℕ) → (c == 47) ≡ false → (c == 42) ≡ true → slash_kind (c ∷ w) ≡ block_kind (comment_end false w) (length w)
slash_block c w e h = rw (e, h) refl

slash_sign : (c : ℕ) (w : List ℕ) → (c == 47) ≡ false → (c == 42) ≡ false → slash_kind (c ∷ w) ≡ cond (is_sign (47 ∷ c ∷ w)) (Some (Token Sign)) None
slash_sign c w e h = rw (e, h) refl

block_at : (o : Option ℕ) (n long : ℕ) → o ≡ Some n → block_kind o long ≡ cond (n == long) (Some Gap) None
block_at o n long e = rw e refl

line_longest : (fresh : Bool) (c : ℕ) (w : List ℕ) → (c == 47) ≡ true → LongestBy fresh Slash 47 (c ∷ w) (piece Gap (2 + prefix_len is_on_line w))
line_longest fresh c w e = record {
  rest = suc (prefix_len is_on_line w);
  long = omega arith;
  within = let h = prefix_len_within is_on_line w in omega (arith, h);
  formed = slash_line c (take (prefix_len is_on_line w) w) e ∙ cond-true (list_all is_on_line (take (prefix_len is_on_line w) w)) (Some Gap) None (prefix_len_all is_on_line w);
  longest = over;
} where
  over : (m : ℕ) → suc (prefix_len is_on_line w) < m → m ≤ suc (length w) → slash_kind (take m (c ∷ w)) ≡ None
  over zero lt le = absurd (omega (arith, lt))
  over (suc m) lt le = slash_line c (take m w) e ∙ cond-false (list_all is_on_line (take m w)) (Some Gap) None (prefix_len_more is_on_line w m (omega (arith, lt)) (omega (arith, le)))

block_longest : (fresh : Bool) (c : ℕ) (w : List ℕ) → (c == 47) ≡ false → (c == 42) ≡ true → LongestBy fresh Slash 47 (c ∷ w) (block_piece (comment_end false w) w)
block_longest fresh c w e h = by (comment_end false w) refl where
  at : (n m : ℕ) → comment_end false w ≡ Some n → n ≤ m → m ≤ length w → slash_kind (c ∷ take m w) ≡ cond (n == m) (Some Gap) None
  at n m found le within =
      slash_block c (take m w) e h
      ∙ (block_at (comment_end false (take m w)) n (length (take m w)) (end_longer (comment_end false) (comment_ends false) w n m found le)
      ∙ ap (λ k. cond (n == k) (Some Gap) None) (length-take-le m w within))

  over : (n : ℕ) → comment_end false w ≡ Some n → (m : ℕ) → suc n < m → m ≤ suc (length w) → slash_kind (take m (c ∷ w)) ≡ None
  over n found zero lt le = absurd (omega (arith, lt))
  over n found (suc m) lt le = at n m found (omega (arith, lt)) (omega (arith, le)) ∙ cond-false (n == m) (Some Gap) None (ne_eqb n m (omega (arith, lt)))

  open_kind : (o : Option ℕ) → o ≡ None → block_kind o (length w) ≡ Some (Refused OpenComment)
  open_kind o none = rw none refl

  by : (o : Option ℕ) → comment_end false w ≡ o → LongestBy fresh Slash 47 (c ∷ w) (block_piece o w)
  by None found = record {
    rest = suc (length w);
    long = omega arith;
    within = omega arith;
    formed = ap (λ u. slash_kind (c ∷ u)) (take-length w) ∙ (slash_block c w e h ∙ open_kind (comment_end false w) found);
    longest = λ m lt le. absurd (omega (arith, lt, le));
  }
  by (Some n) found = let within = (comment_ends false).within w n found in record {
    rest = suc n;
    long = omega arith;
    within = omega (arith, within);
    formed = at n n found (omega arith) within ∙ cond-true (n == n) (Some Gap) None (eq-eqb n n refl);
    longest = over n found;
  }

division_longest : (fresh : Bool) (c : ℕ) (w : List ℕ) → (c == 47) ≡ false → (c == 42) ≡ false → LongestBy fresh Slash 47 (c ∷ w) (piece (Token Sign) (sign_length (47 ∷ c ∷ w)))
division_longest fresh c w e h = by (sign_length (47 ∷ c ∷ w)) (sign_longest 47 (c ∷ w) (or_right (is_mark 47) true refl)) where
  formed : (n : ℕ) → LongestSign (47 ∷ c ∷ w) (suc n) → slash_kind (take n (c ∷ w)) ≡ Some (Token Sign)
  formed zero s = refl
  formed (suc n) s = slash_sign c (take n w) e h ∙ cond-true (is_sign (47 ∷ c ∷ take n w)) (Some (Token Sign)) None s.sign

  over : (n : ℕ) → LongestSign (47 ∷ c ∷ w) (suc n) → (m : ℕ) → n < m → m ≤ suc (length w) → slash_kind (take m (c ∷ w)) ≡ None
  over n s zero lt le = absurd (omega (arith, lt))
  over n s (suc m) lt le = slash_sign c (take m w) e h ∙ cond-false (is_sign (47 ∷ c ∷ take m w)) (Some (Token Sign)) None (s.longest (suc (suc m)) (omega (arith, lt)) (omega (arith, le)))

  by : (n : ℕ) → LongestSign (47 ∷ c ∷ w) n → LongestBy fresh Slash 47 (c ∷ w) (piece (Token Sign) n)
  by zero s = absurd (omega (arith, s.some))
  by (suc n) s = record { rest = n; long = refl; within = omega (arith, s.within); formed = formed n s; longest = over n s }

slash_alone : (fresh : Bool) → LongestBy fresh Slash 47 [] (piece (Token Sign) (sign_length (47 ∷ [])))
slash_alone fresh = by (sign_length (47 ∷ [])) (sign_longest 47 [] (or_right (is_mark 47) true refl)) where
  by : (n : ℕ) → LongestSign (47 ∷ []) n → LongestBy fresh Slash 47 [] (piece (Token Sign) n)
  by zero s = absurd (omega (arith, s.some))
  by (suc n) s = record { rest = n; long = refl; within = omega (arith, s.within); formed = formed n; longest = λ m lt le. absurd (omega (arith, lt, le)) } where
    formed : (n : ℕ) → slash_kind (take n []) ≡ Some (Token Sign)
    formed zero = refl
    formed (suc n) = refl

slash_longest : (fresh : Bool) (t : List ℕ) → LongestBy fresh Slash 47 t (slash_piece 47 t)
slash_longest fresh [] = slash_alone fresh
slash_longest fresh (c ∷ w) = by (c == 47) refl (c == 42) refl where
  by : (x : Bool) → (c == 47) ≡ x → (y : Bool) → (c == 42) ≡ y → LongestBy fresh Slash 47 (c ∷ w) (cond x (piece Gap (2 + prefix_len is_on_line w)) (cond y (block_piece (comment_end false w) w) (piece (Token Sign) (sign_length (47 ∷ c ∷ w)))))
  by true e y h = line_longest fresh c w e
  by false e true h = block_longest fresh c w e h
  by false e false h = division_longest fresh c w e h

class_longest : (fresh : Bool) (c : ByteClass) (b : ℕ) (t : List ℕ) → class_of b ≡ c → LongestBy fresh c b t (piece_by fresh c b t)
class_longest fresh Space b t e = space_longest fresh b t
class_longest fresh Letter b t e = letter_longest fresh b t e
class_longest fresh Digit b t e = digit_longest fresh b t e
class_longest fresh Quote b t e = quote_longest fresh b t
class_longest fresh Hash b t e = hash_longest fresh b t
class_longest fresh Slash b t e = let P : ℕ → Type 0 = λ n. LongestBy fresh Slash n t (slash_piece n t) in subst P (sym (slash_is b e)) (slash_longest fresh t)
class_longest fresh Mark b t e = mark_longest fresh b t e
class_longest fresh Other b t e = other_longest fresh b t

-- the piece that is read is the longest
pub piece_at_longest : (fresh : Bool) (text : List ℕ) → 0 < length text → Longest fresh text (piece_at fresh text)
unfolding piece_at
piece_at_longest fresh [] some = absurd (omega (arith, some))
piece_at_longest fresh (b ∷ t) some = longest_from fresh b t _ (class_longest fresh (class_of b) b t refl)
