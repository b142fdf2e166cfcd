-- A text is cut into pieces in one way, and so has one answer.
use Rattle.std.proofs.Common.{◌≡◌, ℕ, zero, suc, ◌-◌, ◌<◌, ◌≤◌, inl, inr, List, [], ◌∷◌, length, take, drop, refl, ap, subst, sym, ◌∙◌, arith}
use Rattle.std.specs.Prelude.{Result, Ok, Err}
use Rattle.c_lexer.specs.Pieces.{Longest}
use Rattle.c_lexer.specs.Readers.{piece_at, pieces_from}
use Rattle.c_lexer.specs.Tokens.{first_place, next_place, behind, IsCut, answer_with, answer_of, HasAnswer, HasTokens, IsRefused, IsOnlyAnswer, OneAnswer}
use Rattle.c_lexer.specs.declared.place.Place.{Place}
use Rattle.c_lexer.specs.declared.piece.Piece.{Piece}
use Rattle.c_lexer.specs.declared.token.Token.{Token as TextToken}
use Rattle.c_lexer.specs.declared.token.LexError.{LexError}
use Rattle.c_lexer.specs.declared.token.LexError.TheVariants.{Bad as BadPlace, NoMemory}
use Rattle.c_lexer.proofs.LongestPieces.{piece_at_longest}
use Rattle.c_lexer.specs.PiecesEquations.{longest_one}

-- One cut.

pub cut_one : (place : Place) (text : List ℕ) (xs ys : List Piece) → IsCut place text xs → IsCut place text ys → xs ≡ ys
cut_one place text [] [] a b = refl
cut_one place text [] (y ∷ ys) a b = let h : length text ≡ 0 = ap length a in absurd (omega (arith, h, b.0.some, b.0.within))
cut_one place text (x ∷ xs) [] a b = let h : length text ≡ 0 = ap length b in absurd (omega (arith, h, a.0.some, a.0.within))
cut_one place text (x ∷ xs) (y ∷ ys) a b =
    let e : x ≡ y = longest_one place.fresh text x y a.0 b.0 in
    let P : Piece → Type 0 = λ p. IsCut (behind place (take p.len text)) (drop p.len text) ys in
    ap (λ p. p ∷ xs) e ∙ ap (λ l. y ∷ l) (cut_one (behind place (take x.len text)) (drop x.len text) xs ys a.1 (subst P (sym e) b.1))

-- The pieces that are read are the cut.

pub pieces_cut : (k : ℕ) (place : Place) (text : List ℕ) → k ≤ length text → IsCut (behind place (take k text)) (drop k text) (pieces_from place k text)
unfolding pieces_from
pieces_cut zero place [] h = refl
pieces_cut (suc k) place [] h = absurd (omega (arith, h))
pieces_cut (suc k) place (b ∷ w) h = pieces_cut k (next_place place b) w (omega (arith, h))
pieces_cut zero place (b ∷ w) h = (longest, by (piece_at place.fresh (b ∷ w)).len longest.some longest.within (λ n le. pieces_cut n (next_place place b) w le)) where
  longest : Longest place.fresh (b ∷ w) (piece_at place.fresh (b ∷ w))
  longest = piece_at_longest place.fresh (b ∷ w) (omega arith)

  by : (n : ℕ) → 0 < n → n ≤ suc (length w) → ((k : ℕ) → k ≤ length w → IsCut (behind (next_place place b) (take k w)) (drop k w) (pieces_from (next_place place b) k w)) → IsCut (behind place (take n (b ∷ w))) (drop n (b ∷ w)) (pieces_from (next_place place b) (n - 1) w)
  by zero some le ih = absurd (omega (arith, some))
  by (suc n) some le ih = let e : suc n - 1 ≡ n = omega arith in rw e (ih n (omega (arith, le)))

pub text_cut : (text : List ℕ) → IsCut first_place text (pieces_from first_place 0 text)
text_cut text = pieces_cut 0 first_place text (omega arith)

-- the answer from a place on
abbrev pub answer_from : Place → List ℕ → Result (List TextToken) LexError
answer_from place text = answer_of place text (pieces_from place 0 text)

pub has_answer : (text : List ℕ) → HasAnswer text (answer_from first_place text)
has_answer text = (pieces_from first_place 0 text, text_cut text, refl)

pub one_answer : OneAnswer
one_answer text = (answer_from first_place text, has_answer text, only) where
  only : (other : Result (List TextToken) LexError) → HasAnswer text other → other ≡ answer_from first_place text
  only other h = sym h.2 ∙ ap (answer_of first_place text) (cut_one first_place text h.0 (pieces_from first_place 0 text) h.1 (text_cut text))

-- an answer of the text is the only one
pub only_answer : (text : List ℕ) (answer other : Result (List TextToken) LexError) → HasAnswer text answer → HasAnswer text other → answer ≡ other
only_answer text answer other a b = sym a.2 ∙ (ap (answer_of first_place text) (cut_one first_place text a.0 b.0 a.1 b.1) ∙ b.2)

pub ok_only : (text : List ℕ) (tokens : List TextToken) → HasTokens text tokens → IsOnlyAnswer text (Ok tokens)
ok_only text tokens h answer has = inl (only_answer text (Ok tokens) answer h has)

pub err_only : (text : List ℕ) (error : LexError) → IsRefused text error → IsOnlyAnswer text (Err error)
err_only text NoMemory h answer has = inr refl
err_only text (BadPlace kind line) h answer has = inl (only_answer text (Err (BadPlace kind line)) answer h has)

-- The loop over a text.

-- pieces that began before leave the place behind their bytes
pieces_skip : (k : ℕ) (place : Place) (t : List ℕ) → k ≤ length t → pieces_from place k t ≡ pieces_from (behind place (take k t)) 0 (drop k t)
unfolding pieces_from
pieces_skip zero place t h = refl
pieces_skip (suc k) place [] h = absurd (omega (arith, h))
pieces_skip (suc k) place (b ∷ w) h = pieces_skip k (next_place place b) w (omega (arith, h))

rest_pieces : (place : Place) (b : ℕ) (w : List ℕ) (n : ℕ) → 0 < n → n ≤ suc (length w) → pieces_from (next_place place b) (n - 1) w ≡ pieces_from (behind place (take n (b ∷ w))) 0 (drop n (b ∷ w))
rest_pieces place b w zero some le = absurd (omega (arith, some))
rest_pieces place b w (suc n) some le = let e : suc n - 1 ≡ n = omega arith in rw e (pieces_skip n (next_place place b) w (omega (arith, le)))

-- the answer from a place on, by the piece there
pub answer_step : (place : Place) (text : List ℕ) (x : Piece) → 0 < length text → x ≡ piece_at place.fresh text → answer_from place text ≡ answer_with x.kind place.line (take x.len text) (answer_from (behind place (take x.len text)) (drop x.len text))
unfolding pieces_from
answer_step place [] x some e = absurd (omega (arith, some))
answer_step place (b ∷ w) x some e = subst P (sym e) at where
  p : Piece
  p = piece_at place.fresh (b ∷ w)

  P : Piece → Type 0
  P x = answer_from place (b ∷ w) ≡ answer_with x.kind place.line (take x.len (b ∷ w)) (answer_from (behind place (take x.len (b ∷ w))) (drop x.len (b ∷ w)))

  longest : Longest place.fresh (b ∷ w) (piece_at place.fresh (b ∷ w))
  longest = piece_at_longest place.fresh (b ∷ w) (omega arith)

  at : P (piece_at place.fresh (b ∷ w))
  at = ap (λ xs. answer_of place (b ∷ w) (piece_at place.fresh (b ∷ w) ∷ xs)) (rest_pieces place b w (piece_at place.fresh (b ∷ w)).len longest.some longest.within)
