-- What the loop over a text keeps: the tokens made so far, in front of the answer from the place on, are the answer.
use Rattle.std.proofs.Common.{◌≡◌, ℕ, suc, ◌+◌, ◌-◌, ◌<◌, ◌≤◌, Bool, true, false, cond, List, [], ◌∷◌, ◌++◌, length, take, drop, refl, ap, subst, sym, ◌∙◌, arith}
use Rattle.std.proofs.lemmas.List.{drop-drop, drop_all, append_assoc, append-nil, length-drop, length-take-le, take_rest}
use Rattle.std.proofs.lemmas.List.Elements.{All-cons}
use Rattle.std.specs.List.{All}
use Rattle.std.specs.Prelude.{Option, Some, None, Result, Ok, Err, ◌==◌}
use Rattle.c_lexer.specs.Bytes.{class_of}
use Rattle.c_lexer.specs.Gaps.{include_end}
use Rattle.c_lexer.specs.Pieces.{ends_at, hash_kind, kind_by, kind_of, Longest, IsToken}
use Rattle.c_lexer.specs.Readers.{piece_at, pieces_from, TakesPiece, RefusesPiece}
use Rattle.c_lexer.specs.Tokens.{first_place, next_place, behind, IsCut, with_token, answer_with, answer_of, HasTokens, IsRefused, IsLexed}
use Rattle.c_lexer.specs.declared.bytes.ByteClass.{ByteClass}
use Rattle.c_lexer.specs.declared.bytes.ByteClass.TheVariants.{Space, Letter, Digit, Quote, Hash, Slash, Mark, Other}
use Rattle.c_lexer.specs.declared.place.Place.{Place}
use Rattle.c_lexer.specs.declared.piece.PieceKind.{PieceKind}
use Rattle.c_lexer.specs.declared.piece.PieceKind.TheVariants.{Gap, Token, Refused}
use Rattle.c_lexer.specs.declared.piece.Piece.{Piece}
use Rattle.c_lexer.specs.declared.token.Token.{Token as TextToken}
use Rattle.c_lexer.specs.declared.token.TokenKind.{TokenKind}
use Rattle.c_lexer.specs.declared.token.LexError.{LexError}
use Rattle.c_lexer.specs.declared.token.LexError.TheVariants.{Bad as BadPlace, NoMemory}
use Rattle.c_lexer.proofs.LongestPieces.{piece_at_longest}
use Rattle.c_lexer.proofs.Cuts.{answer_from, answer_step, text_cut}

-- these tokens in front of an answer
abbrev pub prepended : List TextToken → Result (List TextToken) LexError → Result (List TextToken) LexError
prepended made (Ok tokens) = Ok (made ++ tokens)
prepended made (Err error) = Err error

-- the loop has come to a place, with these tokens made
abbrev pub AtText : List ℕ → Place → ℕ → List TextToken → Type 0
AtText text place at made = prepended made (answer_from place (drop at text)) ≡ answer_from first_place text

prepended_none : (answer : Result (List TextToken) LexError) → prepended [] answer ≡ answer
prepended_none (Ok tokens) = refl
prepended_none (Err error) = refl

pub at_start : (text : List ℕ) → AtText text first_place 0 []
at_start text = prepended_none (answer_from first_place text)

prepended_token : (made : List TextToken) (token : TextToken) (answer : Result (List TextToken) LexError) → prepended (made ++ token ∷ []) answer ≡ prepended made (with_token token answer)
prepended_token made token (Ok tokens) = ap Ok (append_assoc made (token ∷ []) tokens)
prepended_token made token (Err error) = refl

taken : (kind : PieceKind) (line : ℕ) (bytes : List ℕ) (before after : List TextToken) → TakesPiece kind line bytes before after → (rest : Result (List TextToken) LexError) → prepended after rest ≡ prepended before (answer_with kind line bytes rest)
taken Gap line bytes before after e rest = ap (λ made. prepended made rest) e
taken (Token kind) line bytes before after e rest = ap (λ made. prepended made rest) e ∙ prepended_token before _ rest
taken (Refused kind) line bytes before after e rest = absurd e

pub goes_on : (text : List ℕ) (place : Place) (at : ℕ) (before after : List TextToken) (x : Piece) → AtText text place at before → at < length text → x ≡ piece_at place.fresh (drop at text) → TakesPiece x.kind place.line (take x.len (drop at text)) before after → AtText text (behind place (take x.len (drop at text))) (at + x.len) after
goes_on text place at before after x reached lt e takes =
    let here = answer_step place (drop at text) x (let h = length-drop at text in omega (arith, h, lt)) e in
    let further : answer_from (behind place (take x.len (drop at text))) (drop (at + x.len) text) ≡ answer_from (behind place (take x.len (drop at text))) (drop x.len (drop at text)) =
    ap (answer_from (behind place (take x.len (drop at text)))) (sym (drop-drop x.len at text)) in
    ap (prepended after) further
    ∙ (taken x.kind place.line (take x.len (drop at text)) before after takes _
    ∙ (ap (prepended before) (sym here) ∙ reached))

pub ends : (text : List ℕ) (place : Place) (at : ℕ) (made : List TextToken) → AtText text place at made → length text ≤ at → HasTokens text made
unfolding pieces_from
ends text place at made reached le =
    let last : answer_from place (drop at text) ≡ Ok [] = ap (answer_from place) (drop_all at text le) in
    let all : answer_from first_place text ≡ Ok made = sym reached ∙ (ap (prepended made) last ∙ ap Ok (append-nil made)) in
    (pieces_from first_place 0 text, text_cut text, all)

pub refuses : (text : List ℕ) (place : Place) (at : ℕ) (made : List TextToken) (x : Piece) (error : LexError) → AtText text place at made → at < length text → x ≡ piece_at place.fresh (drop at text) → RefusesPiece x.kind place.line error → IsRefused text error
refuses text place at made x NoMemory reached lt e cause = tt
refuses text place at made x (BadPlace kind line) reached lt e cause =
    let here = answer_step place (drop at text) x (let h = length-drop at text in omega (arith, h, lt)) e in
    let rest = answer_from (behind place (take x.len (drop at text))) (drop x.len (drop at text)) in
    let bad : answer_with x.kind place.line (take x.len (drop at text)) rest ≡ Err (BadPlace kind line) =
    ap (λ k. answer_with k place.line (take x.len (drop at text)) rest) cause.0 ∙ ap (λ n. Err (BadPlace kind n)) cause.1 in
    let all : answer_from first_place text ≡ Err (BadPlace kind line) = sym reached ∙ ap (prepended made) (here ∙ bad) in
    (pieces_from first_place 0 text, text_cut text, all)

-- Forms.

hash_gap : (fresh : Bool) (w : List ℕ) (kind : TokenKind) → hash_kind fresh w ≡ Some (Token kind) → ⊥
hash_gap true [] kind e = cc
hash_gap false [] kind e = cc
hash_gap false (c ∷ w) kind e = cc
hash_gap true (c ∷ w) kind e = by (include_end (c ∷ w)) e where
  at : (b : Bool) → cond b (Some Gap) None ≡ Some (Token kind) → ⊥
  at true e = cc
  at false e = cc

  by : (o : Option ℕ) → ends_at o (suc (length w)) Gap ≡ Some (Token kind) → ⊥
  by None e = cc
  by (Some n) e = at (n == suc (length w)) e

by_class : (fresh : Bool) (c : ByteClass) (b : ℕ) (w : List ℕ) (kind : TokenKind) → kind_by fresh c b w ≡ Some (Token kind) → kind_by false c b w ≡ Some (Token kind)
by_class fresh Space b w kind e = e
by_class fresh Letter b w kind e = e
by_class fresh Digit b w kind e = e
by_class fresh Quote b w kind e = e
by_class fresh Hash b w kind e = absurd (hash_gap fresh w kind e)
by_class fresh Slash b w kind e = e
by_class fresh Mark b w kind e = e
by_class fresh Other b w kind e = e

-- a token has its form wherever it stands
pub token_form : (fresh : Bool) (w : List ℕ) (kind : TokenKind) → kind_of fresh w ≡ Some (Token kind) → IsToken kind w
unfolding kind_of
token_form fresh [] kind e = absurd (cc)
token_form fresh (b ∷ w) kind e = by_class fresh (class_of b) b w kind e

next_line : (place : Place) (b : ℕ) → place.line ≤ (next_place place b).line
unfolding next_place
next_line place b = by (b == 10) where
  by : (c : Bool) → place.line ≤ cond c (place.line + 1) place.line
  by true = omega arith
  by false = omega arith

behind_line : (place : Place) (w : List ℕ) → place.line ≤ (behind place w).line
behind_line place [] = omega arith
behind_line place (b ∷ w) = let h = behind_line (next_place place b) w in omega (arith, next_line place b, h)

pub lexed_of : (place : Place) (text : List ℕ) (pieces : List Piece) (tokens : List TextToken) → 1 ≤ place.line → IsCut place text pieces → answer_of place text pieces ≡ Ok tokens → All IsLexed tokens
lexed_of place text [] tokens line cut e = subst (All IsLexed) (ok_of [] tokens e) (λ k d h. absurd (omega (arith, h))) where
  ok_of : (a b : List TextToken) → let x : Result (List TextToken) LexError = Ok a in x ≡ Ok b → a ≡ b
  ok_of a b e = cc
lexed_of place text (x ∷ xs) tokens line cut e =
    by x.kind cut.0.formed (answer_of (behind place (take x.len text)) (drop x.len text) xs) e
    (λ later h. lexed_of (behind place (take x.len text)) (drop x.len text) xs later (let g = behind_line place (take x.len text) in omega (arith, g, line)) cut.1 h) where
      token : TokenKind → TextToken
      token kind = record { line = place.line; kind = kind; bytes = take x.len text }

      with : (kind : TokenKind) → kind_of place.fresh (take x.len text) ≡ Some (Token kind) → (rest : Result (List TextToken) LexError) → with_token (token kind) rest ≡ Ok tokens → ((later : List TextToken) → rest ≡ Ok later → All IsLexed later) → All IsLexed tokens
      with kind form (Ok later) e ih = subst (All IsLexed) (let h : token kind ∷ later ≡ tokens = cc in h) (All-cons IsLexed (token kind) later (token_form place.fresh (take x.len text) kind form, line) (ih later refl))
      with kind form (Err error) e ih = absurd (cc)

      by : (kind : PieceKind) → kind_of place.fresh (take x.len text) ≡ Some kind → (rest : Result (List TextToken) LexError) → answer_with kind place.line (take x.len text) rest ≡ Ok tokens → ((later : List TextToken) → rest ≡ Ok later → All IsLexed later) → All IsLexed tokens
      by Gap form rest e ih = ih tokens e
      by (Token kind) form rest e ih = with kind form rest e ih
      by (Refused kind) form rest e ih = absurd (cc)

pub forms_of : (text : List ℕ) (tokens : List TextToken) → HasTokens text tokens → All IsLexed tokens
forms_of text tokens h = lexed_of first_place text h.0 tokens (omega arith) h.1 h.2

-- The rest of the text, as a slice has it.

-- the piece that is read at a place is within the text
pub record Here (text : List ℕ) (fresh : Bool) (at : ℕ) (x : Piece) : Type 0 where
  pub is : x ≡ piece_at fresh (drop at text)
  pub some : 0 < x.len
  pub within : at + x.len ≤ length text
  pub bytes : take x.len (take (length text - at) (drop at text)) ≡ take x.len (drop at text)
  pub long : length (take x.len (take (length text - at) (drop at text))) ≡ x.len

pub here : (text : List ℕ) (fresh : Bool) (at : ℕ) (x : Piece) → at < length text → x ≡ piece_at fresh (take (length text - at) (drop at text)) → Here text fresh at x
here text fresh at x lt e =
    let left = length-drop at text in
    let is : x ≡ piece_at fresh (drop at text) = e ∙ ap (piece_at fresh) (take_rest text at) in
    let P : Piece → Type 0 = λ p. Longest fresh (drop at text) p in
    let longest = subst P (sym is) (piece_at_longest fresh (drop at text) (omega (arith, left, lt))) in
    let bytes : take x.len (take (length text - at) (drop at text)) ≡ take x.len (drop at text) = ap (take x.len) (take_rest text at) in
    record {
      is = is;
      some = longest.some;
      within = let h = longest.within in omega (arith, left, lt, h);
      bytes = bytes;
      long = ap length bytes ∙ length-take-le x.len (drop at text) longest.within;
    }
