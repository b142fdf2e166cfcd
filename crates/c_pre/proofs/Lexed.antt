-- The lexer gives the answer of its definition, whose lines are within the text.
use Rattle.std.proofs.Common.{◌≡◌, ℕ, zero, suc, ◌+◌, ◌≤◌, List, [], ◌∷◌, length, take, drop, All, Result, Ok, Err, ◌⊎◌, inl, inr, sym, subst, arith, length-take, length-drop, refl}
use Rattle.std.proofs.lemmas.Bool.Decides.{nat_tests}
use Rattle.std.proofs.lemmas.List.Elements.{All-nil, All-cons}
use Rattle.c_lexer.specs.Tokens.{first_place, next_place, behind, IsCut, answer_with, answer_of, IsOnlyAnswer}
use Rattle.c_lexer.specs.Readers.{pieces_from}
use Rattle.c_lexer.specs.declared.place.Place.{Place}
use Rattle.c_lexer.specs.declared.piece.Piece.{Piece}
use Rattle.c_lexer.specs.declared.piece.PieceKind.{PieceKind}
use Rattle.c_lexer.specs.declared.piece.PieceKind.TheVariants.{Gap, Token as TokenPiece, Refused}
use Rattle.c_lexer.specs.declared.token.Token.{Token}
use Rattle.c_lexer.specs.declared.token.LexError.{LexError}
use Rattle.c_lexer.specs.declared.token.LexError.TheVariants.{Bad, NoMemory}
use Rattle.c_lexer.specs.Cutting.{PiecesAreTheCut}
use Rattle.c_pre.specs.Reading.{lexed}
use Rattle.c_pre.specs.Answering.{GivesLexed}

next_high : (place : Place) (b : ℕ) → (next_place place b).line ≤ place.line + 1
unfolding next_place
next_high place b = grind (arith, nat_tests)

behind_high : (place : Place) (w : List ℕ) → (behind place w).line ≤ place.line + length w
behind_high place [] = omega arith
behind_high place (b ∷ w) = omega (arith, behind_high (next_place place b) w, next_high place b)

-- no line of an answer is greater
abbrev Within : ℕ → Result (List Token) LexError → Type 0
Within most (Ok tokens) = All (λ token. token.line ≤ most) tokens
Within most (Err (Bad kind line)) = line ≤ most
Within most (Err NoMemory) = Unit {0}

all_cons : (most : ℕ) (token : Token) (tokens : List Token) → token.line ≤ most → All (λ (t : Token). t.line ≤ most) tokens → All (λ (t : Token). t.line ≤ most) (token ∷ tokens)
all_cons most token tokens low h zero d lt = low
all_cons most token tokens low h (suc k) d lt = h k d (omega (arith, lt))

within_with : (most : ℕ) (kind : PieceKind) (line : ℕ) (bytes : List ℕ) (rest : Result (List Token) LexError) → line ≤ most → Within most rest → Within most (answer_with kind line bytes rest)
within_with most Gap line bytes rest low h = h
within_with most (TokenPiece kind) line bytes (Ok tokens) low h = all_cons most (record { line = line; kind = kind; bytes = bytes }) tokens low h
within_with most (TokenPiece kind) line bytes (Err (Bad k l)) low h = h
within_with most (TokenPiece kind) line bytes (Err NoMemory) low h = tt
within_with most (Refused kind) line bytes rest low h = low

within_cut : (most : ℕ) (place : Place) (text : List ℕ) (pieces : List Piece) → IsCut place text pieces → place.line + length text ≤ most → Within most (answer_of place text pieces)
within_cut most place text [] cut low = λ k d lt. absurd (omega (arith, lt))
within_cut most place text (piece ∷ pieces) cut low =
    within_with most piece.kind place.line (take piece.len text) _ (omega (arith, low))
    (within_cut most (behind place (take piece.len text)) (drop piece.len text) pieces cut.1
    (omega (arith, low, cut.0.within, behind_high place (take piece.len text), length-take piece.len text, length-drop piece.len text)))

own : (most : ℕ) (answer : Result (List Token) LexError) → Within most answer → GivesLexed answer most answer
own most (Ok tokens) h = (refl, h)
own most (Err (Bad kind line)) h = (refl, h)
own most (Err NoMemory) h = tt

pub gives_lexed : PiecesAreTheCut → (text : List ℕ) (found : Result (List Token) LexError) → IsOnlyAnswer text found → GivesLexed (lexed text) (length text + 1) found
unfolding lexed
gives_lexed cut text found only = by (only (lexed text) (pieces_from first_place 0 text, cut text, refl)) where
  by : (found ≡ lexed text) ⊎ (found ≡ Err NoMemory) → GivesLexed (lexed text) (length text + 1) found
  by (inl e) = subst (GivesLexed (lexed text) (length text + 1)) (sym e) (own (length text + 1) (lexed text) (within_cut (length text + 1) first_place text (pieces_from first_place 0 text) (cut text) (omega arith)))
  by (inr e) = subst (GivesLexed (lexed text) (length text + 1)) (sym e) tt

-- no token of an answer is longer
abbrev pub Short : ℕ → Result (List Token) LexError → Type 0
Short most (Ok tokens) = All (λ (t : Token). length t.bytes ≤ most) tokens
Short most (Err e) = Unit {0}

short_with : (most : ℕ) (kind : PieceKind) (line : ℕ) (bytes : List ℕ) (rest : Result (List Token) LexError) → length bytes ≤ most → Short most rest → Short most (answer_with kind line bytes rest)
short_with most Gap line bytes rest low h = h
short_with most (TokenPiece kind) line bytes (Ok tokens) low h = All-cons (λ (t : Token). length t.bytes ≤ most) (record { line = line; kind = kind; bytes = bytes }) tokens low h
short_with most (TokenPiece kind) line bytes (Err e) low h = tt
short_with most (Refused kind) line bytes rest low h = tt

short_pieces : (most : ℕ) (place : Place) (text : List ℕ) (pieces : List Piece) → IsCut place text pieces → length text ≤ most → Short most (answer_of place text pieces)
short_pieces most place text [] cut low = All-nil (λ (t : Token). length t.bytes ≤ most)
short_pieces most place text (piece ∷ pieces) cut low =
    short_with most piece.kind place.line (take piece.len text) _ (omega (arith, low, length-take piece.len text))
    (short_pieces most (behind place (take piece.len text)) (drop piece.len text) pieces cut.1 (omega (arith, low, length-drop piece.len text)))

pub short_cut : (most : ℕ) (place : Place) (text : List ℕ) (pieces : List Piece) (tokens : List Token) → IsCut place text pieces → length text ≤ most → answer_of place text pieces ≡ Ok tokens → All (λ (t : Token). length t.bytes ≤ most) tokens
short_cut most place text pieces tokens cut low e = let h : Short most (Ok tokens) = subst (Short most) e (short_pieces most place text pieces cut low) in h

-- an answer has no more tokens
abbrev Few : ℕ → Result (List Token) LexError → Type 0
Few most (Ok tokens) = length tokens ≤ most
Few most (Err e) = Unit {0}

few_with : (most : ℕ) (kind : PieceKind) (line : ℕ) (bytes : List ℕ) (rest : Result (List Token) LexError) → Few most rest → Few (most + 1) (answer_with kind line bytes rest)
few_with most Gap line bytes (Ok tokens) h = omega (arith, h)
few_with most Gap line bytes (Err e) h = tt
few_with most (TokenPiece kind) line bytes (Ok tokens) h = omega (arith, h)
few_with most (TokenPiece kind) line bytes (Err e) h = tt
few_with most (Refused kind) line bytes rest h = tt

fewer : (n m : ℕ) (r : Result (List Token) LexError) → n ≤ m → Few n r → Few m r
fewer n m (Ok tokens) low h = omega (arith, low, h)
fewer n m (Err e) low h = tt

few_pieces : (place : Place) (text : List ℕ) (pieces : List Piece) → IsCut place text pieces → Few (length text) (answer_of place text pieces)
few_pieces place text [] cut = omega arith
few_pieces place text (piece ∷ pieces) cut =
    fewer (length (drop piece.len text) + 1) (length text) _ (omega (arith, length-drop piece.len text, cut.0.some, cut.0.within))
    (few_with (length (drop piece.len text)) piece.kind place.line (take piece.len text) (answer_of (behind place (take piece.len text)) (drop piece.len text) pieces)
    (few_pieces (behind place (take piece.len text)) (drop piece.len text) pieces cut.1))

pub few_cut : (place : Place) (text : List ℕ) (pieces : List Piece) (tokens : List Token) → IsCut place text pieces → answer_of place text pieces ≡ Ok tokens → length tokens ≤ length text
few_cut place text pieces tokens cut e = let h : Few (length text) (Ok tokens) = subst (Few (length text)) e (few_pieces place text pieces cut) in h
