-- The pieces that are read one after another are the cut of a text, and its tokens have the forms of tokens. An integer
-- constant has a value of 64 bits (C99 6.4.4.1).
use Rattle.std.specs.Prelude.{◌≡◌, ◌<◌, ◌^◌, ℕ, List, Ok, All}
use Rattle.c_lexer.specs.Numbers.{number_value}
use Rattle.c_lexer.specs.Pieces.{IsToken}
use Rattle.c_lexer.specs.Readers.{pieces_from}
use Rattle.c_lexer.specs.Tokens.{IsCut, IsLexed, answer_of, first_place}
use Rattle.c_lexer.specs.declared.piece.Piece.{Piece}
use Rattle.c_lexer.specs.declared.token.Token.{Token}
use Rattle.c_lexer.specs.declared.token.TokenKind.TheVariants.{Int}

abbrev pub PiecesAreTheCut : Type 0
PiecesAreTheCut = (text : List ℕ) → IsCut first_place text (pieces_from first_place 0 text)

abbrev pub TokensHaveForms : Type 0
TokensHaveForms =
    (text : List ℕ) (pieces : List Piece) (tokens : List Token) → IsCut first_place text pieces →
    answer_of first_place text pieces ≡ Ok tokens → All IsLexed tokens

abbrev pub ConstantsFit : Type 0
ConstantsFit = (w : List ℕ) → IsToken Int w → number_value w < 2 ^ 64
