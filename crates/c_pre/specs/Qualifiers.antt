-- Words without effect (C99 6.7.1, 6.7.3 and 6.7.4): each is read as `const`, which has none either.
use Rattle.std.specs.Prelude.{ℕ, Bool, List, [], ◌∷◌, codes, bytes_eq, if◌then◌else◌}
use Rattle.std.specs.List.{list_any}
use Rattle.c_lexer.specs.declared.token.Token.{Token}
use Rattle.c_lexer.specs.declared.token.TokenKind.TheVariants.{Keyword}

-- the words without effect
abbrev pub idle_words : List (List ℕ)
idle_words =
    codes "auto" ∷ codes "inline" ∷ codes "register" ∷ codes "restrict" ∷ codes "volatile" ∷ []

unfoldable pub is_idle : List ℕ → Bool
is_idle word = list_any (bytes_eq word) idle_words

-- a token, with `const` in place of a word without effect
unfoldable pub plain_token : Token → Token
plain_token token =
    if is_idle token.bytes
    then record token { kind = Keyword; bytes = codes "const" }
    else token
