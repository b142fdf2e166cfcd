-- Signs (C99 6.4.6, without `...`, `#`, `##` and the digraphs).
use Rattle.std.specs.Prelude.{ℕ, Bool, false, ◌||◌, ◌==◌, List, [], ◌∷◌, codes, bytes_eq}
use Rattle.std.specs.List.{list_any}
use Rattle.c_lexer.specs.Bytes.{is_mark}

-- the signs of one byte
abbrev pub is_single_sign : List ℕ → Bool
is_single_sign [] = false
is_single_sign (a ∷ []) = is_mark a || a == 47
is_single_sign (a ∷ b ∷ w) = false

-- the signs of two bytes
abbrev pub double_signs : List (List ℕ)
double_signs =
    codes "->" ∷ codes "++" ∷ codes "--" ∷ codes "<<" ∷ codes ">>" ∷ codes "<=" ∷ codes ">=" ∷ codes "==" ∷
    codes "!=" ∷ codes "&&" ∷ codes "||" ∷ codes "*=" ∷ codes "/=" ∷ codes "%=" ∷ codes "+=" ∷ codes "-=" ∷
    codes "&=" ∷ codes "^=" ∷ codes "|=" ∷ []

-- the signs of three bytes
abbrev pub triple_signs : List (List ℕ)
triple_signs = codes "<<=" ∷ codes ">>=" ∷ []

-- whether these bytes are a sign of two bytes
unfoldable pub is_double_sign : List ℕ → Bool
is_double_sign w = list_any (bytes_eq w) double_signs

-- whether these bytes are a sign of three bytes
unfoldable pub is_triple_sign : List ℕ → Bool
is_triple_sign w = list_any (bytes_eq w) triple_signs

-- whether these bytes are a sign
abbrev pub is_sign : List ℕ → Bool
is_sign w = is_single_sign w || is_double_sign w || is_triple_sign w
