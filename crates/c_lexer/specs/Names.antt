-- Names and keywords (C99 6.4.1 and 6.4.2).
use Rattle.std.specs.Prelude.{ℕ, Bool, List, [], ◌∷◌, codes, bytes_eq, if◌then◌else◌}
use Rattle.std.specs.List.{list_any}
use Rattle.c_lexer.specs.declared.token.TokenKind.{TokenKind}
use Rattle.c_lexer.specs.declared.token.TokenKind.TheVariants.{Keyword, Name}

-- the keywords of C99, and `__delay_frees`
abbrev pub keywords : List (List ℕ)
keywords =
    codes "auto" ∷ codes "break" ∷ codes "case" ∷ codes "char" ∷ codes "const" ∷ codes "continue" ∷ codes "default" ∷
    codes "do" ∷ codes "double" ∷ codes "else" ∷ codes "enum" ∷ codes "extern" ∷ codes "float" ∷ codes "for" ∷
    codes "goto" ∷ codes "if" ∷ codes "inline" ∷ codes "int" ∷ codes "long" ∷ codes "register" ∷ codes "restrict" ∷
    codes "return" ∷ codes "short" ∷ codes "signed" ∷ codes "sizeof" ∷ codes "static" ∷ codes "struct" ∷
    codes "switch" ∷ codes "typedef" ∷ codes "union" ∷ codes "unsigned" ∷ codes "void" ∷ codes "volatile" ∷
    codes "while" ∷ codes "_Bool" ∷ codes "_Complex" ∷ codes "_Imaginary" ∷ codes "__delay_frees" ∷ []

-- whether a word is a keyword
unfoldable pub is_keyword : List ℕ → Bool
is_keyword w = list_any (bytes_eq w) keywords

-- the kind of a word of letters, digits and `_`
abbrev pub name_kind : List ℕ → TokenKind
name_kind w = if is_keyword w then Keyword else Name
