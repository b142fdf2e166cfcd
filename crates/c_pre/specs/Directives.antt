-- The forms of directives (C99 6.10, narrowed).
use Rattle.std.specs.Prelude.{ℕ, ◌-◌, Bool, true, false, not, ◌==◌, ◌||◌, ◌&&◌, bytes_eq, if◌then◌else◌, List, [], ◌∷◌, ◌++◌, length, take, drop, Option, Some, None, option_map, codes}
use Rattle.std.specs.Borrow.{Bor}
use Rattle.std.specs.List.{list_all, list_any}
use Rattle.c_lexer.specs.Bytes.{is_name_byte, is_digit}
use Rattle.c_lexer.specs.declared.token.Token.{Token}
use Rattle.c_lexer.specs.declared.token.TokenKind.{TokenKind}
use Rattle.c_lexer.specs.declared.token.TokenKind.TheVariants.{Keyword, Name, Int, Char, Str, Sign}
use Rattle.c_pre.specs.Comments.{begins_with}
use Rattle.c_pre.specs.Lines.{behind_word}
use Rattle.c_pre.specs.declared.macros.Macro.{Macro}
use Rattle.c_pre.specs.declared.directive.Signature.{Signature}
use Rattle.c_pre.specs.declared.directive.Naming.{Naming}
use Rattle.c_pre.specs.declared.directive.Naming.TheVariants as naming
use Rattle.c_pre.specs.declared.directive.Directive.{Directive}
use Rattle.c_pre.specs.declared.directive.Directive.TheVariants.{Empty, Include, Define, Undefine, Group, If, ElseIf, Else, EndIf}

abbrev pub is_name_kind : TokenKind → Bool
is_name_kind Name = true
is_name_kind Keyword = false
is_name_kind Int = false
is_name_kind Char = false
is_name_kind Str = false
is_name_kind Sign = false

abbrev pub is_string_kind : TokenKind → Bool
is_string_kind Str = true
is_string_kind Keyword = false
is_string_kind Name = false
is_string_kind Int = false
is_string_kind Char = false
is_string_kind Sign = false

-- a token is a name, and no keyword
abbrev pub is_name : Token → Bool
is_name token = is_name_kind token.kind

-- a token is this sign of one byte
abbrev pub is_sign : ℕ → Token → Bool
is_sign sign token = bytes_eq token.bytes (sign ∷ [])

-- a name is one of these
abbrev pub is_among : List (List ℕ) → List ℕ → Bool
is_among names name = list_any (bytes_eq name) names

-- the name that some tokens are
abbrev pub only_name : List Token → Option (List ℕ)
only_name [] = None
only_name (token ∷ []) = if is_name token then Some token.bytes else None
only_name (token ∷ other ∷ tokens) = None

-- a byte may stand in the name of an included text
abbrev pub is_path_byte : ℕ → Bool
is_path_byte b = is_name_byte b || b == 45 || b == 46 || b == 47

-- some bytes, where they are the name of an included text: at least one
abbrev pub path_of : List ℕ → Option (List ℕ)
path_of bytes = if not (length bytes == 0) && list_all is_path_byte bytes then Some bytes else None

-- the name between the quotes of a literal
abbrev pub included_name : List ℕ → Option (List ℕ)
included_name literal = path_of (take (length literal - 1 - 1) (drop 1 literal))

-- the name of the text that an `#include` with these tokens behind it names
abbrev pub include_of : List Token → Option (List ℕ)
include_of [] = None
include_of (token ∷ []) = if is_string_kind token.kind then included_name token.bytes else None
include_of (token ∷ other ∷ tokens) = None

-- a `(` stands right behind the name of a macro, in the rest of the line of its definition
abbrev pub takes_arguments : List ℕ → Bool
takes_arguments rest = begins_with 40 (behind_word (behind_word rest))

-- the name of the parameter that `...` stands for (C99 6.10.3p5)
abbrev pub variadic_name : List ℕ
variadic_name = codes "__VA_ARGS__"

-- behind the first `.` of a `...`: the others, which are tokens of their own here, and the `)`
abbrev pub dots_from : List (List ℕ) → List Token → Option Signature
dots_from names [] = None
dots_from names (second ∷ []) = None
dots_from names (second ∷ third ∷ []) = None
dots_from names (second ∷ third ∷ sign ∷ behind) =
    if is_sign 46 second && is_sign 46 third && is_sign 41 sign && not (is_among names variadic_name)
    then Some (record { names = names ++ variadic_name ∷ []; variadic = true; replacement = behind }) else None

-- the parameters up to their `)`, which are different names, `...` as the last, and what stands behind it
abbrev pub names_from : List (List ℕ) → List Token → Option Signature
names_from names [] = None
names_from names (name ∷ []) = None
names_from names (name ∷ sign ∷ behind) =
    if is_sign 46 name then dots_from names (sign ∷ behind) else
    if not (is_name name) || is_among names name.bytes then None else
    if is_sign 41 sign then Some (record { names = names ++ name.bytes ∷ []; variadic = false; replacement = behind }) else
    if is_sign 44 sign then names_from (names ++ name.bytes ∷ []) behind else None

-- behind the `(` of a function-like macro
abbrev pub signature_of : List Token → Option Signature
signature_of [] = None
signature_of (first ∷ rest) =
    if is_sign 41 first then Some (record { names = []; variadic = false; replacement = rest }) else names_from [] (first ∷ rest)

-- a function-like macro of this name
abbrev pub with_signature : List ℕ → Signature → Macro
with_signature name signature =
    record { name = name; parameters = Some signature.names; variadic = signature.variadic; replacement = signature.replacement }

-- a function-like macro, by what stands behind its name: its `(` first
abbrev pub function_behind : List ℕ → List Token → Option Macro
function_behind name [] = None
function_behind name (paren ∷ inner) = option_map (with_signature name) (signature_of inner)

-- a macro, by whether a `(` stands right behind its name, and what stands behind that
abbrev pub macro_behind : Bool → List ℕ → List Token → Option Macro
macro_behind true name behind = function_behind name behind
macro_behind false name behind = Some (record { name = name; parameters = None; variadic = false; replacement = behind })

-- behind `define`
abbrev pub define_of : List ℕ → List Token → Option Directive
define_of rest [] = None
define_of rest (name ∷ behind) =
    if is_name name then option_map Define (macro_behind (takes_arguments rest) name.bytes behind) else None

-- the bytes of a name that is lent, where there is one
abbrev pub bytes_now : Option (Bor (List ℕ)) → Option (List ℕ)
bytes_now name = option_map (λ name. name.now) name

-- the directive that does this with a name
abbrev pub named_by : Naming → List ℕ → Directive
named_by naming.Undefine name = Undefine name
named_by (naming.Group wanted) name = Group name wanted

-- a directive that has nothing behind its word
abbrev pub alone : Directive → List Token → Option Directive
alone directive [] = Some directive
alone directive (token ∷ tokens) = None

-- a token is decimal digits alone
abbrev pub is_line_number : Token → Bool
is_line_number token = list_all is_digit token.bytes

-- a `#line` with these tokens behind it: a number of a line, and the name of a text or none. It is nothing, since what is
-- said of a line names the text that it stands in (C99 6.10.4)
abbrev pub line_of : List Token → Option Directive
line_of [] = None
line_of (number ∷ []) = if is_line_number number then Some Empty else None
line_of (number ∷ name ∷ []) = if is_line_number number && is_string_kind name.kind then Some Empty else None
line_of (number ∷ name ∷ other ∷ tokens) = None

-- the directive of this word, by the tokens behind it and the whole rest of the line
unfoldable pub directive_by : List ℕ → List ℕ → List Token → Option Directive
directive_by word rest args =
    if bytes_eq word (codes "define") then define_of rest args else
    if bytes_eq word (codes "include") then option_map Include (include_of args) else
    if bytes_eq word (codes "undef") then option_map (named_by naming.Undefine) (only_name args) else
    if bytes_eq word (codes "ifdef") then option_map (named_by (naming.Group true)) (only_name args) else
    if bytes_eq word (codes "ifndef") then option_map (named_by (naming.Group false)) (only_name args) else
    if bytes_eq word (codes "if") then Some (If args) else
    if bytes_eq word (codes "elif") then Some (ElseIf args) else
    if bytes_eq word (codes "else") then alone Else args else
    if bytes_eq word (codes "endif") then alone EndIf args else
    if bytes_eq word (codes "line") then line_of args else None

-- the directive of a line, by the tokens behind its `#` and that rest of the line itself; nothing is the empty directive
abbrev pub directive_of : List ℕ → List Token → Option Directive
directive_of rest [] = Some Empty
directive_of rest (word ∷ args) = directive_by word.bytes rest args
