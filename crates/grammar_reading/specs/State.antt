-- What a reader stands before.
use Rattle.std.specs.Prelude.{ℕ, ◌-◌, Bool, true, false, ◌&&◌, nat_eq, if◌then◌else◌, List, [], ◌∷◌, ◌++◌, take, length, Option, Some, None}
use Rattle.c_lexer.specs.declared.token.Token.{Token}
use Rattle.c_lexer.specs.declared.token.TokenKind.TheVariants as kind
use Rattle.c_tree.specs.declared.word.Keyword.{Keyword}
use Rattle.c_tree.specs.declared.word.Keyword.TheVariants as k
use Rattle.c_tree.specs.declared.word.Sign.{Sign}
use Rattle.c_tree.specs.declared.word.Sign.TheVariants as s
use Rattle.c_tree.specs.Words.{Word, Key, Mark, Name, Int, Char, Str, Other}
use Rattle.c_tree.specs.Scopes.{Known, Scope, is_type, declare}
use Rattle.grammar_reading.specs.Known.{word_of}
use Rattle.grammar_reading.specs.declared.kind.Kind.{Kind}
use Rattle.grammar_reading.specs.declared.kind.Kind.TheVariants as kinds

-- the tokens that are left, the scope, and the declarations of the parameters next to the name that was read last
pub record State : Type 0 where
  pub words : List Token
  pub scope : Scope
  pub params : List Known

-- the first word
abbrev pub first_word : List Token → Word
first_word [] = Other kind.Sign []
first_word (token ∷ tokens) = word_of token

abbrev pub kind_of_word : Word → Kind
kind_of_word (Key keyword) = kinds.Key keyword
kind_of_word (Mark sign) = kinds.Mark sign
kind_of_word (Name bytes) = kinds.Name
kind_of_word (Int bytes) = kinds.Int
kind_of_word (Char bytes) = kinds.Char
kind_of_word (Str bytes) = kinds.Str
kind_of_word (Other kind bytes) = kinds.Other

abbrev pub first_kind : List Token → Kind
first_kind [] = kinds.End
first_kind (token ∷ tokens) = kind_of_word (word_of token)

abbrev pub first_line : List Token → ℕ
first_line [] = 0
first_line (token ∷ tokens) = token.line

abbrev pub first_bytes : List Token → List ℕ
first_bytes [] = []
first_bytes (token ∷ tokens) = token.bytes

abbrev pub behind_first : List Token → List Token
behind_first [] = []
behind_first (token ∷ tokens) = tokens

-- the next word, its kind, its line and its spelling
abbrev pub word_at : State → Word
word_at state = first_word state.words

abbrev pub kind_at : State → Kind
kind_at state = first_kind state.words

abbrev pub line_at : State → ℕ
line_at state = first_line state.words

abbrev pub bytes_at : State → List ℕ
bytes_at state = first_bytes state.words

-- how many words are left
abbrev pub left_at : State → ℕ
left_at state = length state.words

-- behind the next word
abbrev pub skip : State → State
skip state = record { words = behind_first state.words; scope = state.scope; params = state.params }

-- numbers that tell words apart
unfoldable pub keyword_number : Keyword → ℕ
keyword_number k.Void = 0
keyword_number k.Char = 1
keyword_number k.Short = 2
keyword_number k.Int = 3
keyword_number k.Long = 4
keyword_number k.Signed = 5
keyword_number k.Unsigned = 6
keyword_number k.Struct = 7
keyword_number k.Union = 8
keyword_number k.Enum = 9
keyword_number k.Static = 10
keyword_number k.Extern = 11
keyword_number k.Typedef = 12
keyword_number k.Const = 13
keyword_number k.DelayFrees = 14
keyword_number k.If = 15
keyword_number k.Else = 16
keyword_number k.While = 17
keyword_number k.Do = 18
keyword_number k.For = 19
keyword_number k.Switch = 20
keyword_number k.Case = 21
keyword_number k.Default = 22
keyword_number k.Break = 23
keyword_number k.Continue = 24
keyword_number k.Return = 25
keyword_number k.Sizeof = 26

unfoldable pub sign_number : Sign → ℕ
sign_number s.LeftBracket = 0
sign_number s.RightBracket = 1
sign_number s.LeftParen = 2
sign_number s.RightParen = 3
sign_number s.LeftBrace = 4
sign_number s.RightBrace = 5
sign_number s.Dot = 6
sign_number s.Arrow = 7
sign_number s.PlusPlus = 8
sign_number s.MinusMinus = 9
sign_number s.Ampersand = 10
sign_number s.Star = 11
sign_number s.Plus = 12
sign_number s.Minus = 13
sign_number s.Tilde = 14
sign_number s.Not = 15
sign_number s.Slash = 16
sign_number s.Percent = 17
sign_number s.ShiftLeft = 18
sign_number s.ShiftRight = 19
sign_number s.Less = 20
sign_number s.Greater = 21
sign_number s.LessEqual = 22
sign_number s.GreaterEqual = 23
sign_number s.EqualEqual = 24
sign_number s.NotEqual = 25
sign_number s.Caret = 26
sign_number s.Bar = 27
sign_number s.AndAnd = 28
sign_number s.OrOr = 29
sign_number s.Question = 30
sign_number s.Colon = 31
sign_number s.Semicolon = 32
sign_number s.Equal = 33
sign_number s.StarEqual = 34
sign_number s.SlashEqual = 35
sign_number s.PercentEqual = 36
sign_number s.PlusEqual = 37
sign_number s.MinusEqual = 38
sign_number s.ShiftLeftEqual = 39
sign_number s.ShiftRightEqual = 40
sign_number s.AmpersandEqual = 41
sign_number s.CaretEqual = 42
sign_number s.BarEqual = 43
sign_number s.Comma = 44

abbrev pub kind_is_key : Keyword → Kind → Bool
kind_is_key keyword (kinds.Key other) = nat_eq (keyword_number other) (keyword_number keyword)
kind_is_key keyword _ = false

abbrev pub kind_is_mark : Sign → Kind → Bool
kind_is_mark sign (kinds.Mark other) = nat_eq (sign_number other) (sign_number sign)
kind_is_mark sign _ = false

abbrev pub kind_is_name : Kind → Bool
kind_is_name kinds.Name = true
kind_is_name _ = false

-- whether the next word is this keyword, this sign, a name
abbrev pub at_key : Keyword → State → Bool
at_key keyword state = kind_is_key keyword (kind_at state)

abbrev pub at_mark : Sign → State → Bool
at_mark sign state = kind_is_mark sign (kind_at state)

abbrev pub at_name : State → Bool
at_name state = kind_is_name (kind_at state)

-- whether the next word is this word of a form
abbrev pub at_word : Word → State → Bool
at_word (Key keyword) state = at_key keyword state
at_word (Mark sign) state = at_mark sign state
at_word _ state = false

-- behind the next word, where it is this word of a form
abbrev pub past : Word → State → Option State
past word state = if at_word word state then Some (skip state) else None

-- a keyword with which specs begin
unfoldable pub is_spec_key : Keyword → Bool
is_spec_key k.Void = true
is_spec_key k.Char = true
is_spec_key k.Short = true
is_spec_key k.Int = true
is_spec_key k.Long = true
is_spec_key k.Signed = true
is_spec_key k.Unsigned = true
is_spec_key k.Struct = true
is_spec_key k.Union = true
is_spec_key k.Enum = true
is_spec_key k.Static = true
is_spec_key k.Extern = true
is_spec_key k.Typedef = true
is_spec_key k.Const = true
is_spec_key _ = false

-- whether specs begin here: by a keyword, or by a name that is a type
abbrev pub starts_by : Kind → State → Bool
starts_by (kinds.Key keyword) state = is_spec_key keyword
starts_by kinds.Name state = is_type state.scope.names (bytes_at state)
starts_by _ state = false

abbrev pub starts_type : State → Bool
starts_type state = starts_by (kind_at state) state

-- whether a type's name in parentheses begins here
abbrev pub opens_type : State → Bool
opens_type state = at_mark s.LeftParen state && starts_type (skip state)

-- with the names of another state
abbrev pub back_to : State → State → State
back_to before state = record { words = state.words; scope = before.scope; params = state.params }

-- with the other's word on whether a declaration of typedef names is being read
abbrev pub with_flag : Bool → State → State
with_flag flag state =
    record { words = state.words; scope = record { names = state.scope.names; typedef = flag }; params = state.params }

-- with a name that is declared
abbrev pub declaring : Option (List ℕ) → Bool → State → State
declaring name is_type state =
    record {
      words = state.words;
      scope = record { names = declare name is_type state.scope.names; typedef = state.scope.typedef };
      params = state.params;
    }

-- the declarations that are new since a state
abbrev pub new_names : State → State → List Known
new_names before state = take (length state.scope.names - length before.scope.names) state.scope.names

-- behind a parameter list: its declarations are the parameters, and they hold no longer
abbrev pub with_new_params : State → State → State
with_new_params before state =
    record { words = state.words; scope = before.scope; params = new_names before state }

abbrev pub with_params_of : State → State → State
with_params_of before state = record { words = state.words; scope = state.scope; params = before.params }

-- where a body begins: the parameters are declared
abbrev pub in_body : State → State
in_body state =
    record {
      words = state.words;
      scope = record { names = state.params ++ state.scope.names; typedef = state.scope.typedef };
      params = state.params;
    }
