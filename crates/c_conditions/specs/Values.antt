-- The values of the trees of conditions (C99 6.6, 6.10.1).
use Rattle.std.specs.Prelude.{ℕ, ◌^◌, pos, Bool, true, false, ◌||◌, not, nat_lt, if◌then◌else◌, List, slice_index, Option, Some, None}
use Rattle.std.specs.Int.{w8, cast_signed}
use Rattle.c_lexer.specs.declared.number.Suffix.{Suffix}
use Rattle.c_lexer.specs.declared.number.Suffix.TheVariants as suffix
use Rattle.c_lexer.specs.Numbers.{form_of, number_value}
use Rattle.c_lexer.specs.Literals.{literal_values}
use Rattle.c_tree.specs.Words as w
use Rattle.c_tree.specs.Forms as f
use Rattle.c_tree.specs.Tree.{Tree, Leaf, At, Node, none, ◌▹◌}
use Rattle.c_conditions.specs.declared.operand.Operand.{Operand}
use Rattle.c_conditions.specs.declared.operand.Operand.TheVariants.{Signed, Unsigned}
use Rattle.c_conditions.specs.Operands.{from}
use Rattle.c_conditions.specs.Operators.{binary, unary, choice}

-- a suffix with a `u`
abbrev pub has_u : Option Suffix → Bool
has_u (Some suffix.U) = true
has_u (Some suffix.Ul) = true
has_u (Some suffix.Ull) = true
has_u _ = false

-- a number from 0 on: unsigned where it is written so, or where no signed type holds it; missing where 64 bits do not hold it
abbrev pub number : Bool → ℕ → Operand
number is_unsigned n =
    if is_unsigned || not (nat_lt n (2 ^ 63))
    then Unsigned (if nat_lt n (2 ^ 64) then Some n else None)
    else Signed (Some (pos n))

-- an integer constant: all signed types act as intmax_t does, and all unsigned ones as uintmax_t (C99 6.4.4.1, 6.10.1)
abbrev pub int_constant : List ℕ → Operand
int_constant bytes = number (has_u (form_of bytes)) (number_value bytes)

-- a character constant: its byte as char (C99 6.4.4.4)
abbrev pub char_constant : List ℕ → Operand
char_constant bytes = Signed (Some (cast_signed w8 (slice_index (literal_values bytes) 0)))

-- the value of a tree, whose type it has wherever it stands; none where it has a form that has no place in a condition
unfoldable pub value : Tree → Option Operand
value (Node f.Int (At line ▹ Leaf (w.Int bytes) ▹ none)) = Some (int_constant bytes)
value (Node f.Char (At line ▹ Leaf (w.Char bytes) ▹ none)) = Some (char_constant bytes)
value (Node f.Paren (At line ▹ e ▹ none)) = value e
value (Node (f.Unary op) (At line ▹ e ▹ none)) = from (value e) (λ x. unary op x)
value (Node (f.Binary op) (At line ▹ e ▹ g ▹ none)) = from (value e) (λ x. from (value g) (λ y. Some (binary op x y)))
value (Node f.Cond (At line ▹ e ▹ g ▹ h ▹ none)) =
    from (value e) (λ test. from (value g) (λ x. from (value h) (λ y. Some (choice test x y))))
value tree = None
