-- Constant expressions that were worked out by hand from C99.
use Rattle.std.proofs.Common.{◌≡◌, ℕ, ℤ, pos, negsuc, List, [], ◌∷◌, Ok, Err, refl}
use Rattle.std.specs.Prelude.{codes}
use Rattle.c_types.specs.declared.types.IntType.{IntType}
use Rattle.c_types.specs.declared.types.IntType.TheVariants as i
use Rattle.std.specs.Int.{int_wrap}
use Rattle.c_types.specs.TagTable.{no_tags}
use Rattle.c_lexer.specs.Numbers.{base_of, digits_value, suffix_of, is_held}
use Rattle.c_lexer.specs.Literals.{values_from, character_length, escape_length, escape_value, is_simple_escape, simple_value}
use Rattle.c_lexer.specs.Bytes.{digit_value, is_digit, is_octal_digit, is_hexadecimal_digit}
use Rattle.c_tree.specs.declared.word.Keyword.TheVariants as k
use Rattle.c_tree.specs.declared.operator.UnaryOp.{UnaryOp}
use Rattle.c_tree.specs.declared.operator.UnaryOp.TheVariants as u
use Rattle.c_tree.specs.declared.operator.BinaryOp.{BinaryOp}
use Rattle.c_tree.specs.declared.operator.BinaryOp.TheVariants as b
use Rattle.c_tree.specs.declared.operator.RecordSort.TheVariants as r
use Rattle.c_tree.specs.Words as w
use Rattle.c_tree.specs.Forms as f
use Rattle.c_tree.specs.Tree.{Tree, Trees, Leaf, At, Node, none, ◌▹◌}
use Rattle.c_tree.specs.Scopes.{name_of}
use Rattle.c_decls.specs.declared.refusal.TypeKind.TheVariants.{Undeclared, Operands, Incomplete, NotConstant, Format}
use Rattle.c_decls.specs.declared.constant.Constant.{Constant}
use Rattle.c_decls.specs.Constants as constants
use Rattle.c_decls.specs.BuiltIns.{first_scopes}
use Rattle.c_decls.specs.Refusals.{Checked, refused}
use Rattle.c_decls.specs.Typed.{same}
use Rattle.c_decls.specs.Expressions.{line_of, typed, values, typename, layers, suffix_layers, suffix_layer, param_types, param_type, constant_value}
use Rattle.c_print.specs.Pieces.{pieces_of}

abbrev number : List ℕ → Tree
number bytes = Node f.Int (At 1 ▹ Leaf (w.Int bytes) ▹ none)

abbrev name : List ℕ → Tree
name bytes = Node f.Name (At 2 ▹ Leaf (w.Name bytes) ▹ none)

abbrev string : List ℕ → Tree
string bytes = Node f.Str (At 3 ▹ Node f.Strings (Leaf (w.Str bytes) ▹ none) ▹ none)

abbrev before : UnaryOp → Tree → Tree
before op e = Node (f.Unary op) (At 4 ▹ e ▹ none)

abbrev between : BinaryOp → Tree → Tree → Tree
between op e g = Node (f.Binary op) (At 5 ▹ e ▹ g ▹ none)

abbrev type_name : Trees → Tree → Tree
type_name words declarator = Node f.Typename (At 6 ▹ Node f.Specs (At 6 ▹ words) ▹ declarator ▹ none)

abbrev nothing : Tree
nothing = Node f.Direct (Node f.Nothing none ▹ Node f.Suffixes none ▹ none)

abbrev pointer : Tree → Tree
pointer declarator = Node (f.Pointer 0) (At 6 ▹ declarator ▹ none)

abbrev size_of : Trees → Tree → Tree
size_of words declarator = Node f.SizeofType (At 7 ▹ type_name words declarator ▹ none)

abbrev value : Tree → Checked Constant
value e = constant_value first_scopes no_tags e

abbrev is : IntType → ℤ → Checked Constant
is ty n = Ok (constants.typed ty n)

-- `2147483647 + 1` wraps
sum_wraps : value (between b.Add (number (codes "2147483647")) (number (codes "1"))) ≡ is i.Int (negsuc 2147483647)
unfolding int_wrap line_of typed values typename layers suffix_layers suffix_layer param_types param_type same name_of pieces_of base_of digits_value suffix_of digit_value is_digit is_octal_digit is_hexadecimal_digit values_from character_length escape_length escape_value is_simple_escape simple_value
sum_wraps = refl

-- `-1 > 0u` holds
unsigned_comparison : value (between b.Greater (before u.Minus (number (codes "1"))) (number (codes "0u"))) ≡ is i.Int (pos 1)
unfolding int_wrap line_of typed values typename layers suffix_layers suffix_layer param_types param_type same name_of pieces_of base_of digits_value suffix_of digit_value is_digit is_octal_digit is_hexadecimal_digit values_from character_length escape_length escape_value is_simple_escape simple_value
unsigned_comparison = refl

-- `1 || 1 / 0` is 1, `0 || 1 / 0` traps, and `1 || x` has a name without a declaration
not_evaluated : value (between b.Or (number (codes "1")) (between b.Divide (number (codes "1")) (number (codes "0")))) ≡ is i.Int (pos 1)
unfolding int_wrap line_of typed values typename layers suffix_layers suffix_layer param_types param_type same name_of pieces_of base_of digits_value suffix_of digit_value is_digit is_octal_digit is_hexadecimal_digit values_from character_length escape_length escape_value is_simple_escape simple_value
not_evaluated = refl

evaluated : value (between b.Or (number (codes "0")) (between b.Divide (number (codes "1")) (number (codes "0")))) ≡ refused NotConstant 5
unfolding int_wrap line_of typed values typename layers suffix_layers suffix_layer param_types param_type same name_of pieces_of base_of digits_value suffix_of digit_value is_digit is_octal_digit is_hexadecimal_digit values_from character_length escape_length escape_value is_simple_escape simple_value
evaluated = refl

undeclared : value (between b.Or (number (codes "1")) (name (codes "x"))) ≡ refused Undeclared 2
unfolding int_wrap line_of typed values typename layers suffix_layers suffix_layer param_types param_type same name_of pieces_of base_of digits_value suffix_of digit_value is_digit is_octal_digit is_hexadecimal_digit values_from character_length escape_length escape_value is_simple_escape simple_value
undeclared = refl

-- `1 << 32` traps, `0xffffffff` is unsigned
shift_traps : value (between b.ShiftLeft (number (codes "1")) (number (codes "32"))) ≡ refused NotConstant 5
unfolding int_wrap line_of typed values typename layers suffix_layers suffix_layer param_types param_type same name_of pieces_of base_of digits_value suffix_of digit_value is_digit is_octal_digit is_hexadecimal_digit values_from character_length escape_length escape_value is_simple_escape simple_value
shift_traps = refl

hexadecimal : value (number (codes "0xffffffff")) ≡ is i.UInt (pos 4294967295)
unfolding int_wrap line_of typed values typename layers suffix_layers suffix_layer param_types param_type same name_of pieces_of base_of digits_value suffix_of digit_value is_digit is_octal_digit is_hexadecimal_digit values_from character_length escape_length escape_value is_simple_escape simple_value
hexadecimal = refl

-- `sizeof(char *)` is 4u, `sizeof "ab"` is 3u, `sizeof(struct s)` is refused
size_of_pointer : value (size_of (Leaf (w.Key k.Char) ▹ none) (pointer nothing)) ≡ is i.UInt (pos 4)
unfolding int_wrap line_of typed values typename layers suffix_layers suffix_layer param_types param_type same name_of pieces_of base_of digits_value suffix_of digit_value is_digit is_octal_digit is_hexadecimal_digit values_from character_length escape_length escape_value is_simple_escape simple_value
size_of_pointer = refl

size_of_string : value (Node f.SizeofExpr (At 7 ▹ string (codes "\"ab\"") ▹ none)) ≡ is i.UInt (pos 3)
unfolding int_wrap line_of typed values typename layers suffix_layers suffix_layer param_types param_type same name_of pieces_of base_of digits_value suffix_of digit_value is_digit is_octal_digit is_hexadecimal_digit values_from character_length escape_length escape_value is_simple_escape simple_value
size_of_string = refl

size_of_unknown : value (size_of (Node (f.RecordTag r.Struct) (At 6 ▹ Leaf (w.Name (codes "s")) ▹ none) ▹ none) nothing) ≡ refused Incomplete 7
unfolding int_wrap line_of typed values typename layers suffix_layers suffix_layer param_types param_type same name_of pieces_of base_of digits_value suffix_of digit_value is_digit is_octal_digit is_hexadecimal_digit values_from character_length escape_length escape_value is_simple_escape simple_value
size_of_unknown = refl

-- `CHAR_BIT` is 8, `NULL` is no integer constant expression
built_in : value (name (codes "CHAR_BIT")) ≡ is i.Int (pos 8)
unfolding int_wrap line_of typed values typename layers suffix_layers suffix_layer param_types param_type same name_of pieces_of base_of digits_value suffix_of digit_value is_digit is_octal_digit is_hexadecimal_digit values_from character_length escape_length escape_value is_simple_escape simple_value
built_in = refl

null : value (name (codes "NULL")) ≡ refused NotConstant 2
unfolding int_wrap line_of typed values typename layers suffix_layers suffix_layer param_types param_type same name_of pieces_of base_of digits_value suffix_of digit_value is_digit is_octal_digit is_hexadecimal_digit values_from character_length escape_length escape_value is_simple_escape simple_value
null = refl

-- parentheses give no line
null_in_parentheses : value (Node f.Paren (At 9 ▹ name (codes "NULL") ▹ none)) ≡ refused NotConstant 2
unfolding int_wrap line_of typed values typename layers suffix_layers suffix_layer param_types param_type same name_of pieces_of base_of digits_value suffix_of digit_value is_digit is_octal_digit is_hexadecimal_digit values_from character_length escape_length escape_value is_simple_escape simple_value
null_in_parentheses = refl

-- `printf("%d")` wants an argument
format : value (Node f.Call (At 8 ▹ name (codes "printf") ▹ Node f.Arguments (string (codes "\"%d\"") ▹ none) ▹ none)) ≡ refused Format 8
unfolding int_wrap line_of typed values typename layers suffix_layers suffix_layer param_types param_type same name_of pieces_of base_of digits_value suffix_of digit_value is_digit is_octal_digit is_hexadecimal_digit values_from character_length escape_length escape_value is_simple_escape simple_value
format = refl
