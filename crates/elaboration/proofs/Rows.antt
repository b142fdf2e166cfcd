-- Texts whose core, or whose first refusal, was worked out by hand.
use Rattle.std.proofs.Common.{◌≡◌, ℕ, pos, List, [], ◌∷◌, Ok, refl}
use Rattle.std.specs.Prelude.{codes, map, true, false, Option, Some, None}
use Rattle.std.specs.Int.{int_wrap}
use Rattle.hs_base.specs.declared.ends.IntKind.TheVariants.{I32}
use Rattle.core_tree.specs.declared.program.Core.{Core}
use Rattle.core_tree.specs.declared.program.Static.{Static}
use Rattle.core_tree.specs.declared.program.Reg.{Reg as Register}
use Rattle.core_tree.specs.declared.statements.Atom.TheVariants as atom
use Rattle.core_tree.specs.declared.statements.BinOp.TheVariants as bin
use Rattle.core_tree.specs.declared.statements.CmpOp.TheVariants as cmp
use Rattle.core_tree.specs.declared.statements.Stm.{Stm}
use Rattle.core_tree.specs.declared.statements.StmKind.{StmKind}
use Rattle.core_tree.specs.declared.statements.StmKind.TheVariants.{Set, Bin, Pcmp, Zero, Loop, Return}
use Rattle.c_lexer.specs.Numbers.{base_of, digits_value, suffix_of}
use Rattle.c_lexer.specs.Literals.{values_from, character_length, escape_length, escape_value, is_simple_escape, simple_value}
use Rattle.c_lexer.specs.Bytes.{digit_value, is_digit, is_octal_digit, is_hexadecimal_digit}
use Rattle.c_tree.specs.declared.word.Keyword.TheVariants as k
use Rattle.c_tree.specs.declared.operator.UnaryOp.TheVariants as u
use Rattle.c_tree.specs.declared.operator.BinaryOp.TheVariants as b
use Rattle.c_tree.specs.declared.operator.AssignOp.TheVariants as a
use Rattle.c_tree.specs.declared.operator.RecordSort.TheVariants as r
use Rattle.c_tree.specs.Operators as o
use Rattle.c_tree.specs.Words as w
use Rattle.c_tree.specs.Forms as f
use Rattle.c_tree.specs.Grammar as g
use Rattle.c_tree.specs.Tree.{Tree, Trees, Leaf, At, Node, none, ◌▹◌}
use Rattle.c_tree.specs.Scopes as sc
use Rattle.c_decls.specs.declared.refusal.TypeKind.TheVariants.{Undeclared, StrayBreak, NoMain, PointerInUnion}
use Rattle.c_decls.specs.Refusals.{Checked, refused, then}
use Rattle.c_decls.specs.Typed.{same}
use Rattle.c_decls.specs.Expressions as x
use Rattle.c_print.specs.Pieces.{pieces_of}
use Rattle.elaboration.specs.Conversions as v
use Rattle.elaboration.specs.Operations as p
use Rattle.elaboration.specs.Calls as c
use Rattle.elaboration.specs.Reallocates as ra
use Rattle.elaboration.specs.Expressions as ex
use Rattle.elaboration.specs.Addressed as ad
use Rattle.elaboration.specs.Declarators as d
use Rattle.elaboration.specs.Initializers as i
use Rattle.elaboration.specs.Declarations as n
use Rattle.elaboration.specs.Statements as t
use Rattle.elaboration.specs.Externals as q
use Rattle.elaboration.specs.Resolving as z
use Rattle.elaboration.specs.Elaboration.{elaborated}

-- trees

abbrev name : ℕ → List ℕ → Tree
name line bytes = Node f.Name (At line ▹ Leaf (w.Name bytes) ▹ none)

abbrev number : ℕ → List ℕ → Tree
number line bytes = Node f.Int (At line ▹ Leaf (w.Int bytes) ▹ none)

abbrev int_specs : ℕ → Tree
int_specs line = Node f.Specs (At line ▹ Leaf (w.Key k.Int) ▹ none)

abbrev named : List ℕ → Trees → Tree
named bytes suffixes = Node f.Direct (Leaf (w.Name bytes) ▹ Node f.Suffixes suffixes ▹ none)

abbrev pointer : ℕ → Tree → Tree
pointer line declarator = Node (f.Pointer 0) (At line ▹ declarator ▹ none)

-- `int DECLARATOR = e;` and `int DECLARATOR;` in a block
abbrev local : ℕ → Tree → Trees → Tree
local line declarator inits =
    Node f.Local (At line ▹ int_specs line ▹ Node f.Names (Node f.Entry (Node f.Declared (declarator ▹ none) ▹ Node f.MaybeInit inits ▹ none) ▹ none) ▹ none)

abbrev init : ℕ → Tree → Trees
init line e = Node f.InitExpr (At line ▹ e ▹ none) ▹ none

abbrev statement : ℕ → Tree → Tree
statement line e = Node f.Expr (At line ▹ e ▹ none)

abbrev return : ℕ → Tree → Tree
return line e = Node f.Return (At line ▹ Node f.MaybeExpr (e ▹ none) ▹ none)

-- `int DECLARATOR` in a parameter list
abbrev param : ℕ → Tree → Tree
param line declarator = Node f.Param (At line ▹ int_specs line ▹ declarator ▹ none)

-- `int main(void) { .. }` from line 1 to a line
abbrev main : ℕ → Trees → Trees
main end parts =
    Node f.Function (At 1 ▹ int_specs 1 ▹ Node f.Declared (named (codes "main") (Node f.VoidSuffix (At 1 ▹ none) ▹ none) ▹ none) ▹ Node f.Body (Node f.Items parts ▹ At end ▹ none) ▹ none) ▹ none

-- cores

abbrev at : ℕ → StmKind → Stm
at line kind = record { line = line; kind = kind }

abbrev whole : Option (List ℕ) → Register
whole of_name = record { name = of_name; pointer = false }

abbrev address : Option (List ℕ) → Register
address of_name = record { name = of_name; pointer = true }

-- a core of a function `main` of line 1 with these registers
abbrev core : List Register → List Stm → Core
core regs body = record {
  statics = [];
  funcs = (record { name = codes "main"; line = 1; params = 0; regs = regs; mems = []; body = body; formats = [] }) ∷ [];
}

abbrev answer : Trees → Checked Core
answer unit = then (elaborated unit) (λ y. Ok y.0)

-- `int main(void){int x=3;while(x)x=x-1;return x;}`
countdown : answer (main 1 (local 1 (named (codes "x") none) (init 1 (number 1 (codes "3"))) ▹ Node f.While (At 1 ▹ name 1 (codes "x") ▹ statement 1 (Node (f.Assign a.Plain) (At 1 ▹ name 1 (codes "x") ▹ Node (f.Binary b.Subtract) (At 1 ▹ name 1 (codes "x") ▹ number 1 (codes "1") ▹ none) ▹ none)) ▹ none) ▹ return 1 (name 1 (codes "x")) ▹ none))
    ≡ Ok (core (whole (Some (codes "x")) ∷ whole None ∷ whole None ∷ []) (at 1 (Set 0 (atom.Int (pos 3))) ∷ at 1 (Set 1 (atom.Reg 0)) ∷ at 1 (Zero (atom.Reg 1) 7) ∷ at 1 (Set 1 (atom.Reg 0)) ∷ at 1 (Bin bin.Sub I32 2 (atom.Reg 1) (atom.Int (pos 1))) ∷ at 1 (Set 0 (atom.Reg 2)) ∷ at 1 (Loop 1) ∷ at 1 (Set 1 (atom.Reg 0)) ∷ at 1 (Return (Some (atom.Reg 1))) ∷ at 1 (Return (Some (atom.Int (pos 0)))) ∷ []))
unfolding int_wrap base_of digits_value suffix_of digit_value is_digit is_octal_digit is_hexadecimal_digit same pieces_of x.typed x.values x.typename x.layers x.suffix_layers x.suffix_layer x.param_types x.param_type sc.leads_to_name sc.name_of sc.name_among sc.has_typedef sc.is_scope sc.suffix_params sc.params_of sc.params_among g.shape o.unary_sign o.binary_sign o.assign_sign o.record_word o.operand_level x.line_of v.read_spot v.convert_integer v.tested v.write p.working p.operator_of p.before_integer p.move_pointer p.fixed_sum p.offset_of c.element_layout c.lib_name c.call_built_in ra.reallocates ra.any_reallocates ex.found ex.arguments ad.left ad.plain_name ad.taken ad.all_taken d.specs d.words_type d.tag_type d.members d.member_names d.enumerators d.layers d.suffix_layers d.suffix_layer d.params i.parts_of i.surplus i.all_surplus i.initialize i.initialize_parts n.entries n.declaration t.statement t.items q.external q.externals z.numbered
countdown = refl

-- a null pointer constant has no code beside a pointer, on either side: line 2 `int *p;`, line 3 `return 1 - 1 == p;`
null_beside_pointer : answer (main 4 (local 2 (pointer 2 (named (codes "p") none)) none ▹ return 3 (Node (f.Binary b.Equal) (At 3 ▹ Node (f.Binary b.Subtract) (At 3 ▹ number 3 (codes "1") ▹ number 3 (codes "1") ▹ none) ▹ name 3 (codes "p") ▹ none)) ▹ none))
    ≡ Ok (core (address (Some (codes "p")) ∷ whole None ∷ address None ∷ []) (at 2 (Set 0 atom.Null) ∷ at 3 (Set 2 (atom.Reg 0)) ∷ at 3 (Pcmp cmp.Eq 1 atom.Null (atom.Reg 2)) ∷ at 3 (Return (Some (atom.Reg 1))) ∷ at 4 (Return (Some (atom.Int (pos 0)))) ∷ []))
unfolding int_wrap base_of digits_value suffix_of digit_value is_digit is_octal_digit is_hexadecimal_digit same pieces_of x.typed x.values x.typename x.layers x.suffix_layers x.suffix_layer x.param_types x.param_type sc.leads_to_name sc.name_of sc.name_among sc.has_typedef sc.is_scope sc.suffix_params sc.params_of sc.params_among g.shape o.unary_sign o.binary_sign o.assign_sign o.record_word o.operand_level x.line_of v.read_spot v.convert_integer v.tested v.write p.working p.operator_of p.before_integer p.move_pointer p.fixed_sum p.offset_of c.element_layout c.lib_name c.call_built_in ra.reallocates ra.any_reallocates ex.found ex.arguments ad.left ad.plain_name ad.taken ad.all_taken d.specs d.words_type d.tag_type d.members d.member_names d.enumerators d.layers d.suffix_layers d.suffix_layer d.params i.parts_of i.surplus i.all_surplus i.initialize i.initialize_parts n.entries n.declaration t.statement t.items q.external q.externals z.numbered
null_beside_pointer = refl

-- the empty text
empty : answer none ≡ refused NoMain 1
unfolding int_wrap base_of digits_value suffix_of digit_value is_digit is_octal_digit is_hexadecimal_digit same pieces_of x.typed x.values x.typename x.layers x.suffix_layers x.suffix_layer x.param_types x.param_type sc.leads_to_name sc.name_of sc.name_among sc.has_typedef sc.is_scope sc.suffix_params sc.params_of sc.params_among g.shape o.unary_sign o.binary_sign o.assign_sign o.record_word o.operand_level x.line_of v.read_spot v.convert_integer v.tested v.write p.working p.operator_of p.before_integer p.move_pointer p.fixed_sum p.offset_of c.element_layout c.lib_name c.call_built_in ra.reallocates ra.any_reallocates ex.found ex.arguments ad.left ad.plain_name ad.taken ad.all_taken d.specs d.words_type d.tag_type d.members d.member_names d.enumerators d.layers d.suffix_layers d.suffix_layer d.params i.parts_of i.surplus i.all_surplus i.initialize i.initialize_parts n.entries n.declaration t.statement t.items q.external q.externals z.numbered
empty = refl

-- a name of line 2 that is not declared, in front of a `break` of line 3 that stands in no loop; and that one alone
undeclared : answer (main 4 (statement 2 (name 2 (codes "x")) ▹ Node f.Break (At 3 ▹ none) ▹ none)) ≡ refused Undeclared 2
unfolding int_wrap base_of digits_value suffix_of digit_value is_digit is_octal_digit is_hexadecimal_digit same pieces_of x.typed x.values x.typename x.layers x.suffix_layers x.suffix_layer x.param_types x.param_type sc.leads_to_name sc.name_of sc.name_among sc.has_typedef sc.is_scope sc.suffix_params sc.params_of sc.params_among g.shape o.unary_sign o.binary_sign o.assign_sign o.record_word o.operand_level x.line_of v.read_spot v.convert_integer v.tested v.write p.working p.operator_of p.before_integer p.move_pointer p.fixed_sum p.offset_of c.element_layout c.lib_name c.call_built_in ra.reallocates ra.any_reallocates ex.found ex.arguments ad.left ad.plain_name ad.taken ad.all_taken d.specs d.words_type d.tag_type d.members d.member_names d.enumerators d.layers d.suffix_layers d.suffix_layer d.params i.parts_of i.surplus i.all_surplus i.initialize i.initialize_parts n.entries n.declaration t.statement t.items q.external q.externals z.numbered
undeclared = refl

stray_break : answer (main 4 (Node f.Break (At 3 ▹ none) ▹ none)) ≡ refused StrayBreak 3
unfolding int_wrap base_of digits_value suffix_of digit_value is_digit is_octal_digit is_hexadecimal_digit same pieces_of x.typed x.values x.typename x.layers x.suffix_layers x.suffix_layer x.param_types x.param_type sc.leads_to_name sc.name_of sc.name_among sc.has_typedef sc.is_scope sc.suffix_params sc.params_of sc.params_among g.shape o.unary_sign o.binary_sign o.assign_sign o.record_word o.operand_level x.line_of v.read_spot v.convert_integer v.tested v.write p.working p.operator_of p.before_integer p.move_pointer p.fixed_sum p.offset_of c.element_layout c.lib_name c.call_built_in ra.reallocates ra.any_reallocates ex.found ex.arguments ad.left ad.plain_name ad.taken ad.all_taken d.specs d.words_type d.tag_type d.members d.member_names d.enumerators d.layers d.suffix_layers d.suffix_layer d.params i.parts_of i.surplus i.all_surplus i.initialize i.initialize_parts n.entries n.declaration t.statement t.items q.external q.externals z.numbered
stray_break = refl

-- line 1 `union u { int n; int *p; };`
pointer_in_union : answer (Node f.Declaration (At 1 ▹ Node f.Specs (At 1 ▹ Node (f.RecordBody r.Union) (At 1 ▹ Node f.MaybeName (Leaf (w.Name (codes "u")) ▹ none) ▹ Node f.Members (Node f.Member (At 1 ▹ int_specs 1 ▹ Node f.MemberNames (named (codes "n") none ▹ none) ▹ none) ▹ Node f.Member (At 1 ▹ int_specs 1 ▹ Node f.MemberNames (pointer 1 (named (codes "p") none) ▹ none) ▹ none) ▹ none) ▹ none) ▹ none) ▹ Node f.Names none ▹ none) ▹ main 2 none)
    ≡ refused PointerInUnion 1
unfolding int_wrap base_of digits_value suffix_of digit_value is_digit is_octal_digit is_hexadecimal_digit same pieces_of x.typed x.values x.typename x.layers x.suffix_layers x.suffix_layer x.param_types x.param_type sc.leads_to_name sc.name_of sc.name_among sc.has_typedef sc.is_scope sc.suffix_params sc.params_of sc.params_among g.shape o.unary_sign o.binary_sign o.assign_sign o.record_word o.operand_level x.line_of v.read_spot v.convert_integer v.tested v.write p.working p.operator_of p.before_integer p.move_pointer p.fixed_sum p.offset_of c.element_layout c.lib_name c.call_built_in ra.reallocates ra.any_reallocates ex.found ex.arguments ad.left ad.plain_name ad.taken ad.all_taken d.specs d.words_type d.tag_type d.members d.member_names d.enumerators d.layers d.suffix_layers d.suffix_layer d.params i.parts_of i.surplus i.all_surplus i.initialize i.initialize_parts n.entries n.declaration t.statement t.items q.external q.externals z.numbered
pointer_in_union = refl

-- a function that is called in line 2 and declared in line 1, but defined nowhere: `int f(void);`
undefined : answer (Node f.Declaration (At 1 ▹ int_specs 1 ▹ Node f.Names (Node f.Entry (Node f.Declared (named (codes "f") (Node f.VoidSuffix (At 1 ▹ none) ▹ none) ▹ none) ▹ Node f.MaybeInit none ▹ none) ▹ none) ▹ none) ▹ main 3 (statement 2 (Node f.Call (At 2 ▹ name 2 (codes "f") ▹ Node f.Arguments none ▹ none)) ▹ none))
    ≡ refused Undeclared 2
unfolding int_wrap base_of digits_value suffix_of digit_value is_digit is_octal_digit is_hexadecimal_digit same pieces_of x.typed x.values x.typename x.layers x.suffix_layers x.suffix_layer x.param_types x.param_type sc.leads_to_name sc.name_of sc.name_among sc.has_typedef sc.is_scope sc.suffix_params sc.params_of sc.params_among g.shape o.unary_sign o.binary_sign o.assign_sign o.record_word o.operand_level x.line_of v.read_spot v.convert_integer v.tested v.write p.working p.operator_of p.before_integer p.move_pointer p.fixed_sum p.offset_of c.element_layout c.lib_name c.call_built_in ra.reallocates ra.any_reallocates ex.found ex.arguments ad.left ad.plain_name ad.taken ad.all_taken d.specs d.words_type d.tag_type d.members d.member_names d.enumerators d.layers d.suffix_layers d.suffix_layer d.params i.parts_of i.surplus i.all_surplus i.initialize i.initialize_parts n.entries n.declaration t.statement t.items q.external q.externals z.numbered
undefined = refl

-- the parameters of a prototype make no register and no memory local, and an address that is taken among them makes none of
-- what is declared behind: `int main(void){typedef int f(int a, int b[sizeof &a]);int x=2;return x;}`
prototype : answer (main 1 (Node f.Local (At 1 ▹ Node f.Specs (At 1 ▹ Leaf (w.Key k.Typedef) ▹ Leaf (w.Key k.Int) ▹ none) ▹ Node f.Names (Node f.Entry (Node f.Declared (named (codes "f") (Node f.FunctionSuffix (At 1 ▹ Node f.Params (param 1 (named (codes "a") none) ▹ param 1 (named (codes "b") (Node f.ArraySuffix (At 1 ▹ Node f.MaybeLength (Node f.SizeofExpr (At 1 ▹ Node (f.Unary u.Address) (At 1 ▹ name 1 (codes "a") ▹ none) ▹ none) ▹ none) ▹ none) ▹ none)) ▹ none) ▹ none) ▹ none) ▹ none) ▹ Node f.MaybeInit none ▹ none) ▹ none) ▹ none) ▹ local 1 (named (codes "x") none) (init 1 (number 1 (codes "2"))) ▹ return 1 (name 1 (codes "x")) ▹ none))
    ≡ Ok (core (whole (Some (codes "x")) ∷ whole None ∷ []) (at 1 (Set 0 (atom.Int (pos 2))) ∷ at 1 (Set 1 (atom.Reg 0)) ∷ at 1 (Return (Some (atom.Reg 1))) ∷ at 1 (Return (Some (atom.Int (pos 0)))) ∷ []))
unfolding int_wrap base_of digits_value suffix_of digit_value is_digit is_octal_digit is_hexadecimal_digit same pieces_of x.typed x.values x.typename x.layers x.suffix_layers x.suffix_layer x.param_types x.param_type sc.leads_to_name sc.name_of sc.name_among sc.has_typedef sc.is_scope sc.suffix_params sc.params_of sc.params_among g.shape o.unary_sign o.binary_sign o.assign_sign o.record_word o.operand_level x.line_of v.read_spot v.convert_integer v.tested v.write p.working p.operator_of p.before_integer p.move_pointer p.fixed_sum p.offset_of c.element_layout c.lib_name c.call_built_in ra.reallocates ra.any_reallocates ex.found ex.arguments ad.left ad.plain_name ad.taken ad.all_taken d.specs d.words_type d.tag_type d.members d.member_names d.enumerators d.layers d.suffix_layers d.suffix_layer d.params i.parts_of i.surplus i.all_surplus i.initialize i.initialize_parts n.entries n.declaration t.statement t.items q.external q.externals z.numbered
prototype = refl

-- what statics hold first

-- `int DECLARATOR = INIT;` and `char DECLARATOR = INIT;` at file scope
abbrev variable : ℕ → Tree → Tree → Tree → Tree
variable line specs declarator start =
    Node f.Declaration (At line ▹ specs ▹ Node f.Names (Node f.Entry (Node f.Declared (declarator ▹ none) ▹ Node f.MaybeInit (start ▹ none) ▹ none) ▹ none) ▹ none)

abbrev char_specs : ℕ → Tree
char_specs line = Node f.Specs (At line ▹ Leaf (w.Key k.Char) ▹ none)

abbrev by_expression : ℕ → Tree → Tree
by_expression line e = Node f.InitExpr (At line ▹ e ▹ none)

-- what each static holds first: its bytes and its pointers
abbrev starts : Trees → Checked (List (List ℕ × List (ℕ × ℕ × ℕ)))
starts unit = then (elaborated unit) (λ y. Ok (map (λ (s : Static). (s.start.bytes, s.start.pointers)) y.0.statics))

-- `int a[] = {258, -1};`, `int *q = &a[1];`, `char *p = "ab" + 1;`: the literal is a static behind the variables
statics : starts (variable 1 (int_specs 1) (named (codes "a") (Node f.ArraySuffix (At 1 ▹ Node f.MaybeLength none ▹ none) ▹ none)) (Node (f.InitList false) (At 1 ▹ Node f.Inits (by_expression 1 (number 1 (codes "258")) ▹ by_expression 1 (Node (f.Unary u.Minus) (At 1 ▹ number 1 (codes "1") ▹ none)) ▹ none) ▹ none)) ▹ variable 2 (int_specs 2) (pointer 2 (named (codes "q") none)) (by_expression 2 (Node (f.Unary u.Address) (At 2 ▹ Node f.Index (At 2 ▹ name 2 (codes "a") ▹ number 2 (codes "1") ▹ none) ▹ none))) ▹ variable 3 (char_specs 3) (pointer 3 (named (codes "p") none)) (by_expression 3 (Node (f.Binary b.Add) (At 3 ▹ Node f.Str (At 3 ▹ Node f.Strings (Leaf (w.Str (codes "\"ab\"")) ▹ none) ▹ none) ▹ number 3 (codes "1") ▹ none))) ▹ main 4 none)
    ≡ Ok ((2 ∷ 1 ∷ 0 ∷ 0 ∷ 255 ∷ 255 ∷ 255 ∷ 255 ∷ [], []) ∷ ([], (0, 0, 4) ∷ []) ∷ ([], (0, 3, 1) ∷ []) ∷ (97 ∷ 98 ∷ [], []) ∷ [])
unfolding int_wrap base_of digits_value suffix_of values_from character_length escape_length escape_value is_simple_escape simple_value digit_value is_digit is_octal_digit is_hexadecimal_digit same pieces_of x.typed x.values x.typename x.layers x.suffix_layers x.suffix_layer x.param_types x.param_type sc.leads_to_name sc.name_of sc.name_among sc.has_typedef sc.is_scope sc.suffix_params sc.params_of sc.params_among g.shape o.unary_sign o.binary_sign o.assign_sign o.record_word o.operand_level x.line_of v.read_spot v.convert_integer v.tested v.write p.working p.operator_of p.before_integer p.move_pointer p.fixed_sum p.offset_of c.element_layout c.lib_name c.call_built_in ra.reallocates ra.any_reallocates ex.found ex.arguments ad.left ad.plain_name ad.taken ad.all_taken d.specs d.words_type d.tag_type d.members d.member_names d.enumerators d.layers d.suffix_layers d.suffix_layer d.params i.parts_of i.surplus i.all_surplus i.initialize i.initialize_parts n.entries n.declaration t.statement t.items q.external q.externals z.numbered
statics = refl
