-- The text of each expression and declarator, as it is written: its words and parts one behind another.
use Rattle.std.proofs.Common.{◌≡◌, ℕ, Bool, true, false, List, ◌++◌, Option, option_map, Box, Vec, Global, ap, sym, ◌∙◌}
use Rattle.c_tree.specs.declared.operator.UnaryOp.{UnaryOp}
use Rattle.c_tree.specs.declared.operator.BinaryOp.{BinaryOp}
use Rattle.c_tree.specs.declared.operator.AssignOp.{AssignOp}
use Rattle.c_tree.specs.declared.operator.RecordSort.{RecordSort}
use Rattle.c_tree.specs.declared.tree.Expr.{Expr}
use Rattle.c_tree.specs.declared.tree.TypeName.{TypeName}
use Rattle.c_tree.specs.declared.tree.ExprKind.TheVariants as x
use Rattle.c_tree.specs.declared.tree.Tag.{Tag}
use Rattle.c_tree.specs.declared.tree.TagKind.TheVariants as t
use Rattle.c_tree.specs.declared.tree.Member.{Member}
use Rattle.c_tree.specs.declared.tree.Enumerator.{Enumerator}
use Rattle.c_tree.specs.declared.tree.Declarator.{Declarator}
use Rattle.c_tree.specs.declared.tree.Declarator.TheVariants as dv
use Rattle.c_tree.specs.declared.tree.Base.{Base}
use Rattle.c_tree.specs.declared.tree.Base.TheVariants as bv
use Rattle.c_tree.specs.declared.tree.Suffix.{Suffix}
use Rattle.c_tree.specs.declared.tree.SuffixKind.TheVariants as sv
use Rattle.c_tree.specs.declared.tree.Param.{Param}
use Rattle.c_tree.specs.declared.word.Keyword.TheVariants as k
use Rattle.c_tree.specs.declared.word.Sign.TheVariants as s
use Rattle.c_tree.specs.Words.{Key, Mark}
use Rattle.c_tree.specs.Words as w
use Rattle.c_tree.specs.Operators.{unary_sign, binary_sign, assign_sign, record_word}
use Rattle.c_tree.specs.Forms as f
use Rattle.c_tree.specs.Tree.{Leaf, At, Node, none, ◌▹◌}
use Rattle.c_tree.specs.Grammar.{shape}
use Rattle.c_tree.specs.Canonical.{word_text, tree_text}
use Rattle.c_tree.specs.View.{expr_tree, tag_tree, declarator_tree, base_tree, suffix_tree, enumerator_tree, maybe_name, literal_leaves}
use Rattle.c_tree.specs.StatementView.{trees, maybe, expr_view, typename_view, tag_view, member_view, suffix_view, param_view}
use Rattle.c_tree.proofs.Texts.{node_written}
use Rattle.c_tree.specs.ViewEquations.{call_tree, sizeof_type_tree, cast_tree, record_body_tree, direct_tree, array_tree, params_tree}

pub name_text : (e : Expr) (bytes : List ℕ) (out : List ℕ) → e.kind ≡ x.Name bytes →
    out ++ tree_text (Leaf (w.Name bytes)) ≡ out ++ tree_text (expr_view e)
unfolding expr_tree shape
name_text e bytes out h =
    sym (ap (λ kind. out ++ tree_text (expr_tree kind e.line)) h ∙ node_written f.Name (At e.line ▹ Leaf (w.Name bytes) ▹ none) out)

pub int_text : (e : Expr) (bytes : List ℕ) (out : List ℕ) → e.kind ≡ x.Int bytes →
    out ++ tree_text (Leaf (w.Int bytes)) ≡ out ++ tree_text (expr_view e)
unfolding expr_tree shape
int_text e bytes out h =
    sym (ap (λ kind. out ++ tree_text (expr_tree kind e.line)) h ∙ node_written f.Int (At e.line ▹ Leaf (w.Int bytes) ▹ none) out)

pub char_text : (e : Expr) (bytes : List ℕ) (out : List ℕ) → e.kind ≡ x.Char bytes →
    out ++ tree_text (Leaf (w.Char bytes)) ≡ out ++ tree_text (expr_view e)
unfolding expr_tree shape
char_text e bytes out h =
    sym (ap (λ kind. out ++ tree_text (expr_tree kind e.line)) h ∙ node_written f.Char (At e.line ▹ Leaf (w.Char bytes) ▹ none) out)

pub str_text : (e : Expr) (parts : List (List ℕ)) (out : List ℕ) → e.kind ≡ x.Str parts →
    out ++ tree_text (Node f.Strings (literal_leaves parts)) ≡ out ++ tree_text (expr_view e)
unfolding expr_tree shape
str_text e parts out h =
    sym (ap (λ kind. out ++ tree_text (expr_tree kind e.line)) h ∙ node_written f.Str (At e.line ▹ Node f.Strings (literal_leaves parts) ▹ none) out)

pub paren_text : (e : Expr) (inner : Box Expr Global) (out : List ℕ) → e.kind ≡ x.Paren inner →
    ((out ++ word_text (Mark s.LeftParen)) ++ tree_text (expr_view inner.value)) ++ word_text (Mark s.RightParen) ≡ out ++ tree_text (expr_view e)
unfolding expr_tree shape
paren_text e inner out h =
    sym (ap (λ kind. out ++ tree_text (expr_tree kind e.line)) h ∙ node_written f.Paren (At e.line ▹ expr_view inner.value ▹ none) out)

pub index_text : (e : Expr) (array : Box Expr Global) (index : Box Expr Global) (out : List ℕ) → e.kind ≡ x.Index array index →
    (((out ++ tree_text (expr_view array.value)) ++ word_text (Mark s.LeftBracket)) ++ tree_text (expr_view index.value)) ++ word_text (Mark s.RightBracket) ≡ out ++ tree_text (expr_view e)
unfolding expr_tree shape
index_text e array index out h =
    sym (ap (λ kind. out ++ tree_text (expr_tree kind e.line)) h ∙ node_written f.Index (At e.line ▹ expr_view array.value ▹ expr_view index.value ▹ none) out)

pub call_text : (e : Expr) (callee : Box Expr Global) (arguments : Vec Expr Global) (out : List ℕ) → e.kind ≡ x.Call callee arguments →
    (((out ++ tree_text (expr_view callee.value)) ++ word_text (Mark s.LeftParen)) ++ tree_text (Node f.Arguments (trees expr_view arguments.items))) ++ word_text (Mark s.RightParen) ≡ out ++ tree_text (expr_view e)
unfolding shape
call_text e callee arguments out h =
    sym (ap (λ kind. out ++ tree_text (expr_tree kind e.line)) h ∙ ap (λ t. out ++ tree_text t) (call_tree callee arguments e.line) ∙ node_written f.Call (At e.line ▹ expr_view callee.value ▹ Node f.Arguments (trees expr_view arguments.items) ▹ none) out)

pub dot_text : (e : Expr) (whole : Box Expr Global) (name : List ℕ) (out : List ℕ) → e.kind ≡ x.Dot whole name →
    ((out ++ tree_text (expr_view whole.value)) ++ word_text (Mark s.Dot)) ++ tree_text (Leaf (w.Name name)) ≡ out ++ tree_text (expr_view e)
unfolding expr_tree shape
dot_text e whole name out h =
    sym (ap (λ kind. out ++ tree_text (expr_tree kind e.line)) h ∙ node_written f.Dot (At e.line ▹ expr_view whole.value ▹ Leaf (w.Name name) ▹ none) out)

pub arrow_text : (e : Expr) (pointer : Box Expr Global) (name : List ℕ) (out : List ℕ) → e.kind ≡ x.Arrow pointer name →
    ((out ++ tree_text (expr_view pointer.value)) ++ word_text (Mark s.Arrow)) ++ tree_text (Leaf (w.Name name)) ≡ out ++ tree_text (expr_view e)
unfolding expr_tree shape
arrow_text e pointer name out h =
    sym (ap (λ kind. out ++ tree_text (expr_tree kind e.line)) h ∙ node_written f.Arrow (At e.line ▹ expr_view pointer.value ▹ Leaf (w.Name name) ▹ none) out)

pub post_inc_text : (e : Expr) (operand : Box Expr Global) (out : List ℕ) → e.kind ≡ x.PostInc operand →
    (out ++ tree_text (expr_view operand.value)) ++ word_text (Mark s.PlusPlus) ≡ out ++ tree_text (expr_view e)
unfolding expr_tree shape
post_inc_text e operand out h =
    sym (ap (λ kind. out ++ tree_text (expr_tree kind e.line)) h ∙ node_written f.PostInc (At e.line ▹ expr_view operand.value ▹ none) out)

pub post_dec_text : (e : Expr) (operand : Box Expr Global) (out : List ℕ) → e.kind ≡ x.PostDec operand →
    (out ++ tree_text (expr_view operand.value)) ++ word_text (Mark s.MinusMinus) ≡ out ++ tree_text (expr_view e)
unfolding expr_tree shape
post_dec_text e operand out h =
    sym (ap (λ kind. out ++ tree_text (expr_tree kind e.line)) h ∙ node_written f.PostDec (At e.line ▹ expr_view operand.value ▹ none) out)

pub pre_inc_text : (e : Expr) (operand : Box Expr Global) (out : List ℕ) → e.kind ≡ x.PreInc operand →
    (out ++ word_text (Mark s.PlusPlus)) ++ tree_text (expr_view operand.value) ≡ out ++ tree_text (expr_view e)
unfolding expr_tree shape
pre_inc_text e operand out h =
    sym (ap (λ kind. out ++ tree_text (expr_tree kind e.line)) h ∙ node_written f.PreInc (At e.line ▹ expr_view operand.value ▹ none) out)

pub pre_dec_text : (e : Expr) (operand : Box Expr Global) (out : List ℕ) → e.kind ≡ x.PreDec operand →
    (out ++ word_text (Mark s.MinusMinus)) ++ tree_text (expr_view operand.value) ≡ out ++ tree_text (expr_view e)
unfolding expr_tree shape
pre_dec_text e operand out h =
    sym (ap (λ kind. out ++ tree_text (expr_tree kind e.line)) h ∙ node_written f.PreDec (At e.line ▹ expr_view operand.value ▹ none) out)

pub unary_text : (e : Expr) (op : UnaryOp) (operand : Box Expr Global) (out : List ℕ) → e.kind ≡ x.Unary op operand →
    (out ++ word_text (Mark (unary_sign op))) ++ tree_text (expr_view operand.value) ≡ out ++ tree_text (expr_view e)
unfolding expr_tree shape
unary_text e op operand out h =
    sym (ap (λ kind. out ++ tree_text (expr_tree kind e.line)) h ∙ node_written (f.Unary op) (At e.line ▹ expr_view operand.value ▹ none) out)

pub sizeof_expr_text : (e : Expr) (operand : Box Expr Global) (out : List ℕ) → e.kind ≡ x.SizeofExpr operand →
    (out ++ word_text (Key k.Sizeof)) ++ tree_text (expr_view operand.value) ≡ out ++ tree_text (expr_view e)
unfolding expr_tree shape
sizeof_expr_text e operand out h =
    sym (ap (λ kind. out ++ tree_text (expr_tree kind e.line)) h ∙ node_written f.SizeofExpr (At e.line ▹ expr_view operand.value ▹ none) out)

pub sizeof_type_text : (e : Expr) (typename : Box TypeName Global) (out : List ℕ) → e.kind ≡ x.SizeofType typename →
    (((out ++ word_text (Key k.Sizeof)) ++ word_text (Mark s.LeftParen)) ++ tree_text (typename_view typename.value)) ++ word_text (Mark s.RightParen) ≡ out ++ tree_text (expr_view e)
unfolding shape
sizeof_type_text e typename out h =
    sym (ap (λ kind. out ++ tree_text (expr_tree kind e.line)) h ∙ ap (λ t. out ++ tree_text t) (sizeof_type_tree typename e.line) ∙ node_written f.SizeofType (At e.line ▹ typename_view typename.value ▹ none) out)

pub cast_text : (e : Expr) (typename : Box TypeName Global) (operand : Box Expr Global) (out : List ℕ) → e.kind ≡ x.Cast typename operand →
    (((out ++ word_text (Mark s.LeftParen)) ++ tree_text (typename_view typename.value)) ++ word_text (Mark s.RightParen)) ++ tree_text (expr_view operand.value) ≡ out ++ tree_text (expr_view e)
unfolding shape
cast_text e typename operand out h =
    sym (ap (λ kind. out ++ tree_text (expr_tree kind e.line)) h ∙ ap (λ t. out ++ tree_text t) (cast_tree typename operand e.line) ∙ node_written f.Cast (At e.line ▹ typename_view typename.value ▹ expr_view operand.value ▹ none) out)

pub binary_text : (e : Expr) (op : BinaryOp) (left : Box Expr Global) (right : Box Expr Global) (out : List ℕ) → e.kind ≡ x.Binary op left right →
    ((out ++ tree_text (expr_view left.value)) ++ word_text (Mark (binary_sign op))) ++ tree_text (expr_view right.value) ≡ out ++ tree_text (expr_view e)
unfolding expr_tree shape
binary_text e op left right out h =
    sym (ap (λ kind. out ++ tree_text (expr_tree kind e.line)) h ∙ node_written (f.Binary op) (At e.line ▹ expr_view left.value ▹ expr_view right.value ▹ none) out)

pub cond_text : (e : Expr) (test : Box Expr Global) (first : Box Expr Global) (second : Box Expr Global) (out : List ℕ) → e.kind ≡ x.Cond test first second →
    ((((out ++ tree_text (expr_view test.value)) ++ word_text (Mark s.Question)) ++ tree_text (expr_view first.value)) ++ word_text (Mark s.Colon)) ++ tree_text (expr_view second.value) ≡ out ++ tree_text (expr_view e)
unfolding expr_tree shape
cond_text e test first second out h =
    sym (ap (λ kind. out ++ tree_text (expr_tree kind e.line)) h ∙ node_written f.Cond (At e.line ▹ expr_view test.value ▹ expr_view first.value ▹ expr_view second.value ▹ none) out)

pub assign_text : (e : Expr) (op : AssignOp) (left : Box Expr Global) (right : Box Expr Global) (out : List ℕ) → e.kind ≡ x.Assign op left right →
    ((out ++ tree_text (expr_view left.value)) ++ word_text (Mark (assign_sign op))) ++ tree_text (expr_view right.value) ≡ out ++ tree_text (expr_view e)
unfolding expr_tree shape
assign_text e op left right out h =
    sym (ap (λ kind. out ++ tree_text (expr_tree kind e.line)) h ∙ node_written (f.Assign op) (At e.line ▹ expr_view left.value ▹ expr_view right.value ▹ none) out)

pub comma_text : (e : Expr) (left : Box Expr Global) (right : Box Expr Global) (out : List ℕ) → e.kind ≡ x.Comma left right →
    ((out ++ tree_text (expr_view left.value)) ++ word_text (Mark s.Comma)) ++ tree_text (expr_view right.value) ≡ out ++ tree_text (expr_view e)
unfolding expr_tree shape
comma_text e left right out h =
    sym (ap (λ kind. out ++ tree_text (expr_tree kind e.line)) h ∙ node_written f.Comma (At e.line ▹ expr_view left.value ▹ expr_view right.value ▹ none) out)

pub tag_record_text : (tag : Tag) (sort : RecordSort) (name : List ℕ) (out : List ℕ) → tag.kind ≡ t.Record sort name →
    (out ++ word_text (Key (record_word sort))) ++ tree_text (Leaf (w.Name name)) ≡ out ++ tree_text (tag_view tag)
unfolding tag_tree shape
tag_record_text tag sort name out h =
    sym (ap (λ kind. out ++ tree_text (tag_tree kind tag.line)) h ∙ node_written (f.RecordTag sort) (At tag.line ▹ Leaf (w.Name name) ▹ none) out)

pub tag_record_body_text : (tag : Tag) (sort : RecordSort) (name : Option (List ℕ)) (members : Vec Member Global) (out : List ℕ) → tag.kind ≡ t.RecordBody sort name members →
    ((((out ++ word_text (Key (record_word sort))) ++ tree_text (maybe_name name)) ++ word_text (Mark s.LeftBrace)) ++ tree_text (Node f.Members (trees member_view members.items))) ++ word_text (Mark s.RightBrace) ≡ out ++ tree_text (tag_view tag)
unfolding shape
tag_record_body_text tag sort name members out h =
    sym (ap (λ kind. out ++ tree_text (tag_tree kind tag.line)) h ∙ ap (λ t. out ++ tree_text t) (record_body_tree sort name members tag.line) ∙ node_written (f.RecordBody sort) (At tag.line ▹ maybe_name name ▹ Node f.Members (trees member_view members.items) ▹ none) out)

pub tag_enum_text : (tag : Tag) (name : List ℕ) (out : List ℕ) → tag.kind ≡ t.Enum name →
    (out ++ word_text (Key k.Enum)) ++ tree_text (Leaf (w.Name name)) ≡ out ++ tree_text (tag_view tag)
unfolding tag_tree shape
tag_enum_text tag name out h =
    sym (ap (λ kind. out ++ tree_text (tag_tree kind tag.line)) h ∙ node_written f.EnumTag (At tag.line ▹ Leaf (w.Name name) ▹ none) out)

pub direct_text : (d : Declarator) (base : Base) (suffixes : Vec Suffix Global) (out : List ℕ) → d ≡ dv.Direct base suffixes →
    (out ++ tree_text (base_tree base)) ++ tree_text (Node f.Suffixes (trees suffix_view suffixes.items)) ≡ out ++ tree_text (declarator_tree d)
unfolding shape
direct_text d base suffixes out h =
    sym (ap (λ kind. out ++ tree_text (declarator_tree kind)) h ∙ ap (λ t. out ++ tree_text t) (direct_tree base suffixes) ∙ node_written f.Direct (base_tree base ▹ Node f.Suffixes (trees suffix_view suffixes.items) ▹ none) out)

pub parens_text : (b : Base) (line : ℕ) (inner : Box Declarator Global) (out : List ℕ) → b ≡ bv.Parens line inner →
    ((out ++ word_text (Mark s.LeftParen)) ++ tree_text (declarator_tree inner.value)) ++ word_text (Mark s.RightParen) ≡ out ++ tree_text (base_tree b)
unfolding base_tree shape
parens_text b line inner out h =
    sym (ap (λ kind. out ++ tree_text (base_tree kind)) h ∙ node_written f.Parens (At line ▹ declarator_tree inner.value ▹ none) out)

pub array_suffix_text : (suffix : Suffix) (length : Option (Box Expr Global)) (out : List ℕ) → suffix.kind ≡ sv.Array length →
    ((out ++ word_text (Mark s.LeftBracket)) ++ tree_text (maybe f.MaybeLength expr_view (option_map (λ b. b.value) length))) ++ word_text (Mark s.RightBracket) ≡ out ++ tree_text (suffix_view suffix)
unfolding shape
array_suffix_text suffix length out h =
    sym (ap (λ kind. out ++ tree_text (suffix_tree kind suffix.line)) h ∙ ap (λ t. out ++ tree_text t) (array_tree length suffix.line) ∙ node_written f.ArraySuffix (At suffix.line ▹ maybe f.MaybeLength expr_view (option_map (λ b. b.value) length) ▹ none) out)

pub void_suffix_text : (suffix : Suffix) (out : List ℕ) → suffix.kind ≡ sv.Void →
    ((out ++ word_text (Mark s.LeftParen)) ++ word_text (Key k.Void)) ++ word_text (Mark s.RightParen) ≡ out ++ tree_text (suffix_view suffix)
unfolding suffix_tree shape
void_suffix_text suffix out h =
    sym (ap (λ kind. out ++ tree_text (suffix_tree kind suffix.line)) h ∙ node_written f.VoidSuffix (At suffix.line ▹ none) out)

pub params_suffix_text : (suffix : Suffix) (params : Vec Param Global) (out : List ℕ) → suffix.kind ≡ sv.Params params →
    ((out ++ word_text (Mark s.LeftParen)) ++ tree_text (Node f.Params (trees param_view params.items))) ++ word_text (Mark s.RightParen) ≡ out ++ tree_text (suffix_view suffix)
unfolding shape
params_suffix_text suffix params out h =
    sym (ap (λ kind. out ++ tree_text (suffix_tree kind suffix.line)) h ∙ ap (λ t. out ++ tree_text t) (params_tree params suffix.line) ∙ node_written f.FunctionSuffix (At suffix.line ▹ Node f.Params (trees param_view params.items) ▹ none) out)
