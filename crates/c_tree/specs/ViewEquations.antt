-- What nodes with lists are as trees of the grammar: by the things of each list in order. Equations, proved from `View`.
use Rattle.std.proofs.Common.{◌≡◌, ℕ, Bool, List, [], ◌∷◌, Option, Some, None, option_map, Box, Vec, Global, refl, ap, sym, ◌∙◌}
use Rattle.c_tree.specs.declared.operator.RecordSort.{RecordSort}
use Rattle.c_tree.specs.declared.tree.Expr.{Expr}
use Rattle.c_tree.specs.declared.tree.ExprKind.{ExprKind, Row_of-Expr, end_of-Expr, more_of-Expr, items-the_row-Expr, items_hidden-the_row-Expr-1}
use Rattle.c_tree.specs.declared.tree.ExprKind.TheVariants as e
use Rattle.c_tree.specs.declared.tree.TypeName.{TypeName}
use Rattle.c_tree.specs.declared.tree.Specs.{Specs, Row_of-Spec, end_of-Spec, more_of-Spec, items-the_row-Spec, items_shown-the_row-Spec-2, items_hidden-the_row-Spec-2}
use Rattle.c_tree.specs.declared.tree.Spec.{Spec}
use Rattle.c_tree.specs.declared.tree.TagKind.{TagKind, Row_of-Member, end_of-Member, more_of-Member, items-the_row-Member, items_hidden-the_row-Member-5, Row_of-Enumerator, end_of-Enumerator, more_of-Enumerator, items-the_row-Enumerator, items_hidden-the_row-Enumerator-6, Row_of-Declarator, end_of-Declarator, more_of-Declarator, items-the_row-Declarator, items_shown-the_row-Declarator-4, items_hidden-the_row-Declarator-4}
use Rattle.c_tree.specs.declared.tree.TagKind.TheVariants as t
use Rattle.c_tree.specs.declared.tree.Member.{Member}
use Rattle.c_tree.specs.declared.tree.Enumerator.{Enumerator, roll-Enumerator}
use Rattle.c_tree.specs.declared.tree.Declarator.{Declarator, Row_of-Suffix, end_of-Suffix, more_of-Suffix, items-the_row-Suffix, items_hidden-the_row-Suffix-0}
use Rattle.c_tree.specs.declared.tree.Declarator.TheVariants as d
use Rattle.c_tree.specs.declared.tree.Base.{Base}
use Rattle.c_tree.specs.declared.tree.Suffix.{Suffix}
use Rattle.c_tree.specs.declared.tree.SuffixKind.{SuffixKind, Row_of-Param, end_of-Param, more_of-Param, items-the_row-Param, items_hidden-the_row-Param-3}
use Rattle.c_tree.specs.declared.tree.SuffixKind.TheVariants as s
use Rattle.c_tree.specs.declared.tree.Param.{Param}
use Rattle.c_tree.specs.declared.tree.Base.TheBlock.{hidden-the_row-Suffix-0, hidden-the_row-Expr-1, hidden-the_row-Spec-2, shown-the_row-Spec-2, hidden-the_row-Param-3, hidden-the_row-Declarator-4, hidden-the_row-Member-5, hidden-the_row-Enumerator-6}
use Rattle.c_tree.specs.Forms as f
use Rattle.c_tree.specs.Tree.{Tree, Trees, Leaf, At, Node, none, ◌▹◌}
use Rattle.c_tree.specs.View.{expr_tree, expr_trees, spec_tree, spec_trees, tag_tree, member_trees, enumerator_tree, enumerator_trees, declarator_tree, declarator_trees, suffix_tree, suffix_trees, param_trees, base_tree, held_trees, maybe_name, name_leaf}
use Rattle.c_tree.specs.StatementView.{trees, maybe, expr_view, specs_view, typename_view, member_view, suffix_view, param_view}

expr_row : (n : _) (row : Row_of-Expr n) → expr_trees row ≡ trees expr_view (items-the_row-Expr n row)
unfolding expr_trees
expr_row n end_of-Expr = refl
expr_row n (more_of-Expr at kind rest) = ap (λ ts. expr_tree kind at ▹ ts) (expr_row _ rest)

spec_row : (n : _) (row : Row_of-Spec n) → spec_trees row ≡ trees spec_tree (items-the_row-Spec n row)
unfolding spec_trees
spec_row n end_of-Spec = refl
spec_row n (more_of-Spec word rest) = ap (λ ts. spec_tree word ▹ ts) (spec_row _ rest)

declarator_row : (n : _) (row : Row_of-Declarator n) →
    declarator_trees row ≡ trees declarator_tree (items-the_row-Declarator n row)
unfolding declarator_trees
declarator_row n end_of-Declarator = refl
declarator_row n (more_of-Declarator declarator rest) = ap (λ ts. declarator_tree declarator ▹ ts) (declarator_row _ rest)

suffix_row : (n : _) (row : Row_of-Suffix n) → suffix_trees row ≡ trees suffix_view (items-the_row-Suffix n row)
unfolding suffix_trees
suffix_row n end_of-Suffix = refl
suffix_row n (more_of-Suffix line kind rest) = ap (λ ts. suffix_tree kind line ▹ ts) (suffix_row _ rest)

enumerator_row : (n : _) (row : Row_of-Enumerator n) →
    enumerator_trees row ≡ trees enumerator_tree (items-the_row-Enumerator n row)
unfolding enumerator_trees
enumerator_row n end_of-Enumerator = refl
enumerator_row n (more_of-Enumerator enumerator rest) = ap (λ ts. enumerator_tree enumerator ▹ ts) (enumerator_row _ rest)

-- a tree before others
before : (a b : Tree) (s t : Trees) → a ≡ b → s ≡ t → a ▹ s ≡ b ▹ t
before a b s t h e = ap (λ x. x ▹ s) h ∙ ap (λ x. b ▹ x) e

param_row : (n : _) (row : Row_of-Param n) → param_trees row ≡ trees param_view (items-the_row-Param n row)
unfolding param_trees
param_row n end_of-Param = refl
param_row n (more_of-Param line at shape words declarator rest) =
    before _ _ _ _
    (ap (λ ws. Node f.Param (At line ▹ Node f.Specs (At at ▹ ws) ▹ declarator_tree declarator ▹ none))
    (spec_row _ words ∙ ap (trees spec_tree) (sym (items_shown-the_row-Spec-2 shape words))))
    (param_row _ rest)

member_row : (n : _) (row : Row_of-Member n) → member_trees row ≡ trees member_view (items-the_row-Member n row)
unfolding member_trees
member_row n end_of-Member = refl
member_row n (more_of-Member line at shape words shape2 declarators rest) =
    before _ _ _ _
    (ap (λ ws. Node f.Member (At line ▹ Node f.Specs (At at ▹ ws) ▹ Node f.MemberNames (declarator_trees declarators) ▹ none))
    (spec_row _ words ∙ ap (trees spec_tree) (sym (items_shown-the_row-Spec-2 shape words)))
    ∙ ap (λ ds. Node f.Member (At line ▹ Node f.Specs (At at ▹
    trees spec_tree (shown-the_row-Spec-2 shape words).items) ▹ Node f.MemberNames ds ▹ none))
    (declarator_row _ declarators ∙ ap (trees declarator_tree) (sym (items_shown-the_row-Declarator-4 shape2 declarators))))
    (member_row _ rest)

-- the same of the lists that the code has

expr_list : (list : Vec Expr Global) → expr_trees (hidden-the_row-Expr-1 list) ≡ trees expr_view list.items
expr_list list = expr_row _ (hidden-the_row-Expr-1 list) ∙ ap (trees expr_view) (items_hidden-the_row-Expr-1 list)

spec_list : (list : Vec Spec Global) → spec_trees (hidden-the_row-Spec-2 list) ≡ trees spec_tree list.items
spec_list list = spec_row _ (hidden-the_row-Spec-2 list) ∙ ap (trees spec_tree) (items_hidden-the_row-Spec-2 list)

suffix_list : (list : Vec Suffix Global) → suffix_trees (hidden-the_row-Suffix-0 list) ≡ trees suffix_view list.items
suffix_list list = suffix_row _ (hidden-the_row-Suffix-0 list) ∙ ap (trees suffix_view) (items_hidden-the_row-Suffix-0 list)

param_list : (list : Vec Param Global) → param_trees (hidden-the_row-Param-3 list) ≡ trees param_view list.items
param_list list = param_row _ (hidden-the_row-Param-3 list) ∙ ap (trees param_view) (items_hidden-the_row-Param-3 list)

member_list : (list : Vec Member Global) → member_trees (hidden-the_row-Member-5 list) ≡ trees member_view list.items
member_list list = member_row _ (hidden-the_row-Member-5 list) ∙ ap (trees member_view) (items_hidden-the_row-Member-5 list)

enumerator_list : (list : Vec Enumerator Global) →
    enumerator_trees (hidden-the_row-Enumerator-6 list) ≡ trees enumerator_tree list.items
enumerator_list list =
    enumerator_row _ (hidden-the_row-Enumerator-6 list) ∙ ap (trees enumerator_tree) (items_hidden-the_row-Enumerator-6 list)

-- what is made of lists

pub call_tree : (callee : Box Expr Global) (arguments : Vec Expr Global) (line : ℕ) →
    expr_tree (e.Call callee arguments) line ≡
    Node f.Call (At line ▹ expr_view callee.value ▹ Node f.Arguments (trees expr_view arguments.items) ▹ none)
unfolding expr_tree
call_tree callee arguments line =
    ap (λ ts. Node f.Call (At line ▹ expr_view callee.value ▹ Node f.Arguments ts ▹ none)) (expr_list arguments)

-- a typename of words
abbrev typename : ℕ → ℕ → Trees → Tree → Tree
typename line at words declarator = Node f.Typename (At line ▹ Node f.Specs (At at ▹ words) ▹ declarator ▹ none)

pub sizeof_type_tree : (type : Box TypeName Global) (line : ℕ) →
    expr_tree (e.SizeofType type) line ≡ Node f.SizeofType (At line ▹ typename_view type.value ▹ none)
unfolding expr_tree
sizeof_type_tree type line =
    ap (λ ws. Node f.SizeofType (At line ▹
    typename type.value.line type.value.specs.line ws (declarator_tree type.value.declarator) ▹ none))
    (spec_list type.value.specs.words)

pub cast_tree : (type : Box TypeName Global) (operand : Box Expr Global) (line : ℕ) →
    expr_tree (e.Cast type operand) line ≡
    Node f.Cast (At line ▹ typename_view type.value ▹ expr_view operand.value ▹ none)
unfolding expr_tree
cast_tree type operand line =
    ap (λ ws. Node f.Cast (At line ▹
    typename type.value.line type.value.specs.line ws (declarator_tree type.value.declarator) ▹
    expr_view operand.value ▹ none))
    (spec_list type.value.specs.words)

pub record_body_tree : (sort : RecordSort) (name : Option (List ℕ)) (members : Vec Member Global) (line : ℕ) →
    tag_tree (t.RecordBody sort name members) line ≡
    Node (f.RecordBody sort) (At line ▹ maybe_name name ▹ Node f.Members (trees member_view members.items) ▹ none)
unfolding tag_tree
record_body_tree sort name members line =
    ap (λ ts. Node (f.RecordBody sort) (At line ▹ maybe_name name ▹ Node f.Members ts ▹ none)) (member_list members)

pub enum_body_tree : (name : Option (List ℕ)) (enumerators : Vec Enumerator Global) (trailing : Bool) (line : ℕ) →
    tag_tree (t.EnumBody name enumerators trailing) line ≡
    Node (f.EnumBody trailing)
    (At line ▹ maybe_name name ▹ Node f.Enumerators (trees enumerator_tree enumerators.items) ▹ none)
unfolding tag_tree
enum_body_tree name enumerators trailing line =
    ap (λ ts. Node (f.EnumBody trailing) (At line ▹ maybe_name name ▹ Node f.Enumerators ts ▹ none))
    (enumerator_list enumerators)

pub direct_tree : (base : Base) (suffixes : Vec Suffix Global) →
    declarator_tree (d.Direct base suffixes) ≡
    Node f.Direct (base_tree base ▹ Node f.Suffixes (trees suffix_view suffixes.items) ▹ none)
unfolding declarator_tree
direct_tree base suffixes = ap (λ ts. Node f.Direct (base_tree base ▹ Node f.Suffixes ts ▹ none)) (suffix_list suffixes)

pub params_tree : (params : Vec Param Global) (line : ℕ) →
    suffix_tree (s.Params params) line ≡
    Node f.FunctionSuffix (At line ▹ Node f.Params (trees param_view params.items) ▹ none)
unfolding suffix_tree
params_tree params line = ap (λ ts. Node f.FunctionSuffix (At line ▹ Node f.Params ts ▹ none)) (param_list params)

-- what is made of options

pub enumerator_value_tree : (line : ℕ) (name : List ℕ) (value : Option (Box Expr Global)) →
    enumerator_tree (roll-Enumerator (record { line = line; name = name; value = value })) ≡
    Node f.Enumerator (At line ▹ name_leaf name ▹ maybe f.MaybeValue expr_view (option_map (λ b. b.value) value) ▹ none)
unfolding enumerator_tree held_trees roll-Enumerator denote.Hole.Carrier.roll
enumerator_value_tree line name None = refl
enumerator_value_tree line name (Some value) = refl

pub array_tree : (length : Option (Box Expr Global)) (line : ℕ) →
    suffix_tree (s.Array length) line ≡
    Node f.ArraySuffix (At line ▹ maybe f.MaybeLength expr_view (option_map (λ b. b.value) length) ▹ none)
unfolding suffix_tree held_trees
array_tree None line = refl
array_tree (Some length) line = refl
