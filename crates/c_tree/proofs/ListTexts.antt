-- The text of lists and of what may be left out, as it is written.
use Rattle.std.proofs.Common.{◌≡◌, ℕ, zero, suc, Bool, true, false, List, [], ◌∷◌, ◌++◌, replicate, Option, Some, None, option_map, Box, Vec, Global, refl, ap, sym, ◌∙◌, append_assoc, append-nil, length, take, drop, get_or, ◌<◌, ◌≤◌, ◌-◌, arith}
use Rattle.std.proofs.lemmas.List.{take_all}
use Rattle.std.specs.List.{flat_map}
use Rattle.c_tree.specs.declared.tree.Expr.{Expr}
use Rattle.c_tree.specs.declared.tree.TypeName.{TypeName}
use Rattle.c_tree.specs.declared.tree.Specs.{Specs}
use Rattle.c_tree.specs.declared.tree.Spec.{Spec}
use Rattle.c_tree.specs.declared.tree.Spec.TheVariants as c
use Rattle.c_tree.specs.declared.tree.Tag.{Tag}
use Rattle.c_tree.specs.declared.tree.TagKind.TheVariants as t
use Rattle.c_tree.specs.declared.tree.Member.{Member}
use Rattle.c_tree.specs.declared.tree.Enumerator.{Enumerator, out-Enumerator, roll-out-Enumerator}
use Rattle.c_tree.specs.declared.tree.Declarator.{Declarator}
use Rattle.c_tree.specs.declared.tree.Declarator.TheVariants as dv
use Rattle.c_tree.specs.declared.tree.Suffix.{Suffix}
use Rattle.c_tree.specs.declared.tree.Param.{Param}
use Rattle.c_tree.specs.declared.word.Keyword.TheVariants as k
use Rattle.c_tree.specs.declared.word.Sign.TheVariants as s
use Rattle.c_tree.specs.Words.{Word, Key, Mark}
use Rattle.c_tree.specs.Words as w
use Rattle.c_tree.specs.Forms.{Form}
use Rattle.c_tree.specs.Forms as f
use Rattle.c_tree.specs.Places.{Place}
use Rattle.c_tree.specs.Places as p
use Rattle.c_tree.specs.Tree.{Tree, Trees, Leaf, At, Node, none, ◌▹◌, count}
use Rattle.c_tree.specs.Grammar.{Item, Says, Here, Part, key, rows, behind_commas, commas, shape}
use Rattle.c_tree.specs.Spelling.{spell}
use Rattle.c_tree.specs.Canonical.{word_text, words_text, tree_text, with_consts, with_close}
use Rattle.c_tree.specs.View.{expr_tree, spec_tree, tag_tree, enumerator_tree, declarator_tree, base_tree, suffix_tree, maybe_name, name_leaf, literal_leaves}
use Rattle.c_tree.specs.StatementView.{trees, maybe, expr_view, specs_view, typename_view, tag_view, member_view, suffix_view, param_view}
use Rattle.c_tree.proofs.Texts.{write, node_written}
use Rattle.c_tree.specs.ViewEquations.{enum_body_tree, enumerator_value_tree}

-- the text of the trees of a list
abbrev pub list_text : {A : Type 0} → (A → Tree) → List A → List ℕ
list_text view = flat_map (λ x. tree_text (view x))

-- the same behind commas
abbrev pub comma_text : {A : Type 0} → (A → Tree) → List A → List ℕ
comma_text view = flat_map (λ x. word_text (Mark s.Comma) ++ tree_text (view x))

-- parts one behind another
pub rows_text : {A : Type 0} (place : Place) (view : A → Tree) (xs : List A) (out : List ℕ) →
    out ++ list_text view xs ≡ write (rows place (count (trees view xs))) (trees view xs) out
rows_text place view [] out = append-nil out
rows_text place view (x ∷ xs) out =
    sym (append_assoc out (tree_text (view x)) (list_text view xs)) ∙ rows_text place view xs (out ++ tree_text (view x))

-- parts behind commas
pub behind_text : {A : Type 0} (place : Place) (view : A → Tree) (xs : List A) (out : List ℕ) →
    out ++ comma_text view xs ≡ write (behind_commas place (count (trees view xs))) (trees view xs) out
behind_text place view [] out = append-nil out
behind_text place view (x ∷ xs) out =
    sym (append_assoc out (word_text (Mark s.Comma) ++ tree_text (view x)) (comma_text view xs))
    ∙ ap (λ o. o ++ comma_text view xs) (sym (append_assoc out (word_text (Mark s.Comma)) (tree_text (view x))))
    ∙ behind_text place view xs ((out ++ word_text (Mark s.Comma)) ++ tree_text (view x))

pub arguments_text : (x : Expr) (xs : List Expr) (out : List ℕ) →
    (out ++ tree_text (expr_view x)) ++ comma_text expr_view xs ≡ out ++ tree_text (Node f.Arguments (trees expr_view (x ∷ xs)))
unfolding shape
arguments_text x xs out =
    behind_text (p.Expression 14) expr_view xs (out ++ tree_text (expr_view x)) ∙ sym (node_written f.Arguments (trees expr_view (x ∷ xs)) out)

pub no_arguments_text : (out : List ℕ) → out ≡ out ++ tree_text (Node f.Arguments none)
unfolding shape
no_arguments_text out = sym (node_written f.Arguments none out)

pub member_names_text : (x : Declarator) (xs : List Declarator) (out : List ℕ) →
    (out ++ tree_text (declarator_tree x)) ++ comma_text declarator_tree xs ≡
    out ++ tree_text (Node f.MemberNames (trees declarator_tree (x ∷ xs)))
unfolding shape
member_names_text x xs out =
    behind_text p.Declarator declarator_tree xs (out ++ tree_text (declarator_tree x)) ∙ sym (node_written f.MemberNames (trees declarator_tree (x ∷ xs)) out)

pub no_member_names_text : (out : List ℕ) → out ≡ out ++ tree_text (Node f.MemberNames none)
unfolding shape
no_member_names_text out = sym (node_written f.MemberNames none out)

pub enumerators_text : (x : Enumerator) (xs : List Enumerator) (out : List ℕ) →
    (out ++ tree_text (enumerator_tree x)) ++ comma_text enumerator_tree xs ≡
    out ++ tree_text (Node f.Enumerators (trees enumerator_tree (x ∷ xs)))
unfolding shape
enumerators_text x xs out =
    behind_text p.Enumerator enumerator_tree xs (out ++ tree_text (enumerator_tree x)) ∙ sym (node_written f.Enumerators (trees enumerator_tree (x ∷ xs)) out)

pub no_enumerators_text : (out : List ℕ) → out ≡ out ++ tree_text (Node f.Enumerators none)
unfolding shape
no_enumerators_text out = sym (node_written f.Enumerators none out)

pub params_text : (x : Param) (xs : List Param) (out : List ℕ) →
    (out ++ tree_text (param_view x)) ++ comma_text param_view xs ≡ out ++ tree_text (Node f.Params (trees param_view (x ∷ xs)))
unfolding shape
params_text x xs out =
    behind_text p.Param param_view xs (out ++ tree_text (param_view x)) ∙ sym (node_written f.Params (trees param_view (x ∷ xs)) out)

pub no_params_text : (out : List ℕ) → out ≡ out ++ tree_text (Node f.Params none)
unfolding shape
no_params_text out = sym (node_written f.Params none out)

pub suffixes_text : (xs : List Suffix) (out : List ℕ) →
    out ++ list_text suffix_view xs ≡ out ++ tree_text (Node f.Suffixes (trees suffix_view xs))
unfolding shape
suffixes_text xs out = rows_text p.Suffix suffix_view xs out ∙ sym (node_written f.Suffixes (trees suffix_view xs) out)

pub members_text : (xs : List Member) (out : List ℕ) →
    out ++ list_text member_view xs ≡ out ++ tree_text (Node f.Members (trees member_view xs))
unfolding shape
members_text [] out = append-nil out ∙ sym (node_written f.Members none out)
members_text (x ∷ xs) out =
    rows_text p.Member member_view (x ∷ xs) out ∙ sym (node_written f.Members (trees member_view (x ∷ xs)) out)

pub specs_text : (specs : Specs) (out : List ℕ) →
    out ++ list_text spec_tree specs.words.items ≡ out ++ tree_text (specs_view specs)
unfolding shape
specs_text specs out =
    rows_text p.SpecWord spec_tree specs.words.items out
    ∙ sym (node_written f.Specs (At specs.line ▹ trees spec_tree specs.words.items) out)

-- string literals
abbrev pub strings_list : List (List ℕ) → List ℕ
strings_list = flat_map (λ bytes. bytes ++ 32 ∷ [])

literals_text : (xs : List (List ℕ)) (out : List ℕ) →
    out ++ strings_list xs ≡ write (rows p.Str (count (literal_leaves xs))) (literal_leaves xs) out
unfolding tree_text words_text spell
literals_text [] out = append-nil out
literals_text (x ∷ xs) out =
    sym (append_assoc out (x ++ 32 ∷ []) (strings_list xs)) ∙ literals_text xs (out ++ (x ++ 32 ∷ []))

pub strings_text : (xs : List (List ℕ)) (out : List ℕ) →
    out ++ strings_list xs ≡ out ++ tree_text (Node f.Strings (literal_leaves xs))
unfolding shape
strings_text [] out = append-nil out ∙ sym (node_written f.Strings none out)
strings_text (x ∷ xs) out =
    literals_text (x ∷ xs) out ∙ sym (node_written f.Strings (literal_leaves (x ∷ xs)) out)

-- what may be left out

pub no_name_text : (out : List ℕ) → out ≡ out ++ tree_text (Node f.MaybeName none)
unfolding shape
no_name_text out = sym (node_written f.MaybeName none out)

pub some_name_text : (bytes out : List ℕ) → out ++ tree_text (name_leaf bytes) ≡ out ++ tree_text (Node f.MaybeName (name_leaf bytes ▹ none))
unfolding shape
some_name_text bytes out = sym (node_written f.MaybeName (name_leaf bytes ▹ none) out)

pub no_length_text : (out : List ℕ) → out ≡ out ++ tree_text (Node f.MaybeLength none)
unfolding shape
no_length_text out = sym (node_written f.MaybeLength none out)

pub some_length_text : (e : Expr) (out : List ℕ) → out ++ tree_text (expr_view e) ≡ out ++ tree_text (Node f.MaybeLength (expr_view e ▹ none))
unfolding shape
some_length_text e out = sym (node_written f.MaybeLength (expr_view e ▹ none) out)

pub nothing_text : (out : List ℕ) → out ≡ out ++ tree_text (Node f.Nothing none)
unfolding shape
nothing_text out = sym (node_written f.Nothing none out)

-- nodes

pub typedef_name_text : (bytes out : List ℕ) →
    out ++ tree_text (name_leaf bytes) ≡ out ++ tree_text (Node f.TypedefName (name_leaf bytes ▹ none))
unfolding shape
typedef_name_text bytes out = sym (node_written f.TypedefName (name_leaf bytes ▹ none) out)

pub typename_text : (t : TypeName) (out : List ℕ) →
    (out ++ tree_text (specs_view t.specs)) ++ tree_text (declarator_tree t.declarator) ≡ out ++ tree_text (typename_view t)
unfolding shape
typename_text t out = sym (node_written f.Typename (At t.line ▹ specs_view t.specs ▹ declarator_tree t.declarator ▹ none) out)

pub param_text : (t : Param) (out : List ℕ) →
    (out ++ tree_text (specs_view t.specs)) ++ tree_text (declarator_tree t.declarator) ≡ out ++ tree_text (param_view t)
unfolding shape
param_text t out = sym (node_written f.Param (At t.line ▹ specs_view t.specs ▹ declarator_tree t.declarator ▹ none) out)

pub member_text : (m : Member) (out : List ℕ) →
    ((out ++ tree_text (specs_view m.specs)) ++ tree_text (Node f.MemberNames (trees declarator_tree m.declarators.items))) ++ word_text (Mark s.Semicolon) ≡
    out ++ tree_text (member_view m)
unfolding shape
member_text m out =
    sym (node_written f.Member (At m.line ▹ specs_view m.specs ▹ Node f.MemberNames (trees declarator_tree m.declarators.items) ▹ none) out)

pub enum_body_text : (tag : Tag) (name : Option (List ℕ)) (enumerators : Vec Enumerator Global) (trailing : Bool) (out : List ℕ) →
    tag.kind ≡ t.EnumBody name enumerators trailing →
    with_close trailing ((((out ++ word_text (Key k.Enum)) ++ tree_text (maybe_name name)) ++ word_text (Mark s.LeftBrace)) ++ tree_text (Node f.Enumerators (trees enumerator_tree enumerators.items))) ≡
    out ++ tree_text (tag_view tag)
unfolding shape
enum_body_text tag name enumerators true out h =
    sym (ap (λ kind. out ++ tree_text (tag_tree kind tag.line)) h ∙ ap (λ t. out ++ tree_text t) (enum_body_tree name enumerators true tag.line)
    ∙ node_written (f.EnumBody true) (At tag.line ▹ maybe_name name ▹ Node f.Enumerators (trees enumerator_tree enumerators.items) ▹ none) out)
enum_body_text tag name enumerators false out h =
    sym (ap (λ kind. out ++ tree_text (tag_tree kind tag.line)) h ∙ ap (λ t. out ++ tree_text t) (enum_body_tree name enumerators false tag.line)
    ∙ node_written (f.EnumBody false) (At tag.line ▹ maybe_name name ▹ Node f.Enumerators (trees enumerator_tree enumerators.items) ▹ none) out)

consts_first : (n : ℕ) (out : List ℕ) → with_consts n (out ++ word_text (Key k.Const)) ≡ with_consts n out ++ word_text (Key k.Const)
consts_first zero out = refl
consts_first (suc n) out = ap (λ o. o ++ word_text (Key k.Const)) (consts_first n out)

consts_written : (n : ℕ) (items : List Item) (parts : Trees) (out : List ℕ) →
    write (replicate n (key k.Const) ++ items) parts out ≡ write items parts (with_consts n out)
consts_written zero items parts out = refl
consts_written (suc n) items parts out =
    consts_written n items parts (out ++ word_text (Key k.Const)) ∙ ap (λ o. write items parts o) (consts_first n out)

pub pointer_text : (d : Declarator) (line consts : ℕ) (target : Box Declarator Global) (out : List ℕ) →
    d ≡ dv.Pointer line consts target →
    with_consts consts (out ++ word_text (Mark s.Star)) ++ tree_text (declarator_tree target.value) ≡ out ++ tree_text (declarator_tree d)
unfolding shape declarator_tree
pointer_text d line consts target out h =
    sym (ap (λ x. out ++ tree_text (declarator_tree x)) h
    ∙ node_written (f.Pointer consts) (At line ▹ declarator_tree target.value ▹ none) out
    ∙ consts_written consts (Part p.AnyDeclarator ∷ []) (declarator_tree target.value ▹ none) (out ++ word_text (Mark s.Star)))

enumerator_out : (e : Enumerator) → enumerator_tree e ≡
    Node f.Enumerator (At (out-Enumerator e).line ▹ name_leaf (out-Enumerator e).name ▹
    maybe f.MaybeValue expr_view (option_map (λ b. b.value) (out-Enumerator e).value) ▹ none)
enumerator_out e =
    ap enumerator_tree (sym (roll-out-Enumerator e))
    ∙ enumerator_value_tree (out-Enumerator e).line (out-Enumerator e).name (out-Enumerator e).value

abbrev enumerator_of : ℕ → List ℕ → Option (Box Expr Global) → Tree
enumerator_of line name value =
    Node f.Enumerator (At line ▹ name_leaf name ▹ maybe f.MaybeValue expr_view (option_map (λ b. b.value) value) ▹ none)

pub plain_enumerator_text : (e : Enumerator) (out : List ℕ) → (out-Enumerator e).value ≡ None →
    out ++ tree_text (name_leaf (out-Enumerator e).name) ≡ out ++ tree_text (enumerator_tree e)
unfolding shape
plain_enumerator_text e out h =
    sym (ap (λ t. out ++ tree_text t) (enumerator_out e)
    ∙ ap (λ v. out ++ tree_text (enumerator_of (out-Enumerator e).line (out-Enumerator e).name v)) h
    ∙ node_written f.Enumerator (At (out-Enumerator e).line ▹ name_leaf (out-Enumerator e).name ▹ Node f.MaybeValue none ▹ none) out
    ∙ node_written f.MaybeValue none (out ++ tree_text (name_leaf (out-Enumerator e).name)))

pub value_enumerator_text : (e : Enumerator) (value : Box Expr Global) (out : List ℕ) → (out-Enumerator e).value ≡ Some value →
    ((out ++ tree_text (name_leaf (out-Enumerator e).name)) ++ word_text (Mark s.Equal)) ++ tree_text (expr_view value.value) ≡
    out ++ tree_text (enumerator_tree e)
unfolding shape
value_enumerator_text e value out h =
    sym (ap (λ t. out ++ tree_text t) (enumerator_out e)
    ∙ ap (λ v. out ++ tree_text (enumerator_of (out-Enumerator e).line (out-Enumerator e).name v)) h
    ∙ node_written f.Enumerator (At (out-Enumerator e).line ▹ name_leaf (out-Enumerator e).name ▹ Node f.MaybeValue (expr_view value.value ▹ none) ▹ none) out
    ∙ node_written f.MaybeValue (expr_view value.value ▹ none) (out ++ tree_text (name_leaf (out-Enumerator e).name)))

-- a list of no things

pub arguments_empty : (xs : List Expr) (out : List ℕ) → length xs < 1 → out ≡ out ++ tree_text (Node f.Arguments (trees expr_view xs))
arguments_empty [] out h = no_arguments_text out
arguments_empty (x ∷ xs) out h = absurd (omega (arith, h))

pub member_names_empty : (xs : List Declarator) (out : List ℕ) → length xs < 1 →
    out ≡ out ++ tree_text (Node f.MemberNames (trees declarator_tree xs))
member_names_empty [] out h = no_member_names_text out
member_names_empty (x ∷ xs) out h = absurd (omega (arith, h))

pub enumerators_empty : (xs : List Enumerator) (out : List ℕ) → length xs < 1 →
    out ≡ out ++ tree_text (Node f.Enumerators (trees enumerator_tree xs))
enumerators_empty [] out h = no_enumerators_text out
enumerators_empty (x ∷ xs) out h = absurd (omega (arith, h))

pub params_empty : (xs : List Param) (out : List ℕ) → length xs < 1 → out ≡ out ++ tree_text (Node f.Params (trees param_view xs))
params_empty [] out h = no_params_text out
params_empty (x ∷ xs) out h = absurd (omega (arith, h))

-- a list from its first thing on

first_and_rest : {A : Type 0} (xs : List A) (x : A) → 1 ≤ length xs → x ≡ get_or xs 0 x →
    xs ≡ x ∷ take (length xs - 1) (drop 1 xs)
first_and_rest [] x h e = absurd (omega (arith, h))
first_and_rest (y ∷ ys) x h e =
    ap (λ z. z ∷ ys) (sym e) ∙ ap (λ zs. x ∷ zs) (sym (take_all (length (y ∷ ys) - 1) ys (omega arith)))

-- what a list of a form comes to that is written with commas
module _ {A : Type 0} (view : A → Tree) (form : Form)
    (text : (x : A) (xs : List A) (out : List ℕ) →
    (out ++ tree_text (view x)) ++ comma_text view xs ≡ out ++ tree_text (Node form (trees view (x ∷ xs)))) where
  pub commas_done : (xs : List A) (x : A) (i : ℕ) (out middle end : List ℕ) → 1 ≤ length xs → x ≡ get_or xs 0 x →
      length (take (length xs - 1) (drop 1 xs)) ≤ i → middle ≡ out ++ tree_text (view x) →
      end ≡ middle ++ comma_text view (take i (take (length xs - 1) (drop 1 xs))) →
      end ≡ out ++ tree_text (Node form (trees view xs))
  commas_done xs x i out middle end h e le m d =
      d ∙ ap (λ ys. middle ++ comma_text view ys) (take_all i (take (length xs - 1) (drop 1 xs)) le)
      ∙ ap (λ o. o ++ comma_text view (take (length xs - 1) (drop 1 xs))) m
      ∙ text x (take (length xs - 1) (drop 1 xs)) out
      ∙ ap (λ ys. out ++ tree_text (Node form (trees view ys))) (sym (first_and_rest xs x h e))
