-- The type of an expression that is elaborated is the one that its types alone give it.
use Rattle.core_soundness.proofs.Words.Std.{◌≡◌, ◌&&◌, ℕ, pos, Bool, true, false, not, cond, List, Option, Some, Ok, refl, sym, ap, ◌∙◌, subst, ◌+◌, [], ◌∷◌, length, None, arith}
use Rattle.core_soundness.proofs.Words.Trees.{Tree, Trees, Leaf, At, Node, none, ◌▹◌, AssignOp, BinaryOp, UnaryOp}
use Rattle.core_soundness.proofs.Words.Types.{TagTable, PlainType, PlainTypes, Void, Int, Pointer, Array, named, Callee, Takes, Prints, NoFunction, call, line_of, answered, wanted, one, two, string, typed, values, calling, int_constant, char_constant, joined, literal, first_literal, typename, PlainNamed, element, dot, arrow, cast, choice, assigned, changed, is_written, behind_comma, Checked, then, unless, found as declaration, address, unary, unary_of, binary, PlainTyped, Operand, operand, read, is_null_constant, int, wanted_value, place, value, is_record, constant, NotLvalue}
use Rattle.core_soundness.proofs.Words.Core.{Atom, Copy}
use Rattle.core_soundness.proofs.Words.Elaborating.{record_assigned, set_to, scalar_assigned, old_value, changed_by, stepped, Argument, types_of, first_type, rest_types, argument_from, Code, Context, With, asked, told, emit, here, new_label, Found, Value, Empty, Unknown, found_as, atom_in, valued_from, valued, size_or_zero, unused, wanted_from, valued_as, name_answer, literal_answer, unevaluated, address_answer, changing, cast_operand, comma_answer, callee_name, callee, parameters, format_argument, is_printf, call_answer, found, arguments, offset_of, constant_found, object_found, built_in_found, name_found, indexed, member_of, dotted, target_of, pointed, apply, applied, left_operand, tells_equal, is_pointer_ahead, ahead, between, cast_to, and_ended, or_ended, choose_first, choose_last, choice_found, chosen, and_then, or_else, choose, type_ahead}
use Rattle.c_types.specs.declared.types.IntType.TheVariants as i
use Rattle.core_tree.specs.declared.statements.Atom.TheVariants as atom
use Rattle.c_tree.specs.Forms as f
use Rattle.c_tree.specs.Words as w
use Rattle.c_tree.specs.declared.operator.AssignOp.TheVariants as a
use Rattle.c_tree.specs.declared.operator.BinaryOp.TheVariants as b
use Rattle.c_tree.specs.declared.operator.UnaryOp.TheVariants as u
use Rattle.c_decls.specs.Expressions as types
use Rattle.c_decls.specs.PlaceRules as rules
use Rattle.c_decls.specs.TypeNames as names
use Rattle.core_soundness.proofs.CodeWalk.{Quiet, quiet_read, quiet_convert, quiet_tested_value, quiet_write, quiet_before, quiet_combined, quiet_changed, quiet_literal, quiet_compare_again, quiet_chosen_by, quiet_choose_last, quiet_argument, quiet_result, quiet_of_built_in}
use Rattle.core_soundness.proofs.Growth.{good, ok_same, never}
use Rattle.core_soundness.proofs.Choices.{either_way}

-- what came before an answer
pub record Came {A B : Type 0} (r : Checked A) (next : A → Checked B) (y : B) : Type 0 where
  pub value : A
  pub is : r ≡ Ok value
  pub last : next value ≡ Ok y

pub came : {A B : Type 0} (r : Checked A) {next : A → Checked B} {y : B} → then r next ≡ Ok y → Came r next y
came r h = search (arith, never) fits 100

-- what is read and written was gone through first
pub changing_first : (tree : Tree) (answer : With Found) (z : Context × Found) → changing tree answer ≡ Ok z → answer ≡ Ok z
changing_first tree answer z h = search (arith, came)

-- a rule that was kept, and what is known behind it
pub record Ruled (r : Checked PlainTyped) (known : names.Context) (z : Context × Found) : Type 0 where
  pub typed : r ≡ Ok z.1.typed
  pub same : asked z.0 ≡ known

pub ruled : (r : Checked PlainTyped) (make : PlainTyped → Context × Found) (known : names.Context) (z : Context × Found) → ((t : PlainTyped) → (make t).1.typed ≡ t) → ((t : PlainTyped) → asked (make t).0 ≡ known)
    → then r (λ t. Ok (make t)) ≡ Ok z → Ruled r known z
ruled r make known z g h e = search (arith, ok_same, never) fits 100

-- two answers agree: they have the same type and the same scopes and tags
abbrev pub Agreed : types.Found → Context × Found → Type 0
Agreed x z = x ≡ Ok (asked z.0, z.1.typed)

pub finish : (x : types.Found) (known : names.Context) (z : Context × Found) → x ≡ Ok (known, z.1.typed) → asked z.0 ≡ known → Agreed x z
finish x known z e same = subst (λ (m : names.Context). x ≡ Ok (m, z.1.typed)) (sym same) e

pub answered_is : (known : names.Context) (r : Checked PlainTyped) (t : PlainTyped) → r ≡ Ok t → answered known r ≡ Ok (known, t)
answered_is known r t e = ap (λ (x : Checked PlainTyped). answered known x) e

pub wanted_is : (tree : Tree) (x : types.Found) (known : names.Context) (t v : PlainTyped) → x ≡ Ok (known, t) → wanted_value (line_of tree) known.tags t ≡ Ok v → wanted tree x ≡ Ok (known, v)
wanted_is tree x known t v e h = ap (λ (y : types.Found). wanted tree y) e ∙ answered_is known (wanted_value (line_of tree) known.tags t) v h

-- values

pub valued_from_rule : (tree : Tree) (c : Context) (e : Found) (z : Context × Found) → valued_from tree c e ≡ Ok z → Ruled (read (line_of tree) c.tags e.typed) (asked c) z
valued_from_rule tree c e z h = search (arith, ruled, quiet_read)

-- a value that is wanted: the expression has one, and is evaluated
pub wanted_from_rule : (tree : Tree) (c : Context) (e : Found) (z : Context × Found) → wanted_from tree c e ≡ Ok z → Ruled (wanted_value (line_of tree) c.tags e.typed) (asked c) z
wanted_from_rule tree c e z h = grind (arith, true, false, valued_from_rule)

pub valued_agrees : (tree : Tree) (answer : With Found) (x : types.Found) (z : Context × Found) → ((d : Context × Found) → answer ≡ Ok d → Agreed x d) → valued tree answer ≡ Ok z → Agreed (wanted tree x) z
valued_agrees tree answer x z h e = search (arith, came, wanted_from_rule, finish, wanted_is)

pub unused_agrees : (tree : Tree) (answer : With Found) (x : types.Found) (z : Context × Found) → ((d : Context × Found) → answer ≡ Ok d → Agreed x d) → unused tree answer ≡ Ok z → Agreed (types.unused tree x) z
unused_agrees tree answer x z h e = search (arith, came, valued_from_rule, finish, answered_is)

pub cast_agrees : (type : PlainType) (tree : Tree) (answer : With Found) (x : types.Found) (z : Context × Found) → ((d : Context × Found) → answer ≡ Ok d → Agreed x d) → cast_operand type tree answer ≡ Ok z → Agreed (types.cast_operand type tree x) z
cast_agrees type tree answer x z h e = grind (arith, true, unused_agrees, false, valued_agrees)

pub changing_agrees : (tree : Tree) (answer : With Found) (x : types.Found) (z : Context × Found) → ((d : Context × Found) → answer ≡ Ok d → Agreed x d) → changing tree answer ≡ Ok z → Agreed (types.changing tree x) z
changing_agrees tree answer x z h e = grind (arith, came, ok_same, answered_is)

-- names and literals

object_typed : (t : PlainTyped) (inner : Bool) (index : ℕ) → (object_found t inner index).typed ≡ t
object_typed t inner index = search arith fits 100

built_in_typed : (t : PlainTyped) (null : Bool) → (built_in_found t null).typed ≡ t
built_in_typed t null = search arith fits 100

name_typed : (t : PlainTyped) (inner : Bool) (declared : Option PlainNamed) → (name_found t inner declared).typed ≡ t
name_typed t inner declared = search (arith, object_typed, built_in_typed) fits 100

pub name_agrees : (line : ℕ) (name : List ℕ) (declared : Option PlainNamed) (c : Context) (z : Context × Found) → name_answer line name declared c ≡ Ok z → Agreed (answered (asked c) (named line declared)) z
name_agrees line name declared c z h = search (arith, ruled, name_typed, finish, answered_is)

pub ok_agrees : (c : Context) (e : Found) (z : Context × Found) → good (c, e) ≡ Ok z → Agreed (Ok (asked c, e.typed)) z
ok_agrees c e z h = subst (Agreed (Ok (asked c, e.typed))) (ok_same (c, e) z h) refl

pub string_agrees : (line : ℕ) (bytes : List ℕ) (c : Context) (z : Context × Found) → literal_answer line bytes c ≡ Ok z → Agreed (answered (asked c) (string line bytes)) z
string_agrees line bytes c z h = search (arith, came, ok_same, finish, answered_is, quiet_literal)

pub unevaluated_agrees : (x : types.Found) (c : Context) (z : Context × Found) → unevaluated c x ≡ Ok z → Agreed x z
unevaluated_agrees x c z h = search (arith, came, ok_same)

-- rules

pub indexed_rule : (line : ℕ) (c : Context) (x y : Found) (z : Context × Found) → indexed line c x y ≡ Ok z → Ruled (element line c.tags x.typed y.typed) (asked c) z
indexed_rule line c x y z h = search (arith, ruled, quiet_combined)

pub dotted_rule : (line : ℕ) (name : List ℕ) (c : Context) (e : Found) (z : Context × Found) → dotted line name c e ≡ Ok z → Ruled (dot line name c.tags e.typed) (asked c) z
dotted_rule line name c e z h = ruled (dot line name c.tags e.typed) (λ t. member_of line (offset_of c.tags name e.typed.type) t c e) (asked c) z (λ t. refl) (λ t. refl) h

pub pointed_rule : (line : ℕ) (name : List ℕ) (c : Context) (e : Found) (z : Context × Found) → pointed line name c e ≡ Ok z → Ruled (arrow line name c.tags e.typed) (asked c) z
pointed_rule line name c e z h = ruled (arrow line name c.tags e.typed) (λ t. member_of line (offset_of c.tags name (target_of (operand e.typed.type))) t c e) (asked c) z (λ t. refl) (λ t. refl) h

pub address_rule : (line : ℕ) (c : Context) (e : Found) (z : Context × Found) → address_answer line c e ≡ Ok z → Ruled (address line e.typed) (asked c) z
address_rule line c e z h = ruled (address line e.typed) (λ t. (c, found_as t (Value (atom_in e)) e.fixed)) (asked c) z (λ t. refl) (λ t. refl) h

-- an operator before a value: what is no integer is refused, but for `*` and `!`

quiet_apply : (line : ℕ) (op : UnaryOp) (tree : Tree) (t : PlainTyped) (c : Context) (e : Found) → Quiet c (apply line op tree t c e).0
quiet_apply line u.Deref tree t c e = refl
quiet_apply line u.Not tree t c e = quiet_tested_value tree (c, e)
quiet_apply line op tree t c e = search (arith, quiet_before) fits 100

apply_of : (line : ℕ) (op : UnaryOp) (tree : Tree) (t : PlainTyped) (c : Context) (e : Found) (o : Operand) → operand e.typed.type ≡ o → unary_of line op e.typed o ≡ Ok t → (apply line op tree t c e).1.typed ≡ t
apply_of line op tree t c e o is h = search (arith, never) fits 100

pub applied_rule : (line : ℕ) (op : UnaryOp) (tree : Tree) (c : Context) (e : Found) (z : Context × Found) → applied line op tree c e ≡ Ok z → Ruled (unary line op c.tags e.typed) (asked c) z
applied_rule line op tree c e z h = search (arith, came, ok_same, apply_of, quiet_apply)

pub left_typed : (op : BinaryOp) (before : Code) (right : Tree) (d : Context × Found) → (left_operand op before right d).1.typed ≡ d.1.typed
left_typed op before right d = either_way (λ (x : Context × Found). x.1.typed ≡ d.1.typed) (tells_equal op && is_null_constant d.1.typed && is_pointer_ahead (ahead right d.0)) refl refl

pub quiet_left : (op : BinaryOp) (before : Code) (right : Tree) (d : Context × Found) → Quiet d.0 (left_operand op before right d).0
quiet_left op before right d = either_way (λ (x : Context × Found). Quiet d.0 x.0) (tells_equal op && is_null_constant d.1.typed && is_pointer_ahead (ahead right d.0)) refl refl

pub between_rule : (line : ℕ) (op : BinaryOp) (before : Code) (c : Context) (x y : Found) (z : Context × Found) → between line op before c x y ≡ Ok z → Ruled (binary line op c.tags x.typed y.typed) (asked c) z
between_rule line op before c x y z h = search (arith, ruled, quiet_combined)

pub cast_rule : (line : ℕ) (type : PlainType) (before : Code) (c : Context) (e : Found) (z : Context × Found) → cast_to line type before c e ≡ Ok z → Ruled (cast line type e.typed) (asked c) z
cast_rule line type before c e z h = search (arith, ruled, quiet_convert)

pub and_rule : (line label : ℕ) (tree : Tree) (x : Found) (d : Context × Found) (z : Context × Found) → and_ended line label tree x d ≡ Ok z → Ruled (binary line b.And d.0.tags x.typed d.1.typed) (asked d.0) z
and_rule line label tree x d z h = search (arith, ruled, quiet_tested_value)

pub or_rule : (line end : ℕ) (tree : Tree) (i : Atom) (x : Found) (d : Context × Found) (z : Context × Found) → or_ended line end tree i x d ≡ Ok z → Ruled (binary line b.Or d.0.tags x.typed d.1.typed) (asked d.0) z
or_rule line end tree i x d z h = search (arith, ruled, quiet_compare_again, quiet_tested_value)

pub choice_rule : (line end : ℕ) (before : Code) (t : Atom) (test x : Found) (d : Context × Found) (z : Context × Found) → chosen line end before t test x d ≡ Ok z → Ruled (choice line test.typed x.typed d.1.typed) (asked d.0) z
choice_rule line end before t test x d z h =
    ruled (choice line test.typed x.typed d.1.typed) (λ v. let k = choose_last line before v.type t d in (here end k.0, choice_found v k.1)) (asked d.0) z (λ v. refl) (λ v. quiet_choose_last line before v.type t d) h

pub quiet_first : (line other : ℕ) (before : Code) (type : PlainType) (d : Context × Found) → Quiet d.0 (choose_first line other before type d).0
quiet_first line other before type d = quiet_chosen_by line before type d.1.typed (d.0, atom_in d.1)

-- assignments

pub scalar_rule : (line : ℕ) (before : Code) (tree : Tree) (target : Found) (d : Context × Found) (z : Context × Found) → scalar_assigned line before tree target d ≡ Ok z → Ruled (assigned line (line_of tree) d.0.tags target.typed d.1.typed) (asked d.0) z
scalar_rule line before tree target d z h =
    let t = came (assigned line (line_of tree) d.0.tags target.typed d.1.typed) h in
    let v = came (valued_from tree d.0 d.1) t.last in
    let same : set_to line before t.value target v.value ≡ z = ok_same (set_to line before t.value target v.value) z v.last in
    let read_rule = valued_from_rule tree d.0 d.1 v.value v.is in
    record {
      typed = t.is ∙ ap (λ (x : Context × Found). good x.1.typed) same;
      same = sym (ap (λ (x : Context × Found). asked x.0) same) ∙ (search (arith, quiet_write, quiet_convert)) ∙ read_rule.same;
    }

pub changed_rule : (line : ℕ) (op : AssignOp) (keeps_old : Bool) (target : Found) (old : Atom) (d : Context × Found) (z : Context × Found) → changed_by line op keeps_old target old d ≡ Ok z → Ruled (changed line op d.0.tags target.typed d.1.typed) (asked d.0) z
changed_rule line op keeps_old target old d z h = search (arith, ruled, quiet_write, quiet_changed)

pub stepped_alike : (line : ℕ) (tags : TagTable) (t : PlainTyped) → changed line a.Subtract tags t int ≡ changed line a.Add tags t int
stepped_alike line tags t = ap (λ (x : Checked PlainTyped). unless (not (is_written t)) NotLvalue line x) (search arith fits 100)

pub stepped_rule : (line : ℕ) (op : AssignOp) (keeps_old : Bool) (d : Context × Found) (z : Context × Found) → stepped line op keeps_old d ≡ Ok z → Ruled (changed line op d.0.tags d.1.typed int) (asked d.0) z
stepped_rule line op keeps_old d z h = search (arith, quiet_read, changed_rule)

-- the type of an expression that is elaborated is the one that its types alone give it: calls, and all forms

-- what is called

abbrev CalleeAgrees : Checked (names.Context × Callee) → Context × Callee → Type 0
CalleeAgrees x z = x ≡ Ok (asked z.0, z.1)

callee_agrees : (tree : Tree) (c : Context) (answer : With Found) (x : types.Found) (z : Context × Callee) → ((d : Context × Found) → answer ≡ Ok d → Agreed x d) → callee tree c answer ≡ Ok z → CalleeAgrees (types.callee tree (asked c) x) z
callee_agrees (Node f.Name (At line ▹ Leaf (w.Name name) ▹ none)) c answer x z h e = search (arith, ok_same, never) fits 100
callee_agrees tree c answer x z h e = search (arith, came, wanted_from_rule, ok_same)

-- formats: string literals stand for themselves

abbrev TextOf : Option (List ℕ) → names.Context → names.Context × PlainTyped → Type 0
TextOf None known t = Unit {0}
TextOf (Some bytes) known t = (k : ℕ) × (t ≡ (known, place (Array (Int i.Char) k)))

text_of : (e : Tree) (known : names.Context) (t : names.Context × PlainTyped) → typed e known ≡ Ok t → TextOf (literal e) known t
unfolding typed
text_of (Node f.Str (At line ▹ Node f.Strings parts ▹ none)) known t h = (length (joined parts) + 1, search (arith, never, ok_same) fits 100)
text_of (Node f.Paren (At line ▹ e ▹ none)) known t h = text_of e known t h
text_of e known t h = tt

-- arguments

-- the types of arguments agree, but for that of a format
abbrev SameTypes : Callee → List PlainTyped → List PlainTyped → Type 0
SameTypes Prints [] [] = Unit {0}
SameTypes Prints [] (y ∷ ys) = ⊥
SameTypes Prints (x ∷ xs) [] = ⊥
SameTypes Prints (x ∷ xs) (y ∷ ys) = xs ≡ ys
SameTypes (Takes answer params) xs ys = xs ≡ ys
SameTypes NoFunction xs ys = xs ≡ ys

same_all : (function : Callee) (xs : List PlainTyped) → SameTypes function xs xs
same_all function xs = search arith fits 100

call_same : (line : ℕ) (format : Option (List ℕ)) (function : Callee) (xs ys : List PlainTyped) → SameTypes function xs ys → call line format function xs ≡ call line format function ys
call_same line format function xs ys h = search arith fits 100

argument_typed : (line : ℕ) (params : PlainTypes) (before : Code) (c : Context) (e : Found) → (argument_from line params before c e).1.0 ≡ e.typed
argument_typed line params before c e = search arith fits 100

-- an argument with its type as a value
record Argued (function : Callee) (x : types.Found) (c : Context) (d : Context × Found) : Type 0 where
  type : PlainTyped
  is : x ≡ Ok (asked d.0, type)
  same : (xs ys : List PlainTyped) → xs ≡ ys → SameTypes function (d.1.typed ∷ xs) (type ∷ ys)

argued_value : (function : Callee) (x : types.Found) (c : Context) (d : Context × Found) → Agreed x d → Argued function x c d
argued_value function x c d h = record { type = d.1.typed; is = h; same = λ xs ys e. (search arith fits 100) }

format_argued : (format : Option (List ℕ)) (e : Tree) (c : Context) (walked : With Found) (d : Context × Found) → format ≡ literal e → ((z : Context × Found) → walked ≡ Ok z → Agreed (wanted e (typed e (asked c))) z)
    → format_argument format c (typed e (asked c)) walked ≡ Ok d → Argued Prints (wanted e (typed e (asked c))) c d
format_argued None e c walked d is h k = argued_value Prints (wanted e (typed e (asked c))) c d (h d k)
format_argued (Some bytes) e c walked d is h k =
    let t = came (typed e (asked c)) k in
    let text : TextOf (Some bytes) (asked c) t.value = subst (λ (o : Option (List ℕ)). TextOf o (asked c) t.value) (sym is) (text_of e (asked c) t.value t.is) in
    let same : (c, valued_as t.value.1 atom.Null) ≡ d = ok_same (c, valued_as t.value.1 atom.Null) d t.last in
    subst (Argued Prints (wanted e (typed e (asked c))) c) same
    (record {
      type = value (Pointer (Int i.Char));
      is = wanted_is e (typed e (asked c)) (asked c) (place (Array (Int i.Char) text.0)) (value (Pointer (Int i.Char))) (t.is ∙ ap (λ (x : names.Context × PlainTyped). good x) text.1) refl;
      same = λ xs ys q. q;
    })

argued : (function : Callee) (e : Tree) (c : Context) (walked : With Found) (d : Context × Found) → ((z : Context × Found) → walked ≡ Ok z → Agreed (wanted e (typed e (asked c))) z)
    → format_argument (is_printf function e) c (typed e (asked c)) walked ≡ Ok d → Argued function (wanted e (typed e (asked c))) c d
argued Prints e c walked d h k = format_argued (literal e) e c walked d refl h k
argued (Takes answer params) e c walked d h k = argued_value (Takes answer params) (wanted e (typed e (asked c))) c d (h d k)
argued NoFunction e c walked d h k = argued_value NoFunction (wanted e (typed e (asked c))) c d (h d k)

record ArgumentsAgree (function : Callee) (x : Checked (names.Context × List PlainTyped)) (z : Context × List Argument) : Type 0 where
  types : List PlainTyped
  is : x ≡ Ok (asked z.0, types)
  same : SameTypes function (types_of z.1) types

call_rule : (line : ℕ) (name : Option PlainNamed) (function : Callee) (wish : PlainType) (trees : Trees) (c : Context) (vs : List Argument) (z : Context × Found) → call_answer line name function wish trees c vs ≡ Ok z
    → Ruled (call line (first_literal trees) function (types_of vs)) (asked c) z
call_rule line name function wish trees c vs z h = search (arith, ruled, quiet_result, quiet_of_built_in)

calling_is : (line : ℕ) (trees : Trees) (x : Checked (names.Context × Callee)) (y : names.Context → Checked (names.Context × List PlainTyped)) (known later : names.Context) (function : Callee) (ts : List PlainTyped) (t : PlainTyped)
    → x ≡ Ok (known, function) → y known ≡ Ok (later, ts) → call line (first_literal trees) function ts ≡ Ok t → calling line trees x y ≡ Ok (later, t)
calling_is line trees x y known later function ts t e h k = search (arith, answered_is)

-- one operand and its rule, and two

one_agrees : (x : types.Found) (rule : TagTable → PlainTyped → Checked PlainTyped) (d z : Context × Found) → Agreed x d → Ruled (rule (asked d.0).tags d.1.typed) (asked d.0) z → Agreed (one x rule) z
one_agrees x rule d z e r = finish (one x rule) (asked d.0) z (ap (λ (y : types.Found). one y rule) e ∙ answered_is (asked d.0) (rule (asked d.0).tags d.1.typed) z.1.typed r.typed) r.same

two_agrees : (x : types.Found) (y : names.Context → types.Found) (rule : TagTable → PlainTyped → PlainTyped → Checked PlainTyped) (d r z : Context × Found) → Agreed x d → Agreed (y (asked d.0)) r → Ruled (rule (asked r.0).tags d.1.typed r.1.typed) (asked r.0) z → Agreed (two x y rule) z
two_agrees x y rule d r z e h k = finish (two x y rule) (asked r.0) z (search (arith, answered_is)) k.same

assigned_rule : (test : Bool) (line : ℕ) (before : Code) (g : Tree) (target : Found) (r z : Context × Found) → cond test (record_assigned line (line_of g) target r) (scalar_assigned line before g target r) ≡ Ok z
    → Ruled (assigned line (line_of g) r.0.tags target.typed r.1.typed) (asked r.0) z
assigned_rule true line before g target r z h = ruled (assigned line (line_of g) r.0.tags target.typed r.1.typed) (λ t. (emit line (Copy (atom_in target) (atom_in r.1) (pos (size_or_zero r.0 t.type))) r.0, found_as t Empty Unknown)) (asked r.0) z (λ t. refl) (λ t. refl) h
assigned_rule false line before g target r z h = scalar_rule line before g target r z h

mutual
  unfolding found arguments typed values

  pub found_agrees : (tree : Tree) (wish : PlainType) (c : Context) (z : Context × Found) → found tree wish c ≡ Ok z → Agreed (typed tree (asked c)) z
  found_agrees (Node f.Name (At line ▹ Leaf (w.Name name) ▹ none)) wish c z h = name_agrees line name (declaration c.scopes name) c z h
  found_agrees (Node f.Int (At line ▹ Leaf (w.Int bytes) ▹ none)) wish c z h = ok_agrees c (constant_found (constant (int_constant bytes))) z h
  found_agrees (Node f.Char (At line ▹ Leaf (w.Char bytes) ▹ none)) wish c z h = ok_agrees c (constant_found (constant (char_constant bytes))) z h
  found_agrees (Node f.Str (At line ▹ Node f.Strings parts ▹ none)) wish c z h = string_agrees line (joined parts) c z h
  found_agrees (Node f.Paren (At line ▹ e ▹ none)) wish c z h = found_agrees e wish c z h
  found_agrees (Node f.Index (At line ▹ e ▹ g ▹ none)) wish c z h =
      let d = came (valued e (found e Void c)) h in
      let r = came (valued g (found g Void d.value.0)) d.last in
      two_agrees (wanted e (typed e (asked c))) (λ k. wanted g (typed g k)) (element line) d.value r.value z
      (valued_agrees e (found e Void c) (typed e (asked c)) d.value (λ x k. found_agrees e Void c x k) d.is)
      (valued_agrees g (found g Void d.value.0) (typed g (asked d.value.0)) r.value (λ x k. found_agrees g Void d.value.0 x k) r.is)
      (indexed_rule line r.value.0 d.value.1 r.value.1 z r.last)
  found_agrees (Node f.Call (At line ▹ e ▹ Node f.Arguments trees ▹ none)) wish c z h =
      let d = came (callee e c (found e Void c)) h in
      let v = came (arguments line d.value.1 (parameters d.value.1) trees d.value.0) d.last in
      let called_one = callee_agrees e c (found e Void c) (typed e (asked c)) d.value (λ x k. found_agrees e Void c x k) d.is in
      let args = arguments_agree trees line d.value.1 (parameters d.value.1) d.value.0 v.value v.is in
      let rule = call_rule line (callee_name e c) d.value.1 wish trees v.value.0 v.value.1 z v.last in
      finish (calling line trees (types.callee e (asked c) (typed e (asked c))) (λ k. values trees k)) (asked v.value.0) z
      (calling_is line trees (types.callee e (asked c) (typed e (asked c))) (λ k. values trees k) (asked d.value.0) (asked v.value.0) d.value.1 args.types z.1.typed called_one args.is
      (sym (call_same line (first_literal trees) d.value.1 (types_of v.value.1) args.types args.same) ∙ rule.typed)) rule.same
  found_agrees (Node f.Dot (At line ▹ e ▹ Leaf (w.Name name) ▹ none)) wish c z h =
      let d = came (found e Void c) h in
      one_agrees (typed e (asked c)) (dot line name) d.value z (found_agrees e Void c d.value d.is) (dotted_rule line name d.value.0 d.value.1 z d.last)
  found_agrees (Node f.Arrow (At line ▹ e ▹ Leaf (w.Name name) ▹ none)) wish c z h =
      let d = came (valued e (found e Void c)) h in
      one_agrees (wanted e (typed e (asked c))) (arrow line name) d.value z (valued_agrees e (found e Void c) (typed e (asked c)) d.value (λ x k. found_agrees e Void c x k) d.is) (pointed_rule line name d.value.0 d.value.1 z d.last)
  found_agrees (Node f.PostInc (At line ▹ e ▹ none)) wish c z h =
      let d = came (changing e (found e Void c)) h in
      one_agrees (types.changing e (typed e (asked c))) (rules.stepped line) d.value z (changing_agrees e (found e Void c) (typed e (asked c)) d.value (λ x k. found_agrees e Void c x k) d.is) (stepped_rule line a.Add true d.value z d.last)
  found_agrees (Node f.PostDec (At line ▹ e ▹ none)) wish c z h =
      let d = came (changing e (found e Void c)) h in
      let rule = stepped_rule line a.Subtract true d.value z d.last in
      one_agrees (types.changing e (typed e (asked c))) (rules.stepped line) d.value z (changing_agrees e (found e Void c) (typed e (asked c)) d.value (λ x k. found_agrees e Void c x k) d.is)
      (record { typed = sym (stepped_alike line d.value.0.tags d.value.1.typed) ∙ rule.typed; same = rule.same })
  found_agrees (Node f.PreInc (At line ▹ e ▹ none)) wish c z h =
      let d = came (changing e (found e Void c)) h in
      one_agrees (types.changing e (typed e (asked c))) (rules.stepped line) d.value z (changing_agrees e (found e Void c) (typed e (asked c)) d.value (λ x k. found_agrees e Void c x k) d.is) (stepped_rule line a.Add false d.value z d.last)
  found_agrees (Node f.PreDec (At line ▹ e ▹ none)) wish c z h =
      let d = came (changing e (found e Void c)) h in
      let rule = stepped_rule line a.Subtract false d.value z d.last in
      one_agrees (types.changing e (typed e (asked c))) (rules.stepped line) d.value z (changing_agrees e (found e Void c) (typed e (asked c)) d.value (λ x k. found_agrees e Void c x k) d.is)
      (record { typed = sym (stepped_alike line d.value.0.tags d.value.1.typed) ∙ rule.typed; same = rule.same })
  found_agrees (Node (f.Unary u.Address) (At line ▹ e ▹ none)) wish c z h =
      let d = came (found e Void c) h in
      one_agrees (typed e (asked c)) (λ tags x. address line x) d.value z (found_agrees e Void c d.value d.is) (address_rule line d.value.0 d.value.1 z d.last)
  found_agrees (Node (f.Unary op) (At line ▹ e ▹ none)) wish c z h =
      let d = came (valued e (found e Void c)) h in
      one_agrees (wanted e (typed e (asked c))) (unary line op) d.value z (valued_agrees e (found e Void c) (typed e (asked c)) d.value (λ x k. found_agrees e Void c x k) d.is) (applied_rule line op e d.value.0 d.value.1 z d.last)
  found_agrees (Node f.SizeofExpr (At line ▹ e ▹ none)) wish c z h = unevaluated_agrees (typed (Node f.SizeofExpr (At line ▹ e ▹ none)) (asked c)) c z h
  found_agrees (Node f.SizeofType (At line ▹ name ▹ none)) wish c z h = unevaluated_agrees (typed (Node f.SizeofType (At line ▹ name ▹ none)) (asked c)) c z h
  found_agrees (Node f.Cast (At line ▹ name ▹ e ▹ none)) wish c z h =
      let t = came (typename name (asked c)) h in
      let d = came (cast_operand t.value.1 e (found e t.value.1 (told t.value.0 c))) t.last in
      ap (λ (x : Checked (names.Context × PlainType)). then x (λ t. one (types.cast_operand t.1 e (typed e t.0)) (λ tags x. cast line t.1 x))) t.is
      ∙ one_agrees (types.cast_operand t.value.1 e (typed e t.value.0)) (λ tags x. cast line t.value.1 x) d.value z
      (cast_agrees t.value.1 e (found e t.value.1 (told t.value.0 c)) (typed e t.value.0) d.value (λ x k. found_agrees e t.value.1 (told t.value.0 c) x k) d.is) (cast_rule line t.value.1 c.code d.value.0 d.value.1 z d.last)
  found_agrees (Node (f.Binary b.And) (At line ▹ e ▹ g ▹ none)) wish c z h =
      let d = came (valued e (found e Void c)) h in
      let begun = and_then line e d.value in
      let r = came (valued g (found g Void begun)) d.last in
      let quiet : asked begun ≡ asked d.value.0 = quiet_tested_value e d.value in
      two_agrees (wanted e (typed e (asked c))) (λ k. wanted g (typed g k)) (binary line b.And) d.value r.value z
      (valued_agrees e (found e Void c) (typed e (asked c)) d.value (λ x k. found_agrees e Void c x k) d.is)
      (subst (λ (m : names.Context). Agreed (wanted g (typed g m)) r.value) quiet (valued_agrees g (found g Void begun) (typed g (asked begun)) r.value (λ x k. found_agrees g Void begun x k) r.is))
      (and_rule line (new_label d.value.0) g d.value.1 r.value z r.last)
  found_agrees (Node (f.Binary b.Or) (At line ▹ e ▹ g ▹ none)) wish c z h =
      let d = came (valued e (found e Void c)) h in
      let begun = or_else line e d.value in
      let r = came (valued g (found g Void begun.0)) d.last in
      let quiet : asked begun.0 ≡ asked d.value.0 = quiet_tested_value e d.value in
      two_agrees (wanted e (typed e (asked c))) (λ k. wanted g (typed g k)) (binary line b.Or) d.value r.value z
      (valued_agrees e (found e Void c) (typed e (asked c)) d.value (λ x k. found_agrees e Void c x k) d.is)
      (subst (λ (m : names.Context). Agreed (wanted g (typed g m)) r.value) quiet (valued_agrees g (found g Void begun.0) (typed g (asked begun.0)) r.value (λ x k. found_agrees g Void begun.0 x k) r.is))
      (or_rule line (new_label d.value.0 + 1) g begun.1 d.value.1 r.value z r.last)
  found_agrees (Node (f.Binary op) (At line ▹ e ▹ g ▹ none)) wish c z h =
      let d = came (valued e (found e Void c)) h in
      let begun = left_operand op c.code g d.value in
      let r = came (valued g (found g Void begun.0)) d.last in
      let quiet : asked begun.0 ≡ asked d.value.0 = quiet_left op c.code g d.value in
      let rule = between_rule line op begun.0.code r.value.0 begun.1 r.value.1 z r.last in
      two_agrees (wanted e (typed e (asked c))) (λ k. wanted g (typed g k)) (binary line op) d.value r.value z
      (valued_agrees e (found e Void c) (typed e (asked c)) d.value (λ x k. found_agrees e Void c x k) d.is)
      (subst (λ (m : names.Context). Agreed (wanted g (typed g m)) r.value) quiet (valued_agrees g (found g Void begun.0) (typed g (asked begun.0)) r.value (λ x k. found_agrees g Void begun.0 x k) r.is))
      (record { typed = ap (λ (t : PlainTyped). binary line op r.value.0.tags t r.value.1.typed) (sym (left_typed op c.code g d.value)) ∙ rule.typed; same = rule.same })
  found_agrees (Node f.Cond (At line ▹ e ▹ g ▹ k ▹ none)) wish c z h =
      let d = came (valued e (found e Void c)) h in
      let begun = choose line e d.value in
      let x = came (valued g (found g Void begun)) d.last in
      let first = choose_first line (new_label d.value.0) begun.code (type_ahead line d.value.1 k x.value) x.value in
      let y = came (valued k (found k Void first.0)) x.last in
      let quiet : asked begun ≡ asked d.value.0 = quiet_tested_value e d.value in
      let quiet2 : asked first.0 ≡ asked x.value.0 = quiet_first line (new_label d.value.0) begun.code (type_ahead line d.value.1 k x.value) x.value in
      ap (λ (p : types.Found). then p (λ test. two (wanted g (typed g test.0)) (λ m. wanted k (typed k m)) (λ tags v q. choice line test.1 v q)))
      (valued_agrees e (found e Void c) (typed e (asked c)) d.value (λ v q. found_agrees e Void c v q) d.is)
      ∙ two_agrees (wanted g (typed g (asked d.value.0))) (λ m. wanted k (typed k m)) (λ tags v q. choice line d.value.1.typed v q) x.value y.value z
      (subst (λ (m : names.Context). Agreed (wanted g (typed g m)) x.value) quiet (valued_agrees g (found g Void begun) (typed g (asked begun)) x.value (λ v q. found_agrees g Void begun v q) x.is))
      (subst (λ (m : names.Context). Agreed (wanted k (typed k m)) y.value) quiet2 (valued_agrees k (found k Void first.0) (typed k (asked first.0)) y.value (λ v q. found_agrees k Void first.0 v q) y.is))
      (choice_rule line (new_label d.value.0 + 1) first.0.code first.1 d.value.1 x.value.1 y.value z y.last)
  found_agrees (Node (f.Assign a.Plain) (At line ▹ e ▹ g ▹ none)) wish c z h =
      let d = came (found e Void c) h in
      let r = came (found g d.value.1.typed.type d.value.0) d.last in
      two_agrees (typed e (asked c)) (λ k. typed g k) (assigned line (line_of g)) d.value r.value z (found_agrees e Void c d.value d.is) (found_agrees g d.value.1.typed.type d.value.0 r.value r.is)
      (assigned_rule (is_record d.value.1.typed.type) line d.value.0.code g d.value.1 r.value z r.last)
  found_agrees (Node (f.Assign op) (At line ▹ e ▹ g ▹ none)) wish c z h =
      let d = came (changing e (found e Void c)) h in
      let old = old_value line d.value in
      let r = came (valued g (found g Void old.0)) d.last in
      let quiet : asked old.0 ≡ asked d.value.0 = quiet_read line d.value.1.typed.type d.value.1.spot d.value.0 in
      two_agrees (types.changing e (typed e (asked c))) (λ k. wanted g (typed g k)) (changed line op) d.value r.value z
      (changing_agrees e (found e Void c) (typed e (asked c)) d.value (λ x k. found_agrees e Void c x k) d.is)
      (subst (λ (m : names.Context). Agreed (wanted g (typed g m)) r.value) quiet (valued_agrees g (found g Void old.0) (typed g (asked old.0)) r.value (λ x k. found_agrees g Void old.0 x k) r.is))
      (changed_rule line op false d.value.1 old.1 r.value z r.last)
  found_agrees (Node f.Comma (At line ▹ e ▹ g ▹ none)) wish c z h =
      let d = came (unused e (found e Void c)) h in
      let r = came (unused g (found g Void d.value.0)) d.last in
      let same : comma_answer r.value ≡ z = ok_same (comma_answer r.value) z r.last in
      subst (Agreed (two (types.unused e (typed e (asked c))) (λ k. types.unused g (typed g k)) (λ tags x y. good (behind_comma y)))) same
      (two_agrees (types.unused e (typed e (asked c))) (λ k. types.unused g (typed g k)) (λ tags x y. good (behind_comma y)) d.value r.value (comma_answer r.value)
      (unused_agrees e (found e Void c) (typed e (asked c)) d.value (λ x k. found_agrees e Void c x k) d.is)
      (unused_agrees g (found g Void d.value.0) (typed g (asked d.value.0)) r.value (λ x k. found_agrees g Void d.value.0 x k) r.is)
      (record { typed = refl; same = refl }))
  found_agrees tree wish c z h = never (Agreed (typed tree (asked c)) z) _ z h

  arguments_agree : (trees : Trees) (line : ℕ) (function : Callee) (params : PlainTypes) (c : Context) (z : Context × List Argument) → arguments line function params trees c ≡ Ok z → ArgumentsAgree function (values trees (asked c)) z
  arguments_agree none line function params c z h = search (arith, ok_same, same_all)
  arguments_agree (e ▹ rest) line function params c z h =
      let d = came (format_argument (is_printf function e) c (typed e (asked c)) (valued e (found e (first_type params) c))) h in
      let v = argument_from line params c.code d.value.0 d.value.1 in
      let more = came (arguments line NoFunction (rest_types params) rest v.0) d.last in
      let one_argument = argued function e c (valued e (found e (first_type params) c)) d.value (λ x k. valued_agrees e (found e (first_type params) c) (typed e (asked c)) x (λ y q. found_agrees e (first_type params) c y q) k) d.is in
      let others = arguments_agree rest line NoFunction (rest_types params) v.0 more.value more.is in
      let quiet : asked v.0 ≡ asked d.value.0 = quiet_argument line params c.code d.value.0 d.value.1 in
      let same : (more.value.0, v.1 ∷ more.value.1) ≡ z = ok_same (more.value.0, v.1 ∷ more.value.1) z more.last in
      subst (ArgumentsAgree function (values (e ▹ rest) (asked c))) same
      (record {
        types = one_argument.type ∷ others.types;
        is = ap (λ (x : types.Found). then x (λ d. then (values rest d.0) (λ more. good (more.0, d.1 ∷ more.1)))) one_argument.is
            ∙ ap (λ (m : names.Context). then (values rest m) (λ more. good (more.0, one_argument.type ∷ more.1))) (sym quiet)
            ∙ ap (λ (x : Checked (names.Context × List PlainTyped)). then x (λ more. good (more.0, one_argument.type ∷ more.1))) others.is;
        same = subst (λ (t : PlainTyped). SameTypes function (t ∷ types_of more.value.1) (one_argument.type ∷ others.types)) (sym (argument_typed line params c.code d.value.0 d.value.1)) (one_argument.same (types_of more.value.1) others.types others.same);
      })
