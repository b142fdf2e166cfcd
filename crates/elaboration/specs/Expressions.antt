-- Expressions (C99 6.5): their code and what they answer, or the first refusal.
use Rattle.std.specs.Prelude.{ℕ, ◌+◌, true, false, List, [], ◌∷◌, cond, Option, Some, None, Ok}
use Rattle.c_types.specs.Types as types
use Rattle.c_types.specs.Types.{PlainType, PlainTypes, Void}
use Rattle.core_tree.specs.declared.statements.Atom.TheVariants as atom
use Rattle.c_tree.specs.declared.operator.UnaryOp.TheVariants as u
use Rattle.c_tree.specs.declared.operator.BinaryOp.TheVariants as b
use Rattle.c_tree.specs.declared.operator.AssignOp.TheVariants as a
use Rattle.c_tree.specs.Words as w
use Rattle.c_tree.specs.Forms as f
use Rattle.c_tree.specs.Tree.{Tree, Trees, Leaf, At, Node, none, ◌▹◌}
use Rattle.c_decls.specs.declared.refusal.TypeKind.TheVariants.{Operands}
use Rattle.c_decls.specs.Refusals.{Checked, refused, then}
use Rattle.c_decls.specs.ScopeList.{found as declaration}
use Rattle.c_decls.specs.Named.{PlainNamed}
use Rattle.c_decls.specs.Typed.{PlainTyped, is_void, is_record, constant}
use Rattle.c_decls.specs.TypeRules.{address}
use Rattle.c_decls.specs.PlaceRules.{behind_comma, held_place}
use Rattle.c_decls.specs.Callees.{Callee, Takes, Prints, NoFunction, named, called, call}
use Rattle.c_decls.specs.TypeNames as names
use Rattle.c_decls.specs.Expressions.{line_of, int_constant, char_constant, joined, string, literal, first_literal, typed, typename}
use Rattle.elaboration.specs.Context.{Context, With, asked, told, new_label}
use Rattle.elaboration.specs.Conversions.{Found, Value, Unknown, found_as, valued_as, atom_in, unused, valued}
use Rattle.elaboration.specs.Calls.{Argument, types_of, first_type, rest_types, argument_from, call_named}
use Rattle.elaboration.specs.Rules.{constant_found, name_found, is_inner, with_literal, literal_found, indexed, dotted, pointed, applied, left_operand, between, cast_to, and_then, and_ended, or_else, or_ended, choose, type_ahead, choose_first, chosen}
use Rattle.elaboration.specs.Assignments.{record_assigned, scalar_assigned, old_value, changed_by, stepped}

-- a name (C99 6.5.1)
abbrev pub name_answer : ℕ → List ℕ → Option PlainNamed → Context → With Found
name_answer line name declared c =
    then (named line declared) (λ e. Ok (c, name_found e (is_inner c name) declared))

-- string literals (C99 6.4.5)
abbrev pub literal_answer : ℕ → List ℕ → Context → With Found
literal_answer line bytes c =
    then (string line bytes) (λ e. then (with_literal line bytes c) (λ d. Ok (literal_found e d)))

-- what is known by its type alone: `sizeof` does not evaluate (C99 6.5.3.4)
abbrev pub unevaluated : Context → Checked (names.Context × PlainTyped) → With Found
unevaluated c answer = then answer (λ d. Ok (told d.0 c, constant_found d.1))

-- `&` of a place (C99 6.5.3.2)
abbrev pub address_answer : ℕ → Context → Found → With Found
address_answer line c e = then (address line e.typed) (λ type. Ok (c, found_as type (Value (atom_in e)) e.fixed))

-- an operand that is read and written: what it holds must be a value
abbrev pub changing : Tree → With Found → With Found
changing tree answer =
    then answer (λ d. then (held_place (line_of tree) d.0.tags d.1.typed) (λ held. Ok d))

-- the operand of a cast, which to void uses no value (C99 6.5.4)
abbrev pub cast_operand : PlainType → Tree → With Found → With Found
cast_operand type tree answer = cond (is_void type) (unused tree answer) (valued tree answer)

-- the right side of a comma (C99 6.5.17)
abbrev pub comma_answer : Context × Found → Context × Found
comma_answer d = (d.0, found_as (behind_comma d.1.typed) d.1.spot Unknown)

-- calls

-- what the name of a call is declared as; of another callee nothing is known
abbrev pub callee_name : Tree → Context → Option PlainNamed
callee_name (Node f.Name (At line ▹ Leaf (w.Name name) ▹ none)) c = declaration c.scopes name
callee_name tree c = None

-- what is called: a name is looked up, any other expression is gone through and is no function
abbrev pub callee : Tree → Context → With Found → With Callee
callee (Node f.Name (At line ▹ Leaf (w.Name name) ▹ none)) c answer =
    then (called line c.tags (declaration c.scopes name)) (λ function. Ok (c, function))
callee tree c answer = then (valued tree answer) (λ d. Ok (d.0, NoFunction))

abbrev pub parameters : Callee → PlainTypes
parameters (Takes answer params) = params
parameters other = types.none

-- a format of `printf` is no object: its literals are gone through by their type alone
abbrev pub format_argument : Option (List ℕ) → Context → Checked (names.Context × PlainTyped) → With Found → With Found
format_argument (Some bytes) c answer walked = then answer (λ d. Ok (c, valued_as d.1 atom.Null))
format_argument None c answer walked = walked

abbrev pub is_printf : Callee → Tree → Option (List ℕ)
is_printf Prints tree = literal tree
is_printf other tree = None

-- the call, once its arguments are in hand: their number, their conversions in order, and then the statement
abbrev pub call_answer : ℕ → Option PlainNamed → Callee → PlainType → Trees → Context → List Argument → With Found
call_answer line name function wanted arguments c values =
    then (call line (first_literal arguments) function (types_of values)) (λ e. let d = call_named line name e.type wanted (first_literal arguments) values c in Ok (d.0, found_as e d.1 Unknown))

unfoldable mutual
  -- A: an expression as a place, or as a value where it is none. A value that is wanted as a type, through parentheses
  -- alone, is wanted as this.
  pub found : Tree → PlainType → Context → With Found
  found (Node f.Name (At line ▹ Leaf (w.Name name) ▹ none)) wanted c =
      name_answer line name (declaration c.scopes name) c
  found (Node f.Int (At line ▹ Leaf (w.Int bytes) ▹ none)) wanted c =
      Ok (c, constant_found (constant (int_constant bytes)))
  found (Node f.Char (At line ▹ Leaf (w.Char bytes) ▹ none)) wanted c =
      Ok (c, constant_found (constant (char_constant bytes)))
  found (Node f.Str (At line ▹ Node f.Strings parts ▹ none)) wanted c = literal_answer line (joined parts) c
  found (Node f.Paren (At line ▹ e ▹ none)) wanted c = found e wanted c
  found (Node f.Index (At line ▹ e ▹ g ▹ none)) wanted c =
      then (valued e (found e Void c)) (λ d. then (valued g (found g Void d.0)) (λ r. indexed line r.0 d.1 r.1))
  found (Node f.Call (At line ▹ e ▹ Node f.Arguments values ▹ none)) wanted c =
      then (callee e c (found e Void c)) (λ d. then (arguments line d.1 (parameters d.1) values d.0) (λ v. call_answer line (callee_name e c) d.1 wanted values v.0 v.1))
  found (Node f.Dot (At line ▹ e ▹ Leaf (w.Name name) ▹ none)) wanted c =
      then (found e Void c) (λ d. dotted line name d.0 d.1)
  found (Node f.Arrow (At line ▹ e ▹ Leaf (w.Name name) ▹ none)) wanted c =
      then (valued e (found e Void c)) (λ d. pointed line name d.0 d.1)
  found (Node f.PostInc (At line ▹ e ▹ none)) wanted c =
      then (changing e (found e Void c)) (λ d. stepped line a.Add true d)
  found (Node f.PostDec (At line ▹ e ▹ none)) wanted c =
      then (changing e (found e Void c)) (λ d. stepped line a.Subtract true d)
  found (Node f.PreInc (At line ▹ e ▹ none)) wanted c =
      then (changing e (found e Void c)) (λ d. stepped line a.Add false d)
  found (Node f.PreDec (At line ▹ e ▹ none)) wanted c =
      then (changing e (found e Void c)) (λ d. stepped line a.Subtract false d)
  found (Node (f.Unary u.Address) (At line ▹ e ▹ none)) wanted c =
      then (found e Void c) (λ d. address_answer line d.0 d.1)
  found (Node (f.Unary op) (At line ▹ e ▹ none)) wanted c =
      then (valued e (found e Void c)) (λ d. applied line op e d.0 d.1)
  found (Node f.SizeofExpr (At line ▹ e ▹ none)) wanted c =
      unevaluated c (typed (Node f.SizeofExpr (At line ▹ e ▹ none)) (asked c))
  found (Node f.SizeofType (At line ▹ name ▹ none)) wanted c =
      unevaluated c (typed (Node f.SizeofType (At line ▹ name ▹ none)) (asked c))
  found (Node f.Cast (At line ▹ name ▹ e ▹ none)) wanted c =
      then (typename name (asked c)) (λ t. then (cast_operand t.1 e (found e t.1 (told t.0 c))) (λ d. cast_to line t.1 c.code d.0 d.1))
  found (Node (f.Binary b.And) (At line ▹ e ▹ g ▹ none)) wanted c =
      then (valued e (found e Void c)) (λ d. let begun = and_then line e d in then (valued g (found g Void begun)) (λ r. and_ended line (new_label d.0) g d.1 r))
  found (Node (f.Binary b.Or) (At line ▹ e ▹ g ▹ none)) wanted c =
      then (valued e (found e Void c)) (λ d. let begun = or_else line e d in then (valued g (found g Void begun.0)) (λ r. or_ended line (new_label d.0 + 1) g begun.1 d.1 r))
  found (Node (f.Binary op) (At line ▹ e ▹ g ▹ none)) wanted c =
      then (valued e (found e Void c)) (λ d. let begun = left_operand op c.code g d in then (valued g (found g Void begun.0)) (λ r. between line op begun.0.code r.0 begun.1 r.1))
  found (Node f.Cond (At line ▹ e ▹ g ▹ h ▹ none)) wanted c =
      then (valued e (found e Void c)) (λ d. let begun = choose line e d in then (valued g (found g Void begun)) (λ x. let first = choose_first line (new_label d.0) begun.code (type_ahead line d.1 h x) x in then (valued h (found h Void first.0)) (λ y. chosen line (new_label d.0 + 1) first.0.code first.1 d.1 x.1 y)))
  found (Node (f.Assign a.Plain) (At line ▹ e ▹ g ▹ none)) wanted c =
      then (found e Void c) (λ d. then (found g d.1.typed.type d.0) (λ r. cond (is_record d.1.typed.type) (record_assigned line (line_of g) d.1 r) (scalar_assigned line d.0.code g d.1 r)))
  found (Node (f.Assign op) (At line ▹ e ▹ g ▹ none)) wanted c =
      then (changing e (found e Void c)) (λ d. let old = old_value line d in then (valued g (found g Void old.0)) (λ r. changed_by line op false d.1 old.1 r))
  found (Node f.Comma (At line ▹ e ▹ g ▹ none)) wanted c =
      then (unused e (found e Void c)) (λ d. then (unused g (found g Void d.0)) (λ r. Ok (comma_answer r)))
  found tree wanted c = refused Operands (line_of tree)

  -- arguments in turn: V, and C to the type of the parameter
  pub arguments : ℕ → Callee → PlainTypes → Trees → Context → With (List Argument)
  arguments line target params none c = Ok (c, [])
  arguments line target params (e ▹ rest) c =
      then (format_argument (is_printf target e) c (typed e (asked c)) (valued e (found e (first_type params) c))) (λ d. let v = argument_from line params c.code d.0 d.1 in then (arguments line NoFunction (rest_types params) rest v.0) (λ more. Ok (more.0, v.1 ∷ more.1)))

-- the value of an expression in a full expression that has begun
abbrev pub value_of : Tree → PlainType → Context → With Found
value_of e wanted c = valued e (found e wanted c)
