-- Expressions (C99 6.5) and the names of types in them (C99 6.7.6): their types, and the values of constants. The parts of
-- an expression are gone through from left to right, and the whole after its parts; the first refusal stands.
use Rattle.std.specs.Prelude.{ℕ, ◌+◌, pos, Bool, cond, nat_lt, List, [], ◌∷◌, ◌++◌, reverse, length, slice_index, unwrap_or, Option, Some, None, Ok}
use Rattle.hs_base.specs.declared.ends.IntKind.TheVariants.{I8}
use Rattle.hs_base.specs.Numbers.{wrapped}
use Rattle.c_types.specs.declared.types.IntType.TheVariants as i
use Rattle.c_types.specs.Types.{PlainType, PlainTypes, Int, Array, first}
use Rattle.c_types.specs.Types as types
use Rattle.c_types.specs.TagTable.{TagTable}
use Rattle.c_lexer.specs.declared.number.Suffix.TheVariants.{Plain}
use Rattle.c_lexer.specs.Numbers.{base_of, form_of, number_value}
use Rattle.c_lexer.specs.Literals.{literal_values}
use Rattle.c_tree.specs.declared.operator.UnaryOp.TheVariants as u
use Rattle.c_tree.specs.declared.operator.BinaryOp.{BinaryOp}
use Rattle.c_tree.specs.declared.operator.AssignOp.TheVariants as a
use Rattle.c_tree.specs.Words as w
use Rattle.c_tree.specs.Forms as f
use Rattle.c_tree.specs.Tree.{Tree, Trees, Leaf, At, Node, none, ◌▹◌}
use Rattle.c_tree.specs.Scopes.{name_of}
use Rattle.c_decls.specs.declared.constant.Constant.{Constant}
use Rattle.c_decls.specs.declared.refusal.TypeKind.TheVariants.{Operands, NotConstant, TypeTooLarge, LeftOut}
use Rattle.c_decls.specs.IntegerTypes.{number_type}
use Rattle.c_decls.specs.Constants as constants
use Rattle.c_decls.specs.ScopeList.{ScopeList, found, entered, left}
use Rattle.c_decls.specs.Refusals.{Checked, refused, then, unless}
use Rattle.c_decls.specs.declared.typed.Folded.TheVariants.{Varies, Traps, Is}
use Rattle.c_decls.specs.declared.typed.Folded.{Folded}
use Rattle.c_decls.specs.Typed.{PlainTyped, place, value, constant, is_void, is_function, read, wanted_value}
use Rattle.c_decls.specs.TypeRules.{unary, address, binary}
use Rattle.c_decls.specs.PlaceRules.{cast, choice, size, element, dot, arrow, assigned, changed, stepped, held_place, behind_comma}
use Rattle.c_decls.specs.Callees.{Callee, named, called, no_function, call}
use Rattle.c_decls.specs.TypeNames.{Context, Layer, PointerTo, ArrayOf, FunctionOf, specs_type, array_length, with_layers, with_param_layers, adjusted, declared_param}

-- an expression, and the context behind it
abbrev pub Found : Type 0
Found = Checked (Context × PlainTyped)

-- the line of a node; parentheses round an expression give none, nor does an initializer that is one
unfoldable pub line_of : Tree → ℕ
line_of (Node f.Paren (At line ▹ e ▹ none)) = line_of e
line_of (Node f.InitExpr (At line ▹ e ▹ none)) = line_of e
line_of (Node any (At line ▹ parts)) = line
line_of _ = 0

abbrev pub answered : Context → Checked PlainTyped → Found
answered context answer = then answer (λ e. Ok (context, e))

-- an operand whose value is wanted
abbrev pub wanted : Tree → Found → Found
wanted tree answer = then answer (λ e. answered e.0 (wanted_value (line_of tree) e.0.tags e.1))

-- an operand whose value is not used: an assignment to a struct or a union may stand there
abbrev pub unused : Tree → Found → Found
unused tree answer = then answer (λ e. answered e.0 (read (line_of tree) e.0.tags e.1))

-- the operand of a cast, which to void uses no value
abbrev pub cast_operand : PlainType → Tree → Found → Found
cast_operand type tree answer = cond (is_void type) (unused tree answer) (wanted tree answer)

-- an operand that is read and written: what it holds must be a value
abbrev pub changing : Tree → Found → Found
changing tree answer = then answer (λ e. answered e.0 (held_place (line_of tree) e.0.tags e.1))

-- one operand and the rule, two in turn and the rule
abbrev pub one : Found → (TagTable → PlainTyped → Checked PlainTyped) → Found
one operand rule = then operand (λ e. answered e.0 (rule e.0.tags e.1))

abbrev pub two : Found → (Context → Found) → (TagTable → PlainTyped → PlainTyped → Checked PlainTyped) → Found
two left_one right_one rule = then left_one (λ d. then (right_one d.0) (λ e. answered e.0 (rule e.0.tags d.1 e.1)))

-- an integer constant, whose type is the first of its list
abbrev pub int_constant : List ℕ → Constant
int_constant bytes =
    constants.typed (unwrap_or (number_type (base_of bytes) (unwrap_or (form_of bytes) Plain) (number_value bytes)) i.Int)
    (pos (number_value bytes))

-- a character constant: its byte as char, of type int (C99 6.4.4.4)
abbrev pub char_constant : List ℕ → Constant
char_constant bytes = constants.typed i.Int (wrapped I8 (pos (slice_index (literal_values bytes) 0)))

-- the bytes of string literals one behind another (C99 6.4.5)
abbrev pub joined : Trees → List ℕ
joined none = []
joined (Leaf (w.Str bytes) ▹ rest) = literal_values bytes ++ joined rest
joined (tree ▹ rest) = joined rest

-- a string literal is an array of its bytes and a zero
abbrev pub string : ℕ → List ℕ → Checked PlainTyped
string line bytes =
    unless (nat_lt 268435456 (length bytes + 1)) TypeTooLarge line (Ok (place (Array (Int i.Char) (length bytes + 1))))

-- the bytes of string literals, through parentheses
abbrev pub literal : Tree → Option (List ℕ)
literal (Node f.Str (At line ▹ Node f.Strings parts ▹ none)) = Some (joined parts)
literal (Node f.Paren (At line ▹ e ▹ none)) = literal e
literal _ = None

abbrev pub first_literal : Trees → Option (List ℕ)
first_literal none = None
first_literal (e ▹ rest) = literal e

-- what is called: a name, or a value
abbrev pub callee : Tree → Context → Found → Checked (Context × Callee)
callee (Node f.Name (At line ▹ Leaf (w.Name name) ▹ none)) context answer =
    then (called line context.tags (found context.scopes name)) (λ c. Ok (context, c))
callee e context answer =
    then answer (λ d. then (no_function (line_of e) d.0.tags (Ok d.1)) (λ c. Ok (d.0, c)))

-- a call, once its callee and its arguments are known
abbrev pub calling : ℕ → Trees → Checked (Context × Callee) → (Context → Checked (Context × List PlainTyped)) → Found
calling line arguments function values =
    then function (λ c. then (values c.0) (λ v. answered v.0 (call line (first_literal arguments) c.1 v.1)))

abbrev pub in_new_scope : Context → Context
in_new_scope context = record { scopes = entered context.scopes; tags = context.tags }

abbrev pub out_of_scope : Context → Context
out_of_scope context = record { scopes = left context.scopes; tags = context.tags }

unfoldable mutual
  -- an expression: its type, and its value where it is constant
  pub typed : Tree → Context → Found
  typed (Node f.Name (At line ▹ Leaf (w.Name name) ▹ none)) c = answered c (named line (found c.scopes name))
  typed (Node f.Int (At line ▹ Leaf (w.Int bytes) ▹ none)) c = Ok (c, constant (int_constant bytes))
  typed (Node f.Char (At line ▹ Leaf (w.Char bytes) ▹ none)) c = Ok (c, constant (char_constant bytes))
  typed (Node f.Str (At line ▹ Node f.Strings parts ▹ none)) c = answered c (string line (joined parts))
  typed (Node f.Paren (At line ▹ e ▹ none)) c = typed e c
  typed (Node f.Index (At line ▹ e ▹ g ▹ none)) c = two (wanted e (typed e c)) (λ d. wanted g (typed g d)) (element line)
  typed (Node f.Call (At line ▹ e ▹ Node f.Arguments arguments ▹ none)) c =
      calling line arguments (callee e c (typed e c)) (λ d. values arguments d)
  typed (Node f.Dot (At line ▹ e ▹ Leaf (w.Name name) ▹ none)) c = one (typed e c) (dot line name)
  typed (Node f.Arrow (At line ▹ e ▹ Leaf (w.Name name) ▹ none)) c = one (wanted e (typed e c)) (arrow line name)
  typed (Node f.PostInc (At line ▹ e ▹ none)) c = one (changing e (typed e c)) (stepped line)
  typed (Node f.PostDec (At line ▹ e ▹ none)) c = one (changing e (typed e c)) (stepped line)
  typed (Node f.PreInc (At line ▹ e ▹ none)) c = one (changing e (typed e c)) (stepped line)
  typed (Node f.PreDec (At line ▹ e ▹ none)) c = one (changing e (typed e c)) (stepped line)
  typed (Node (f.Unary u.Address) (At line ▹ e ▹ none)) c = one (typed e c) (λ tags d. address line d)
  typed (Node (f.Unary op) (At line ▹ e ▹ none)) c = one (wanted e (typed e c)) (unary line op)
  typed (Node f.SizeofExpr (At line ▹ e ▹ none)) c = one (typed e c) (λ tags d. size line tags d.type)
  typed (Node f.SizeofType (At line ▹ name ▹ none)) c =
      then (typename name c) (λ t. answered t.0 (size line t.0.tags t.1))
  typed (Node f.Cast (At line ▹ name ▹ e ▹ none)) c =
      then (typename name c) (λ t. one (cast_operand t.1 e (typed e t.0)) (λ tags d. cast line t.1 d))
  typed (Node (f.Binary op) (At line ▹ e ▹ g ▹ none)) c =
      two (wanted e (typed e c)) (λ d. wanted g (typed g d)) (binary line op)
  typed (Node f.Cond (At line ▹ e ▹ g ▹ h ▹ none)) c =
      then (wanted e (typed e c)) (λ test. two (wanted g (typed g test.0)) (λ d. wanted h (typed h d)) (λ tags x y. choice line test.1 x y))
  typed (Node (f.Assign a.Plain) (At line ▹ e ▹ g ▹ none)) c =
      two (typed e c) (λ d. typed g d) (assigned line (line_of g))
  typed (Node (f.Assign op) (At line ▹ e ▹ g ▹ none)) c =
      two (changing e (typed e c)) (λ d. wanted g (typed g d)) (changed line op)
  typed (Node f.Comma (At line ▹ e ▹ g ▹ none)) c =
      two (unused e (typed e c)) (λ d. unused g (typed g d)) (λ tags x y. Ok (behind_comma y))
  typed tree c = refused Operands (line_of tree)

  -- the values of arguments, in turn
  pub values : Trees → Context → Checked (Context × List PlainTyped)
  values none c = Ok (c, [])
  values (e ▹ rest) c = then (wanted e (typed e c)) (λ d. then (values rest d.0) (λ more. Ok (more.0, d.1 ∷ more.1)))

  -- the name of a type
  pub typename : Tree → Context → Checked (Context × PlainType)
  typename (Node f.Typename (At line ▹ Node f.Specs (At at ▹ words) ▹ declarator ▹ none)) c =
      then (specs_type at words words c) (λ base. then (layers declarator base.0) (λ l. then (with_layers l.0.tags l.1 base.1) (λ type. unless (is_function type) LeftOut line (Ok (l.0, type)))))
  typename tree c = refused Operands (line_of tree)

  -- the layers of a declarator, from the specs towards the name; what stands in its suffixes comes in the order of the text
  pub layers : Tree → Context → Checked (Context × List Layer)
  layers (Node (f.Pointer consts) (At line ▹ declarator ▹ none)) c =
      then (layers declarator c) (λ l. Ok (l.0, PointerTo line ∷ l.1))
  layers (Node f.Direct (base ▹ Node f.Suffixes suffixes ▹ none)) c =
      then (layers base c) (λ l. then (suffix_layers suffixes l.0) (λ s. Ok (s.0, reverse s.1 ++ l.1)))
  layers (Node f.Parens (At line ▹ declarator ▹ none)) c = layers declarator c
  layers tree c = Ok (c, [])

  pub suffix_layers : Trees → Context → Checked (Context × List Layer)
  suffix_layers none c = Ok (c, [])
  suffix_layers (suffix ▹ rest) c =
      then (suffix_layer suffix c) (λ l. then (suffix_layers rest l.0) (λ more. Ok (more.0, l.1 ∷ more.1)))

  pub suffix_layer : Tree → Context → Checked (Context × Layer)
  suffix_layer (Node f.ArraySuffix (At line ▹ Node f.MaybeLength none ▹ none)) c = Ok (c, ArrayOf line None)
  suffix_layer (Node f.ArraySuffix (At line ▹ Node f.MaybeLength (e ▹ none) ▹ none)) c =
      then (wanted e (typed e c)) (λ d. then (array_length (line_of e) d.1) (λ length. Ok (d.0, ArrayOf line (Some length))))
  suffix_layer (Node f.FunctionSuffix (At line ▹ Node f.Params params ▹ none)) c =
      then (param_types params (in_new_scope c)) (λ p. Ok (out_of_scope p.0, FunctionOf line p.1))
  suffix_layer tree c = Ok (c, FunctionOf (line_of tree) types.none)

  -- the types of parameters, each declared behind those before it
  pub param_types : Trees → Context → Checked (Context × PlainTypes)
  param_types none c = Ok (c, types.none)
  param_types (param ▹ rest) c =
      then (param_type param c) (λ p. then (param_types rest p.0) (λ more. Ok (more.0, first p.1 more.1)))

  pub param_type : Tree → Context → Checked (Context × PlainType)
  param_type (Node f.Param (At line ▹ Node f.Specs (At at ▹ words) ▹ declarator ▹ none)) c =
      then (specs_type at words words c) (λ base. then (layers declarator base.0) (λ l. then (with_param_layers l.0.tags l.1 base.1) (λ type. declared_param line l.0 (name_of declarator) (adjusted type))))
  param_type tree c = refused Operands (line_of tree)

-- the value of an expression that must be constant; the whole is gone through first
abbrev pub constant_from : ℕ → PlainType → Folded → Checked Constant
constant_from line (Int ty) (Is n) = Ok (constants.typed ty n)
constant_from line type folded = refused NotConstant line

-- an integer constant expression (C99 6.6)
abbrev pub constant_value : ScopeList → TagTable → Tree → Checked Constant
constant_value scopes tags e =
    then (wanted e (typed e (record { scopes = scopes; tags = tags }))) (λ d. constant_from (line_of e) d.1.type d.1.folded)
