-- Statements (C99 6.8): their code, or the first refusal.
use Rattle.std.specs.Prelude.{ℕ, zero, suc, ◌+◌, ◌-◌, ℤ, Bool, true, false, not, map, length, take, drop, is_some, List, [], ◌∷◌, ◌++◌, Option, Some, None, Ok}
use Rattle.std.specs.List.{list_any}
use Rattle.std.specs.Ordering.{int_eq}
use Rattle.hs_base.specs.Numbers.{wrapped}
use Rattle.c_types.specs.declared.types.IntType.{IntType}
use Rattle.c_types.specs.Types.{PlainType, Void, kind_of}
use Rattle.core_tree.specs.declared.statements.Atom.{Atom}
use Rattle.core_tree.specs.declared.statements.StmKind.{StmKind}
use Rattle.core_tree.specs.declared.statements.StmKind.TheVariants.{Jump, Zero, Case, Loop, Enter, Leave, Return}
use Rattle.c_tree.specs.Forms as f
use Rattle.c_tree.specs.Tree.{Tree, Trees, At, Node, none, ◌▹◌}
use Rattle.c_decls.specs.declared.refusal.TypeKind.TheVariants.{Operands, Assignment, StrayBreak, CaseTwice, LeftOut}
use Rattle.c_decls.specs.Refusals.{Checked, refused, then, unless}
use Rattle.c_decls.specs.IntegerTypes.{promoted}
use Rattle.c_decls.specs.Typed.{Operand, Number, operand, is_void, is_scalar}
use Rattle.c_decls.specs.PlaceRules.{converts}
use Rattle.c_decls.specs.Expressions.{line_of}
use Rattle.elaboration.specs.Context.{Piece, Does, Here, Code, Context, With, scoped, emit, here, new_label, with_labels, with_pieces}
use Rattle.elaboration.specs.Conversions.{Found, atom_in, unused, valued, convert, convert_integer, tested_value}
use Rattle.elaboration.specs.Reallocates.{opened, closed}
use Rattle.elaboration.specs.Expressions.{found}
use Rattle.elaboration.specs.Declarators.{constant}
use Rattle.elaboration.specs.Declarations.{declaration}

-- what stands around a statement: where `break` and `continue` lead, each with how many delay blocks of the function are
-- open there; how many are open here; the promoted type of the operand of the innermost switch; and whether a label of it
-- may stand here
pub record Around : Type 0 where
  pub breaks : Option (ℕ × ℕ)
  pub continues : Option (ℕ × ℕ)
  pub delays : ℕ
  pub switched : Option IntType
  pub labelled : Bool

abbrev pub around_body : Around
around_body = record { breaks = None; continues = None; delays = 0; switched = None; labelled = false }

-- labels of a switch stand among the items of its body, which is a block; inside another statement none stands
abbrev pub below : Around → Around
below a = record a { labelled = false }

abbrev pub in_loop : ℕ → ℕ → Around → Around
in_loop end next a =
    record a { breaks = Some (end, a.delays); continues = Some (next, a.delays); labelled = false }

abbrev pub in_switch : Bool → ℕ → IntType → Around → Around
in_switch block end ty a = record a { breaks = Some (end, a.delays); switched = Some ty; labelled = block }

abbrev pub in_delay : Around → Around
in_delay a = record a { delays = a.delays + 1; labelled = false }

-- so many delay blocks are left
abbrev pub leaves : ℕ → ℕ → Context → Context
leaves line zero c = c
leaves line (suc n) c = leaves line n (emit line Leave c)

-- `break` and `continue`: `leave` for each delay block that is left, and a jump (C99 6.8.6.2, 6.8.6.3)
abbrev pub leave_to : ℕ → ℕ → Option (ℕ × ℕ) → Context → Checked Context
leave_to line delays None c = refused StrayBreak line
leave_to line delays (Some exit) c = Ok (emit line (Jump exit.0) (leaves line (delays - exit.1) c))

-- expressions

-- an expression as a statement: its value is not used (C99 6.8.3)
abbrev pub evaluated : Tree → Context → Checked Context
evaluated e c = then (unused e (found e Void (opened e c))) (λ d. Ok (closed e d.0))

abbrev pub maybe_evaluated : Trees → Context → Checked Context
maybe_evaluated none c = Ok c
maybe_evaluated (e ▹ rest) c = evaluated e c

-- T of a condition, which has a scalar type (C99 6.8.4.1, 6.8.5)
abbrev pub closed_atom : Tree → Context × Atom → Context × Atom
closed_atom e d = (closed e d.0, d.1)

abbrev pub condition : Tree → Context → With Atom
condition e c =
    then (valued e (found e Void (opened e c))) (λ d. unless (not (is_scalar d.1.typed.type)) Operands (line_of e) (Ok (closed_atom e (tested_value e d))))

-- T of a condition, and `zero a L`
abbrev pub leaves_if_zero : ℕ → ℕ → Tree → Context → Checked Context
leaves_if_zero line label e c = then (condition e c) (λ d. Ok (emit line (Zero d.1 label) d.0))

abbrev pub maybe_leaves : ℕ → ℕ → Trees → Context → Checked Context
maybe_leaves line label none c = Ok c
maybe_leaves line label (e ▹ rest) c = leaves_if_zero line label e c

-- code that is made apart: with no pieces before it; and pieces behind others
abbrev pub apart : Context → Context
apart c = with_pieces [] c

abbrev pub behind : List Piece → Context → Context
behind pieces c = with_pieces (pieces ++ c.code.pieces) c

-- `return` (C99 6.8.6.4): `leave` for each open delay block of the function
abbrev pub returned : ℕ → ℕ → Option Atom → Context → Context
returned line delays a c = emit line (Return a) (leaves line delays c)

abbrev pub return_value : ℕ → ℕ → Tree → PlainType → Code → Context × Found → Checked Context
return_value line delays e type before d =
    let v = convert line before type d.1.typed (atom_in d.1) d.0 in
    Ok (returned line delays (Some v.1) (closed e v.0))

abbrev pub return_of : ℕ → ℕ → Tree → PlainType → Context → Checked Context
return_of line delays e type c =
    let begun = opened e c in
    then (valued e (found e type begun)) (λ d. unless (is_void type) Assignment line (converts line type d.1.typed (return_value line delays e type begun.code d)))

abbrev pub return_from : ℕ → ℕ → Trees → Context → Checked Context
return_from line delays none c =
    unless (not (is_void c.running.answer)) Assignment line (Ok (returned line delays None c))
return_from line delays (e ▹ rest) c = return_of line delays e c.running.answer c

-- switches (C99 6.8.4.2)

-- a value of a case is new among those so far
abbrev pub has_case : ℤ → Context → Bool
has_case v c = list_any (λ x. int_eq x.0 v) c.running.cases

abbrev pub with_case : ℕ → ℤ → ℕ → Context → Context
with_case place v label c =
    record c { running = record c.running { cases = take place c.running.cases ++ ((v, label) ∷ drop place c.running.cases) } }

-- a case, once its statement is gone through; it stands before those inside its statement
abbrev pub case_of : ℕ → Around → IntType → ℕ → ℤ → ℕ → Context → Checked Context
case_of line a ty place v label c =
    let value = wrapped (kind_of ty) v in
    unless (not a.labelled) LeftOut line
    (unless (has_case value c) CaseTwice line (Ok (with_case place value label c)))

abbrev pub cased : ℕ → Around → Option IntType → ℕ → ℤ → ℕ → Context → Checked Context
cased line a None place v label c = refused StrayBreak line
cased line a (Some ty) place v label c = case_of line a ty place v label c

abbrev pub defaulted : ℕ → Around → ℕ → Context → Checked Context
defaulted line a label c =
    unless (not (is_some a.switched)) StrayBreak line
    (unless (not a.labelled) LeftOut line
    (unless (is_some c.running.otherwise) CaseTwice line
    (Ok (record c { running = record c.running { otherwise = Some label } }))))

-- `case a v L` for each case in order, and a jump to the default or the end
abbrev pub does : ℕ → StmKind → Piece
does line kind = Does (record { line = line; kind = kind })

abbrev pub default_or : ℕ → Option ℕ → ℕ
default_or end None = end
default_or end (Some label) = label

abbrev pub dispatch : ℕ → Atom → ℕ → Context → List Piece
dispatch line a end c =
    map (λ x. does line (Case a x.0 x.1)) c.running.cases ++ does line (Jump (default_or end c.running.otherwise)) ∷ []

-- the operand: an integer, converted to its promoted type
abbrev pub switch_operand_of : ℕ → Tree → Operand → Context × Found → With (IntType × Atom)
switch_operand_of line e (Number ty) d =
    let v = convert_integer line (promoted ty) ty (atom_in d.1) d.0 in Ok (closed e v.0, (promoted ty, v.1))
switch_operand_of line e other d = refused Operands (line_of e)

abbrev pub switch_operand : ℕ → Tree → Context → With (IntType × Atom)
switch_operand line e c =
    then (valued e (found e Void (opened e c))) (λ d. switch_operand_of line e (operand d.1.typed.type) d)

-- a switch inside another has cases of its own
abbrev pub no_cases : Context → Context
no_cases c = record c { running = record c.running { cases = []; otherwise = None } }

abbrev pub cases_of : Context → Context → Context
cases_of before c =
    record c { running = record c.running { cases = before.running.cases; otherwise = before.running.otherwise } }

-- a switch, once its body is gone through apart
abbrev pub switched : ℕ → ℕ → Atom → Context → Context → Context
switched line end a before c =
    here end (cases_of before (behind (before.code.pieces ++ dispatch line a end c) c))

-- the loop back, and the end of a loop
abbrev pub looped : ℕ → ℕ → ℕ → Context → Context
looped line head end c = here end (emit line (Loop head) c)

-- what stands first in a `for`
abbrev pub for_start : ℕ → Tree → Context → Checked Context
for_start line (Node f.ForNames (words ▹ names ▹ none)) c = declaration false line words names c
for_start line (Node f.ForStart (Node f.MaybeExpr e ▹ none)) c = maybe_evaluated e c
for_start line tree c = refused Operands line

unfoldable mutual
  -- a statement; each substatement is a scope of its own
  pub statement : Tree → Around → Context → Checked Context
  statement (Node f.Empty parts) a c = Ok c
  statement (Node f.Expr (At line ▹ e ▹ none)) a c = evaluated e c
  statement (Node f.Block (At line ▹ Node f.Items parts ▹ none)) a c = scoped c (λ d. items parts (below a) d)
  statement (Node f.Delay (At line ▹ Node f.Items parts ▹ none)) a c =
      scoped c (λ d. then (items parts (in_delay a) (emit line Enter d)) (λ e. Ok (emit line Leave e)))
  statement (Node f.If (At line ▹ e ▹ s ▹ none)) a c =
      let end = new_label c in
      scoped (with_labels 1 c) (λ d. then (leaves_if_zero line end e d) (λ t. then (scoped t (λ b. statement s (below a) b)) (λ g. Ok (here end g))))
  statement (Node f.IfElse (At line ▹ e ▹ s ▹ other ▹ none)) a c =
      let end = new_label c in
      scoped (with_labels 2 c) (λ d. then (leaves_if_zero line (end + 1) e d) (λ t. then (scoped t (λ b. statement s (below a) b)) (λ g. then (scoped (here (end + 1) (emit line (Jump end) g)) (λ b. statement other (below a) b)) (λ h. Ok (here end h)))))
  statement (Node f.While (At line ▹ e ▹ s ▹ none)) a c =
      let head = new_label c in
      scoped (with_labels 3 c) (λ d. then (leaves_if_zero line (head + 1) e (here head d)) (λ t. then (scoped t (λ b. statement s (in_loop (head + 1) (head + 2) a) b)) (λ g. Ok (looped line head (head + 1) (here (head + 2) g)))))
  statement (Node f.Do (At line ▹ s ▹ e ▹ none)) a c =
      let head = new_label c in
      scoped (with_labels 3 c) (λ d. then (scoped (here head d) (λ b. statement s (in_loop (head + 1) (head + 2) a) b)) (λ g. then (leaves_if_zero line (head + 1) e (here (head + 2) g)) (λ t. Ok (looped line head (head + 1) t))))
  statement (Node f.For (At line ▹ start ▹ Node f.MaybeExpr test ▹ Node f.MaybeExpr step ▹ s ▹ none)) a c =
      let head = new_label c in
      scoped (with_labels 3 c) (λ d. then (for_start line start d) (λ x. then (maybe_leaves line (head + 1) test (here head x)) (λ t. then (maybe_evaluated step (apart t)) (λ g. then (scoped (with_pieces t.code.pieces g) (λ b. statement s (in_loop (head + 1) (head + 2) a) b)) (λ h. Ok (looped line head (head + 1) (with_pieces (h.code.pieces ++ (Here (head + 2) ∷ g.code.pieces)) h)))))))
  statement (Node f.Switch (At line ▹ e ▹ Node f.Block (At at ▹ Node f.Items parts ▹ none) ▹ none)) a c =
      let end = new_label c in
      scoped (with_labels 1 c) (λ d. then (switch_operand line e d) (λ t. then (scoped (no_cases (apart t.0)) (λ b. items parts (in_switch true end t.1.0 a) b)) (λ g. Ok (switched line end t.1.1 t.0 g))))
  statement (Node f.Switch (At line ▹ e ▹ s ▹ none)) a c =
      let end = new_label c in
      scoped (with_labels 1 c) (λ d. then (switch_operand line e d) (λ t. then (statement s (in_switch false end t.1.0 a) (no_cases (apart t.0))) (λ g. refused LeftOut line)))
  statement (Node f.Case (At line ▹ e ▹ s ▹ none)) a c =
      then (constant e c) (λ k. let label = new_label k.0 in then (statement s a (here label (with_labels 1 k.0))) (λ d. cased line a a.switched (length c.running.cases) k.1.value label d))
  statement (Node f.Default (At line ▹ s ▹ none)) a c =
      let label = new_label c in then (statement s a (here label (with_labels 1 c))) (λ d. defaulted line a label d)
  statement (Node f.Break (At line ▹ none)) a c = leave_to line a.delays a.breaks c
  statement (Node f.Continue (At line ▹ none)) a c = leave_to line a.delays a.continues c
  statement (Node f.Return (At line ▹ Node f.MaybeExpr e ▹ none)) a c = return_from line a.delays e c
  statement (Node f.Local (At line ▹ words ▹ names ▹ none)) a c = declaration false line words names c
  statement tree a c = refused Operands (line_of tree)

  -- declarations and statements in turn
  pub items : Trees → Around → Context → Checked Context
  items none a c = Ok c
  items (item ▹ rest) a c = then (statement item a c) (λ d. items rest a d)
