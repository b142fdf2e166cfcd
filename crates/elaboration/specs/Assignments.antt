-- Assignments, and what reads a place and writes it (C99 6.5.2.4, 6.5.3.1, 6.5.16), on sides that are elaborated.
use Rattle.std.specs.Prelude.{ℕ, pos, Bool, true, false, Ok}
use Rattle.core_tree.specs.declared.statements.Atom.{Atom}
use Rattle.core_tree.specs.declared.statements.Atom.TheVariants as atom
use Rattle.core_tree.specs.declared.statements.StmKind.TheVariants.{Copy}
use Rattle.c_tree.specs.declared.operator.BinaryOp.{BinaryOp}
use Rattle.c_tree.specs.declared.operator.AssignOp.{AssignOp}
use Rattle.c_tree.specs.Tree.{Tree}
use Rattle.c_decls.specs.Refusals.{then}
use Rattle.c_decls.specs.Typed.{PlainTyped, int}
use Rattle.c_decls.specs.PlaceRules.{assigned, changed}
use Rattle.c_decls.specs.Expressions as types
use Rattle.elaboration.specs.Context.{Code, Context, With, emit}
use Rattle.elaboration.specs.Conversions.{Found, Empty, Unknown, found_as, valued_as, atom_in, read_spot, valued_from, convert, write, size_or_zero}
use Rattle.elaboration.specs.Operations.{operator_of, changed_to}

-- `=` to a struct or a union: `copy a b n` (C99 6.5.16.1)
abbrev pub record_assigned : ℕ → ℕ → Found → Context × Found → With Found
record_assigned line right target d =
    then (assigned line right d.0.tags target.typed d.1.typed) (λ typed. Ok (emit line (Copy (atom_in target) (atom_in d.1) (pos (size_or_zero d.0 typed.type))) d.0, found_as typed Empty Unknown))

-- `=` to a scalar: V of the right side, C, the write; the answer is the converted value
abbrev pub set_to : ℕ → Code → PlainTyped → Found → Context × Found → Context × Found
set_to line before typed target d =
    let v = convert line before typed.type d.1.typed (atom_in d.1) d.0 in
    (write line typed.type target.spot v.1 v.0, valued_as typed v.1)

abbrev pub scalar_assigned : ℕ → Code → Tree → Found → Context × Found → With Found
scalar_assigned line before tree target d =
    then (assigned line (types.line_of tree) d.0.tags target.typed d.1.typed) (λ typed. then (valued_from tree d.0 d.1) (λ v. Ok (set_to line before typed target v)))

-- what a place that is read and written holds
abbrev pub old_value : ℕ → Context × Found → Context × Atom
old_value line d = read_spot line d.1.typed.type d.1.spot d.0

-- `l OP= r`, once both sides are in hand: the operation, C back, the write (C99 6.5.16.2)
abbrev pub change_place : ℕ → BinaryOp → PlainTyped → Found → Atom → PlainTyped → Atom → Context → Context × Atom
change_place line op typed target old e y c =
    let v = changed_to line op typed.type old e y c in (write line typed.type target.spot v.1 v.0, v.1)

-- the answer of `l OP= r`, `++l` and `--l` is the converted value, that of `l++` and `l--` the old one
abbrev pub changed_answer : Bool → PlainTyped → Atom → Context × Atom → Context × Found
changed_answer true typed old v = (v.0, valued_as typed old)
changed_answer false typed old v = (v.0, valued_as typed v.1)

abbrev pub changed_by : ℕ → AssignOp → Bool → Found → Atom → Context × Found → With Found
changed_by line op keeps_old target old d =
    then (changed line op d.0.tags target.typed d.1.typed) (λ typed. Ok (changed_answer keeps_old typed old (change_place line (operator_of op) typed target old d.1.typed (atom_in d.1) d.0)))

-- `++` and `--`: as `+= 1` and `-= 1` (C99 6.5.2.4, 6.5.3.1)
abbrev pub one_found : Found
one_found = valued_as int (atom.Int (pos 1))

abbrev pub stepped : ℕ → AssignOp → Bool → Context × Found → With Found
stepped line op keeps_old d =
    let old = old_value line d in changed_by line op keeps_old d.1 old.1 (old.0, one_found)
