-- Whether a value is 0 or null.
use Rattle.std.specs.Prelude.{ℕ, pos}
use Rattle.c_types.specs.Types.{PlainType}
use Rattle.core_tree.specs.declared.statements.Atom.{Atom}
use Rattle.core_tree.specs.declared.statements.Atom.TheVariants as atom
use Rattle.core_tree.specs.declared.statements.CmpOp.TheVariants as cmp
use Rattle.core_tree.specs.declared.statements.StmKind.TheVariants.{Cmp}
use Rattle.c_tree.specs.Tree.{Tree}
use Rattle.elaboration.specs.Context.{Context, integer_by}
use Rattle.elaboration.specs.Conversions.{code_line, tested}

-- an operand of that tree, tested and compared with 0
abbrev pub negated : ℕ → Tree → PlainType → Atom → Context → Context × Atom
negated line tree type a c =
    let d = tested (code_line tree) type a c in integer_by line (λ r. Cmp cmp.Eq r d.1 (atom.Int (pos 0))) d.0
