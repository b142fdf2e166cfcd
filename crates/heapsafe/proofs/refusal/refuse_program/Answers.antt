use Rattle.std.proofs.Common.{List, sym, subst}
use Rattle.std.specs.Prelude.{codes}
use Rattle.c_pre.specs.declared.answer.Opened.{Opened}
use Rattle.heapsafe.specs.declared.units.ProgramError.{ProgramError}
use Rattle.heapsafe.specs.Shown.{bad_syntax}
use Rattle.heapsafe.specs.Saying.{SaysOnly, unmade}
use Rattle.heapsafe.proofs.Reported.{refused_in}
use Rattle.heapsafe.proofs.Told.{said_as}
use Rattle.heapsafe.proofs.refusal.refuse_program.Goals as goal

pub returns-in-Syntax : goal.returns-in-Syntax
returns-in-Syntax g c =
    subst (λ (e : ProgramError). SaysOnly (unmade e) c.args.io.now c.refuse_in.new.io c.refuse_in.result) (sym c.in-Syntax.is)
    (subst (λ (opened : List Opened). SaysOnly (bad_syntax opened c.in-Syntax.line) c.args.io.now c.refuse_in.new.io c.refuse_in.result) c.as_slice.ensures c.refuse_in.ensures)

pub returns-in-Conflict : goal.returns-in-Conflict
returns-in-Conflict g c =
    subst (λ (e : ProgramError). SaysOnly (unmade e) c.args.io.now c.refuse_in-in-Conflict.new.io c.refuse_in-in-Conflict.result) (sym c.in-Conflict.is)
    (said_as _ _ _ _ _ (refused_in c.as_slice-in-Conflict.result.now c.in-Conflict.texts (codes "conflict") c.as_slice-in-Conflict-2.result.now c.in-Conflict.name c.in-Conflict.line 139 c.as_slice-in-Conflict.ensures c.as_slice-in-Conflict-2.ensures) c.refuse_in-in-Conflict.ensures)

pub returns-in-NoMemory : goal.returns-in-NoMemory
returns-in-NoMemory g c =
    subst (λ (e : ProgramError). SaysOnly (unmade e) c.args.io.now c.refuse.new.io c.refuse.result) (sym c.in-NoMemory.is) c.refuse.ensures
