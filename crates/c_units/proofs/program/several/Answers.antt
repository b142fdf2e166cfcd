use Rattle.c_units.proofs.Words.Std.{err_from_is_err_and, ◌+◌}
use Rattle.c_units.proofs.Words.Units.{program_view}
use Rattle.c_units.proofs.ProgramTurns.{merge_refused}
use Rattle.c_units.proofs.program.several.Goals as goal

pub returns-in_err-add : goal.returns-in_err-add
returns-in_err-add c =
    let p = err_from_is_err_and c.from_residual.result c.from_residual.ensures.1 in
    rw (p.1, p.2) (merge_refused c.units.units.items c.pop.new.self.items (c.units.number + 1) c.pop.result c.in-Some.unit (program_view c.units.program)
    c.pop.ensures.items c.in-Some.is c.args.units.items (program_view c.add.new.self) c.in_err-add.field-0.0 c.requires.several c.units.invariant.1
    c.in_err-add.ensures)
