use Rattle.object_meaning.specs.objects.Meaning.{act}
use Rattle.meaning_state.specs.Fitting.{fits_in}
use Rattle.meaning_run.specs.Leading.{with_input}
use Rattle.meaning_run.proofs.Quiet.{placed_quiet, quiet_values, quiet_memory, quiet_jump}
use Rattle.meaning_run.proofs.evaluate.act_alone.Goals as goal

pub returns-in-Values : goal.returns-in-Values
returns-in-Values c = λ left. (
  c.act_values.ensures c.args.core.now (fits_in c.args.held.now) left,
  placed_quiet (act c.args.core.now (fits_in c.args.held.now) c.args.line c.args.kind.now (with_input left c.args.machine.now)) c.args.held.now c.act_values.result (quiet_values c.args.core.now (fits_in c.args.held.now) c.args.line c.args.kind.now (with_input left c.args.machine.now) (rw c.in-Values.is at c.group_of.ensures)),
)

pub returns-in-Memory : goal.returns-in-Memory
returns-in-Memory c = λ left. (
  c.act_memory.ensures c.args.core.now (fits_in c.args.held.now) left,
  placed_quiet (act c.args.core.now (fits_in c.args.held.now) c.args.line c.args.kind.now (with_input left c.args.machine.now)) c.args.held.now c.act_memory.result (quiet_memory c.args.core.now (fits_in c.args.held.now) c.args.line c.args.kind.now (with_input left c.args.machine.now) (rw c.in-Memory.is at c.group_of.ensures)),
)

pub returns-in-Jump : goal.returns-in-Jump
returns-in-Jump c = λ left. (
  c.act_jump.ensures (fits_in c.args.held.now) left,
  placed_quiet (act c.args.core.now (fits_in c.args.held.now) c.args.line c.args.kind.now (with_input left c.args.machine.now)) c.args.held.now c.act_jump.result (quiet_jump c.args.core.now (fits_in c.args.held.now) c.args.line c.args.kind.now (with_input left c.args.machine.now) (rw c.in-Jump.is at c.group_of.ensures)),
)
