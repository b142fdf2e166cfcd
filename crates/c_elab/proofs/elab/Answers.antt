use Rattle.c_tree.specs.StatementView.{unit_view}
use Rattle.elaboration.specs.Elaboration.{walked}
use Rattle.c_elab.proofs.Finished.{core_ok, core_sound}
use Rattle.c_elab.proofs.elab.Goals as goal

pub returns-clause-sound : goal.returns-clause-sound
returns-clause-sound c = core_sound (unit_view c.args.unit.now) c.in_ok-walked.field-0 c.in_ok-core.core c.cores_are_sound.ensures c.in_ok-walked.ensures c.in_ok-core.ensures.core

pub returns-clause-core : goal.returns-clause-core
returns-clause-core c =
    core_ok (walked (unit_view c.args.unit.now)) c.in_ok-walked.field-0 c.in_ok-core.core c.in_ok-walked.ensures c.in_ok-core.ensures.core
