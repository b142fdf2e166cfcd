use Rattle.std.proofs.Common.{◌≢◌, refl, ◌∙◌}
use Rattle.meaning_state.specs.Fitting.{fits_in}
use Rattle.meaning_run.specs.declared.halt.Halt.TheVariants as halt
use Rattle.meaning_run.proofs.Reached.{reached_first, reached_more, reached_end}
use Rattle.meaning_run.proofs.Steps.{good_next, less_next, never, counts, limits}
use Rattle.meaning_run.proofs.evaluate.end_of_run.Goals as goal

pub statements-init : goal.statements-init
statements-init g c = record {
  input = refl;
  out = refl;
  good = c.requires.good;
  told = λ left taken n h i begins. reached_first c.args.core.now left n taken c.args.machine.now c.args.held.now _ _ c.requires.none begins h i;
}

pub statements-preserved : goal.statements-preserved
statements-preserved g c =
    let faults = rw c.in-Ok.is at c.one_step.ensures.faults in
    let moves = rw c.in-Ok.is at c.one_step.ensures.moves in
    let told = rw c.in-Ok.is at c.one_step.ensures.told in
    let placed = rw c.in-Ok.is at c.one_step.ensures.held in
    record {
      input = faults.0 ∙ c.statements.invariant.input;
      out = faults.1 ∙ c.statements.invariant.out;
      good = good_next c.statement_stays_good.ensures c.args.core.now c.requires.sound (fits_in c.statements.held) c.statements.machine c.one_step.new.machine c.statements.invariant.good moves;
      told = λ left taken n h i begins. reached_more c.args.core.now left n c.args.held.now.heap taken c.statements.machine c.one_step.new.machine c.statements.held _ _ _ _ (c.statements.invariant.told left taken n h i begins) told c.one_step.new.held placed;
    }

pub statements-smaller : goal.statements-smaller
statements-smaller g c =
    let moves = rw c.in-Ok.is at c.one_step.ensures.moves in
    less_next c.statement_leaves_less.ensures c.args.core.now c.requires.sound (fits_in c.statements.held) c.statements.machine c.one_step.new.machine moves

pub answer-requires : goal.answer-requires
answer-requires g c = λ e.
    let moves = rw (c.in-Err.is, e) at c.one_step.ensures.moves in
    never c.statement_stays_good.ensures c.args.core.now c.requires.sound (fits_in c.statements.held) c.statements.machine c.one_step.new.machine c.statements.invariant.good moves

pub returns-in-Err-clause-told : goal.returns-in-Err-clause-told
returns-in-Err-clause-told g c = λ left taken n h i begins.
    let told = rw c.in-Err.is at c.one_step.ensures.told in
    let no : c.in-Err.halt ≢ halt.Dangling = λ e. let moves = rw (c.in-Err.is, e) at c.one_step.ensures.moves in never c.statement_stays_good.ensures c.args.core.now c.requires.sound (fits_in c.statements.held) c.statements.machine c.one_step.new.machine c.statements.invariant.good moves in
    rw c.answer.ensures (reached_end c.args.core.now left n c.args.held.now.heap taken c.statements.machine c.one_step.new.machine c.statements.held _ _ _ _ (c.statements.invariant.told left taken n h i begins) c.run_ends.ensures c.requires.sound c.in-Err.halt no told)

pub returns-in-Err-clause-faults : goal.returns-in-Err-clause-faults
returns-in-Err-clause-faults g c =
    let faults = rw (c.in-Err.is, c.statements.invariant.input, c.statements.invariant.out) at c.one_step.ensures.faults in
    rw c.answer.ensures (counts c.in-Err.halt _ _ _ _ faults)

pub returns-in-Err-clause-limits : goal.returns-in-Err-clause-limits
returns-in-Err-clause-limits g c = rw c.answer.ensures (limits c.in-Err.halt)
