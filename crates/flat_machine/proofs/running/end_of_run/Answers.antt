use Rattle.std.proofs.Common.{[], refl, ◌∙◌, arith}
use Rattle.hs_base.specs.Place.{has_place}
use Rattle.flat_machine.proofs.Lasting.{left_end}
use Rattle.flat_machine.proofs.Inputs.{good_input, good_more}
use Rattle.flat_machine.proofs.Reached.{reached_more, reached_end}
use Rattle.flat_machine.proofs.Loops.{well_next, less_next, room_next, less_state, run_counts}
use Rattle.flat_machine.specs.Noting.{notes_of}
use Rattle.flat_machine.specs.Well.{IsGoodSoFar}
use Rattle.flat_machine.proofs.running.end_of_run.Goals as goal

pub instructions-init : goal.instructions-init
instructions-init g c = record {
  input = refl;
  out = refl;
  well = c.requires.well;
  room = refl;
  told = λ left n room stack r. r;
}

pub instructions-preserved : goal.instructions-preserved
instructions-preserved g c =
    let faults = rw c.in-Ok.is at c.one_step.ensures.faults in
    let moves = rw c.in-Ok.is at c.one_step.ensures.moves in
    let told = rw c.in-Ok.is at c.one_step.ensures.told in
    let known = c.instructions.invariant in
    let room_is = room_next c.args.code.now c.requires.formed c.step_stays_good.ensures c.step_leaves_less.ensures c.come_on.new.self c.one_step.new.state c.come_on.ensures.well moves ∙ c.come_on.ensures.room in
    record {
      input = faults.0 ∙ known.input;
      out = faults.1 ∙ known.out;
      well = well_next c.args.code.now c.requires.formed c.step_stays_good.ensures c.step_leaves_less.ensures c.come_on.new.self c.one_step.new.state c.come_on.ensures.well moves;
      room = room_is ∙ known.room;
      told = λ left n room stack first.
          let r = c.come_on.ensures.told left n room [] _ _ (known.room ∙ stack) (known.told left n room stack first) in
          reached_more c.args.code.now left n room [] c.come_on.new.self c.one_step.new.state _ _ _ _ r (good_more c.args.code.now c.requires.formed c.step_stays_good.ensures r.now r.good (has_place room.heap r.trace)) (room_is ∙ known.room ∙ stack) (λ after now. less_state c.args.code.now c.requires.formed c.step_stays_good.ensures c.step_leaves_less.ensures c.come_on.new.self c.one_step.new.state c.come_on.ensures.well moves r.now after r.stands now) (told r.stands.places r.now (notes_of r.trace) r.stands.stands r.good r.is_left r.is_taken);
    }

pub instructions-smaller : goal.instructions-smaller
instructions-smaller g c =
    let moves = rw c.in-Ok.is at c.one_step.ensures.moves in
    let less = less_next c.args.code.now c.requires.formed c.step_stays_good.ensures c.step_leaves_less.ensures c.come_on.new.self c.one_step.new.state c.come_on.ensures.well moves in
    omega (arith, less, c.come_on.ensures.left)

pub returns-in-Err-clause-told : goal.returns-in-Err-clause-told
returns-in-Err-clause-told g c = λ left n room stack first.
    let told = rw c.in-Err.is at c.one_step.ensures.told in
    let known = c.instructions.invariant in
    let r = c.come_on.ensures.told left n room [] _ _ (known.room ∙ stack) (known.told left n room stack first) in
    reached_end c.args.code.now left n room [] c.come_on.new.self c.one_step.new.state _ _ _ _ r (c.come_on.ensures.room ∙ known.room ∙ stack) c.in-Err.end (told r.stands.places r.now (notes_of r.trace) r.stands.stands r.good r.is_left r.is_taken)

pub returns-in-Err-clause-faults : goal.returns-in-Err-clause-faults
returns-in-Err-clause-faults g c =
    let faults = rw (c.in-Err.is, c.instructions.invariant.input, c.instructions.invariant.out) at c.one_step.ensures.faults in
    run_counts c.in-Err.end _ _ _ _ faults

pub returns-in-Err-clause-kept : goal.returns-in-Err-clause-kept
returns-in-Err-clause-kept g c =
    let w = c.come_on.ensures.well in
    let good : IsGoodSoFar c.args.code.now w.state = λ left bytes. good_input c.args.code.now w.state left bytes w.good in
    let images = rw c.in-Err.is at c.one_step.ensures.image in
    let image = images w.places w.state w.stands good in
    (image.places, _, image.agrees.keeps)

pub returns-in-Err-clause-left : goal.returns-in-Err-clause-left
returns-in-Err-clause-left g c = λ left n room stack first.
    let told = rw c.in-Err.is at c.one_step.ensures.told in
    let images = rw c.in-Err.is at c.one_step.ensures.image in
    let known = c.instructions.invariant in
    let r = c.come_on.ensures.told left n room [] _ _ (known.room ∙ stack) (known.told left n room stack first) in
    left_end c.args.code.now left n room [] c.come_on.new.self _ _ r _ _ c.one_step.new.state (c.come_on.ensures.room ∙ known.room ∙ stack) c.in-Err.end (told r.stands.places r.now (notes_of r.trace) r.stands.stands r.good r.is_left r.is_taken) (images r.stands.places r.now r.stands.stands r.good)

pub returns-in-Err-clause-settled : goal.returns-in-Err-clause-settled
returns-in-Err-clause-settled g c =
    let settled = rw c.in-Err.is at c.one_step.ensures.settled in settled
