use Rattle.std.proofs.lemmas.Option.{slice_get-get_or}
use Rattle.flat_objects.proofs.EndingBlocks.{all_given, changes_again, changes_none, none_given}
use Rattle.flat_objects.proofs.memory.FlatObjects.give_back_all.Goals as goal

pub loop-local-init : goal.loop-local-init
loop-local-init g c = record {
  changes = changes_none c.args.self.now;
  given = λ places objects births may. none_given c.args.self.now places objects births c.args.locals.now may;
}

pub give_back-requires : goal.give_back-requires
give_back-requires g c =
    let k = c.requires in
    let i = c.loop-local.local-index in
    (k.0, k.1, k.2, c.args.locals.now, i, c.loop-local.invariant.given k.0 k.1 k.2 k.3, slice_get-get_or c.args.locals.now i 0 c.loop-local-test.true)

pub loop-local-preserved : goal.loop-local-preserved
loop-local-preserved g c =
    let i = c.loop-local.local-index in
    record {
      changes = changes_again c.args.self.now c.loop-local.self c.give_back.new.self c.loop-local.invariant.changes c.give_back.ensures.changes;
      given = λ places objects births may.
          c.give_back.ensures.given places objects births c.args.locals.now i (c.loop-local.invariant.given places objects births may) (slice_get-get_or c.args.locals.now i 0 c.loop-local-test.true);
    }

pub returns-clause-keeps : goal.returns-clause-keeps
returns-clause-keeps g c = λ places objects births may.
    all_given c.loop-local.self places objects births c.args.locals.now c.loop-local.local-index c.loop-local-test.false (c.loop-local.invariant.given places objects births may)
