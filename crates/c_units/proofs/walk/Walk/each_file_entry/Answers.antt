use Rattle.c_units.proofs.SaidTurns.{entries_next}
use Rattle.c_units.proofs.walk.Walk.each_file_entry.Goals as goal

pub loop-one-preserved : goal.loop-one-preserved
loop-one-preserved c =
    entries_next c.args.line c.args.typedef c.args.list.now c.loop-one.list c.loop-one.one-index _ c.file_entry.new.entry c.loop-one.self c.file_entry.new.self c.args.self.now
    c.loop-one-test.true c.loop-one.invariant.0 c.loop-one.invariant.1 c.in_ok-file_entry.ensures.tree c.in_ok-file_entry.ensures.names
