use Rattle.std.proofs.Common.{◌-◌, arith}
use Rattle.local_liveness.specs.Sets.{in_both}
use Rattle.count_insertion.proofs.Runs.{run_more, runs_end}
use Rattle.count_insertion.proofs.pinning.push_common.Goals as goal

pub loop-run-preserved : goal.loop-run-preserved
loop-run-preserved c =
    let is = c.in-Some.ensures in
    let known = c.loop-run.invariant in
    let starts = is.starts in
    let some = is.some in
    let order = known.order in
    record {
      order = omega arith;
      within = is.ends;
      registers =
          run_more (in_both c.args.one.now c.args.other.now) c.args.from c.loop-run.next c.args.until c.in-Some.run' (c.in-Some.run'.end - 1) c.args.registers.now c.loop-run.registers
          c.push_run.new.self is (omega arith) order known.registers c.in_ok-push_run.ensures.ok;
    }

pub returns : goal.returns
returns c =
    let known = c.loop-run.invariant in
    runs_end (in_both c.args.one.now c.args.other.now) c.args.from c.loop-run.next c.args.until c.args.registers.now c.loop-run.registers known.order known.within c.in_default.ensures
    known.registers
