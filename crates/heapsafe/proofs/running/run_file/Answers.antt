-- What the machine answers within the limits with which it was loaded.
use Rattle.std.proofs.Common.{rules, subst}
use Rattle.hs_base.specs.declared.ends.Limits.{Limits}
use Rattle.heapsafe.specs.Running.{RanCode}
use Rattle.heapsafe.proofs.running.run_file.Goals as goal

pub returns-clause-ran : goal.returns-clause-ran
returns-clause-ran g c = λ left k.
    let ran =
    subst (λ (room : Limits). RanCode c.args.code.now room c.args.steps c.run_lent-end.result.1 c.run_lent-end.new.machine left (g.I.Source.left c.run_lent-end.new.input) (g.O.Sink.taken c.args.out.now) (g.O.Sink.taken c.run_lent-end.result.0.now)) (λ i. record { heap = c.in_ok-machine.ensures.heap i; stack = c.in_ok-machine.ensures.stack i })
    (c.run_lent-end.ensures.ran left k) in
    record { told = let told = ran.told in search rules; image = ran.image }
