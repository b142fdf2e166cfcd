-- What the machine answers for the code of a core, within the limits with which it was loaded.
use Rattle.std.proofs.Common.{rules, subst}
use Rattle.hs_base.specs.declared.ends.Limits.{Limits}
use Rattle.core_tree.specs.declared.program.Core.{Core}
use Rattle.object_meaning.specs.compiled.Compiled.{IsCompiled}
use Rattle.heapsafe.specs.Running.{RanCore}
use Rattle.heapsafe.proofs.running.run_code.Goals as goal

pub returns-clause-ran : goal.returns-clause-ran
returns-clause-ran g c = λ left k.
    let pins = c.in_ok-counted.counted.pins in
    let compiled = subst (λ (core : Core). IsCompiled core pins c.in_ok-code.code) c.in_ok-counted.ensures.core c.in_ok-code.ensures.compiled in
    let ascending = c.listed_pins_are_exact.ensures.ascending c.args.core.now pins c.in_ok-counted.ensures.listed in
    let ran =
    subst (λ (room : Limits). RanCore c.args.core.now pins room c.args.steps c.execute_lent-end.result.1 c.execute_lent-end.new.machine left (g.I.Source.left c.execute_lent-end.new.input) (g.O.Sink.taken c.args.out.now) (g.O.Sink.taken c.execute_lent-end.result.0.now)) (λ i. record { heap = c.in_ok-machine.ensures.heap i; stack = c.in_ok-machine.ensures.stack i })
    (c.execute_lent-end.ensures.ran c.args.core.now pins c.requires.sound c.in_ok-counted.ensures.pins ascending compiled left k) in
    (pins, c.in_ok-counted.ensures.pins, record { told = let told = ran.told in search rules; made = ran.made; image = ran.image })
