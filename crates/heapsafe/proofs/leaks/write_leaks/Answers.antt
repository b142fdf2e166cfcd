use Rattle.std.proofs.Common.{rules, ◌<◌, ◌∙◌, [], ◌∷◌, nat_lt, sym, subst, arith}
use Rattle.bad_free_report.specs.Parts.{leak_said}
use Rattle.hs_base.specs.PutAll.{PutsAll}
use Rattle.hs_base.specs.declared.ends.Leak.{Leak}
use Rattle.heapsafe.specs.Saying.{TakesAll}
use Rattle.heapsafe.proofs.Leaked.{all_begun, failed_begun, leak_is_above, one_begun}
use Rattle.heapsafe.proofs.leaks.write_leaks.Goals as goal

pub returns-in_err-say_leak-clause-puts : goal.returns-in_err-say_leak-clause-puts
returns-in_err-say_leak-clause-puts g c = λ places objects keeps leaks are.
    failed_begun c.args.form c.args.opened.now objects leaks c.lines.above c.in-Some.leak _ _ _ c.say_leak.result c.from_residual.result
    (search rules) c.from_residual.ensures.0 (sym (c.leak.ensures places objects keeps) ∙ c.in-Some.is)
    (subst (λ (l : Leak). PutsAll (g.E.Sink.taken c.lines.err) (g.E.Sink.taken c.say_leak.new.err) (leak_said c.args.form (nat_lt 0 c.lines.above) l) c.say_leak.result) c.told_leak.ensures c.say_leak.ensures.bytes)
    (c.lines.invariant.begun places objects keeps leaks are)

pub lines-smaller : goal.lines-smaller
lines-smaller g c =
    let kept = c.requires.kept in
    let above : c.lines.above < c.in-Some.leak.line = leak_is_above kept.1 c.lines.above c.in-Some.leak (sym (c.leak.ensures kept.0 kept.1 kept.2) ∙ c.in-Some.is) in
    omega (arith, above)

pub lines-preserved : goal.lines-preserved
lines-preserved g c = record {
  begun = λ places objects keeps leaks are.
      one_begun c.args.form c.args.opened.now objects leaks c.lines.above c.in-Some.leak _ _ _ (sym (c.leak.ensures places objects keeps) ∙ c.in-Some.is)
      (subst (λ (l : Leak). TakesAll (g.E.Sink.taken c.lines.err) (g.E.Sink.taken c.say_leak.new.err) (leak_said c.args.form (nat_lt 0 c.lines.above) l)) c.told_leak.ensures c.in_ok-say_leak.ensures.bytes)
      (c.lines.invariant.begun places objects keeps leaks are);
  all = λ places objects keeps more are.
      c.lines.invariant.all places objects keeps (c.in-Some.leak ∷ more) (sym (c.leak.ensures places objects keeps) ∙ c.in-Some.is, are);
  count = c.in_ok-say_leak.ensures.cause ∙ c.lines.invariant.count;
}

pub returns-clause-puts : goal.returns-clause-puts
returns-clause-puts g c = λ places objects keeps leaks are.
    all_begun c.args.form c.args.opened.now objects leaks c.lines.above _ _ (sym (c.leak.ensures places objects keeps) ∙ c.in_default.is) (c.lines.invariant.begun places objects keeps leaks are)

pub returns-clause-all : goal.returns-clause-all
returns-clause-all g c = λ places objects keeps.
    c.lines.invariant.all places objects keeps [] (sym (c.leak.ensures places objects keeps) ∙ c.in_default.is)
