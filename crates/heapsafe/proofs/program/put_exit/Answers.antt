use Rattle.std.proofs.Common.{◌++◌, List, ℕ, false, rules, sym, subst}
use Rattle.hs_base.specs.PutAll.{PutsAll}
use Rattle.hs_base.specs.declared.ends.End.TheVariants.{Exit}
use Rattle.bad_free_report.specs.Parts.{before_leaks, behind_leaks, leaks_said}
use Rattle.bad_free_report.specs.Notice.{Ending}
use Rattle.heapsafe.specs.Places.{told_leaks}
use Rattle.heapsafe.specs.Saying.{TakesAll, ending_told, telling_of}
use Rattle.heapsafe.proofs.Joined.{failed_first, joined}
use Rattle.heapsafe.proofs.program.put_exit.Goals as goal

pub returns-in_err-say_before_leaks-clause-puts : goal.returns-in_err-say_before_leaks-clause-puts
returns-in_err-say_before_leaks-clause-puts g c = λ places objects keeps leaks are.
    let e = ending_told (telling_of c.args.telling.now) (Exit c.args.code) in
    let told = told_leaks c.args.telling.now.opened.now leaks in
    let f = c.args.form in
    subst (λ (bytes : List ℕ). PutsAll (g.E.Sink.taken c.args.err.now) (g.E.Sink.taken c.say_before_leaks.new.err) bytes c.from_residual.result)
    (sym (c.ends_are_said_in_parts.ensures f e told c.args.code))
    (failed_first _ _ (before_leaks f e c.args.code) (leaks_said f false told ++ behind_leaks f) c.say_before_leaks.result c.from_residual.result
    (search rules) c.from_residual.ensures.0
    (subst (λ (x : Ending). PutsAll (g.E.Sink.taken c.args.err.now) (g.E.Sink.taken c.say_before_leaks.new.err) (before_leaks f x c.args.code) c.say_before_leaks.result) c.told_ending.ensures c.say_before_leaks.ensures.bytes))

pub returns-in_err-write_leaks-clause-puts : goal.returns-in_err-write_leaks-clause-puts
returns-in_err-write_leaks-clause-puts g c = λ places objects keeps leaks are.
    let e = ending_told (telling_of c.args.telling.now) (Exit c.args.code) in
    let told = told_leaks c.args.telling.now.opened.now leaks in
    let f = c.args.form in
    subst (λ (bytes : List ℕ). PutsAll (g.E.Sink.taken c.args.err.now) (g.E.Sink.taken c.write_leaks.new.err) bytes c.from_residual-in_err-write_leaks.result)
    (sym (c.ends_are_said_in_parts.ensures f e told c.args.code))
    (joined _ _ _ (before_leaks f e c.args.code) (leaks_said f false told ++ behind_leaks f) _
    (subst (λ (x : Ending). TakesAll (g.E.Sink.taken c.args.err.now) (g.E.Sink.taken c.say_before_leaks.new.err) (before_leaks f x c.args.code)) c.told_ending.ensures c.in_ok-say_before_leaks.ensures.bytes)
    (failed_first _ _ (leaks_said f false told) (behind_leaks f) c.write_leaks.result c.from_residual-in_err-write_leaks.result
    (search rules) c.from_residual-in_err-write_leaks.ensures.0 (c.write_leaks.ensures.puts places objects keeps leaks are)))

pub returns-clause-puts : goal.returns-clause-puts
returns-clause-puts g c = λ places objects keeps leaks are.
    let e = ending_told (telling_of c.args.telling.now) (Exit c.args.code) in
    let told = told_leaks c.args.telling.now.opened.now leaks in
    let f = c.args.form in
    subst (λ (bytes : List ℕ). PutsAll (g.E.Sink.taken c.args.err.now) (g.E.Sink.taken c.say_behind_leaks.new.err) bytes c.say_behind_leaks.result)
    (sym (c.ends_are_said_in_parts.ensures f e told c.args.code))
    (joined _ _ _ (before_leaks f e c.args.code) (leaks_said f false told ++ behind_leaks f) _
    (subst (λ (x : Ending). TakesAll (g.E.Sink.taken c.args.err.now) (g.E.Sink.taken c.say_before_leaks.new.err) (before_leaks f x c.args.code)) c.told_ending.ensures c.in_ok-say_before_leaks.ensures.bytes)
    (joined _ _ _ (leaks_said f false told) (behind_leaks f) _
    (c.in_ok-write_leaks.ensures.puts places objects keeps leaks are) c.say_behind_leaks.ensures.bytes))
