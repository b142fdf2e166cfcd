use Rattle.std.proofs.Common.{rules, sym, subst, [], List, ℕ}
use Rattle.hs_base.specs.PutAll.{PutsAll}
use Rattle.bad_free_report.specs.Parts.{before_leaks, behind_leaks}
use Rattle.bad_free_report.specs.Told.{ending_of}
use Rattle.bad_free_report.proofs.Joining.{failed_first, joined}
use Rattle.bad_free_report.proofs.ObjectParts.{are_parts}
use Rattle.bad_free_report.proofs.said.say_ended.Goals as goal

pub returns-in_err-say_before_leaks-clause-bytes : goal.returns-in_err-say_before_leaks-clause-bytes
returns-in_err-say_before_leaks-clause-bytes g c =
    let e = ending_of c.args.ending.now in
    subst (λ (bytes : List ℕ). PutsAll (g.E.Sink.taken c.args.err.now) (g.E.Sink.taken c.say_before_leaks.new.err) bytes c.from_residual.result)
    (sym (are_parts c.args.form e [] c.args.status))
    (failed_first _ _ (before_leaks c.args.form e c.args.status) (behind_leaks c.args.form) c.say_before_leaks.result c.from_residual.result
    (search rules) c.from_residual.ensures.0 c.say_before_leaks.ensures.bytes)

pub returns-clause-bytes : goal.returns-clause-bytes
returns-clause-bytes g c =
    let e = ending_of c.args.ending.now in
    subst (λ (bytes : List ℕ). PutsAll (g.E.Sink.taken c.args.err.now) (g.E.Sink.taken c.say_behind_leaks.new.err) bytes c.say_behind_leaks.result)
    (sym (are_parts c.args.form e [] c.args.status))
    (joined _ _ _ (before_leaks c.args.form e c.args.status) (behind_leaks c.args.form) _
    c.in_ok-say_before_leaks.ensures.bytes c.say_behind_leaks.ensures.bytes)
