use Rattle.std.proofs.Common.{rules, sym, subst, [], List, ℕ, codes}
use Rattle.hs_base.specs.PutAll.{PutsAll}
use Rattle.bad_free_report.specs.Notice.{Facts}
use Rattle.bad_free_report.specs.Parts.{front}
use Rattle.bad_free_report.specs.Told.{told_refusal_facts}
use Rattle.bad_free_report.proofs.Joining.{TakesAll, failed_first, joined}
use Rattle.bad_free_report.proofs.ObjectParts.{object_parts}
use Rattle.bad_free_report.proofs.said.put_refusal_object.Goals as goal

pub returns-in_err-put_front-clause-bytes : goal.returns-in_err-put_front-clause-bytes
returns-in_err-put_front-clause-bytes g c =
    let f = told_refusal_facts c.args.refused.now in
    subst (λ (bytes : List ℕ). PutsAll (g.E.Sink.taken c.args.err.now) (g.E.Sink.taken c.put_front.new.err) bytes c.from_residual.result)
    (sym (object_parts f []))
    (failed_first _ _ (front f) (codes "]}\n") c.put_front.result c.from_residual.result
    (search rules) c.from_residual.ensures.0 (subst (λ (f : Facts). PutsAll (g.E.Sink.taken c.args.err.now) (g.E.Sink.taken c.put_front.new.err) (front f) c.put_front.result) c.refusal_facts.ensures c.put_front.ensures.bytes))

pub returns-clause-bytes : goal.returns-clause-bytes
returns-clause-bytes g c =
    let f = told_refusal_facts c.args.refused.now in
    subst (λ (bytes : List ℕ). PutsAll (g.E.Sink.taken c.args.err.now) (g.E.Sink.taken c.put_all.new.out) bytes c.put_all.result)
    (sym (object_parts f []))
    (joined _ _ _ (front f) (codes "]}\n") _
    (subst (λ (f : Facts). TakesAll (g.E.Sink.taken c.args.err.now) (g.E.Sink.taken c.put_front.new.err) (front f)) c.refusal_facts.ensures c.in_ok-put_front.ensures.bytes)
    c.put_all.ensures.bytes)
