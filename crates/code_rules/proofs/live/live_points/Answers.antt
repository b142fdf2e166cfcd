use Rattle.std.proofs.Common.{List, Bool, false, sym, subst, arith}
use Rattle.code_rules.specs.Lively.{AreMarked, Sweeps}
use Rattle.code_rules.proofs.Marks.{are_marked, written_back}
use Rattle.code_rules.proofs.live.live_points.Goals as goal

pub returns : goal.returns
returns c =
    let code = c.args.code.now in let r = c.args.register in let old = c.loop.marks.items in let new = c.sweep.new.marks in
    let last = subst (λ (m : List Bool). Sweeps code r 0 m new false) c.deref_mut.ensures.value c.loop-test.ensures in
    subst (λ (m : List Bool). AreMarked code r m) (sym (written_back old new c.loop.marks.len (omega (arith, c.loop.marks.ok.0)) last.long))
    (are_marked code r old new c.loop.invariant.long c.loop.invariant.live last)
