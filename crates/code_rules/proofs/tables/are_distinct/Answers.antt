use Rattle.std.proofs.Common.{◌≢◌, ◌+◌, ◌↔◌, ℕ, List, get_or, subst, IsTrue}
use Rattle.std.specs.List.{All}
use Rattle.code_rules.proofs.Distinct.{all_distinct, more_distinct, not_distinct, tail_is}
use Rattle.code_rules.proofs.Loops.{not_said}
use Rattle.code_rules.proofs.tables.are_distinct.Goals as goal

pub returns-then-not-stands_alone : goal.returns-then-not-stands_alone
returns-then-not-stands_alone c =
    let ps = c.args.pointers.now in let i = c.loop-i.i in
    let said = subst (λ (l : List (ℕ × ℕ × ℕ)). IsTrue c.stands_alone.result ↔ All (λ (p : ℕ × ℕ × ℕ). p.0 ≢ (get_or ps i (0, 0, 0)).0) l) (tail_is ps (i + 1)) c.stands_alone.ensures in
    not_distinct ps i (0, 0, 0) c.loop-i-test.true (not_said c.if-not-stands_alone.true said) c.loop-i.invariant

pub loop-i-preserved : goal.loop-i-preserved
loop-i-preserved c =
    let ps = c.args.pointers.now in let i = c.loop-i.i in
    let said = subst (λ (l : List (ℕ × ℕ × ℕ)). IsTrue c.stands_alone.result ↔ All (λ (p : ℕ × ℕ × ℕ). p.0 ≢ (get_or ps i (0, 0, 0)).0) l) (tail_is ps (i + 1)) c.stands_alone.ensures in
    more_distinct ps i (0, 0, 0) c.loop-i-test.true (said.0 c.if-not-stands_alone.false) c.loop-i.invariant

pub returns : goal.returns
returns c = all_distinct c.args.pointers.now c.loop-i.i c.loop-i-test.false c.loop-i.invariant
