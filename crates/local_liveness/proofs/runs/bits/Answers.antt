use Rattle.std.proofs.Common.{Bool, sym, subst, arith, ◌-◌}
use Rattle.local_liveness.specs.Sets.{in_both}
use Rattle.local_liveness.proofs.Scanning.{Shows, shows_common, shows_others}
use Rattle.local_liveness.proofs.runs.bits.Goals as goal

pub returns-then-common : goal.returns-then-common
returns-then-common c =
    let one = c.args.ones.now in let other = c.args.others.now in let word = c.common_word-word.result in
    subst (λ (a : Bool). Shows (in_both one other) a c.args.place word) (sym c.if-common.true) (shows_common one other c.args.place word c.common_word-word.ensures)

pub returns-else-common : goal.returns-else-common
returns-else-common c =
    let one = c.args.ones.now in let other = c.args.others.now in let word = c.common_word-word.result in
    subst (λ (a : Bool). Shows (in_both one other) a c.args.place (18446744073709551615 - word)) (sym c.if-common.false)
    (shows_others one other c.args.place word c.common_word-word.ensures (omega arith))
