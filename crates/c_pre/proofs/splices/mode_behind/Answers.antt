use Rattle.std.proofs.Common.{◌≡◌, ◌+◌, drop, get_or, arith}
use Rattle.std.proofs.lemmas.List.{at_drop_more, at_drop_all}
use Rattle.std.proofs.lemmas.Grind.{common_steps}
use Rattle.c_pre.specs.Comments.{next_mode}
use Rattle.c_pre.specs.Splices.{mode_behind}
use Rattle.c_pre.proofs.splices.mode_behind.Goals as goal

pub loop-at-preserved : goal.loop-at-preserved
loop-at-preserved c =
    let text = c.args.bytes.now in let at = c.loop-at.at in
    let next = next_mode c.loop-at.mode (get_or text at 0) (drop (at + 1) text) in
    let e : mode_behind c.loop-at.mode (drop at text) ≡ mode_behind next (drop (at + 1) text) = at_drop_more (mode_behind c.loop-at.mode) text at 0 c.loop-at-test.true in
    grind (arith, common_steps)

pub returns : goal.returns
returns c =
    let e = at_drop_all (mode_behind c.loop-at.mode) c.args.bytes.now c.loop-at.at c.loop-at-test.false in
    grind (arith, common_steps)
