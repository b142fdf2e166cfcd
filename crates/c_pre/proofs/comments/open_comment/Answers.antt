use Rattle.std.proofs.Common.{◌≡◌, ◌+◌, ◌==◌, if◌then◌else◌, drop, get_or, arith}
use Rattle.std.proofs.lemmas.List.{at_drop_more, at_drop_all}
use Rattle.std.proofs.lemmas.Grind.{common_steps}
use Rattle.std.proofs.lemmas.Bool.Decides.{nat_tests}
use Rattle.c_pre.specs.Comments.{next_mode, is_opened, open_from}
use Rattle.c_pre.proofs.comments.open_comment.Goals as goal

pub loop-at-preserved : goal.loop-at-preserved
loop-at-preserved c =
    let text = c.args.text.now in let at = c.loop-at.at in let b = get_or text at 0 in
    let next = next_mode c.loop-at.mode b (drop (at + 1) text) in
    let e : open_from c.loop-at.mode c.loop-at.line c.loop-at.start (drop at text) ≡ open_from next (if b == 10 then c.loop-at.line + 1 else c.loop-at.line) (if is_opened next then c.loop-at.line else c.loop-at.start) (drop (at + 1) text) = at_drop_more (open_from c.loop-at.mode c.loop-at.line c.loop-at.start) text at 0 c.loop-at-test.true in
    record { same = grind (arith, common_steps, nat_tests); low = grind arith }

pub returns : goal.returns
returns c =
    let e = at_drop_all (open_from c.loop-at.mode c.loop-at.line c.loop-at.start) c.args.text.now c.loop-at.at c.loop-at-test.false in
    grind (arith, common_steps)
