use Rattle.std.proofs.Common.{◌≡◌, ◌+◌, ◌∷◌, drop, get_or, arith, append_assoc}
use Rattle.std.proofs.lemmas.List.{at_drop_more, at_drop_all}
use Rattle.std.proofs.lemmas.Grind.{common_steps}
use Rattle.c_pre.specs.Comments.{next_mode, shown, blanked}
use Rattle.c_pre.proofs.comments.blanked.Goals as goal

pub loop-at-preserved : goal.loop-at-preserved
loop-at-preserved c =
    let text = c.args.text.now in let at = c.loop-at.at in let b = get_or text at 0 in
    let next = next_mode c.loop-at.mode b (drop (at + 1) text) in
    let e : blanked c.loop-at.mode (drop at text) ≡ shown c.loop-at.mode next b ∷ blanked next (drop (at + 1) text) = at_drop_more (blanked c.loop-at.mode) text at 0 c.loop-at-test.true in
    record { bytes = grind (arith, common_steps, append_assoc); len = grind (arith, common_steps) }

pub returns-clause-bytes : goal.returns-clause-bytes
returns-clause-bytes c =
    let e = at_drop_all (blanked c.loop-at.mode) c.args.text.now c.loop-at.at c.loop-at-test.false in
    grind (arith, common_steps)
