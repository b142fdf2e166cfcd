use Rattle.c_pre.proofs.Unreplaced.{taken}
use Rattle.c_pre.proofs.progress.append.Goals as goal

pub returns-then-is_empty : goal.returns-then-is_empty
returns-then-is_empty c =
    taken c.args.to.now c.args.tokens c.args.lines c.if-lines-eq0.true (c.is_empty.ensures.0 c.if-is_empty.true)
