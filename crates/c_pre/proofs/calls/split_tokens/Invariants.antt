use Rattle.std.proofs.Common.{◌≡◌, [], length}
use Rattle.c_pre.specs.Expansion.{split_from}
use Rattle.c_pre.proofs.calls.split_tokens.Given as goal

abbrev pub invariant-loop-splitting : goal.invariant-loop-splitting
invariant-loop-splitting l =
    split_from l.fn.keeps l.splitting.depth l.splitting.args l.splitting.current l.rest ≡ split_from l.fn.keeps 0 [] [] l.fn.rest

abbrev pub decreases-loop-splitting : goal.decreases-loop-splitting
decreases-loop-splitting l = length l.rest
