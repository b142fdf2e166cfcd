use Rattle.std.proofs.Common.{◌≡◌, ◌++◌, map, take}
use Rattle.c_pre.specs.Expansion.{put_on}
use Rattle.c_pre.proofs.substitute.add_tokens.Given as goal

abbrev pub invariant-loop-marked : goal.invariant-loop-marked
invariant-loop-marked l = l.to ≡ l.fn.to ++ map (put_on l.line l.numbers) (take l.marked-index l.tokens)
