use Rattle.std.proofs.Common.{◌≡◌, map}
use Rattle.c_pre.specs.Conditions.{plain_zeroed}
use Rattle.c_pre.proofs.conditions.without_words.Given as goal

-- the tokens so far
abbrev pub invariant-loop-marked : goal.invariant-loop-marked
invariant-loop-marked l = l.done ≡ map plain_zeroed l.yielded
