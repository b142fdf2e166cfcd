use Rattle.std.proofs.Common.{◌≡◌, map}
use Rattle.c_pre.specs.Qualifiers.{plain_token}
use Rattle.c_pre.proofs.qualifiers.plain_tokens.Given as goal

abbrev pub invariant-loop-token : goal.invariant-loop-token
invariant-loop-token l = l.plain ≡ map plain_token l.yielded
