use Rattle.std.proofs.Common.{◌≡◌, drop}
use Rattle.c_units.specs.Mentions.{first_taken}
use Rattle.c_units.proofs.taken.Taken.first.Given as goal

-- the mentions that are left decide
abbrev pub invariant-loop-mention : goal.invariant-loop-mention
invariant-loop-mention l = first_taken l.self (drop l.mention-index l.mentions) ≡ first_taken l.self l.mentions
