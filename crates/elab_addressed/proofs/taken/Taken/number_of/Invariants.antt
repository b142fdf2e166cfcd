use Rattle.std.proofs.Common.{◌≡◌, take, reverse}
use Rattle.elaboration.specs.Addressed.{number_of}
use Rattle.elab_addressed.proofs.taken.Taken.number_of.Given as goal

-- the names that are left to try decide
abbrev pub invariant-loop-place : goal.invariant-loop-place
invariant-loop-place l = number_of (reverse (take l.place l.self-inside.names.items)) l.name ≡ number_of l.self.names l.name
