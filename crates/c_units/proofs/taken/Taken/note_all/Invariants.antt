use Rattle.std.proofs.Common.{◌≡◌, drop}
use Rattle.c_units.specs.Mentions.{with_mentions}
use Rattle.c_units.proofs.taken.Taken.note_all.Given as goal

-- the mentions that are left come behind those that are noted
abbrev pub invariant-loop-mention : goal.invariant-loop-mention
invariant-loop-mention l = with_mentions (drop l.mention-index l.mentions) l.self ≡ with_mentions l.mentions l.initial.self
