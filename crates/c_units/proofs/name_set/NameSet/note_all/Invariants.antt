use Rattle.std.proofs.Common.{◌≡◌, drop}
use Rattle.c_units.specs.Mentions.{all_noted}
use Rattle.c_units.proofs.name_set.NameSet.note_all.Given as goal

-- the names that are left come behind those that are noted
abbrev pub invariant-loop-name : goal.invariant-loop-name
invariant-loop-name l = all_noted l.self (drop l.name-index l.names) ≡ all_noted l.initial.self l.names
