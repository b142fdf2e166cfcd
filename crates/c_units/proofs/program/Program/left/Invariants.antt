use Rattle.c_units.proofs.Words.Std.{map, ◌≡◌}
use Rattle.c_units.proofs.Words.Units.{kept, said_view, spellings_of}
use Rattle.c_units.proofs.program.Program.left.Given as goal

-- what is left of the declarations so far
abbrev pub invariant-loop-one : goal.invariant-loop-one
invariant-loop-one l =
    (map said_view l.left.said.items ≡ kept l.self.spellings (map said_view l.yielded))
    × (l.left.spellings.items ≡ spellings_of (map said_view l.yielded))
