use Rattle.c_units.proofs.Words.Std.{drop, map, ◌≡◌}
use Rattle.c_units.proofs.Words.Units.{first_taken, mentions_of, said_view}
use Rattle.c_units.proofs.program.Program.first_taken.Given as goal

-- the declarations that are left decide
abbrev pub invariant-loop-one : goal.invariant-loop-one
invariant-loop-one l =
    first_taken l.self.taken (mentions_of (map said_view (drop l.one-index l.said))) ≡ first_taken l.self.taken (mentions_of (map said_view l.said))
