use Rattle.c_units.proofs.Words.Std.{map, ◌≡◌}
use Rattle.c_units.proofs.Words.Trees.{decl_view, trees}
use Rattle.c_units.proofs.Words.Units.{joined, mentions_of, said_view, trees_of}
use Rattle.c_units.proofs.program.Program.take_in.Given as goal

-- what was taken in so far
abbrev pub invariant-loop-one : goal.invariant-loop-one
invariant-loop-one l =
    (l.mentions.items ≡ mentions_of (map said_view l.yielded))
    × (trees decl_view l.self.decls ≡ joined (trees decl_view l.initial.self.decls) (trees_of (map said_view l.yielded)))
    × (l.self.spellings ≡ l.initial.self.spellings) × (l.self.taken ≡ l.initial.self.taken)
