use Rattle.c_units.proofs.Words.Std.{[], map, ◌≡◌}
use Rattle.c_units.proofs.Words.Trees.{decl_view, trees}
use Rattle.c_units.proofs.Words.Units.{each_said, said_view}
use Rattle.c_units.proofs.SaidTurns.{behind_all}
use Rattle.c_units.proofs.said.each_said.Given as goal

-- what was said so far, and what is known behind it
abbrev pub invariant-loop-decl : goal.invariant-loop-decl
invariant-loop-decl l =
    (map said_view l.all.items ≡ each_said (trees decl_view l.yielded) l.initial.walk)
    × (record l.walk { mentions = [] } ≡ behind_all (trees decl_view l.yielded) l.initial.walk)
