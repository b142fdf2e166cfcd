use Rattle.code_rules.specs.Answers.{ArePlacesUpTo}
use Rattle.code_rules.proofs.pins.site_places.Given as goal

abbrev pub invariant-loop-place : goal.invariant-loop-place
invariant-loop-place l = ArePlacesUpTo l.code l.place l.places.items
