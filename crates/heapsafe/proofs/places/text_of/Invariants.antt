use Rattle.std.proofs.Common.{◌≡◌, drop, None, option_copied}
use Rattle.heapsafe.specs.Places.{last_before}
use Rattle.heapsafe.proofs.places.text_of.Given as goal

abbrev pub invariant-loop-text : goal.invariant-loop-text
invariant-loop-text l = last_before (option_copied l.found) (drop l.text-index l.opened) l.line ≡ last_before None l.opened l.line
