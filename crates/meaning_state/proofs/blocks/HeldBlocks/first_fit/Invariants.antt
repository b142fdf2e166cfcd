use Rattle.std.proofs.Common.{◌≡◌, ◌<◌, ◌+◌, ◌-◌, ◌%◌, ◌^◌}
use Rattle.hs_base.specs.Place.{first_fit}
use Rattle.meaning_state.specs.Fitting.{lowest_from}
use Rattle.meaning_state.proofs.blocks.HeldBlocks.first_fit.Given as goal

abbrev pub invariant-places : goal.invariant-places
invariant-places l = record {
  fit : first_fit l.self.blocks l.self.heap l.length ≡ lowest_from l.self l.length l.place;
  aligned : l.place % 16 ≡ 0;
  small : l.place < 2 ^ 32;
}

abbrev pub decreases-places : goal.decreases-places
decreases-places l = l.self.heap + 1 - l.place
