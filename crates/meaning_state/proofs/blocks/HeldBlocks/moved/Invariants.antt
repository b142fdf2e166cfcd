use Rattle.std.proofs.Common.{◌≡◌, ◌≤◌, ◌<◌, ◌%◌, ◌^◌, true, drop}
use Rattle.std.specs.List.{list_all}
use Rattle.meaning_state.specs.Fitting.{lowest_from}
use Rattle.meaning_state.proofs.Jumping.{clears}
use Rattle.meaning_state.proofs.blocks.HeldBlocks.moved.Given as goal

abbrev pub invariant-loop-block : goal.invariant-loop-block
invariant-loop-block l = record {
  same : lowest_from l.self l.length l.place ≡ lowest_from l.self l.length l.at;
  low : l.place ≤ l.at;
  aligned : l.at % 16 ≡ 0;
  small : l.at < 2 ^ 32;
  clear : l.at ≡ l.place → list_all (clears l.place l.length) (drop l.block-index l.self.blocks) ≡ true → list_all (clears l.place l.length) l.self.blocks ≡ true;
}
