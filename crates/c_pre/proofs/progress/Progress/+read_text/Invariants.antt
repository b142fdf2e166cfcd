use Rattle.std.proofs.Common.{◌≡◌, ℕ, ◌+◌, ◌-◌, ◌*◌, ◌≤◌, List, Some, length, drop}
use Rattle.c_pre.specs.Expansion.{most_work}
use Rattle.c_pre.specs.Formed.{Formed}
use Rattle.c_pre.specs.Lines.{lines_of}
use Rattle.c_pre.specs.Texts.{most_bytes, below, lines_read, source_read}
use Rattle.c_pre.proofs.progress.Progress.+read_text.Given as goal

abbrev pub decreases-read_text : goal.decreases-read_text
decreases-read_text g l = l.left

abbrev pub invariant-lines : goal.invariant-lines
invariant-lines g l = record {
  told : (told : List ℕ → List ℕ) → g.T.Texts.texts l.fn.texts ≡ Some told → lines_read (below told l.left) l.source (lines_of (drop l.at l.source.plain)) l.here l.self ≡ source_read (below told l.left) l.source l.initial.self;
  keeps : g.T.Texts.texts l.texts ≡ g.T.Texts.texts l.fn.texts;
  count : g.T.Texts.faults l.texts ≡ g.T.Texts.faults l.fn.texts;
  formed : Formed l.fn.self → Formed l.self;
  few : Formed l.fn.self → length l.self.tokens + length l.here.run + (length l.source.plain - l.at) + l.fn.self.used + l.fn.self.work ≤ length l.fn.self.tokens + l.self.used + l.self.work;
  work : Formed l.fn.self → l.fn.self.work ≤ most_work → l.self.work ≤ most_work;
  within : l.at ≤ length l.source.plain;
  base : l.here.base ≡ l.source.base;
  line : l.here.line ≤ l.at + 1;
  run_line : l.here.run_line ≤ l.here.line;
  run : length l.here.run ≤ l.at;
  most : l.self.used ≤ most_bytes;
  used : l.initial.self.used ≤ l.self.used;
  lines : l.self.lines + (length l.source.plain - l.at) + 2 * l.fn.self.used ≤ l.fn.self.lines + 1 + 2 * l.self.used;
}

abbrev pub decreases-lines : goal.decreases-lines
decreases-lines g l = length l.source.plain - l.at
