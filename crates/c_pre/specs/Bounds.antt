-- Numbers of lines and bytes that functions keep.
use Rattle.std.specs.Prelude.{◌≡◌, ◌≤◌, ℕ, ◌+◌, ◌*◌, length}
use Rattle.c_pre.specs.Expansion.{most_work}
use Rattle.c_pre.specs.Texts.{most_bytes}
use Rattle.c_pre.specs.declared.answer.Sources.{Sources}
use Rattle.c_pre.specs.declared.here.Here.{Here}
use Rattle.c_pre.specs.declared.preprocessor.Source.{Source}
use Rattle.c_pre.specs.declared.progress.Progress.{Progress}

-- a line leaves its place, and takes at most its bytes to the run
pub record Stays (old new : Here) (bytes : ℕ) : Type 0 where
  pub base : new.base ≡ old.base
  pub line : new.line ≡ old.line
  pub run_line : new.run_line ≤ old.line + 1
  pub run : length new.run ≤ length old.run + bytes

-- a directive changes nothing of its place but the groups
pub record Keeps (old new : Here) : Type 0 where
  pub base : new.base ≡ old.base
  pub line : new.line ≡ old.line
  pub run_line : new.run_line ≡ old.run_line
  pub run : new.run ≡ old.run

-- a line leaves the numbers of bytes and lines that were read
pub record Counts (old new : Progress) : Type 0 where
  pub used : new.used ≡ old.used
  pub lines : new.lines ≡ old.lines

-- a line can be counted
pub record Fits (here : Here) (bytes : ℕ) : Type 0 where
  pub base : here.base ≤ 4194304
  pub line : here.line ≤ 1048577
  pub run_line : here.run_line ≤ here.line
  pub run : length here.run + bytes ≤ 1048576

-- the numbers of bytes and lines behind a text that is opened, with the tokens and macros as before
pub record Opens (old new : Progress) (s : Source) : Type 0 where
  pub used : new.used ≡ old.used + length s.plain
  pub most : new.used ≤ most_bytes
  pub lines : new.lines ≤ old.lines + length s.plain + 1
  pub base : s.base ≡ old.lines
  pub tokens : new.tokens ≡ old.tokens
  pub macros : new.macros ≡ old.macros
  pub work : new.work ≡ old.work

-- the numbers of bytes and lines behind a text and all that it includes: an include stands on a line of its own
pub record Grows (old new : Progress) : Type 0 where
  pub most : new.used ≤ most_bytes
  pub used : old.used ≤ new.used
  pub lines : new.lines + 2 * old.used ≤ old.lines + 1 + 2 * new.used

-- a text and all that it includes give no more tokens than they have bytes, but for those that work puts in
pub record Adds (old new : Progress) : Type 0 where
  pub few : length new.tokens + old.used + old.work ≤ length old.tokens + new.used + new.work
  pub work : old.work ≤ most_work → new.work ≤ most_work

-- how many bytes and lines there are behind a text that gives so many tokens
pub record Lengthens (before after : Sources) (tokens : ℕ) : Type 0 where
  pub few : tokens + before.used ≤ after.used + most_work
  pub used : before.used ≤ after.used
  pub most : after.used ≤ most_bytes
  pub lines : after.lines + 2 * before.used ≤ before.lines + 1 + 2 * after.used

-- the most tokens that a text and all that it includes can give
abbrev pub most_tokens : ℕ
most_tokens = 5048576
