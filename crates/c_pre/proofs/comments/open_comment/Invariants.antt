use Rattle.std.proofs.Common.{◌≡◌, ◌+◌, ◌≤◌, drop}
use Rattle.c_pre.specs.Comments.{open_from}
use Rattle.c_pre.specs.declared.comments.Mode.TheVariants.{Code}
use Rattle.c_pre.proofs.comments.open_comment.Given as goal

abbrev pub invariant-loop-at : goal.invariant-loop-at
invariant-loop-at l = record {
  same : open_from l.mode l.line l.start (drop l.at l.text) ≡ open_from Code 1 1 l.text;
  low : l.line ≤ l.at + 1;
}
