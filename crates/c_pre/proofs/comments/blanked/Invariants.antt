use Rattle.std.proofs.Common.{◌≡◌, ◌++◌, length, drop}
use Rattle.c_pre.specs.Comments.{blanked}
use Rattle.c_pre.specs.declared.comments.Mode.TheVariants.{Code}
use Rattle.c_pre.proofs.comments.blanked.Given as goal

abbrev pub invariant-loop-at : goal.invariant-loop-at
invariant-loop-at l = record {
  bytes : l.plain.items ++ blanked l.mode (drop l.at l.text) ≡ blanked Code l.text;
  len : length l.plain.items ≡ l.at;
}
