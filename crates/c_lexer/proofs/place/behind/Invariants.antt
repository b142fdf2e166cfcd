use Rattle.std.proofs.Common.{◌≡◌, ◌+◌, ◌≤◌, drop}
use Rattle.c_lexer.specs.Tokens.{behind}
use Rattle.c_lexer.proofs.place.behind.Given as goal

abbrev pub invariant-loop-byte : goal.invariant-loop-byte
invariant-loop-byte l = record {
  place : behind l.here (drop l.byte-index l.bytes) ≡ behind l.fn.place l.bytes;
  low : l.fn.place.line ≤ l.here.line;
  high : l.here.line ≤ l.fn.place.line + l.byte-index;
}
