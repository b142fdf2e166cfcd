use Rattle.std.proofs.Common.{◌≡◌, ◌≢◌, ◌++◌, length}
use Rattle.std.specs.List.{All, flat_map}
use Rattle.c_print.specs.Format.{plain_byte}
use Rattle.c_print.proofs.plain.read_plain.Given as goal

-- the text is spelled so far
abbrev pub invariant-loop-byte : goal.invariant-loop-byte
invariant-loop-byte l = record {
  written : l.bytes ≡ flat_map plain_byte l.text ++ l.rest;
  no_zero : All (λ b. b ≢ 0) l.text;
}

abbrev pub decreases-loop-byte : goal.decreases-loop-byte
decreases-loop-byte l = length l.rest
