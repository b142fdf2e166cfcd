use Rattle.std.proofs.Common.{length}
use Rattle.c_print.specs.Format.{ReadsPieces}
use Rattle.c_print.proofs.format.read_format.Given as goal

-- the pieces so far, and what stands behind them
abbrev pub invariant-loop-rest : goal.invariant-loop-rest
invariant-loop-rest l = ReadsPieces l.bytes l.pieces l.rest

abbrev pub decreases-loop-rest : goal.decreases-loop-rest
decreases-loop-rest l = length l.rest
