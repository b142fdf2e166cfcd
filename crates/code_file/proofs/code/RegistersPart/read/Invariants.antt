use Rattle.code_file.specs.Spelling.{IsNumber, number}
use Rattle.code_file.proofs.Lists.{Under}
use Rattle.code_file.proofs.code.RegistersPart.read.Given as goal

-- the registers so far begin the list
abbrev pub invariant-loop-done : goal.invariant-loop-done
invariant-loop-done l = Under IsNumber number l.count l._done l.fn.reader l.reader l.registers
