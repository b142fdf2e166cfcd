use Rattle.code_file.proofs.Lists.{Under}
use Rattle.code_file.proofs.part.ItemsPart.read.Given as goal

-- the items so far begin the list
abbrev pub invariant-loop-done : goal.invariant-loop-done
invariant-loop-done g l = Under g.T.Part.fits g.T.Spelled.spelling l.count l._done l.fn.reader l.reader l.items
