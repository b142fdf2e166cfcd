use Rattle.code_file.proofs.ListsBeside.{Along}
use Rattle.code_file.proofs.names.read_list_beside.Given as goal

-- the items so far begin the list
abbrev pub invariant-loop-item : goal.invariant-loop-item
invariant-loop-item g l = Along g.T.Beside.fits_beside g.T.Spelled.spelling l.known l.item-index l.fn.reader l.reader l.items
