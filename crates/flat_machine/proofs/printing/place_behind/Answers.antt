use Rattle.std.proofs.Common.{sym}
use Rattle.std.proofs.lemmas.List.{drop-drop}
use Rattle.flat_machine.proofs.printing.place_behind.Goals as goal

pub returns-in-Item-clause-arguments : goal.returns-in-Item-clause-arguments
returns-in-Item-clause-arguments c = λ values. rw c.in-Item.is (sym (drop-drop 1 c.args.place values))
