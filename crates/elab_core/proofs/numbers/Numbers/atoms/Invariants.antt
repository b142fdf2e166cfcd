use Rattle.std.proofs.Common.{◌≡◌, List, take}
use Rattle.elaboration.specs.Context.{Piece}
use Rattle.elaboration.specs.Resolving.{atoms_by}
use Rattle.elab_core.specs.NumbersBy.{numbers_by}
use Rattle.elab_core.proofs.numbers.Numbers.atoms.Given as goal

abbrev pub invariant-loop-atom : goal.invariant-loop-atom
invariant-loop-atom l =
    (pieces : List Piece) → l.numbered ≡ atoms_by (numbers_by l.self pieces) (take l.atom-index l.atom-items)
