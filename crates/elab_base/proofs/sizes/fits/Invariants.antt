use Rattle.std.proofs.Common.{◌≤◌}
use Rattle.c_types.specs.declared.types.CType.{size-CType}
use Rattle.c_types.specs.Types.{plain}
use Rattle.c_types.specs.TagTable.{known}
use Rattle.elab_base.proofs.Fitting.{FitsBy}
use Rattle.elab_base.proofs.sizes.fits.Given as goal

abbrev pub invariant-loop-part : goal.invariant-loop-part
invariant-loop-part l =
    FitsBy (known l.tags.completed) (plain l.initial.part) (plain l.part) l.count × (size-CType l.part ≤ size-CType l.initial.part)
