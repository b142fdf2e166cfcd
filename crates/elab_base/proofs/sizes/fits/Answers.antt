use Rattle.std.proofs.Common.{◌≡◌, ap, arith, ◌≤◌, rules}
use Rattle.c_types.specs.declared.types.CType.{size-CType, the_lemmas}
use Rattle.c_types.specs.declared.types.CType.TheVariants as t
use Rattle.c_types.specs.Types.{plain, Array}
use Rattle.c_types.specs.TagTable.{known}
use Rattle.elab_base.proofs.Fitting.{element_fits}
use Rattle.elab_base.proofs.sizes.fits.Goals as goal

pub loop-part-preserved : goal.loop-part-preserved
loop-part-preserved c =
    let is : plain c.loop-part.part ≡ Array (plain c.in-Array.element.now) c.in-Array.length = ap plain c.in-Array.is in
    let below : size-CType c.in-Array.element.now ≤ size-CType (t.Array c.in-Array.element c.in-Array.length) = search (rules, the_lemmas) in (
      element_fits (known c.args.tags.now.completed) _ _ _ c.loop-part.count c.in-Array.length _ is c.copies-count.ensures.none c.copies-count.ensures.some
          c.loop-part.invariant.0,
      omega (arith, c.loop-part.invariant.1, ap size-CType c.in-Array.is, below),
    )
