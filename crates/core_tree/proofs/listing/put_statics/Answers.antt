use Rattle.core_tree.specs.Listing.{static_line}
use Rattle.core_tree.proofs.Joining.{numbered_step}
use Rattle.core_tree.proofs.listing.put_statics.Goals as goal

pub loop-place-preserved : goal.loop-place-preserved
loop-place-preserved c =
    numbered_step static_line c.loop-place.place c.args.statics.now c.index-statics-place.result c.args.text.now c.loop-place.text
    c.put_static.new.text c.loop-place-test.true c.index-statics-place.is c.loop-place.invariant c.in_ok-put_static.ensures
