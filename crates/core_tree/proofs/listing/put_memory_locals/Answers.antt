use Rattle.core_tree.specs.Listing.{memory_line}
use Rattle.core_tree.proofs.Joining.{numbered_step}
use Rattle.core_tree.proofs.listing.put_memory_locals.Goals as goal

pub loop-place-preserved : goal.loop-place-preserved
loop-place-preserved c =
    numbered_step memory_line c.loop-place.place c.args.mems.now c.index-mems-place.result c.args.text.now c.loop-place.text
    c.put_memory_local.new.text c.loop-place-test.true c.index-mems-place.is c.loop-place.invariant c.in_ok-put_memory_local.ensures
