use Rattle.core_tree.specs.Listing.{register_line}
use Rattle.core_tree.proofs.Joining.{numbered_step}
use Rattle.core_tree.proofs.listing.put_registers.Goals as goal

pub loop-place-preserved : goal.loop-place-preserved
loop-place-preserved c =
    numbered_step register_line c.loop-place.place c.args.registers.now c.index-registers-place.result c.args.text.now c.loop-place.text
    c.put_register.new.text c.loop-place-test.true c.index-registers-place.is c.loop-place.invariant c.in_ok-put_register.ensures
