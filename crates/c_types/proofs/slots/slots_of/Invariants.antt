use Rattle.std.proofs.Common.{◌≡◌}
use Rattle.c_types.specs.Types.{plain}
use Rattle.c_types.specs.TagTable.{known, layout_or}
use Rattle.c_types.specs.Listing.{AreListable, all_listed, work}
use Rattle.c_types.proofs.slots.slots_of.Given as goal

abbrev pub invariant-loop-next : goal.invariant-loop-next
invariant-loop-next l = record {
  listable : AreListable l.tags l.listing.left.items l.listing.slots.items;
  all : all_listed l.tags l.listing.left.items l.listing.slots.items ≡ (layout_or (known l.tags.completed) (plain l.ty)).slots;
}

abbrev pub decreases-loop-next : goal.decreases-loop-next
decreases-loop-next l = work l.tags l.listing.left.items
