use Rattle.std.proofs.Common.{sym, ◌∙◌}
use Rattle.c_types.specs.Types.{plain}
use Rattle.c_types.specs.Layouts.{layout_of, no_layout}
use Rattle.c_types.specs.TagTable.{known}
use Rattle.c_types.proofs.PlacingLemmas.{unwrap_map}
use Rattle.c_types.proofs.UnionLemmas.{larger_found, none_larger, largest_is}
use Rattle.c_types.proofs.unions.largest_member.Goals as goal
use Rattle.c_types.proofs.unions.largest_member.Goals.{then-size-greatest, else-size-greatest}

pub loop-place-preserved : goal.loop-place-preserved
loop-place-preserved c =
    let k = known c.args.tags.now.completed in
    let m = c.index-members-place.result in
    let size = unwrap_map (λ l. l.size) (layout_of k (plain m.ty)) no_layout c.unwrap-size.result (sym c.size_of-in-loop-place.ensures.value ∙ c.unwrap-size.ensures) in
    elim c.if-size-greatest.branch [
      | then-size-greatest w ↦
          rw (w.largest-is, w.greatest-is)
          (larger_found k c.args.members.now c.loop-place.largest c.loop-place.greatest c.loop-place.place c.unwrap-size.result m c.loop-place-test.true c.index-members-place.is size w.if-size-greatest.true c.loop-place.invariant)
      | else-size-greatest w ↦
          rw (w.largest-is, w.greatest-is)
          (none_larger k c.args.members.now c.loop-place.largest c.loop-place.greatest c.loop-place.place c.unwrap-size.result m c.loop-place-test.true c.index-members-place.is size w.if-size-greatest.false c.loop-place.invariant)
    ]

pub returns : goal.returns
returns c = largest_is _ _ c.loop-place.largest c.loop-place.greatest c.loop-place.place c.loop-place-test.false c.loop-place.invariant
