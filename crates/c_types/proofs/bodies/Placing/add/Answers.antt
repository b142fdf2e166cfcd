use Rattle.std.proofs.Common.{◌≡◌, ap, sym, ◌∙◌, subst, max, ◌+◌}
use Rattle.std.specs.Int.{next_multiple_of}
use Rattle.c_types.specs.Types.{plain}
use Rattle.c_types.specs.Layouts.{IsAlignment, layout_of, no_layout}
use Rattle.c_types.specs.TagTable.{known, member_layout}
use Rattle.c_types.specs.Placing.{pairs, placed_by}
use Rattle.c_types.proofs.PlacingLemmas.{so_far_push, unwrap_map, union_offset, struct_offset, some_is}
use Rattle.c_types.proofs.bodies.Placing.add.Goals as goal
use Rattle.c_types.proofs.bodies.Placing.add.Goals.{then-is_union, else-is_union}

pub returns-clause-ok : goal.returns-clause-ok
returns-clause-ok c =
    let k = known c.args.tags.now.completed in
    let before = placed_by k c.args.is_union (pairs c.args.self.now) in
    let new = member_layout k (c.args.name, plain c.args.ty) in
    let size = unwrap_map (λ l. l.size) (layout_of k (plain c.args.ty)) no_layout c.unwrap-size.result (sym c.size_of.ensures.value ∙ c.unwrap-size.ensures) in
    let align = unwrap_map (λ l. l.align) (layout_of k (plain c.args.ty)) no_layout c.unwrap-align.result (sym c.align_of.ensures.value ∙ c.unwrap-align.ensures) in
    so_far_push k c.args.is_union c.args.self.now _ (record { name = c.args.name; ty = c.args.ty; offset = c.if-is_union.offset })
    c.requires.so_far c.requires.sized c.in_ok-push.ensures.items
    (elim c.if-is_union.branch [
      | then-is_union w ↦ w.offset-is ∙ sym (union_offset c.args.is_union before new w.if-is_union.true)
      | else-is_union w ↦
          w.offset-is
          ∙ (w.next_multiple_of-offset.ensures.value
          ∙ (let ends = c.requires.so_far.end in
          let same : next_multiple_of c.args.self.now.end c.unwrap-align.result ≡ next_multiple_of before.end new.align = cc in
          same ∙ sym (struct_offset c.args.is_union before new w.if-is_union.false)))
    ])
    (c.max-end.ensures ∙ ap (λ n. max c.args.self.now.end (c.if-is_union.offset + n)) (sym size))
    (c.max-self.ensures ∙ ap (λ n. max c.args.self.now.align n) (sym align))
    (subst IsAlignment (sym align) (some_is IsAlignment _ c.unwrap-align.result c.unwrap-align.ensures c.align_of.ensures.aligned))
    c.if-end-gt-MAX_SIZE.false
