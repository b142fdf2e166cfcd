use Rattle.std.proofs.Common.{◌≡◌, ◌≤◌, ◌<◌, List, IsTrue, ap, sym, ◌∙◌, take, take_all, length, get_or, IsSomeAnd, slice_get, subst}
use Rattle.std.specs.List.{AllByRecursion}
use Rattle.c_types.specs.declared.bodies.Member.{Member}
use Rattle.c_types.specs.declared.layouts.Layout.{Layout}
use Rattle.c_types.specs.Types.{plain}
use Rattle.c_types.specs.Layouts.{layout_of, no_layout}
use Rattle.c_types.specs.TagTable.{known, layout_or}
use Rattle.c_types.specs.Slots.{IsLargest}
use Rattle.c_types.proofs.PlacingLemmas.{unwrap_map}
use Rattle.c_types.proofs.Sound.{known_sound}
use Rattle.c_types.proofs.BodyLemmas.{some_and, some_within}
use Rattle.c_types.proofs.RuleLemmas.{IsFrontMember, member_room, follows_if_fronts, fails_if_no_front, front_told, front_given, next_front}
use Rattle.c_types.proofs.unions.follows_union_rule.Goals as goal

pub slots_of-requires-clause-room : goal.slots_of-requires-clause-room
slots_of-requires-clause-room c =
    let k = known c.args.tags.now.completed in
    let value = c.as_slice-members.ensures in
    let ms = c.args.body.now.members in
    let within : c.largest_member-largest.result < length ms =
    some_within (IsLargest k ms) ms c.largest_member-largest.result (rw value at c.largest_member-largest.ensures) in
    let at : c.index-members-largest.result ≡ get_or ms c.largest_member-largest.result c.index-members-largest.result = rw value at c.index-members-largest.is in
    subst (λ (m : Member). (layout_or k (plain m.ty)).size ≤ 268435456) c.index-members-largest.is
    (member_room k c.args.body.now c.largest_member-largest.result c.index-members-largest.result c.requires within at)

pub slots_of-requires-in-loop-member-clause-room : goal.slots_of-requires-in-loop-member-clause-room
slots_of-requires-in-loop-member-clause-room c =
    let value = c.as_slice-members.ensures in
    member_room (known c.args.tags.now.completed) c.args.body.now c.loop-member.member-index c.member-item.result c.requires (rw value at c.loop-member-test.true) (rw value at c.member-item.is)

pub returns-then-not-is_front_below : goal.returns-then-not-is_front_below
returns-then-not-is_front_below c =
    let k = known c.args.tags.now.completed in
    let value = c.as_slice-members.ensures in
    let ms = c.args.body.now.members in
    let some : IsSomeAnd (slice_get ms c.largest_member-largest.result) (IsLargest k ms) = rw value at c.largest_member-largest.ensures in
    let at : c.index-members-largest.result ≡ get_or ms c.largest_member-largest.result c.index-members-largest.result = rw value at c.index-members-largest.is in
    let r = some_and (IsLargest k ms) ms c.largest_member-largest.result c.index-members-largest.result at some in
    let all = c.in_ok-all.ensures ∙ ap (λ (m : Member). (layout_or k (plain m.ty)).slots) (sym c.index-members-largest.is) in
    let m = c.member-item.result in
    let size = unwrap_map (λ (l : Layout). l.size) (layout_of k (plain m.ty)) no_layout c.unwrap-size.result (sym c.size_of.ensures.value ∙ c.unwrap-size.ensures) in
    sym
    (fails_if_no_front k c.args.body.now c.largest_member-largest.result c.loop-member.member-index c.index-members-largest.result m c.in_ok-all.all.items
    (known_sound c.args.tags.now.completed) c.requires r.0 at r.1 all (rw value at c.loop-member-test.true) (rw value at c.member-item.is)
    (λ f.
    let yes : IsTrue c.is_front_below.result =
    c.is_front_below.ensures.1
    (front_given k c.in_ok-all.all.items m c.in_ok-slots.slots.items _ _ c.unwrap-size.result c.in_ok-slots.ensures c.deref.ensures.value c.deref-in-loop-member.ensures.value size f) in
    cc))

pub loop-member-preserved : goal.loop-member-preserved
loop-member-preserved c =
    let k = known c.args.tags.now.completed in
    let m = c.member-item.result in
    let size = unwrap_map (λ (l : Layout). l.size) (layout_of k (plain m.ty)) no_layout c.unwrap-size.result (sym c.size_of.ensures.value ∙ c.unwrap-size.ensures) in
    next_front k c.in_ok-all.all.items c.as_slice-members.result.now c.loop-member.member-index m c.loop-member-test.true c.member-item.is
    (front_told k c.in_ok-all.all.items m c.in_ok-slots.slots.items _ _ c.unwrap-size.result c.in_ok-slots.ensures c.deref.ensures.value c.deref-in-loop-member.ensures.value size
    (c.is_front_below.ensures.0 c.if-not-is_front_below.false))
    c.loop-member.invariant

pub returns : goal.returns
returns c =
    let k = known c.args.tags.now.completed in
    let value = c.as_slice-members.ensures in
    let ms = c.args.body.now.members in
    let some : IsSomeAnd (slice_get ms c.largest_member-largest.result) (IsLargest k ms) = rw value at c.largest_member-largest.ensures in
    let at : c.index-members-largest.result ≡ get_or ms c.largest_member-largest.result c.index-members-largest.result = rw value at c.index-members-largest.is in
    let r = some_and (IsLargest k ms) ms c.largest_member-largest.result c.index-members-largest.result at some in
    let all_is = c.in_ok-all.ensures ∙ ap (λ (m : Member). (layout_or k (plain m.ty)).slots) (sym c.index-members-largest.is) in
    let all : take c.loop-member.member-index c.as_slice-members.result.now ≡ ms = take_all c.loop-member.member-index c.as_slice-members.result.now c.loop-member-test.false ∙ value in
    sym
    (follows_if_fronts k c.args.body.now c.largest_member-largest.result c.index-members-largest.result c.in_ok-all.all.items (known_sound c.args.tags.now.completed) c.requires r.0 at
    all_is (subst (λ (l : List Member). AllByRecursion (IsFrontMember k c.in_ok-all.all.items) l) all c.loop-member.invariant))
