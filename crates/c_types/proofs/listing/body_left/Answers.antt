use Rattle.std.proofs.Common.{◌≡◌, ◌⊎◌, inl, inr, false, [], sym, ◌∙◌, arith}
use Rattle.c_types.specs.Types.{plain}
use Rattle.c_types.specs.TagTable.{known}
use Rattle.c_types.specs.Slots.{first_known, IsLargest}
use Rattle.c_types.proofs.BodyLemmas.{members_sized, some_within}
use Rattle.c_types.proofs.LeftLemmas.{MembersCase, members_case, no_items, largest_left, size_is}
use Rattle.c_types.proofs.ListLemmas.{first_sized, size_some}
use Rattle.c_types.proofs.listing.body_left.Goals as goal
use Rattle.c_types.proofs.listing.body_left.Goals.{then-not-body-via-then-not-body, then-not-body-via-else-not-body+then-is_empty}

members_left : (c : goal.Joined-then-not-body) → MembersCase (first_known c.args.tags.now c.args.first) c.args.offset c.args.body.now
members_left c =
    let why : (c.args.body.now.is_union ≡ false) ⊎ (c.args.body.now.members ≡ []) =
    elim c.then-not-body.branch [
      | then-not-body-via-then-not-body w ↦ inl w.if-not-body.true
      | then-not-body-via-else-not-body+then-is_empty w ↦ inr (no_items _ _ c.as_slice-members.ensures (sym w.is_empty.ensures ∙ w.if-is_empty.true))
    ] in
    members_case (first_known c.args.tags.now c.args.first) c.args.offset c.args.body.now c.requires.placed c.requires.room why

pub returns-then-not-body-clause-listable : goal.returns-then-not-body-clause-listable
returns-then-not-body-clause-listable c = λ slots. rw c.as_slice-members.ensures (members_left c).listable

pub returns-then-not-body-clause-slots : goal.returns-then-not-body-clause-slots
returns-then-not-body-clause-slots c = λ slots. rw c.as_slice-members.ensures ((members_left c).slots slots)

pub largest_member-requires-clause-sized : goal.largest_member-requires-clause-sized
largest_member-requires-clause-sized c =
    rw c.as_slice-members.ensures (members_sized c.args.tags.now c.args.first c.args.body.now.members c.requires.placed.sized)

pub offset_bounds-members-largest_member : goal.offset_bounds-members-largest_member
offset_bounds-members-largest_member c =
    let within = some_within (IsLargest (known c.args.tags.now.completed) c.as_slice-members.result.now) c.as_slice-members.result.now c.largest_member.result c.largest_member.ensures in
    omega arith

pub bounds-members-largest_member : goal.bounds-members-largest_member
bounds-members-largest_member c =
    some_within (IsLargest (known c.args.tags.now.completed) c.as_slice-members.result.now) c.as_slice-members.result.now c.largest_member.result c.largest_member.ensures

pub size_of-requires : goal.size_of-requires
size_of-requires c =
    let left = largest_left c.args.tags.now c.args.first c.args.offset c.largest_member.result c.args.body.now _ c.index-members-largest_member.result
    c.as_slice-members.ensures c.requires.stands c.requires.placed c.requires.rule c.requires.room c.if-not-body.false c.index-members-largest_member.is c.largest_member.ensures in
    (first_sized c.args.tags.now c.args.first _ left.ends.0).1

pub unwrap-size-requires : goal.unwrap-size-requires
unwrap-size-requires c =
    let left = largest_left c.args.tags.now c.args.first c.args.offset c.largest_member.result c.args.body.now _ c.index-members-largest_member.result
    c.as_slice-members.ensures c.requires.stands c.requires.placed c.requires.rule c.requires.room c.if-not-body.false c.index-members-largest_member.is c.largest_member.ensures in
    size_some (known c.args.tags.now.completed) (plain c.index-members-largest_member.result.ty) _ (first_sized c.args.tags.now c.args.first _ left.ends.0).0 c.size_of.ensures.value

pub returns-clause-listable : goal.returns-clause-listable
returns-clause-listable c =
    let left = largest_left c.args.tags.now c.args.first c.args.offset c.largest_member.result c.args.body.now _ c.index-members-largest_member.result
    c.as_slice-members.ensures c.requires.stands c.requires.placed c.requires.rule c.requires.room c.if-not-body.false c.index-members-largest_member.is c.largest_member.ensures in
    λ slots. (left.ends, size_is c.args.tags.now c.args.first (plain c.index-members-largest_member.result.ty) _ _ left.ends.0 c.size_of.ensures.value c.unwrap-size.ensures)

pub returns-clause-slots : goal.returns-clause-slots
returns-clause-slots c =
    let left = largest_left c.args.tags.now c.args.first c.args.offset c.largest_member.result c.args.body.now _ c.index-members-largest_member.result
    c.as_slice-members.ensures c.requires.stands c.requires.placed c.requires.rule c.requires.room c.if-not-body.false c.index-members-largest_member.is c.largest_member.ensures in
    left.slots

pub returns-clause-work : goal.returns-clause-work
returns-clause-work c =
    let left = largest_left c.args.tags.now c.args.first c.args.offset c.largest_member.result c.args.body.now _ c.index-members-largest_member.result
    c.as_slice-members.ensures c.requires.stands c.requires.placed c.requires.rule c.requires.room c.if-not-body.false c.index-members-largest_member.is c.largest_member.ensures in
    left.work
