use Rattle.std.proofs.Common.{◌≡◌, ◌+◌, refl}
use Rattle.c_types.specs.declared.listing.Left.TheVariants as left
use Rattle.c_types.specs.Types.{plain}
use Rattle.c_types.specs.TagTable.{known, layout_or}
use Rattle.c_types.specs.Slots.{first_known}
use Rattle.c_types.specs.Listing.{tag_work, EndsInTime}
use Rattle.c_types.proofs.LeftLemmas.{front_case, size_is, two_left}
use Rattle.c_types.proofs.ListLemmas.{first_sized, size_some}
use Rattle.c_types.proofs.listing.Listing.list_member.Goals as goal

pub size_of-requires : goal.size_of-requires
size_of-requires c =
    let table = c.args.tags.now in
    let front = front_case (first_known table c.args.part.first) c.args.part.offset (tag_work table.completed c.args.part.first) _ _
    c.member-item.is c.in-len1-up.len_at_least c.requires.0 in
    (first_sized table c.args.part.first _ front.one.0).1

pub unwrap-size-requires : goal.unwrap-size-requires
unwrap-size-requires c =
    let table = c.args.tags.now in
    let front = front_case (first_known table c.args.part.first) c.args.part.offset (tag_work table.completed c.args.part.first) _ _
    c.member-item.is c.in-len1-up.len_at_least c.requires.0 in
    size_some (known table.completed) (plain c.member-item.result.ty) _ (first_sized table c.args.part.first _ front.one.0).0 c.size_of.ensures.value

pub returns-in_ok-push-in-len1-up-2 : goal.returns-in_ok-push-in-len1-up-2
returns-in_ok-push-in-len1-up-2 c =
    let table = c.args.tags.now in
    let front = front_case (first_known table c.args.part.first) c.args.part.offset (tag_work table.completed c.args.part.first) _ _
    c.member-item.is c.in-len1-up.len_at_least c.requires.0 in
    let size = size_is table c.args.part.first (plain c.member-item.result.ty) _ _ front.one.0 c.size_of.ensures.value c.unwrap-size.ensures in
    let ends : EndsInTime (first_known table c.args.part.first) (c.args.part.offset + c.member-item.result.offset) (plain c.member-item.result.ty) × (c.unwrap-size.result ≡ (layout_or (first_known table c.args.part.first) (plain c.member-item.result.ty)).size) =
    (front.one, size) in
    two_left table (left.Members c.args.part) _ _ _ _ _ c.requires c.in_ok-push-in-len1-up.ensures.items c.in_ok-push-in-len1-up-2.ensures.items
    refl (front.slots c.args.self.now.slots.items) ends front.others front.less
