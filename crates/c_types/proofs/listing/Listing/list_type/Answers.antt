use Rattle.std.proofs.Common.{◌≡◌, ◌++◌, ap, sym, refl, ◌∙◌, arith, List, ℕ}
use Rattle.c_types.specs.declared.listing.Left.TheVariants as left
use Rattle.c_types.specs.Types.{plain, Array}
use Rattle.c_types.specs.Layouts.{moved}
use Rattle.c_types.proofs.LeftLemmas.{one_left, two_left}
use Rattle.c_types.proofs.ArmLemmas.{elements_case, tag_case, tag_some}
use Rattle.c_types.proofs.listing.Listing.list_type.Goals as goal
use Rattle.c_types.proofs.listing.Listing.list_type.Goals.{in-Struct, in-Struct-2}

pub unwrap-place-requires : goal.unwrap-place-requires
unwrap-place-requires c =
    tag_some c.args.tags.now c.args.part.first _ c.args.part.ty _ c.body.ensures.none c.requires.0.0.0.0
    (elim c.in-Struct-1.branch [ in-Struct w ↦ rw w.tag-is w.in-Struct.is | in-Struct-2 w ↦ rw w.tag-is w.in-Struct.is ])

pub body_left-requires-clause-room : goal.body_left-requires-clause-room
body_left-requires-clause-room c =
    let case = tag_case c.args.tags.now c.args.part.first c.args.part.offset _ c.args.part.ty _ _ c.unwrap-place.ensures c.body.ensures.some
    c.requires.0.0.0.0 c.requires.0.0.1
    (elim c.in-Struct-1.branch [ in-Struct w ↦ rw w.tag-is w.in-Struct.is | in-Struct-2 w ↦ rw w.tag-is w.in-Struct.is ]) in
    case.room

pub returns-in_ok-push-in-Array-2 : goal.returns-in_ok-push-in-Array-2
returns-in_ok-push-in-Array-2 c =
    let type : plain c.args.part.ty ≡ Array (plain c.in-Array.element.now) c.in-Array.length = ap plain c.in-Array.is in
    let case = elements_case c.args.tags.now c.args.part.first c.args.part.offset c.in-Array.length _ c.len-start.result c.args.part.size _ _ c.args.self.now.slots.items
    c.if-length-eq0.false type c.requires.0.0.0 c.requires.0.0.1 c.requires.0.1 refl (omega arith) in
    two_left c.args.tags.now (left.Type c.args.part) _ _ _ _ _ c.requires c.in_ok-push-in-Array.ensures.items c.in_ok-push-in-Array-2.ensures.items
    refl case.same case.ends case.copies case.less

pub returns-in_ok-push-in-Struct : goal.returns-in_ok-push-in-Struct
returns-in_ok-push-in-Struct c =
    let case = tag_case c.args.tags.now c.args.part.first c.args.part.offset _ c.args.part.ty _ _ c.unwrap-place.ensures c.body.ensures.some
    c.requires.0.0.0.0 c.requires.0.0.1
    (elim c.in-Struct-1.branch [ in-Struct w ↦ rw w.tag-is w.in-Struct.is | in-Struct-2 w ↦ rw w.tag-is w.in-Struct.is ]) in
    let slots = c.args.self.now.slots.items in
    let work = c.body_left.ensures.work in
    let less = case.less in
    one_left c.args.tags.now (left.Type c.args.part) c.body_left.result _ _ c.requires c.in_ok-push-in-Struct.ensures.items refl
    (c.body_left.ensures.slots slots ∙ ap (λ (l : List ℕ). slots ++ moved c.args.part.offset l) (sym case.slots)) (c.body_left.ensures.listable slots) (omega arith)
