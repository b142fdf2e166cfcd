use Rattle.std.proofs.Common.{◌≡◌, ◌∙◌, ap, map, None, refl}
use Rattle.std.specs.Prelude.{bytes_eq, find}
use Rattle.c_types.specs.TagTable.{PlainMember, known, plain_member, placed_members}
use Rattle.c_types.specs.Bodies.{completed_tag}
use Rattle.c_types.proofs.MemberLemmas.{body_members, found_plain}
use Rattle.c_types.proofs.Places.{known_after_first, not_found}
use Rattle.c_types.proofs.bodies.member_named.Goals as goal

pub returns-in-Some : goal.returns-in-Some
returns-in-Some c =
    let h = c.in-Some.ensures.some in
    let all : map plain_member c.in-Some.body.now.members ≡ placed_members (known c.args.tags.now.completed) (completed_tag c.in-Some.body.now) =
    body_members _ _ (λ tag l. known_after_first (λ tag. None) c.args.tags.now.completed _ tag l) c.in-Some.body.now h.placed in
    rw h.first
    (found_plain c.args.name.now c.find.result c.in-Some.body.now.members c.find.ensures ∙ ap (find (λ (m : PlainMember). bytes_eq c.args.name.now m.name)) all)

pub returns-in-None : goal.returns-in-None
returns-in-None c = rw (not_found (λ tag. None) c.args.tags.now.completed c.args.tag c.in-None.ensures.none) refl
