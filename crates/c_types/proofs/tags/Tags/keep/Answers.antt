use Rattle.std.proofs.Common.{arith, ◌≡◌, ◌<◌, ◌++◌, ◌∷◌, [], ap, ◌∙◌, refl, Some, None, map, length}
use Rattle.c_types.specs.declared.tags.Made.{Made}
use Rattle.c_types.specs.TagTable.{known}
use Rattle.c_types.specs.Bodies.{completed_tag, IsPlaced, KeepsRule}
use Rattle.c_types.proofs.KeepLemmas.{laid_push, unknown_place, places_push, tags_push, set_info, made_below, table_of_parts, completed_push}
use Rattle.c_types.proofs.tags.Tags.keep.Goals as goal

pub invariant_of-self-2 : goal.invariant_of-self-2
invariant_of-self-2 c =
    let bs = c.self.inside.bodies.items in
    let unknown : known (map completed_tag bs) c.args.body.tag ≡ None = rw (← c.self.view_is) at c.requires.incomplete in
    let none = unknown_place bs c.args.body.tag unknown in
    let placed : IsPlaced (known (map completed_tag bs)) c.args.body = rw (← c.self.view_is) at c.requires.placed in
    let rule : KeepsRule (known (map completed_tag bs)) c.args.body = rw (← c.self.view_is) at c.requires.rule in
    let made : c.args.body.tag < length c.self.inside.made.items = made_below c.self.inside c.args.self.now c.args.body.tag c.self.view_is c.requires.made in
    let bodies : c.push-2.new.self.items ≡ bs ++ c.args.body ∷ [] = rw c.if-is_err.ensures.negation at c.push-2.ensures.items in
    let tags : c.push.new.self.items ≡ c.self.inside.completed.items ++ c.args.body.tag ∷ [] = c.in_ok-push.ensures.items in
    let new : Made = record { info = c.index_mut.result.now.info; place = Some c.len-place.result } in
    record {
      order = rw bodies (tags ∙ tags_push bs c.args.body c.self.inside.completed.items c.self.invariant.order);
      places = rw bodies (places_push c.self.inside.made.items bs c.args.body new c.self.invariant.places made none (ap Some (omega arith)));
      laid = rw bodies (laid_push (λ tag. None) bs c.args.body c.self.invariant.laid placed rule);
    }

pub returns-clause-ok : goal.returns-clause-ok
returns-clause-ok c =
    let bs = c.self.inside.bodies.items in
    let made : c.args.body.tag < length c.self.inside.made.items = made_below c.self.inside c.args.self.now c.args.body.tag c.self.view_is c.requires.made in
    let bodies : c.push-2.new.self.items ≡ bs ++ c.args.body ∷ [] = rw c.if-is_err.ensures.negation at c.push-2.ensures.items in
    let new : Made = record { info = c.index_mut.result.now.info; place = Some c.len-place.result } in
    rw (← c.self.view_is)
    (table_of_parts _ _ _ _ (set_info c.self.inside.made.items c.args.body.tag new c.index_mut.result.now made c.index_mut.ensures.value refl)
    (completed_push bs c.args.body c.push-2.new.self.items bodies))
