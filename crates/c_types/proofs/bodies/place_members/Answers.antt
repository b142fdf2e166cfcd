use Rattle.std.proofs.Common.{sym, ◌∙◌, map, [], ◌∷◌, ◌++◌, append_assoc, List, ℕ}
use Rattle.c_types.specs.declared.types.CType.{CType}
use Rattle.std.specs.Vec.Iter.{into_iter_items}
use Rattle.c_types.specs.Types.{plain}
use Rattle.c_types.specs.TagTable.{known, plain_pair, IsSizedIn}
use Rattle.c_types.specs.Placing.{IsPastLimit}
use Rattle.std.proofs.lemmas.List.{map-append}
use Rattle.std.proofs.lemmas.Result.{err_from_is_err_and}
use Rattle.c_types.proofs.PlacingLemmas.{all_middle, too_large}
use Rattle.c_types.proofs.bodies.place_members.Goals as goal

pub add-requires-clause-sized : goal.add-requires-clause-sized
add-requires-clause-sized c =
    let at = c.loop-name in
    let steps = c.in-Some.ensures.steps.0 in
    let order = rw steps at at.invariant.order in
    let all = sym (order ∙ (c.into_iter-name-iterator.ensures.into_iter_gives.0 ∙ c.into_vec-name-items.ensures)) in
    all_middle (λ m. IsSizedIn c.args.tags.now (plain m.1)) c.args.members at.yielded (c.in-Some.name, c.in-Some.ty) (into_iter_items c.next.new.self)
    c.requires all

pub returns-in_err-add-clause-refused : goal.returns-in_err-add-clause-refused
returns-in_err-add-clause-refused c =
    let at = c.loop-name in
    let x : List ℕ × CType = (c.in-Some.name, c.in-Some.ty) in
    let steps = c.in-Some.ensures.steps.0 in
    let order = rw (steps, ← append_assoc at.yielded (x ∷ []) (into_iter_items c.next.new.self)) at at.invariant.order in
    let all = sym (order ∙ (c.into_iter-name-iterator.ensures.into_iter_gives.0 ∙ c.into_vec-name-items.ensures)) in
    let p = err_from_is_err_and c.from_residual.result c.from_residual.ensures.1 in
    rw (p.1, p.2)
    (λ other.
    let past : IsPastLimit (known c.args.tags.now.completed) c.args.is_union (map plain_pair (at.yielded ++ x ∷ [])) c.in_err-add.field-0.0 =
    rw (map-append plain_pair at.yielded (x ∷ []), ← at.invariant.pairs) (c.in_err-add.ensures.refused other) in
    too_large c.args.tags.now c.args.tag c.args.is_union c.args.members at.yielded x (into_iter_items c.next.new.self) _ all past)
