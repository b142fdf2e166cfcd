use Rattle.std.proofs.Common.{◌≡◌, ◌+◌, List, ◌∙◌, ap, arith, length}
use Rattle.std.proofs.lemmas.List.{take_all}
use Rattle.core_tree.specs.declared.statements.Stm.{Stm}
use Rattle.object_meaning.specs.compiled.Places.{body_length}
use Rattle.flat_codegen.proofs.Stepping.{places_whole}
use Rattle.flat_codegen.proofs.places.Places.of_body.Goals as goal

pub returns : goal.returns
returns c =
    let first = c.args.first in
    let body = c.args.body.now in
    let end : c.loop-stm.stm-index ≡ length body = omega arith in
    let count : length c.loop-stm.points.items ≡ length body = c.loop-stm.invariant.count ∙ end in
    let last : c.loop-stm.end ≡ first + body_length body =
    c.loop-stm.invariant.end ∙ ap (λ (b : List Stm). first + body_length b) (take_all c.loop-stm.stm-index body c.loop-stm-test.false) in
    places_whole c.loop-stm.points.items c.loop-stm.end first body count last (λ k h. c.loop-stm.invariant.before k (omega arith))
