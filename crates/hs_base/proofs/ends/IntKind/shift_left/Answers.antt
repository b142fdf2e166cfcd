-- A shift that lost bits past 128 converts as the exact one does.
use Rattle.std.proofs.Common.{◌≡◌, Some, ap, ◌∙◌}
use Rattle.std.specs.Prelude.{◌*ℤ◌, pos, ◌^◌}
use Rattle.std.specs.Option.{option_map}
use Rattle.std.specs.Int.{w128}
use Rattle.std.proofs.lemmas.Int.{to_z-of_z}
use Rattle.hs_base.specs.Numbers.{wrapped}
use Rattle.hs_base.specs.Arithmetic.{places_of}
use Rattle.hs_base.proofs.Wrapping.{wrapped_shifted}
use Rattle.hs_base.proofs.ends.IntKind.shift_left.Goals as goal

pub returns-in-Some-clause-value : goal.returns-in-Some-clause-value
returns-in-Some-clause-value c =
    let k = c.args.self in
    let a = c.args.a in
    let counted : Some c.in-Some.places ≡ places_of k c.args.count = c.in-Some.ensures.value ∙ ap (places_of k) (to_z-of_z w128 c.args.count c.ranges.count) in
    ap Some (to_z-of_z w128 c.wrap.result (record { sfits = c.wrap.type_inv }) ∙ c.wrap.ensures.value ∙ wrapped_shifted k a c.in-Some.places c.ranges.a)
    ∙ ap (option_map (λ n. wrapped k (wrapped k a *ℤ pos (2 ^ n)))) counted
