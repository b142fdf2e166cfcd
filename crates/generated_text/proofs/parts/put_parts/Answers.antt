use Rattle.std.proofs.Common.{rules, suc, drop, take}
use Rattle.std.specs.List.{flat_map}
use Rattle.generated_text.proofs.Joining.{failed_within, flat_map-around}
use Rattle.generated_text.proofs.parts.put_parts.Goals as goal

pub returns-in_err-put_all-clause-bytes : goal.returns-in_err-put_all-clause-bytes
returns-in_err-put_all-clause-bytes g c =
    failed_within _ _ _ (flat_map (λ part. part.now) (take c.loop-part.part-index c.args.parts.now)) _
    (flat_map (λ part. part.now) (drop (suc c.loop-part.part-index) c.args.parts.now)) _ c.put_all.result c.from_residual.result
    (search rules) c.from_residual.ensures.0 c.loop-part.invariant.begun c.put_all.ensures.bytes
    (flat_map-around (λ part. part.now) c.args.parts.now c.loop-part.part-index _ c.loop-part-test.true)
