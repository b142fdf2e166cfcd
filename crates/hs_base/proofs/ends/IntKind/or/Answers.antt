-- The low bits of the bits that one or both have are those of the low bits.
use Rattle.std.proofs.Common.{◌∙◌}
use Rattle.std.specs.Prelude.{bit_or}
use Rattle.std.specs.Int.{w128}
use Rattle.std.proofs.lemmas.Int.{to_z-of_z}
use Rattle.std.proofs.lemmas.Nat.{or_mod, or_lt}
use Rattle.hs_base.proofs.Wrapping.{wrapped_bitwise}
use Rattle.hs_base.proofs.ends.IntKind.or.Goals as goal

pub returns-clause-value : goal.returns-clause-value
returns-clause-value c =
    to_z-of_z w128 c.wrap.result (record { sfits = c.wrap.type_inv }) ∙ c.wrap.ensures.value
    ∙ wrapped_bitwise bit_or or_lt or_mod c.args.self c.args.a c.args.b c.ranges.a c.ranges.b
