-- The mask keeps the remainder by a power of two, and 128 bits keep at least as much.
use Rattle.std.proofs.Common.{◌≡◌, ◌-◌, ◌*◌, ◌^◌, ◌%◌, ◌≤◌, arith, ap, ◌∙◌, bit_and}
use Rattle.std.specs.Prelude.{pos}
use Rattle.std.specs.Int.{w128, cast_unsigned}
use Rattle.std.proofs.lemmas.Int.{to_z-of_z}
use Rattle.std.proofs.lemmas.Nat.{and_mask}
use Rattle.std.proofs.Math.Nat.{mod-eq_of_lt}
use Rattle.std.proofs.Math.Pow.{pow-lt}
use Rattle.hs_base.proofs.Wrapping.{congruent_bits, congruent_fewer_bits, low_bits_same}
use Rattle.hs_base.proofs.numbers.lowest_bits.Goals as goal

pub returns-clause-value : goal.returns-clause-value
returns-clause-value c =
    let count = c.args.count in
    let n = c.args.n in
    let shifted : 1 * 2 ^ count ≡ 2 ^ count = omega arith in
    let power : 1 * 2 ^ count % 2 ^ 128 ≡ 2 ^ count = ap (λ m. m % 2 ^ 128) shifted ∙ mod-eq_of_lt (pow-lt {i = count} {j = 128} (omega arith)) in
    let narrow : count ≤ 128 = omega arith in
    let bits : c.cast_unsigned.result ≡ cast_unsigned w128 n = c.cast_unsigned.ensures ∙ ap (cast_unsigned w128) (to_z-of_z w128 n c.ranges.n) in
    (λ i. bit_and (bits i) (power i - 1)) ∙ and_mask (cast_unsigned w128 n) count
    ∙ low_bits_same count (pos (cast_unsigned w128 n)) n (congruent_fewer_bits count 128 narrow (congruent_bits w128 n c.ranges.n))
