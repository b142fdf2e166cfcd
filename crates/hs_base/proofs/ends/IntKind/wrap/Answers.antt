-- A signed kind reads its low bits as the machine's signed number of its width does.
use Rattle.std.proofs.Common.{◌≡◌, ℕ, sym, ap, ◌∙◌, arith}
use Rattle.std.specs.Prelude.{ℤ, FitsSigned}
use Rattle.std.specs.Int.{w8, w16, w32, w64, w128, cast_signed, cast_unsigned, int_wrap}
use Rattle.std.proofs.lemmas.Int.{ints, to_z-of_z}
use Rattle.hs_base.specs.declared.ends.IntKind.{IntKind}
use Rattle.hs_base.specs.declared.ends.IntKind.TheVariants.{I8, I16, I32, I64}
use Rattle.hs_base.specs.Numbers.{low_bits, wrapped}
use Rattle.hs_base.specs.Arithmetic.{width_in_bits}
use Rattle.hs_base.proofs.ends.IntKind.wrap.Goals as goal

lowest : (self k : IntKind) (n : ℤ) (low count : ℕ) → FitsSigned w128 n → low ≡ low_bits count (cast_signed w128 (cast_unsigned w128 n)) → count ≡ width_in_bits self → self ≡ k → low ≡ low_bits (width_in_bits k) n
lowest self k n low count f e b s = e ∙ (λ i. low_bits (b i) (to_z-of_z w128 n f i)) ∙ ap (λ j. low_bits (width_in_bits j) n) s

pub returns-in-I8-clause-value : goal.returns-in-I8-clause-value
unfolding int_wrap
returns-in-I8-clause-value c =
    let low = lowest c.args.self I8 c.args.n c.lowest_bits-low.result c.bits.result c.ranges.n c.lowest_bits-low.ensures.value c.bits.ensures.value c.in-I8.is in
    let r = c.cast_signed.result in
    let kept : cast_signed w128 (cast_unsigned w128 (cast_signed w8 (cast_unsigned w8 r))) ≡ r = omega (arith, ints, c.cast_signed.type_inv) in
    kept ∙ c.cast_signed.ensures ∙ ap (cast_signed w8) low ∙ sym (ap (λ k. wrapped k c.args.n) c.in-I8.is)

pub returns-in-I16-clause-value : goal.returns-in-I16-clause-value
unfolding int_wrap
returns-in-I16-clause-value c =
    let low = lowest c.args.self I16 c.args.n c.lowest_bits-low.result c.bits.result c.ranges.n c.lowest_bits-low.ensures.value c.bits.ensures.value c.in-I16.is in
    let r = c.cast_signed-in-I16.result in
    let kept : cast_signed w128 (cast_unsigned w128 (cast_signed w16 (cast_unsigned w16 r))) ≡ r = omega (arith, ints, c.cast_signed-in-I16.type_inv) in
    kept ∙ c.cast_signed-in-I16.ensures ∙ ap (cast_signed w16) low ∙ sym (ap (λ k. wrapped k c.args.n) c.in-I16.is)

pub returns-in-I32-clause-value : goal.returns-in-I32-clause-value
unfolding int_wrap
returns-in-I32-clause-value c =
    let low = lowest c.args.self I32 c.args.n c.lowest_bits-low.result c.bits.result c.ranges.n c.lowest_bits-low.ensures.value c.bits.ensures.value c.in-I32.is in
    let r = c.cast_signed-in-I32.result in
    let kept : cast_signed w128 (cast_unsigned w128 (cast_signed w32 (cast_unsigned w32 r))) ≡ r = omega (arith, ints, c.cast_signed-in-I32.type_inv) in
    kept ∙ c.cast_signed-in-I32.ensures ∙ ap (cast_signed w32) low ∙ sym (ap (λ k. wrapped k c.args.n) c.in-I32.is)

pub returns-in-I64-clause-value : goal.returns-in-I64-clause-value
unfolding int_wrap
returns-in-I64-clause-value c =
    let low = lowest c.args.self I64 c.args.n c.lowest_bits-low.result c.bits.result c.ranges.n c.lowest_bits-low.ensures.value c.bits.ensures.value c.in-I64.is in
    let r = c.cast_signed-in-I64.result in
    let kept : cast_signed w128 (cast_unsigned w128 (cast_signed w64 (cast_unsigned w64 r))) ≡ r = omega (arith, ints, c.cast_signed-in-I64.type_inv) in
    kept ∙ c.cast_signed-in-I64.ensures ∙ ap (cast_signed w64) low ∙ sym (ap (λ k. wrapped k c.args.n) c.in-I64.is)
