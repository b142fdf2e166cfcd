use Rattle.std.proofs.Common.{ℕ, ◌<◌, ◌≤◌, ◌^◌, zero, arith}
use Rattle.std.proofs.Math.Nat.{pow-le-pow_right}
use Rattle.command_words.proofs.values.number.Goals as goal

-- at most 17 digits have been read
small : (i value : ℕ) → value < 10 ^ i → i ≤ 17 → value < 100000000000000000
small i value h le =
    let ten : zero < 10 = omega arith in
    let most : 10 ^ i ≤ 10 ^ 17 = pow-le-pow_right ten le in
    omega arith

pub overflow_mul-value : goal.overflow_mul-value
overflow_mul-value c =
    let s = small c.loop-digit.digit-index c.loop-digit.value c.loop-digit.invariant.small (omega arith) in omega (arith, s)

pub overflow_add-value : goal.overflow_add-value
overflow_add-value c =
    let s = small c.loop-digit.digit-index c.loop-digit.value c.loop-digit.invariant.small (omega arith) in
    omega (arith, s, c.from.ensures, c.if-not-is_ascii_digit.ensures.bound)
