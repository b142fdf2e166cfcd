use Rattle.std.proofs.Common.{ℕ, List, ◌<◌, ◌≤◌, ◌^◌, ◌-◌, length, take, drop, arith}
use Rattle.std.proofs.lemmas.List.{length-take}
use Rattle.std.proofs.Math.Nat.{pow-le-pow_right}
use Rattle.meaning_state.proofs.bytes.+number_of.Goals as goal

short : (bs : List ℕ) → length bs ≤ 8 → length (take (length bs - 1) (drop 1 bs)) ≤ 7
short bs h = omega (arith, length-take (length bs - 1) (drop 1 bs))

small : (x : ℕ) (bs : List ℕ) → length bs ≤ 8 → x < 256 ^ length (take (length bs - 1) (drop 1 bs)) → x < 256 ^ 7
small x bs h lt =
    let more = pow-le-pow_right {n = 256} (omega arith) {i = length (take (length bs - 1) (drop 1 bs))} {j = 7} (short bs h) in omega arith

pub overflow_mul-result : goal.overflow_mul-result
overflow_mul-result t c =
    let b = small c.number_of.result c.args.bytes.now c.requires c.number_of.ensures.bound in omega arith

pub overflow_add-result : goal.overflow_add-result
overflow_add-result t c =
    let b = small c.number_of.result c.args.bytes.now c.requires c.number_of.ensures.bound in omega arith
