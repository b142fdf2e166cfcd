use Rattle.std.proofs.Common.{arith, ◌≡◌, ◌/◌, length, sym}
use Rattle.adjusters.proofs.Repeats.{slots_len, part_of_size, blocks_len}
use Rattle.adjusters.proofs.Adjuster.count.Goals as goal

pub overflow_cast-result : goal.overflow_cast-result
overflow_cast-result c =
    let four = slots_len 0 c.self.inside.size c.self.inside.slots.items c.self.invariant (omega arith) in
    omega arith

pub overflow_mul-result : goal.overflow_mul-result
overflow_mul-result c =
    let four = slots_len 0 c.self.inside.size c.self.inside.slots.items c.self.invariant (omega arith) in
    let part = part_of_size c.args.size c.self.inside.size c.len.result (omega arith) in
    omega arith

pub returns : goal.returns
returns c =
    let len : c.len.result ≡ length c.self.inside.slots.items = omega arith in
    rw (← c.self.view_is, len) (sym (blocks_len c.self.inside.size c.self.inside.slots.items 0 (c.args.size / c.self.inside.size)))
