use Rattle.std.proofs.Common.{◌++◌, replicate, arith}
use Rattle.byte_memory.proofs.Filling.{eight_bytes, step_bound, word_empty, word_step}
use Rattle.byte_memory.proofs.flat_bytes.+load_past.Goals as goal

pub returns-then-width-eq0-clause-value : goal.returns-then-width-eq0-clause-value
returns-then-width-eq0-clause-value t c = λ more inside. word_empty (c.args.bytes.now ++ replicate more 0) c.args.at c.args.width c.if-width-eq0.true

pub overflow_mul-result : goal.overflow_mul-result
overflow_mul-result t c =
    let sum = step_bound c.args.width c.byte_at-low.result c.load_past-high.result (omega arith) c.byte_at-low.ensures.bound c.load_past-high.ensures.bound in
    omega (arith, eight_bytes c.args.width c.requires.width)

pub overflow_add-result : goal.overflow_add-result
overflow_add-result t c =
    let sum = step_bound c.args.width c.byte_at-low.result c.load_past-high.result (omega arith) c.byte_at-low.ensures.bound c.load_past-high.ensures.bound in
    omega (arith, eight_bytes c.args.width c.requires.width)

pub returns-clause-value : goal.returns-clause-value
returns-clause-value t c = λ more inside.
    word_step c.args.bytes.now more c.args.at c.args.width c.byte_at-low.result c.load_past-high.result (omega arith) inside (c.byte_at-low.ensures.value more (omega arith)) (c.load_past-high.ensures.value more (omega arith))

pub returns-clause-bound : goal.returns-clause-bound
returns-clause-bound t c = step_bound c.args.width c.byte_at-low.result c.load_past-high.result (omega arith) c.byte_at-low.ensures.bound c.load_past-high.ensures.bound
