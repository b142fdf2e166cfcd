use Rattle.std.proofs.Common.{◌≡◌, ◌*◌, ◌<◌, ◌^◌, ℕ, sym, ap, ◌∙◌, subst, arith}
use Rattle.byte_memory.specs.Bytes.{word}
use Rattle.byte_memory.specs.BytesEquations.{word_1}
use Rattle.byte_memory.proofs.Words.{word_2, word_4, word_8, word_bound}
use Rattle.byte_memory.proofs.flat_bytes.load.Goals as goal

bounded : (width n result : ℕ) → width ≡ n → result < 2 ^ (8 * n) → result < 2 ^ (8 * width)
bounded width n result same small = subst (λ w. result < 2 ^ (8 * w)) (sym same) small

pub returns-in-1-clause-value : goal.returns-in-1-clause-value
returns-in-1-clause-value c =
    c.from.ensures ∙ sym (word_1 c.args.bytes.now c.args.at (omega arith)) ∙ ap (word c.args.bytes.now c.args.at) (sym c.in-1.is)

pub returns-in-1-clause-bound : goal.returns-in-1-clause-bound
returns-in-1-clause-bound c =
    let value = c.from.ensures ∙ sym (word_1 c.args.bytes.now c.args.at (omega arith)) in
    let bound = word_bound c.args.bytes.now (λ i. (c.type_inv.bytes i).fits) c.args.at 1 (omega arith) in
    bounded c.args.width 1 _ c.in-1.is (omega arith)

pub returns-in-2-clause-value : goal.returns-in-2-clause-value
returns-in-2-clause-value c =
    c.from-in-2.ensures ∙ c.from_le_bytes.ensures ∙ sym (word_2 c.args.bytes.now c.args.at (omega arith)) ∙ ap (word c.args.bytes.now c.args.at) (sym c.in-2.is)

pub returns-in-2-clause-bound : goal.returns-in-2-clause-bound
returns-in-2-clause-bound c =
    let value = c.from-in-2.ensures ∙ c.from_le_bytes.ensures ∙ sym (word_2 c.args.bytes.now c.args.at (omega arith)) in
    let bound = word_bound c.args.bytes.now (λ i. (c.type_inv.bytes i).fits) c.args.at 2 (omega arith) in
    bounded c.args.width 2 _ c.in-2.is (omega arith)

pub returns-in-4-clause-value : goal.returns-in-4-clause-value
returns-in-4-clause-value c =
    c.from-in-4.ensures ∙ c.from_le_bytes-in-4.ensures ∙ sym (word_4 c.args.bytes.now c.args.at (omega arith)) ∙ ap (word c.args.bytes.now c.args.at) (sym c.in-4.is)

pub returns-in-4-clause-bound : goal.returns-in-4-clause-bound
returns-in-4-clause-bound c =
    let value = c.from-in-4.ensures ∙ c.from_le_bytes-in-4.ensures ∙ sym (word_4 c.args.bytes.now c.args.at (omega arith)) in
    let bound = word_bound c.args.bytes.now (λ i. (c.type_inv.bytes i).fits) c.args.at 4 (omega arith) in
    bounded c.args.width 4 _ c.in-4.is (omega arith)

pub returns-in_default-clause-value : goal.returns-in_default-clause-value
returns-in_default-clause-value c =
    let wide : c.args.width ≡ 8 = omega arith in
    c.from_le_bytes-in_default.ensures ∙ sym (word_8 c.args.bytes.now c.args.at (omega arith)) ∙ ap (word c.args.bytes.now c.args.at) (sym wide)

pub returns-in_default-clause-bound : goal.returns-in_default-clause-bound
returns-in_default-clause-bound c =
    let wide : c.args.width ≡ 8 = omega arith in
    let value = c.from_le_bytes-in_default.ensures ∙ sym (word_8 c.args.bytes.now c.args.at (omega arith)) in
    let bound = word_bound c.args.bytes.now (λ i. (c.type_inv.bytes i).fits) c.args.at 8 (omega arith) in
    bounded c.args.width 8 _ wide (omega arith)
