use Rattle.std.proofs.Common.{◌≡◌, ◌+◌, ◌*◌, ◌≤◌, ℕ, List, length, replicate, sym, subst, arith}
use Rattle.byte_memory.specs.Bytes.{part, put_word}
use Rattle.heap_blocks.specs.Bytes.{ChangesOnly}
use Rattle.heap_blocks.proofs.Pieces.{changes_joined, changes_nothing, changes_written, part_none, zeros_more}
use Rattle.heap_blocks.proofs.blocks.clear.Goals as goal

pub loop-word-init : goal.loop-word-init
loop-word-init g c = record {
  zero = part_none c.args.bytes.now c.args.from;
  outside = changes_nothing c.args.bytes.now c.args.from (8 * c.args.words);
  steps = omega arith;
}

pub loop-word-preserved : goal.loop-word-preserved
loop-word-preserved g c =
    let n = 8 * c.loop-word.word in
    let more : n + 8 ≡ 8 * (c.loop-word.word + 1) = omega arith in
    let inside : c.args.from + n + 8 ≤ length c.loop-word.bytes = omega (arith, c.loop-word.invariant.outside.long) in
    let wrote : put_word c.loop-word.bytes (c.args.from + n) 8 0 ≡ c.write.new.self = sym c.write.ensures.value in
    record {
      zero = subst (λ (m : ℕ). part c.write.new.self c.args.from m ≡ replicate m 0) more (subst (λ (l : List ℕ). part l c.args.from (n + 8) ≡ replicate (n + 8) 0) wrote (zeros_more c.loop-word.bytes c.args.from n inside c.loop-word.invariant.zero));
      outside = changes_joined c.args.bytes.now c.loop-word.bytes c.write.new.self c.args.from (8 * c.args.words) (c.args.from + n) 8 c.args.from (8 * c.args.words) c.loop-word.invariant.outside (subst (λ (l : List ℕ). ChangesOnly c.loop-word.bytes l (c.args.from + n) 8) wrote (changes_written c.loop-word.bytes (c.args.from + n) 8 0 inside)) (omega arith) (omega arith) (omega arith) (omega arith);
      steps = omega (arith, c.write.ensures.step, c.loop-word.invariant.steps);
    }
