use Rattle.std.proofs.Common.{◌≡◌, ◌+◌, ◌<◌, ℕ, List, sym, subst, rules}
use Rattle.std.specs.Prelude.{slice_index}
use Rattle.flat_objects.proofs.Started.{IsWrittenTo, written_more}
use Rattle.flat_objects.proofs.statics.write_bytes.Goals as goal

pub loop-k-preserved : goal.loop-k-preserved
loop-k-preserved g c =
    let byte : c.from.result ≡ slice_index c.args.bytes.now c.loop-k.k = c.from.ensures in
    let small : c.from.result < 256 = search rules in
    subst (λ (b : List ℕ). IsWrittenTo c.args.memory.now b c.args.start c.args.bytes.now (c.loop-k.k + 1)) (sym c.write.ensures.value)
    (written_more c.args.memory.now c.loop-k.memory c.args.start c.args.bytes.now c.loop-k.k c.from.result c.loop-k.invariant c.requires.inside c.loop-k-test.true byte small)
