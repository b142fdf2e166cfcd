use Rattle.std.proofs.Common.{[], ◌∷◌, ◌/◌, ℕ, ◌∙◌, sym, subst}
use Rattle.byte_memory.specs.Bytes.{word}
use Rattle.delay_scopes.specs.Pointers.{LowersBy}
use Rattle.delay_scopes.proofs.Lowering.{counted_in_range, covers_own, lowers_null, lowers_one}
use Rattle.delay_scopes.proofs.checking.take_off.Goals as goal

pub dec-requires-clause-granule : goal.dec-requires-clause-granule
dec-requires-clause-granule g c =
    counted_in_range c.args.counts.now.counts (c.read-pointer.result / 16) (covers_own c.args.counts.now.counts (word c.args.bytes.now c.args.slot 4) c.read-pointer.result c.read-pointer.ensures.value c.if-pointer-ne0.true c.requires.covered)

pub dec-requires-clause-some : goal.dec-requires-clause-some
dec-requires-clause-some g c =
    covers_own c.args.counts.now.counts (word c.args.bytes.now c.args.slot 4) c.read-pointer.result c.read-pointer.ensures.value c.if-pointer-ne0.true c.requires.covered

pub returns-then-pointer-ne0-clause-counts : goal.returns-then-pointer-ne0-clause-counts
returns-then-pointer-ne0-clause-counts g c =
    let covered = covers_own c.args.counts.now.counts (word c.args.bytes.now c.args.slot 4) c.read-pointer.result c.read-pointer.ensures.value c.if-pointer-ne0.true c.requires.covered in
    subst (λ (w : ℕ). LowersBy (w ∷ []) c.args.counts.now c.dec.new.self) c.read-pointer.ensures.value
    (lowers_one c.args.counts.now c.dec.new.self c.read-pointer.result c.if-pointer-ne0.true covered c.dec.ensures.count)

pub returns-else-pointer-ne0-clause-counts : goal.returns-else-pointer-ne0-clause-counts
returns-else-pointer-ne0-clause-counts g c =
    lowers_null c.args.counts.now (word c.args.bytes.now c.args.slot 4) (sym c.read-pointer.ensures.value ∙ c.if-pointer-ne0.false)
