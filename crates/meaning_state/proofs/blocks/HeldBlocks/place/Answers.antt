use Rattle.std.proofs.Common.{ℕ, is_some, Option, sym, ap, arith}
use Rattle.hs_base.specs.Place.{block_size, with_block}
use Rattle.meaning_state.specs.Fitting.{Held}
use Rattle.meaning_state.proofs.Jumping.{too_large}
use Rattle.meaning_state.proofs.blocks.HeldBlocks.place.Goals as goal

pub returns-then-size-from-clause-fits : goal.returns-then-size-from-clause-fits
returns-then-size-from-clause-fits c =
    let h = c.args.self.now in
    let heap_is = ap (λ (x : Held). x.heap) c.self.view_is in
    sym (ap (λ (o : Option ℕ). is_some o) (too_large h.blocks h.heap c.args.size (omega (arith, heap_is))))

pub returns-then-size-from-clause-held : goal.returns-then-size-from-clause-held
returns-then-size-from-clause-held c =
    let h = c.args.self.now in
    let heap_is = ap (λ (x : Held). x.heap) c.self.view_is in
    ap (λ (o : Option ℕ). let held : Held = record { heap = h.heap; blocks = with_block h.blocks c.args.birth (block_size c.args.size) o } in held) (sym (too_large h.blocks h.heap c.args.size (omega (arith, heap_is))))
