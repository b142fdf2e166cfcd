use Rattle.std.proofs.Common.{◌-◌, ◌+◌, ◌/◌, ◌∙◌, sym, ap, arith}
use Rattle.meaning_state.specs.Fitting.{Held}
use Rattle.meaning_state.proofs.Jumping.{first_try, past}
use Rattle.meaning_state.proofs.blocks.HeldBlocks.first_fit.Goals as goal

pub places-init : goal.places-init
places-init c = record { fit = first_try c.args.self.now c.args.length; aligned = omega arith; small = omega arith }

pub returns-clause-is : goal.returns-clause-is
returns-clause-is c =
    let h = c.args.self.now in
    let heap_is = ap (λ (x : Held). x.heap) c.self.view_is in
    sym (c.places.invariant.fit ∙ past h.blocks h.heap c.args.length c.places.place (h.heap / 16 + 1 - c.places.place / 16) (omega (arith, heap_is)))
