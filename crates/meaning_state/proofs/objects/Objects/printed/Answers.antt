use Rattle.std.proofs.Common.{◌∙◌, Some, None, refl, ap, arith}
use Rattle.hs_base.specs.Access as access
use Rattle.object_meaning.specs.objects.Printing.{printed}
use Rattle.meaning_state.specs.declared.refusal.Refusal.TheVariants as refusal
use Rattle.meaning_state.proofs.Pieces.{prints_is}
use Rattle.object_meaning.specs.objects.PrintingEquations.{print_refused, print_more, print_over}
use Rattle.meaning_state.proofs.objects.Objects.printed.Goals as goal

pub returns-in-Err-ReadsDead : goal.returns-in-Err-ReadsDead
returns-in-Err-ReadsDead c =
    let objects = c.args.self.now in
    let pieces = c.args.pieces.now in
    let values = c.args.values.now in
    let t = rw (c.in-Err-ReadsDead.field-0-is, c.argument.ensures) at c.in-Err-ReadsDead.ensures.text in
    prints_is c.refused.result (printed objects pieces values) c.loop-i.buffer.bytes (Some access.ReadsDead) (Some refusal.ReadsDead) (c.loop-i.invariant.print ∙ print_refused objects pieces values c.loop-i.i c.loop-i.place c.index-pieces-i.result (omega arith) c.index-pieces-i.is c.loop-i.buffer.bytes access.ReadsDead t.0) (c.refused.ensures.bytes ∙ t.1) c.refused.ensures.refused refl

pub returns-in-Err-Trapped : goal.returns-in-Err-Trapped
returns-in-Err-Trapped c =
    let objects = c.args.self.now in
    let pieces = c.args.pieces.now in
    let values = c.args.values.now in
    let kind = c.in-Err-Trapped.kind in
    let t = rw (c.in-Err-Trapped.field-0-is, c.argument.ensures) at c.in-Err-Trapped.ensures.text in
    prints_is c.refused-in-Err-Trapped.result (printed objects pieces values) c.loop-i.buffer.bytes (Some (access.Trapped kind)) (Some (refusal.Trapped kind)) (c.loop-i.invariant.print ∙ print_refused objects pieces values c.loop-i.i c.loop-i.place c.index-pieces-i.result (omega arith) c.index-pieces-i.is c.loop-i.buffer.bytes (access.Trapped kind) t.0) (c.refused-in-Err-Trapped.ensures.bytes ∙ t.1) (c.refused-in-Err-Trapped.ensures.refused ∙ ap (λ k. Some (refusal.Trapped k)) c.in-Err-Trapped.kind-is) refl

pub loop-i-preserved : goal.loop-i-preserved
loop-i-preserved c =
    let objects = c.args.self.now in
    let pieces = c.args.pieces.now in
    let values = c.args.values.now in
    let t = rw c.argument.ensures at c.in-Ok.ensures.text in
    record {
      print = rw t.2 (c.loop-i.invariant.print ∙ print_more objects pieces values c.loop-i.i c.loop-i.place c.index-pieces-i.result (omega arith) c.index-pieces-i.is c.loop-i.buffer.bytes t.0 c.place_behind-place.result t.1 (c.place_behind-place.ensures.arguments values));
      place = omega arith;
      faults = c.in-Ok.ensures.faults ∙ c.loop-i.invariant.faults;
    }

pub returns : goal.returns
returns c =
    let over = print_over c.args.self.now c.args.pieces.now c.args.values.now c.loop-i.i c.loop-i.place c.loop-i.buffer.bytes (omega arith) in
    prints_is _ (printed c.args.self.now c.args.pieces.now c.args.values.now) c.loop-i.buffer.bytes None None (c.loop-i.invariant.print ∙ over) refl refl refl
