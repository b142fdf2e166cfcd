use Rattle.std.proofs.Common.{◌<◌, length, arith, ap, sym, take, drop, ◌∙◌}
use Rattle.flat_machine.specs.Noting.{Waiting, reads_in}
use Rattle.flat_machine.specs.Noted.{numbers}
use Rattle.flat_machine.specs.declared.note.Note.TheVariants.{Put}
use Rattle.flat_machine.proofs.Notes.{page_more, reads_same}
use Rattle.flat_machine.proofs.page.Page.put.Goals as goal

pub invariant_of-self : goal.invariant_of-self
invariant_of-self c =
    let p = c.self.inside in
    let inv = c.self.invariant in
    let room : p.end < length p.notes = omega (arith, c.requires, ap (λ (w : Waiting). w.room) c.self.view_is) in
    let more = page_more p.notes p.start p.end (Put c.args.byte) inv.0 room in
    (omega (arith, inv.0), omega (arith, room), inv.2 ∙ sym (ap reads_in more ∙ reads_same (numbers (drop p.start (take p.end p.notes))) c.args.byte (omega (arith, c.ranges.byte.fits))))

pub returns-clause-reads : goal.returns-clause-reads
returns-clause-reads c =
    let p = c.self.inside in
    let inv = c.self.invariant in
    let room : p.end < length p.notes = omega (arith, c.requires, ap (λ (w : Waiting). w.room) c.self.view_is) in
    let more = page_more p.notes p.start p.end (Put c.args.byte) inv.0 room in
    ap reads_in more ∙ reads_same (numbers (drop p.start (take p.end p.notes))) c.args.byte (omega (arith, c.ranges.byte.fits)) ∙ ap (λ (w : Waiting). reads_in w.notes) c.self.view_is
