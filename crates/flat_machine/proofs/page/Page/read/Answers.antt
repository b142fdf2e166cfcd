use Rattle.std.proofs.Common.{◌<◌, length, ◌+◌, arith, ap, sym, take, drop, ◌∙◌}
use Rattle.flat_machine.specs.Noting.{Waiting, reads_in}
use Rattle.flat_machine.specs.Noted.{numbers}
use Rattle.flat_machine.specs.declared.note.Note.TheVariants.{Read}
use Rattle.flat_machine.proofs.Notes.{page_length, page_more, reads_more, reads_small}
use Rattle.flat_machine.proofs.page.Page.read.Goals as goal

pub overflow_add-self-2 : goal.overflow_add-self-2
overflow_add-self-2 c =
    let p = c.self.inside in
    let inv = c.self.invariant in
    let room : p.end < length p.notes = omega (arith, c.requires, ap (λ (w : Waiting). w.room) c.self.view_is) in
    omega (arith, inv.2, reads_small (numbers (drop p.start (take p.end p.notes))), page_length p.notes p.start p.end (omega (arith, room)), room)

pub invariant_of-self : goal.invariant_of-self
invariant_of-self c =
    let p = c.self.inside in
    let inv = c.self.invariant in
    let room : p.end < length p.notes = omega (arith, c.requires, ap (λ (w : Waiting). w.room) c.self.view_is) in
    let more = page_more p.notes p.start p.end Read inv.0 room in
    (omega (arith, inv.0), omega (arith, room), ap (λ n. n + 1) inv.2 ∙ sym (ap reads_in more ∙ reads_more (numbers (drop p.start (take p.end p.notes)))))

pub returns-clause-reads : goal.returns-clause-reads
returns-clause-reads c =
    let p = c.self.inside in
    let inv = c.self.invariant in
    let room : p.end < length p.notes = omega (arith, c.requires, ap (λ (w : Waiting). w.room) c.self.view_is) in
    let more = page_more p.notes p.start p.end Read inv.0 room in
    ap reads_in more ∙ reads_more (numbers (drop p.start (take p.end p.notes))) ∙ ap (λ (w : Waiting). reads_in w.notes + 1) c.self.view_is
