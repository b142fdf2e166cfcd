use Rattle.std.proofs.Common.{◌+◌, arith, ap, sym, drop, length, ◌∙◌}
use Rattle.flat_machine.specs.Noting.{Waiting, reads_in}
use Rattle.flat_machine.proofs.Notes.{page_length, page_rest, reads_split}
use Rattle.flat_machine.proofs.page.Page.pass.Goals as goal

pub overflow_sub-self : goal.overflow_sub-self
overflow_sub-self c =
    let old = ap (λ (w : Waiting). reads_in w.notes) c.self.view_is in
    omega (arith, c.requires.reads, c.self.invariant.2, old, reads_split c.args.self.now.notes c.args.front.count)

pub invariant_of-self-else-self : goal.invariant_of-self-else-self
invariant_of-self-else-self c =
    let p = c.self.inside in
    let inv = c.self.invariant in
    let notes = ap (λ (w : Waiting). w.notes) c.self.view_is in
    let long = ap length notes in
    let rest = sym (page_rest p.notes p.start p.end c.args.front.count) ∙ ap (drop c.args.front.count) notes in (
      omega (arith, c.requires.within, long, page_length p.notes p.start p.end (omega (arith, inv.1)), inv.0),
      inv.1,
      omega (arith, c.requires.reads, inv.2, ap reads_in notes, reads_split c.args.self.now.notes c.args.front.count, ap reads_in rest),
    )

pub returns-else-self-clause-notes : goal.returns-else-self-clause-notes
returns-else-self-clause-notes c =
    let p = c.self.inside in
    sym (page_rest p.notes p.start p.end c.args.front.count) ∙ ap (λ (w : Waiting). drop c.args.front.count w.notes) c.self.view_is

pub returns-else-self-clause-room : goal.returns-else-self-clause-room
returns-else-self-clause-room c = λ none.
    let p = c.self.inside in
    let inv = c.self.invariant in
    let notes = ap (λ (w : Waiting). w.notes) c.self.view_is in
    absurd (omega (arith, ap length none, page_length p.notes (p.start + c.args.front.count) p.end (omega (arith, inv.1)), c.requires.within, ap length notes, page_length p.notes p.start p.end (omega (arith, inv.1)), c.if-self.false))
