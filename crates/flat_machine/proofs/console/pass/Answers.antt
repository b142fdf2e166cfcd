use Rattle.std.proofs.Common.{◌≡◌, ◌+◌, ◌++◌, ℕ, List, Some, arith, ap, sym, take, drop, length, ◌∙◌}
use Rattle.std.proofs.lemmas.List.{drop-drop, length-drop}
use Rattle.flat_machine.specs.Noting.{bytes_put, reads_in}
use Rattle.flat_machine.specs.Noted.{numbers}
use Rattle.flat_machine.proofs.Notes.{bytes_append, bytes_behind, front_is, passed, reads_append, reads_split, rest_is}
use Rattle.flat_machine.proofs.console.pass.Goals as goal

pub pass-requires-clause-reads : goal.pass-requires-clause-reads
pass-requires-clause-reads g c =
    c.front_of-front.ensures.reads ∙ ap reads_in (front_is c.notes.result.now c.args.page.now.notes c.notes.ensures c.front_of-front.result.count)

pub skip-requires : goal.skip-requires
skip-requires g c =
    let page = c.args.page.now.notes in
    let count = c.front_of-front.result.count in
    let reads = c.front_of-front.ensures.reads ∙ ap reads_in (front_is c.notes.result.now page c.notes.ensures count) in
    omega (arith, reads, reads_split page count, c.requires.ahead)

pub returns-clause-notes : goal.returns-clause-notes
returns-clause-notes g c =
    let page = c.args.page.now.notes in
    let count = c.front_of-front.result.count in
    let log = c.then-log.ensures ∙ ap (λ (ns : List ℕ). c.args.done.now.notes ++ ns) (front_is c.notes-2.result.now page c.notes-2.ensures count) in
    ap (λ (ns : List ℕ). ns ++ c.pass.new.self.notes) log ∙ ap (λ (ns : List ℕ). (c.args.done.now.notes ++ take count page) ++ ns) c.pass.ensures.notes ∙ passed c.args.done.now.notes page count

pub returns-clause-bytes : goal.returns-clause-bytes
returns-clause-bytes g c =
    let page = c.args.page.now.notes in
    let count = c.front_of-front.result.count in
    let log = c.then-log.ensures ∙ ap (λ (ns : List ℕ). c.args.done.now.notes ++ ns) (front_is c.notes-2.result.now page c.notes-2.ensures count) in
    let front = ap bytes_put (sym (front_is c.notes.result.now page c.notes.ensures count)) ∙ c.front_of-front.ensures.bytes ∙ ap (λ (ns : List ℕ). take c.args.put (bytes_put ns)) c.notes.ensures in
    ap bytes_put log ∙ bytes_append c.args.done.now.notes (take count page) ∙ ap (λ (bs : List ℕ). bytes_put c.args.done.now.notes ++ bs) front

pub returns-clause-rest : goal.returns-clause-rest
returns-clause-rest g c =
    let page = c.args.page.now.notes in
    let count = c.front_of-front.result.count in
    let front = ap bytes_put (sym (front_is c.notes.result.now page c.notes.ensures count)) ∙ c.front_of-front.ensures.bytes ∙ ap (λ (ns : List ℕ). take c.args.put (bytes_put ns)) c.notes.ensures in
    ap bytes_put c.pass.ensures.notes ∙ bytes_behind page count c.args.put front

pub returns-clause-left : goal.returns-clause-left
returns-clause-left g c = λ l is.
    let page = c.args.page.now.notes in
    let count = c.front_of-front.result.count in
    let done = c.args.done.now.notes in
    let log = c.then-log.ensures ∙ ap (λ (ns : List ℕ). done ++ ns) (front_is c.notes-2.result.now page c.notes-2.ensures count) in
    let reads = c.front_of-front.ensures.reads ∙ ap reads_in (front_is c.notes.result.now page c.notes.ensures count) in
    let all : reads_in done + c.front_of-front.result.reads ≡ reads_in c.then-log.result.notes = sym (ap reads_in log ∙ reads_append done (take count page) ∙ ap (λ n. reads_in done + n) (sym reads)) in
    c.skip.ensures.left (drop (reads_in done) l) is ∙ ap Some (drop-drop c.front_of-front.result.reads (reads_in done) l ∙ ap (λ n. drop n l) all)

pub returns-clause-ahead : goal.returns-clause-ahead
returns-clause-ahead g c =
    let page = c.args.page.now.notes in
    let count = c.front_of-front.result.count in
    let reads = c.front_of-front.ensures.reads ∙ ap reads_in (front_is c.notes.result.now page c.notes.ensures count) in
    omega (arith, reads, reads_split page count, c.requires.ahead, ap reads_in c.pass.ensures.notes, ap length c.skip.ensures.rest, length-drop c.front_of-front.result.reads (g.I.Source.fetched c.args.input.now))

pub returns-clause-at_byte : goal.returns-clause-at_byte
returns-clause-at_byte g c =
    let page = c.args.page.now.notes in
    let count = c.front_of-front.result.count in
    let rest = rest_is c.notes.result.now page c.notes.ensures count in
    record {
      next = λ none. c.pass.ensures.notes ∙ sym rest ∙ ap numbers (c.front_of-front.ensures.next (ap bytes_put rest ∙ sym (ap bytes_put c.pass.ensures.notes) ∙ none));
      room = c.pass.ensures.room;
    }
