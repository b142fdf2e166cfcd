use Rattle.std.proofs.Common.{◌≡◌, ◌≤◌, ◌<◌, ◌+◌, ◌++◌, ◌∷◌, ℕ, List, arith, ap, sym, drop, length, get_or, ◌∙◌}
use Rattle.std.proofs.lemmas.Bool.{ltb-true}
use Rattle.std.proofs.lemmas.List.{get_or_default}
use Rattle.flat_machine.specs.Noting.{reads_in}
use Rattle.flat_machine.proofs.Notes.{reads_append}
use Rattle.flat_machine.proofs.Fetched.{read_some, ready_next, ready_within}
use Rattle.flat_machine.proofs.console.Console.next.Goals as goal

pub invariant_of-self : goal.invariant_of-self
invariant_of-self g c =
    let s = c.args.self.now in
    let ready = c.ready.result.now in
    let reads : reads_in c.read.new.self.notes ≡ reads_in s.page.notes + 1 = c.read.ensures.reads in
    let lt : reads_in s.page.notes < length ready = omega (arith, ltb-true c.reads.result (length ready) (sym c.in-Some.ensures.lookup.0), c.reads.ensures) in
    let ahead : reads_in c.read.new.self.notes ≤ length (g.I.Source.fetched s.input.now) = omega (arith, reads, lt, ap length c.ready.ensures.value) in
    record {
      same_input = s.same_input;
      same_out = s.same_out;
      puts = s.puts;
      reads = s.reads;
      within = λ l e. let first = c.ready.ensures.first (drop (reads_in s.done.notes) l) (s.reads l e) in
          omega (arith, ready_within l ready first.0 (reads_in s.done.notes) (reads_in s.page.notes) first.1 lt, reads, reads_append s.done.notes c.read.new.self.notes);
      ahead = ahead;
    }

pub returns-in-Some-clause-bytes : goal.returns-in-Some-clause-bytes
returns-in-Some-clause-bytes g c =
    let s = c.args.self.now in
    let ready = c.ready.result.now in
    let k = reads_in s.page.notes in
    let r = reads_in s.done.notes in
    let byte = c.in-Some.byte.now in
    let lt : k < length ready = omega (arith, ltb-true c.reads.result (length ready) (sym c.in-Some.ensures.lookup.0), c.reads.ensures) in
    let at : get_or ready k 0 ≡ byte = get_or_default ready k 0 byte lt ∙ ap (λ i. get_or ready i byte) (sym c.reads.ensures) ∙ sym c.in-Some.ensures.lookup.1 in
    let before : reads_in (s.done.notes ++ s.page.notes) ≡ r + k = reads_append s.done.notes s.page.notes in
    let after : reads_in (s.done.notes ++ c.read.new.self.notes) ≡ r + (k + 1) = omega (arith, c.read.ensures.reads, reads_append s.done.notes c.read.new.self.notes) in
    read_some g.K.Lent.left (s.done.notes ++ s.page.notes) (s.done.notes ++ c.read.new.self.notes) byte (λ l e.
    let first = c.ready.ensures.first (drop r l) (s.reads l e) in
    ap (λ n. drop n l) before ∙ ready_next l ready first.0 r k first.1 lt byte at ∙ ap (λ (xs : List ℕ). byte ∷ xs) (sym (ap (λ n. drop n l) after)))
