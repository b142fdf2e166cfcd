use Rattle.std.proofs.Common.{◌≡◌, ◌≤◌, ◌++◌, ◌∷◌, ℕ, List, Option, Some, arith, ap, sym, take, length, append_assoc, ◌∙◌}
use Rattle.std.specs.Prelude.{option_map}
use Rattle.flat_machine.specs.Noting.{reads_in, told}
use Rattle.flat_machine.proofs.Notes.{reads_append}
use Rattle.flat_machine.proofs.console.ConsoleSink.put.Goals as goal

pub invariant_of-self : goal.invariant_of-self
invariant_of-self g c =
    let s = c.make_room.new.self in
    let ahead : reads_in c.put_all.new.self.notes ≤ length (g.I.Source.fetched s.input.now) = omega (arith, c.put_all.ensures.reads, s.ahead) in
    record {
      same_input = s.same_input;
      same_out = s.same_out;
      puts = s.puts;
      reads = s.reads;
      within = λ l e. omega (arith, s.within l e, c.put_all.ensures.reads, reads_append s.done.notes s.page.notes, reads_append s.done.notes c.put_all.new.self.notes);
      ahead = ahead;
    }

pub returns-clause-bytes : goal.returns-clause-bytes
returns-clause-bytes g c = λ taken is.
    let old = c.args.self.now in
    let s = c.make_room.new.self in
    let piece = take c.put_all.result c.args.bytes.now in
    let before = old.done.notes ++ old.page.notes in
    let after = s.done.notes ++ c.put_all.new.self.notes in
    let notes : after ≡ before ++ piece = ap (λ (ns : List ℕ). s.done.notes ++ ns) c.put_all.ensures.notes ∙ sym (append_assoc s.done.notes s.page.notes piece) ∙ ap (λ (ns : List ℕ). ns ++ piece) c.make_room.ensures.notes in
    let reads : reads_in after ≡ reads_in before = omega (arith, c.put_all.ensures.reads, reads_append s.done.notes s.page.notes, reads_append s.done.notes c.put_all.new.self.notes, ap reads_in c.make_room.ensures.notes) in
    let all : told (g.I.Source.faults s.input.now) after ≡ told (g.I.Source.faults old.input.now) before ++ piece =
    ap (λ f. told f after) c.make_room.ensures.faults ∙ ap (λ n. g.I.Source.faults old.input.now ∷ n ∷ after) reads ∙ ap (λ (ns : List ℕ). g.I.Source.faults old.input.now ∷ reads_in before ∷ ns) notes in
    ap Some all ∙ ap (λ (o : Option (List ℕ)). option_map (λ (ns : List ℕ). ns ++ piece) o) is
