use Rattle.std.proofs.Common.{◌≡◌, ◌≤◌, ◌+◌, ◌++◌, ◌∷◌, [], ℕ, List, Some, arith, ap, sym, drop, length, ◌∙◌}
use Rattle.std.proofs.lemmas.List.{append-nil}
use Rattle.flat_machine.specs.Noting.{bytes_put, mark, reads_in}
use Rattle.flat_machine.proofs.Notes.{bytes_same, reads_append, reads_more}
use Rattle.flat_machine.proofs.Fetched.{drop_next, drop_within, read_none, read_some}
use Rattle.flat_machine.proofs.console.Console.fetch.Goals as goal

pub invariant_of-self : goal.invariant_of-self
invariant_of-self g c =
    let s = c.flush.new.self in
    let log : c.then-self.result.notes ≡ s.done.notes ++ mark ∷ [] = c.then-self.ensures in
    let empty : s.page.notes ≡ [] = c.in_ok-flush.ensures.empty in
    let reads : reads_in c.then-self.result.notes ≡ reads_in s.done.notes + 1 = ap reads_in log ∙ reads_more s.done.notes in
    let bytes = rw c.in-Ok-Some.field-0-is at c.in-Ok-Some.ensures.bytes in
    let ahead : reads_in s.page.notes ≤ length (g.I.Source.fetched c.next.new.self) = omega (arith, ap reads_in empty) in
    record {
      same_input = s.same_input;
      same_out = s.same_out;
      puts = λ t e. s.puts t e ∙ ap (λ (bs : List ℕ). Some (t ++ bs)) (sym (ap bytes_put log ∙ bytes_same s.done.notes));
      reads = λ l e. let b = bytes (drop (reads_in s.done.notes) l) (s.reads l e) in
          b.2 ∙ ap Some (sym (ap (λ n. drop n l) reads ∙ drop_next l b.0 (reads_in s.done.notes) c.in-Ok-Some.byte b.1));
      within = λ l e. let b = bytes (drop (reads_in s.done.notes) l) (s.reads l e) in
          omega (arith, reads, drop_within l b.0 (reads_in s.done.notes) c.in-Ok-Some.byte b.1, reads_append c.then-self.result.notes s.page.notes, ap reads_in empty);
      ahead = ahead;
    }

pub returns-in-Ok-Some-clause-bytes : goal.returns-in-Ok-Some-clause-bytes
returns-in-Ok-Some-clause-bytes g c =
    let s = c.flush.new.self in
    let old = c.args.self.now.done.notes ++ c.args.self.now.page.notes in
    let new = c.then-self.result.notes ++ s.page.notes in
    let log : c.then-self.result.notes ≡ s.done.notes ++ mark ∷ [] = c.then-self.ensures in
    let empty : s.page.notes ≡ [] = c.in_ok-flush.ensures.empty in
    let bytes = rw c.in-Ok-Some.field-0-is at c.in-Ok-Some.ensures.bytes in
    let before : reads_in old ≡ reads_in s.done.notes = sym (ap reads_in c.flush.ensures.notes) ∙ ap (λ (ns : List ℕ). reads_in (s.done.notes ++ ns)) empty ∙ ap reads_in (append-nil s.done.notes) in
    let after : reads_in new ≡ reads_in s.done.notes + 1 = ap (λ (ns : List ℕ). reads_in (c.then-self.result.notes ++ ns)) empty ∙ ap reads_in (append-nil c.then-self.result.notes) ∙ ap reads_in log ∙ reads_more s.done.notes in
    read_some g.K.Lent.left old new c.in-Ok-Some.byte (λ l e.
    let b = bytes (drop (reads_in s.done.notes) l) (s.reads l e) in
    ap (λ n. drop n l) before ∙ b.1 ∙ ap (λ (xs : List ℕ). c.in-Ok-Some.byte ∷ xs) (sym (ap (λ n. drop n l) after ∙ drop_next l b.0 (reads_in s.done.notes) c.in-Ok-Some.byte b.1)))

pub returns-in-Ok-None-clause-bytes : goal.returns-in-Ok-None-clause-bytes
returns-in-Ok-None-clause-bytes g c =
    let s = c.flush.new.self in
    let old = c.args.self.now.done.notes ++ c.args.self.now.page.notes in
    let empty : s.page.notes ≡ [] = c.in_ok-flush.ensures.empty in
    let bytes = rw c.in-Ok-None.field-0-is at c.in-Ok-None.ensures.bytes in
    let before : reads_in old ≡ reads_in s.done.notes = sym (ap reads_in c.flush.ensures.notes) ∙ ap (λ (ns : List ℕ). reads_in (s.done.notes ++ ns)) empty ∙ ap reads_in (append-nil s.done.notes) in
    read_none g.K.Lent.left old (s.done.notes ++ s.page.notes) (ap reads_in c.flush.ensures.notes) (λ l e.
    ap (λ n. drop n l) before ∙ (bytes (drop (reads_in s.done.notes) l) (s.reads l e)).0)
