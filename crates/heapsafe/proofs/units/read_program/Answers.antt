use Rattle.std.proofs.Common.{ℕ, ◌+◌, List, Bor, drop, map, ◌∙◌, arith}
use Rattle.std.proofs.lemmas.Result.{err_from_is_err_and}
use Rattle.c_pre.specs.declared.answer.Opened.{Opened}
use Rattle.c_tree.specs.Tree.{Trees}
use Rattle.heapsafe.specs.Answer.{Does, first_of}
use Rattle.heapsafe.specs.Reads.{reading_view}
use Rattle.heapsafe.specs.Shown.{Shown}
use Rattle.heapsafe.proofs.FilesRead.{next_file, next_refused, next_taken, through}
use Rattle.heapsafe.proofs.units.read_program.Goals as goal

pub returns-in_err-reading-clause-told : goal.returns-in_err-reading-clause-told
returns-in_err-reading-clause-told g c = λ told h.
    let files : List (List ℕ) = map (λ (w : Bor (List ℕ)). w.now) c.args.files.now in
    let inv = c.loop-file.invariant in
    let p = err_from_is_err_and c.from_residual.result c.from_residual.ensures.1 in
    rw (p.1, p.2) (λ refused input task a.
    through _ _ _ (inv.told told h input task a)
    (next_refused told (λ (opened : List Opened) (unit : Trees) (b : Shown). Does (first_of files) opened unit input task b) (drop c.loop-file.file-index files) _ _
    (next_file c.args.files.now c.loop-file.file-index _ c.loop-file-test.true) (reading_view c.loop-file.reading) a _ (c.in_err-reading.ensures.told told (inv.keeps ∙ h)) refused))

pub loop-file-preserved : goal.loop-file-preserved
loop-file-preserved g c =
    let files : List (List ℕ) = map (λ (w : Bor (List ℕ)). w.now) c.args.files.now in
    let inv = c.loop-file.invariant in
    let done = c.in_ok-reading.ensures in
    record {
      told = λ told h input task a.
          through _ _ _ (inv.told told h input task a)
          (next_taken told (λ (opened : List Opened) (unit : Trees) (b : Shown). Does (first_of files) opened unit input task b) (drop c.loop-file.file-index files) (drop (c.loop-file.file-index + 1) files) _
          (next_file c.args.files.now c.loop-file.file-index _ c.loop-file-test.true) (reading_view c.loop-file.reading) a c.in_ok-reading.reading (done.told told (inv.keeps ∙ h)));
      keeps = done.keeps ∙ inv.keeps;
      count = done.cause ∙ inv.count;
      units = omega (arith, done.count, inv.units);
      within = done.within;
    }
