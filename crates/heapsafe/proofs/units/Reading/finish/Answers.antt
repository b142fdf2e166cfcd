use Rattle.std.proofs.Common.{sym, subst, ◌≤◌, ℕ}
use Rattle.std.proofs.lemmas.List.{length-map}
use Rattle.c_tree.specs.StatementView.{unit_view}
use Rattle.heapsafe.specs.Reads.{reading_view}
use Rattle.heapsafe.proofs.FilesRead.{merge_of_texts}
use Rattle.heapsafe.proofs.units.Reading.finish.Goals as goal

pub returns-in-Ok-clause-texts : goal.returns-in-Ok-clause-texts
returns-in-Ok-clause-texts c =
    merge_of_texts (reading_view c.args.self) (unit_view c.in-Ok.unit) c.requires.within
    (subst (λ (n : ℕ). n ≤ 64) (sym (length-map c.args.self.units unit_view)) c.requires.few)
    (c.merges_rename.ensures c.args.self.units (unit_view c.in-Ok.unit) c.requires.few c.in-Ok.ensures.merged) c.names_stay_short.ensures
