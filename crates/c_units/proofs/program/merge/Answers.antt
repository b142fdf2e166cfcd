use Rattle.std.proofs.Common.{List, map, subst}
use Rattle.c_tree.specs.StatementView.{unit_view}
use Rattle.c_tree.specs.declared.statement.Unit.{Unit as Code}
use Rattle.c_units.specs.Merge.{Merges}
use Rattle.c_units.proofs.MergedNames.{merge_renames}
use Rattle.c_units.proofs.program.merge.Goals as goal

pub returns-clause-renamed : goal.returns-clause-renamed
returns-clause-renamed c =
    merge_renames c.args.units c.merge_all.result c.requires.few
    (subst (λ (units : List Code). Merges (map unit_view units) c.merge_all.result) c.into_vec.ensures c.merge_all.ensures)
