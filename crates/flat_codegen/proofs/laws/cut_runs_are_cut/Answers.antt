use Rattle.flat_codegen.proofs.CutRuns.{cut_runs_are_cut}
use Rattle.flat_codegen.proofs.laws.cut_runs_are_cut.Goals as goal

pub returns : goal.returns
returns c = cut_runs_are_cut c.run_ends.ensures c.tested_runs_end.ensures
