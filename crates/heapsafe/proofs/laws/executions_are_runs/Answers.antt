use Rattle.heapsafe.proofs.Alike.{alike}
use Rattle.heapsafe.proofs.laws.executions_are_runs.Goals as goal

pub returns : goal.returns
returns c = λ core bytes sound of short name file opened input asked executed run execution ran.
    alike core bytes of short name file opened input asked executed run (c.files_run_as_cores.ensures core of.file sound of.of input asked.steps asked.limits.heap) execution ran
