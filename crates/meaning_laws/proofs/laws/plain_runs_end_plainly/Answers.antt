use Rattle.meaning_laws.proofs.dangling.Falls.{ends, all_forward}
use Rattle.meaning_laws.proofs.dangling.Plain.{plain_end}
use Rattle.meaning_laws.proofs.dangling.Stands.{never_dangles}
use Rattle.meaning_laws.proofs.laws.plain_runs_end_plainly.Goals as goal

pub returns : goal.returns
returns c = λ core sound plain input n heap.
    let e = ends core (all_forward core sound) input n heap in
    (e.0, e.1, plain_end core plain heap input n e.0 e.1 (never_dangles core sound heap input n e.0 e.1))
