use Rattle.meaning_laws.proofs.dangling.Falls.{ends, all_forward}
use Rattle.meaning_laws.proofs.dangling.Stands.{never_dangles}
use Rattle.meaning_laws.proofs.laws.run_ends.Goals as goal

pub returns : goal.returns
returns c = λ core sound input n heap.
    let e = ends core (all_forward core sound) input n heap in (e.0, e.1, never_dangles core sound heap input n e.0 e.1)
