use Rattle.meaning_laws.proofs.dangling.Standing.{begins}
use Rattle.meaning_laws.proofs.laws.core_begins_well.Goals as goal

pub returns : goal.returns
returns c = λ core sound input n. begins core sound input n
