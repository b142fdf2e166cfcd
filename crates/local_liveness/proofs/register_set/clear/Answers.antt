use Rattle.std.proofs.Common.{◌<◌, ◌≤◌, length, arith, ⊎_elim}
use Rattle.std.proofs.lemmas.Bool.{cases_lt}
use Rattle.std.proofs.lemmas.List.{get_or_past}
use Rattle.local_liveness.proofs.register_set.clear.Goals as goal

pub returns-clause-none : goal.returns-clause-none
returns-clause-none c place =
    ⊎_elim
    (λ (less : place < length c.loop-word.words). c.loop-word.invariant place (omega arith))
    (λ (past : length c.loop-word.words ≤ place). get_or_past c.loop-word.words place 0 past)
    (cases_lt place (length c.loop-word.words))
