use Rattle.std.proofs.Common.{take}
use Rattle.delay_scopes.specs.Pointers.{LowersBy, words_inside}
use Rattle.flat_objects.proofs.ending.take_off_all.Given as goal

abbrev pub invariant-loop-local : goal.invariant-loop-local
invariant-loop-local g l =
    LowersBy (words_inside l.forms l.bytes (take l.local-index l.locals)) l.initial.counts l.counts
