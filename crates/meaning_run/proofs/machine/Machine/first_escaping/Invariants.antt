use Rattle.std.proofs.Common.{◌≡◌, drop}
use Rattle.hs_base.specs.Freeing.{first_held}
use Rattle.object_meaning.specs.objects.Calls.{escapes}
use Rattle.meaning_run.proofs.machine.Machine.first_escaping.Given as goal

abbrev pub invariant-loop-k : goal.invariant-loop-k
invariant-loop-k l = first_held (escapes l.core l.answer l.self l.locals) l.locals ≡ first_held (escapes l.core l.answer l.self l.locals) (drop l.k l.locals)
