use Rattle.std.proofs.Common.{◌≡◌, drop}
use Rattle.hs_base.specs.Freeing.{first_held}
use Rattle.object_meaning.specs.objects.Scoping.{is_held}
use Rattle.meaning_run.proofs.machine.Machine.first_held.Given as goal

abbrev pub invariant-loop-i : goal.invariant-loop-i
invariant-loop-i l = first_held (is_held l.core l.self) l.self.queue ≡ first_held (is_held l.core l.self) (drop l.i l.self.queue)
