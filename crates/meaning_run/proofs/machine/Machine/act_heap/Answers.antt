use Rattle.std.proofs.Common.{refl}
use Rattle.object_meaning.specs.objects.Scoping.{enter}
use Rattle.meaning_run.specs.Leading.{with_input}
use Rattle.meaning_run.proofs.Quiet.{placed_none}
use Rattle.meaning_run.proofs.machine.Machine.act_heap.Goals as goal

pub returns-in-Malloc : goal.returns-in-Malloc
returns-in-Malloc c = λ left. rw c.in-Malloc.is (c.malloc.ensures left)

pub returns-in-Calloc : goal.returns-in-Calloc
returns-in-Calloc c = λ left. rw c.in-Calloc.is (c.calloc.ensures left)

pub returns-in-Realloc : goal.returns-in-Realloc
returns-in-Realloc c = λ left. rw c.in-Realloc.is (c.realloc.ensures left)

pub returns-in-Free : goal.returns-in-Free
returns-in-Free c = λ left. rw c.in-Free.is (c.free_at.ensures left)

pub returns-in-Enter : goal.returns-in-Enter
returns-in-Enter c = λ left. rw c.in-Enter.is (c.enter_scope.ensures left, placed_none (enter (with_input left c.args.self.now)) c.args.held.now c.enter_scope.result refl)

pub returns-in-Leave : goal.returns-in-Leave
returns-in-Leave c = λ left. rw c.in-Leave.is (c.leave_scope.ensures left)
