use Rattle.meaning_run.proofs.Growing.{grown_is}
use Rattle.meaning_run.proofs.machine.Machine.copy_old.Goals as goal

pub returns : goal.returns
returns c = λ left base placed.
    let new = rw c.next_start-new.ensures at c.put.ensures in
    let copied = rw (c.next_start-new.ensures, c.common_size-n.ensures) at c.in-Ok.ensures.copied in
    grown_is c.args.core.now c.args.line c.args.r c.args.old c.args.size c.args.element.now c.args.self.now left base c.args.held.now c.in_scope.new.held c.add_object.new.self c.copy_object.new.self c.enqueue.new.self c.put.new.self c.in_scope.new.self c.in_scope.result c.in_ok-add_object.ensures copied c.in-Ok.ensures.rest c.in_ok-enqueue.ensures new placed (λ before events base silent e. c.in_scope.ensures left before events base silent e)
