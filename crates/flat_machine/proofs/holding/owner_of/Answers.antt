use Rattle.std.proofs.Common.{arith}
use Rattle.flat_machine.proofs.Owned.{waiting_taken}
use Rattle.flat_machine.proofs.holding.owner_of.Goals as goal

pub overflow_add-k-end : goal.overflow_add-k-end
overflow_add-k-end c =
    omega (arith, c.all_fit.ensures.taken, c.all_fit.ensures.within, c.all_fit.ensures.small, c.waiting-waiting.ensures, waiting_taken c.args.calls.now)
