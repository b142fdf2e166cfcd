use Rattle.std.proofs.Common.{sym, subst}
use Rattle.c_decls.specs.declared.refusal.TypeError.{TypeError}
use Rattle.heapsafe.specs.Saying.{SaysOnly, untyped}
use Rattle.heapsafe.proofs.refusal.refuse_types.Goals as goal

pub returns-in-NoMemory : goal.returns-in-NoMemory
returns-in-NoMemory g c =
    subst (λ (e : TypeError). SaysOnly (untyped e c.args.opened.now) c.args.io.now c.refuse.new.io c.refuse.result) (sym c.in-NoMemory.is) c.refuse.ensures
