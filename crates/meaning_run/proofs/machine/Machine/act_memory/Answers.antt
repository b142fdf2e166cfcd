use Rattle.std.proofs.Common.{rules}
use Rattle.std.proofs.lemmas.Int.{to_z-of_z}
use mir.Syntax.{w128}
use mir.Val.{SFits}
use Rattle.meaning_run.proofs.machine.Machine.act_memory.Goals as goal

pub returns-in-Load : goal.returns-in-Load
returns-in-Load c = λ core fits left. rw c.in-Load.is (c.load.ensures left)

pub returns-in-Loadp : goal.returns-in-Loadp
returns-in-Loadp c = λ core fits left. rw c.in-Loadp.is (c.load_pointer.ensures left)

pub returns-in-Store : goal.returns-in-Store
returns-in-Store c = λ core fits left. rw c.in-Store.is (c.store.ensures left)

pub returns-in-Storep : goal.returns-in-Storep
returns-in-Storep c = λ core fits left. rw c.in-Storep.is (c.store_pointer.ensures left)

pub returns-in-Copy : goal.returns-in-Copy
returns-in-Copy c = λ core fits left.
    let small : SFits w128 c.in-Copy.n = search rules in
    rw c.in-Copy.is (rw (to_z-of_z w128 c.in-Copy.n small) at (c.copy.ensures left))

pub returns-in-Clear : goal.returns-in-Clear
returns-in-Clear c = λ core fits left.
    let small : SFits w128 c.in-Clear.n = search rules in
    rw c.in-Clear.is (rw (to_z-of_z w128 c.in-Clear.n small) at (c.clear.ensures left))
