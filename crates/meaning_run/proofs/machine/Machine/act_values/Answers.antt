use Rattle.std.proofs.Common.{rules}
use Rattle.std.proofs.lemmas.Int.{to_z-of_z}
use mir.Syntax.{w128}
use mir.Val.{SFits}
use Rattle.meaning_run.proofs.machine.Machine.act_values.Goals as goal

pub returns-in-Bin : goal.returns-in-Bin
returns-in-Bin c = λ core fits left. rw c.in-Bin.is (c.operate.ensures left)

pub returns-in-Add : goal.returns-in-Add
returns-in-Add c = λ core fits left.
    let small : SFits w128 c.in-Add.size = search rules in
    rw c.in-Add.is (rw (to_z-of_z w128 c.in-Add.size small) at (c.move_up.ensures left))

pub returns-in-Sub : goal.returns-in-Sub
returns-in-Sub c = λ core fits left.
    let small : SFits w128 c.in-Sub.size = search rules in
    rw c.in-Sub.is (rw (to_z-of_z w128 c.in-Sub.size small) at (c.move_down.ensures left))

pub returns-in-Off : goal.returns-in-Off
returns-in-Off c = λ core fits left.
    let small : SFits w128 c.in-Off.distance = search rules in
    rw c.in-Off.is (rw (to_z-of_z w128 c.in-Off.distance small) at (c.move_by.ensures left))

pub returns-in-Diff : goal.returns-in-Diff
returns-in-Diff c = λ core fits left.
    let small : SFits w128 c.in-Diff.size = search rules in
    rw c.in-Diff.is (rw (to_z-of_z w128 c.in-Diff.size small) at (c.subtract.ensures left))

pub returns-in-Pcmp : goal.returns-in-Pcmp
returns-in-Pcmp c = λ core fits left. rw c.in-Pcmp.is (c.compare.ensures left)
