use Rattle.std.proofs.Common.{◌+◌, ◌/◌, ◌∙◌, Bool, List, MatchOption, ap, subst}
use Rattle.hole_tree.specs.Granules.{HasNoHole, IsFirstHole}
use Rattle.heap_blocks.specs.declared.marks.Mark.{Mark}
use Rattle.heap_blocks.specs.Runs.{HasNoRun, IsFirstRun}
use Rattle.heap_blocks.specs.Held.{HeapModel}
use Rattle.heap_blocks.proofs.Holing.{run_answer}
use Rattle.heap_blocks.proofs.blocks.Heap.room.Goals as goal

pub invariant_of-self : goal.invariant_of-self
invariant_of-self c = record { shape = c.self.invariant.shape; same = c.settle.ensures ∙ c.self.invariant.same }

pub returns-clause-place : goal.returns-clause-place
returns-clause-place c =
    let count = c.args.size / 16 + 3 in
    let first = subst (λ (holes : List Bool). MatchOption c.first.result (HasNoHole holes count) (IsFirstHole holes count)) c.settle.ensures c.first.ensures in
    subst (λ (l : List Mark). MatchOption c.first.result (HasNoRun l count) (IsFirstRun l count)) (ap (λ (h : HeapModel). h.marks) c.self.view_is)
    (run_answer c.self.inside.marks c.self.inside.holes c.self.invariant.same count c.first.result first)
