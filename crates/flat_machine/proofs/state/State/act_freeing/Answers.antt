use Rattle.std.proofs.Common.{ap, ◌∙◌}
use Rattle.flat_machine.specs.Kept.{gone_on}
use Rattle.flat_machine.specs.Standing.{frees_of}
use Rattle.flat_machine.proofs.Frees.{enter_alone}
use Rattle.flat_machine.proofs.state.State.act_freeing.Goals as goal

pub returns-in-Free-clause-alone : goal.returns-in-Free-clause-alone
returns-in-Free-clause-alone g c = λ code fits places s has h counts. rw c.in-Free.is (c.free.ensures.alone code places s has h counts)

pub returns-in-Enter-clause-alone : goal.returns-in-Enter-clause-alone
returns-in-Enter-clause-alone g c = λ code fits places s has h counts.
    let m = c.args.self.now in
    let keeps = c.open_scope.ensures.keeps places s.state.objects h.keeps in
    let tracks = c.open_scope.ensures.tracks places s.state.objects (frees_of m.pins s) h.tracks in
    rw c.in-Enter.is (enter_alone places s m h c.open_scope.new.self.memory c.go_on.new.self keeps tracks c.open_scope.ensures.frame (c.go_on.ensures ∙ ap gone_on c.open_scope.ensures.others))

pub returns-in-Leave-clause-alone : goal.returns-in-Leave-clause-alone
returns-in-Leave-clause-alone g c = λ code fits places s has h counts. rw c.in-Leave.is (c.leave.ensures.alone code places s has h counts)
