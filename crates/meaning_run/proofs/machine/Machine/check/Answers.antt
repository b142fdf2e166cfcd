use Rattle.std.proofs.Common.{◌≡◌, ◌∙◌, List, ℕ, None, map, ap}
use Rattle.hs_base.specs.Freeing.{first_held}
use Rattle.hs_base.specs.State.{State}
use Rattle.hs_base.specs.Trace.{Gone}
use Rattle.object_meaning.specs.objects.Scoping.{is_held}
use Rattle.meaning_state.specs.Fitting.{held_after}
use Rattle.meaning_run.proofs.Growing.{checked_none}
use Rattle.meaning_run.proofs.machine.Machine.check.Goals as goal

pub returns-in-None : goal.returns-in-None
returns-in-None c = λ left before events base silent placed.
    let s = c.args.self.now in
    let none : first_held (is_held c.args.core.now s) s.queue ≡ None = rw c.in-None.is at c.in_ok-first_held.ensures in
    let queue = c.as_slice.ensures.value ∙ ap (λ (x : State). x.queue) c.self.view_is in
    checked_none c.args.core.now before events s c.go_on.new.self left base c.args.held.now c.release.new.self none silent (rw c.bury.ensures at c.go_on.ensures) placed (c.release.ensures ∙ ap (λ (births : List ℕ). held_after c.args.held.now (map Gone births)) queue)
