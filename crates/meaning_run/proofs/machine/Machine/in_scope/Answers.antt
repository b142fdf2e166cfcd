use Rattle.std.proofs.Common.{◌≡◌, ℕ, sym, ap, ◌∙◌, subst}
use Rattle.hs_base.specs.State.{State}
use Rattle.object_meaning.specs.objects.Scoping.{in_scope}
use Rattle.meaning_run.specs.Leading.{AlonePlaced, with_input}
use Rattle.meaning_run.proofs.machine.Machine.in_scope.Goals as goal

pub returns-then-self-eq0 : goal.returns-then-self-eq0
returns-then-self-eq0 c = λ left before events base silent placed.
    let s = c.args.self.now in
    let z : s.scopes ≡ 0 = sym (ap (λ (x : State). x.scopes) c.self.view_is) ∙ c.if-self-eq0.true in
    let P : ℕ → Type 0 = λ n. AlonePlaced left (in_scope c.args.core.now n before events (with_input left s)) c.check.new.self base c.check.new.held c.check.result in
    subst P (sym z) (rw c.open.ensures at (c.check.ensures left before events base silent placed))
