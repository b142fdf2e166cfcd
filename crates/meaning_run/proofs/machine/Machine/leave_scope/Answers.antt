use Rattle.std.proofs.Common.{◌≡◌, ℕ, [], refl, sym, ap, ◌∙◌, subst}
use Rattle.hs_base.specs.State.{State}
use Rattle.object_meaning.specs.objects.Scoping.{leave}
use Rattle.meaning_run.specs.Leading.{AlonePlaced, with_input}
use Rattle.meaning_run.proofs.machine.Machine.leave_scope.Goals as goal

pub returns-in-1 : goal.returns-in-1
returns-in-1 c = λ left.
    let s = c.args.self.now in
    let z : s.scopes ≡ 1 = sym (ap (λ (x : State). x.scopes) c.self.view_is) ∙ c.in-1.is in
    let P : ℕ → Type 0 = λ n. AlonePlaced left (leave c.args.core.now n (with_input left s)) c.check.new.self c.args.held.now c.check.new.held c.check.result in
    subst P (sym z) (c.check.ensures left (with_input left s) [] c.args.held.now (refl, refl) refl)
