use Rattle.std.proofs.Common.{◌<◌, ℕ, arith, ap, subst, sym, ◌∙◌}
use Rattle.hs_base.specs.declared.ends.End.TheVariants as end
use Rattle.object_meaning.specs.code.Checking.{leave}
use Rattle.flat_objects.specs.Freeing.{MayLeave}
use Rattle.flat_machine.specs.Kept.{gone_on}
use Rattle.flat_machine.specs.Standing.{frees_of}
use Rattle.flat_machine.specs.Image.{StopsIn}
use Rattle.flat_machine.proofs.Frees.{leave_goes, leave_fails, leave_inner}
use Rattle.flat_machine.proofs.state.State.leave.Goals as goal

pub returns-in-Ok-clause-alone : goal.returns-in-Ok-clause-alone
returns-in-Ok-clause-alone g c = λ code places s has h counts.
    let one = sym h.tracks.open_scopes ∙ sym c.scopes.ensures ∙ c.if-scopes-eq1.true in
    leave_goes places s c.args.self.now h code c.check.new.self one (c.in-Ok.ensures.checks code s.numbers s.state places s has h counts)

pub returns-in-Err-clause-alone : goal.returns-in-Err-clause-alone
returns-in-Err-clause-alone g c = λ code places s has h counts.
    let one = sym h.tracks.open_scopes ∙ sym c.scopes.ensures ∙ c.if-scopes-eq1.true in
    leave_fails places s c.args.self.now h code c.check.new.self c.in-Err.bad c.in-Err.holder one (c.in-Err.ensures.checks code s.numbers s.state places s has h counts)

pub returns-in-Err-clause-image : goal.returns-in-Err-clause-image
returns-in-Err-clause-image g c = λ code places s has h counts.
    let one = sym h.tracks.open_scopes ∙ sym c.scopes.ensures ∙ c.if-scopes-eq1.true in
    let image = c.in-Err.ensures.image code s.numbers s.state places s has h counts in
    subst (λ (n : ℕ). StopsIn code (leave code n s.numbers s.state) c.check.new.self (end.BadFree c.in-Err.bad c.in-Err.holder)) (sym one) image

pub returns-clause-alone : goal.returns-clause-alone
returns-clause-alone g c = λ code places s has h counts.
    let m = c.args.self.now in
    let more : 1 < s.state.scopes = omega (arith, c.requires.open, c.if-scopes-eq1.false, c.scopes.ensures, h.tracks.open_scopes) in
    let may : MayLeave m.memory places s.state.objects (frees_of m.pins s) = record { keeps = h.keeps; tracks = h.tracks; in_scope = omega (arith, more) } in
    let inner = c.close_scope.ensures.inner places s.state.objects (frees_of m.pins s) may more in
    leave_inner places s m h code c.close_scope.new.self.memory c.go_on.new.self more inner.1 inner.2 c.close_scope.ensures.frame (c.go_on.ensures ∙ ap gone_on c.close_scope.ensures.others)
