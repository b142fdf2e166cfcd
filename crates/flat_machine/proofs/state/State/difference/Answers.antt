use Rattle.std.proofs.Common.{ap, subst, sym, rules}
use Rattle.std.proofs.lemmas.Int.{to_z-of_z}
use mir.Syntax.{w128}
use mir.Val.{SFits}
use Rattle.flat_objects.specs.Keeping.{KeepsAt}
use Rattle.flat_machine.specs.Kept.{Kept}
use Rattle.flat_machine.proofs.state.State.difference.Goals as goal

pub returns-clause-differs : goal.returns-clause-differs
returns-clause-differs g c = λ places all p q at stands.
    let fits : SFits w128 c.args.element = search rules in
    let memory = ap (λ (k : Kept). k.memory) c.self.view_is in
    let inside = subst (λ memory. KeepsAt memory places all p c.args.p) (sym memory) at in
    rw (to_z-of_z w128 c.args.element fits) at (c.difference.ensures.differs places all p q inside stands)
