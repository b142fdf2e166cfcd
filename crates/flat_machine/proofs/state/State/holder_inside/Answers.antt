use Rattle.std.proofs.Common.{◌≡◌, arith, ap, length, Some, subst, sym, ◌∙◌}
use Rattle.flat_objects.specs.Holders.{IsKeptObject, IsSomeObject}
use Rattle.flat_machine.specs.Kept.{Kept}
use Rattle.flat_machine.specs.Pinning.{HasSorts}
use Rattle.flat_machine.proofs.Holders.{kept_object}
use Rattle.flat_machine.proofs.state.State.holder_inside.Goals as goal

pub first_holder-requires : goal.first_holder-requires
first_holder-requires g c =
    let q = c.requires.named in
    subst (λ (m : Kept). IsSomeObject m.memory c.args.start) (sym c.self.view_is) (q.0, q.1.state.objects, q.2, kept_object q.0 q.1 q.2 c.args.self.now q.3 c.args.start c.requires.start)

pub inside_holder-requires : goal.inside_holder-requires
inside_holder-requires g c =
    omega (arith, c.len.ensures, ap (λ (m : Kept). length m.statics) c.self.view_is, c.requires.named.3.sorts.few)

pub returns-in-Some : goal.returns-in-Some
returns-in-Some g c = λ places s birth names.
    let kept = subst (λ (m : Kept). IsKeptObject m.memory places s.state.objects birth c.args.start) (sym c.self.view_is) (kept_object places s birth c.args.self.now names c.args.start c.requires.start) in
    let long : length c.args.self.now.statics ≡ c.len.result = omega (arith, c.len.ensures, ap (λ (m : Kept). length m.statics) c.self.view_is) in
    let sorts = subst (λ n. HasSorts s.state.objects n c.self.inside.calls) long (subst (λ (m : Kept). HasSorts s.state.objects (length c.args.self.now.statics) m.calls) (sym c.self.view_is) names.sorts) in
    ap Some (c.inside_holder.ensures s.state.objects sorts (c.in-Some.ensures.inside places s.state.objects birth kept)) ∙ c.in-Some.ensures.first places s.state.objects birth s.state.queue kept names.queued

pub returns-in-None : goal.returns-in-None
returns-in-None g c = λ places s birth names.
    let kept = subst (λ (m : Kept). IsKeptObject m.memory places s.state.objects birth c.args.start) (sym c.self.view_is) (kept_object places s birth c.args.self.now names c.args.start c.requires.start) in
    c.in-None.ensures.first places s.state.objects birth s.state.queue kept names.queued
