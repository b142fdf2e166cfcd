use Rattle.std.proofs.Common.{map, refl, ap, sym, ◌∙◌}
use Rattle.c_units.specs.Kept.{said_view}
use Rattle.c_units.proofs.SaidTurns.{said_none, said_next}
use Rattle.c_units.proofs.said.each_said.Goals as goal

pub loop-decl-init : goal.loop-decl-init
loop-decl-init c = (ap (map said_view) c.in_ok-all.ensures.items ∙ sym (said_none c.args.walk.now), refl)

pub loop-decl-preserved : goal.loop-decl-preserved
loop-decl-preserved c =
    let next = said_next c.loop-decl.yielded c.in-Some.decl c.loop-decl.all.items c.in_ok-one_said.field-0 c.args.walk.now c.loop-decl.walk c.one_said.new.walk
    c.loop-decl.invariant.0 c.loop-decl.invariant.1 c.in_ok-one_said.ensures.said c.in_ok-one_said.ensures.names in
    (ap (map said_view) c.in_ok-push.ensures.items ∙ next.0, next.1)
