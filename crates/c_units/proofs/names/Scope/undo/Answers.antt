use Rattle.std.proofs.Common.{ℕ, List, if◌then◌else◌, bytes_eq, ap, ◌∙◌}
use Rattle.c_units.specs.Sets.{bound_in}
use Rattle.c_units.proofs.Logs.{one_back}
use Rattle.c_units.proofs.names.Scope.undo.Goals as goal

pub invariant_of-self-in_default-bind : goal.invariant_of-self-in_default-bind
invariant_of-self-in_default-bind c =
    one_back c.self.inside.log.items c.pop.new.self.items c.in-Some.entry c.self.inside.bindings c.bind.new.bindings c.in-Some.ensures.items c.self.invariant
    (λ name. c.in_default-bind.ensures.ok name
    ∙ ap (λ (l : List ℕ). if bytes_eq l name then c.in-Some.entry.before else bound_in c.self.inside.bindings name) c.as_slice-name.ensures)
