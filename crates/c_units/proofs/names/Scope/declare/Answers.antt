use Rattle.c_units.proofs.Words.Std.{List, ap, bytes_eq, if◌then◌else◌, sym, ℕ, ◌∙◌}
use Rattle.c_units.proofs.Words.Units.{Known, binding_of, bound_in}
use Rattle.c_units.proofs.Logs.{one_more}
use Rattle.c_units.proofs.names.Scope.declare.Goals as goal

pub invariant_of-self-in_default : goal.invariant_of-self-in_default
invariant_of-self-in_default c =
    one_more c.self.inside.log.items c.push.new.self.items (record { name = c.in_ok-from_slice.field-0; binding = c.args.binding; before = c.binding.result }) c.self.inside.bindings c.bind.new.bindings
    c.in_ok-push.ensures.items c.self.invariant
    (c.binding.ensures ∙ ap (λ (known : List Known). binding_of known c.args.name.now) (sym c.self.view_is) ∙ ap (binding_of _) (sym c.in_ok-from_slice.ensures.ok))
    (λ name. c.in_default.ensures.ok name
    ∙ ap (λ (l : List ℕ). if bytes_eq l name then c.args.binding else bound_in c.self.inside.bindings name) (sym c.in_ok-from_slice.ensures.ok))
