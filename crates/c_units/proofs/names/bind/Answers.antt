use Rattle.std.proofs.Common.{rules, if◌then◌else◌, bytes_eq, ap₂, ◌∙◌}
use Rattle.c_units.specs.Sets.{bound_in}
use Rattle.c_units.proofs.Logs.{bound_now}
use Rattle.c_units.proofs.names.bind.Goals as goal

pub returns-in-Some-clause-ok : goal.returns-in-Some-clause-ok
returns-in-Some-clause-ok c =
    bound_now c.args.bindings.now (c.get_mut.follows.lender c.args.binding) c.args.name.now c.args.binding ((c.get_mut.follows.holds c.args.binding).3 (search rules))

pub returns-clause-ok : goal.returns-clause-ok
returns-clause-ok c = λ name.
    bound_now c.get_mut.follows.lender-at-none c.insert.new.self c.in_ok-from_slice.field-0.items c.args.binding c.in_ok-insert.ensures.updates name
    ∙ ap₂ (λ l m. if bytes_eq l name then c.args.binding else bound_in m name) c.in_ok-from_slice.ensures.items c.get_mut.follows.holds-at-none
