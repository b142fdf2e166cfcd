use Rattle.std.proofs.Common.{None, ap, ◌∙◌}
use Rattle.c_pre.specs.Macros.{undefined}
use Rattle.c_pre.proofs.Keys.{table, put_keys}
use Rattle.c_pre.proofs.macros.Macros.undefine.Goals as goal

pub returns : goal.returns
returns c =
    let before = c.self.inside in
    ap (table before.count) (put_keys (λ k. k.items) c.in_ok-from_slice.field-0 None before.names.entries c.insert.new.self.entries c.args.name.now c.in_ok-insert.ensures.entries c.in_ok-from_slice.ensures.items)
    ∙ ap (undefined c.args.name.now) c.self.view_is
