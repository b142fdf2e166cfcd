use Rattle.std.proofs.Common.{◌≡◌, ◌+◌, Some, ap, ◌∙◌, arith}
use Rattle.c_pre.specs.Macros.{with_macro}
use Rattle.c_pre.specs.declared.macros.Defined.{Defined}
use Rattle.c_pre.proofs.Keys.{table, put_keys}
use Rattle.c_pre.proofs.macros.Macros.add.Goals as goal

pub returns : goal.returns
returns c =
    let before = c.self.inside in
    let added : Defined = record { number = before.count; it = c.args.it } in
    let more : c.in-Some.count ≡ before.count + 1 = grind (arith, c.in-Some.ensures) in
    let names = put_keys (λ k. k.items) c.in_ok-name.name (Some added) before.names.entries c.insert.new.self.entries c.args.it.name c.in_ok-insert.ensures.entries (c.in_ok-name.ensures.items ∙ c.as_slice.ensures) in
    (λ i. table (more i) (names i)) ∙ ap (with_macro c.args.it) c.self.view_is
