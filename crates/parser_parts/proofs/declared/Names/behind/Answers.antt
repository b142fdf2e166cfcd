use Rattle.std.proofs.Common.{ap, ◌∙◌, reverse, drop, take, length, ◌-◌}
use Rattle.parser_parts.specs.Names.{entries_known}
use Rattle.parser_parts.proofs.Logs.{latest}
use Rattle.parser_parts.proofs.declared.Names.behind.Goals as goal

pub returns : goal.returns
returns c =
    ap (λ l. entries_known (reverse l)) (c.in_ok-all.ensures ∙ c.rest.ensures ∙ ap (drop c.args.count) c.as_slice.ensures.value)
    ∙ latest c.args.count c.self.inside.log.items ∙ ap (λ names. take (length names - c.args.count) names) c.self.view_is
