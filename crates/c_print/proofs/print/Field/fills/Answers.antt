use Rattle.std.proofs.Common.{false, ap, ◌∙◌}
use Rattle.c_print.specs.Print.{field}
use Rattle.c_print.proofs.Fields.{field_left, field_zeros, field_spaces}
use Rattle.c_print.proofs.print.Field.fills.Goals as goal

pub returns-then-self-clause-filled : goal.returns-then-self-clause-filled
returns-then-self-clause-filled c sign text len =
    ap (λ left. field left c.args.self.zeros c.args.self.width sign text) c.if-self.true
    ∙ field_left c.args.self.width c.args.len c.saturating_sub-fill.result sign text c.saturating_sub-fill.ensures len c.args.self.zeros

pub returns-then-self-2-clause-filled : goal.returns-then-self-2-clause-filled
returns-then-self-2-clause-filled c sign text len =
    ap (λ left. field left c.args.self.zeros c.args.self.width sign text) c.if-self.false
    ∙ ap (λ zeros. field false zeros c.args.self.width sign text) c.if-self-2.true
    ∙ field_zeros c.args.self.width c.args.len c.saturating_sub-fill.result sign text c.saturating_sub-fill.ensures len

pub returns-else-self-2-clause-filled : goal.returns-else-self-2-clause-filled
returns-else-self-2-clause-filled c sign text len =
    ap (λ left. field left c.args.self.zeros c.args.self.width sign text) c.if-self.false
    ∙ ap (λ zeros. field false zeros c.args.self.width sign text) c.if-self-2.false
    ∙ field_spaces c.args.self.width c.args.len c.saturating_sub-fill.result sign text c.saturating_sub-fill.ensures len
