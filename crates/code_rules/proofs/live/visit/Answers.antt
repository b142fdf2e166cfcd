use Rattle.std.proofs.Common.{sym, ◌∙◌}
use Rattle.code_rules.proofs.Marks.{visits_more}
use Rattle.code_rules.proofs.live.visit.Goals as goal

pub returns : goal.returns
returns c = visits_more c.args.code.now c.args.register c.args.point c.args.marks.now c.requires.point c.if-marks-point.false
    (sym c.leads_to_wanted.ensures ∙ c.if-not-leads_to_wanted.false)
