use Rattle.std.proofs.Common.{sym}
use Rattle.code_rules.proofs.Marks.{wanted_past}
use Rattle.code_rules.proofs.live.is_wanted.Goals as goal

pub returns-in-None : goal.returns-in-None
returns-in-None c = sym (wanted_past c.args.code.now c.args.marks.now c.args.register c.args.point (sym c.in-None.ensures.item) c.requires)
