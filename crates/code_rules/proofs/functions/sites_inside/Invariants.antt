use Rattle.std.proofs.Common.{take}
use Rattle.std.specs.List.{All}
use Rattle.flat_code.specs.declared.program.Site.{Site}
use Rattle.code_rules.specs.Functions.{IsOfFunction}
use Rattle.code_rules.proofs.functions.sites_inside.Given as goal

abbrev pub invariant-loop-site : goal.invariant-loop-site
invariant-loop-site l = All (λ (site : Site). IsOfFunction l.code site.instr) (take l.site-index l.site-items)
