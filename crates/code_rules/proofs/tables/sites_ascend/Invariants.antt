use Rattle.std.proofs.Common.{ℕ, ◌+◌, ◌<◌, get_or}
use Rattle.flat_code.specs.declared.program.Site.{Site}
use Rattle.code_rules.proofs.tables.sites_ascend.Given as goal

abbrev pub invariant-loop-i : goal.invariant-loop-i
invariant-loop-i l = (k : ℕ) (d : Site) → k + 1 < l.i → (get_or l.sites k d).instr < (get_or l.sites (k + 1) d).instr
