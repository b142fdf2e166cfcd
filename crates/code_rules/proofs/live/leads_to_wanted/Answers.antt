use Rattle.std.proofs.Common.{sym, ap, ◌∙◌, ◌||◌, ◌+◌, ◌∷◌, [], cond}
use Rattle.std.specs.List.{list_any}
use Rattle.code_rules.specs.Lively.{is_wanted}
use Rattle.code_rules.proofs.Marks.{leads_nowhere, leads_on}
use Rattle.code_rules.proofs.live.leads_to_wanted.Goals as goal

pub returns-in-None : goal.returns-in-None
returns-in-None c = sym (leads_nowhere c.args.code.now c.args.marks.now c.args.register c.args.point (sym c.in-None.ensures.item))

pub returns-in-Some : goal.returns-in-Some
returns-in-Some c =
    ap (λ b. b || c.target_wanted.result) c.next_wanted-next.ensures
    ∙ ap (λ b. list_any (is_wanted c.args.code.now c.args.marks.now c.args.register) (cond c.edges-edges.result.next ((c.args.point + 1) ∷ []) []) || b) c.target_wanted.ensures
    ∙ sym (leads_on c.args.code.now c.args.marks.now c.args.register c.args.point c.in-Some.instr.now c.edges-edges.result (sym c.in-Some.ensures.item) (c.edges-edges.ensures c.args.point))
