use Rattle.std.proofs.Common.{arith, Some, None}
use Rattle.bad_free_report.proofs.SourceLines.{shown-zero, shown-none, shown-some}
use Rattle.std.proofs.lemmas.Iterator.Consumers.{nth_from_yields_List, YieldsList-from_first}
use Rattle.bad_free_report.proofs.lines.shown_part.Goals as goal

pub returns-in_err-before : goal.returns-in_err-before
returns-in_err-before c =
    rw c.from_residual.ensures (shown-zero c.args.text.now c.args.line (omega (arith, c.in_err-before.ensures)))

pub returns-in_err-found : goal.returns-in_err-found
returns-in_err-found c =
    let item = nth_from_yields_List None c.nth.new.self c.in_ok-before.before c.in_err-found.ensures.ran (YieldsList-from_first (λ x. x.now) (λ rest. rest) _ c.lines.ensures.value) in
    rw c.from_residual-in_err-found.ensures (shown-none c.args.text.now c.args.line c.in_ok-before.before (omega (arith, c.in_ok-before.ensures)) item)

pub returns : goal.returns
returns c =
    let item = nth_from_yields_List (Some c.in_ok-found.found) c.nth.new.self c.in_ok-before.before c.in_ok-found.ensures.ran (YieldsList-from_first (λ x. x.now) (λ rest. rest) _ c.lines.ensures.value) in
    rw c.min.ensures (shown-some c.args.text.now c.args.line c.in_ok-before.before (omega (arith, c.in_ok-before.ensures)) c.in_ok-found.found.now item)
