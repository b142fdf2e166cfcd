use Rattle.std.proofs.Common.{rules, ◌++◌}
use Rattle.bad_free_report.specs.Parts.{freed_text, help_text, limit_text, members_before, place_text}
use Rattle.bad_free_report.specs.Told.{told_facts}
use Rattle.bad_free_report.proofs.Joining.{failed_first, joined}
use Rattle.bad_free_report.proofs.said.put_front.Goals as goal

pub returns-in_err-put_before-clause-bytes : goal.returns-in_err-put_before-clause-bytes
returns-in_err-put_before-clause-bytes g c =
    let f = told_facts c.args.facts.now in
    failed_first _ _ (members_before f) (place_text f.holder ++ (freed_text f.freed ++ (help_text f.help ++ limit_text f.limit))) c.put_before.result
    c.from_residual.result (search rules) c.from_residual.ensures.0 c.put_before.ensures.bytes

pub returns-in_err-put_place-clause-bytes : goal.returns-in_err-put_place-clause-bytes
returns-in_err-put_place-clause-bytes g c =
    let f = told_facts c.args.facts.now in
    joined _ _ _ (members_before f) (place_text f.holder ++ (freed_text f.freed ++ (help_text f.help ++ limit_text f.limit))) _ c.in_ok-put_before.ensures.bytes
    (failed_first _ _ (place_text f.holder) (freed_text f.freed ++ (help_text f.help ++ limit_text f.limit)) c.put_place.result
    c.from_residual-in_err-put_place.result (search rules) c.from_residual-in_err-put_place.ensures.0 c.put_place.ensures.bytes)

pub returns-in_err-put_freed-clause-bytes : goal.returns-in_err-put_freed-clause-bytes
returns-in_err-put_freed-clause-bytes g c =
    let f = told_facts c.args.facts.now in
    let rest = help_text f.help ++ limit_text f.limit in
    joined _ _ _ (members_before f) (place_text f.holder ++ (freed_text f.freed ++ rest)) _ c.in_ok-put_before.ensures.bytes
    (joined _ _ _ (place_text f.holder) (freed_text f.freed ++ rest) _ c.in_ok-put_place.ensures.bytes
    (failed_first _ _ (freed_text f.freed) rest c.put_freed.result c.from_residual-in_err-put_freed.result
    (search rules) c.from_residual-in_err-put_freed.ensures.0 c.put_freed.ensures.bytes))

pub returns-in_err-put_help-clause-bytes : goal.returns-in_err-put_help-clause-bytes
returns-in_err-put_help-clause-bytes g c =
    let f = told_facts c.args.facts.now in
    let rest = help_text f.help ++ limit_text f.limit in
    joined _ _ _ (members_before f) (place_text f.holder ++ (freed_text f.freed ++ rest)) _ c.in_ok-put_before.ensures.bytes
    (joined _ _ _ (place_text f.holder) (freed_text f.freed ++ rest) _ c.in_ok-put_place.ensures.bytes
    (joined _ _ _ (freed_text f.freed) rest _ c.in_ok-put_freed.ensures.bytes
    (failed_first _ _ (help_text f.help) (limit_text f.limit) c.put_help.result c.from_residual-in_err-put_help.result
    (search rules) c.from_residual-in_err-put_help.ensures.0 c.put_help.ensures.bytes)))

pub returns-clause-bytes : goal.returns-clause-bytes
returns-clause-bytes g c =
    let f = told_facts c.args.facts.now in
    let rest = help_text f.help ++ limit_text f.limit in
    joined _ _ _ (members_before f) (place_text f.holder ++ (freed_text f.freed ++ rest)) _ c.in_ok-put_before.ensures.bytes
    (joined _ _ _ (place_text f.holder) (freed_text f.freed ++ rest) _ c.in_ok-put_place.ensures.bytes
    (joined _ _ _ (freed_text f.freed) rest _ c.in_ok-put_freed.ensures.bytes
    (joined _ _ _ (help_text f.help) (limit_text f.limit) _ c.in_ok-put_help.ensures.bytes c.put_limit.ensures.bytes)))
