use Rattle.std.proofs.Common.{rules, ◌++◌, codes}
use Rattle.std.specs.List.{flat_map}
use Rattle.bstr.specs.Utf8.{lossy_chars}
use Rattle.bad_free_report.specs.Json.{escaped}
use Rattle.bad_free_report.proofs.Joining.{failed_first, joined}
use Rattle.bad_free_report.proofs.json.put_text.Goals as goal

pub returns-in_err-put_all-clause-bytes : goal.returns-in_err-put_all-clause-bytes
returns-in_err-put_all-clause-bytes g c =
    let chars = flat_map escaped (lossy_chars c.args.text.now) in
    failed_first _ _ (codes "\"") (chars ++ codes "\"") c.put_all.result c.from_residual.result
    (search rules) c.from_residual.ensures.0 c.put_all.ensures.bytes

pub returns-in_err-put_chars-clause-bytes : goal.returns-in_err-put_chars-clause-bytes
returns-in_err-put_chars-clause-bytes g c =
    let chars = flat_map escaped (lossy_chars c.args.text.now) in
    joined _ _ _ (codes "\"") (chars ++ codes "\"") _ c.in_ok-put_all.ensures.bytes
    (failed_first _ _ chars (codes "\"") c.put_chars.result c.from_residual-in_err-put_chars.result
    (search rules) c.from_residual-in_err-put_chars.ensures.0 c.put_chars.ensures.bytes)

pub returns-clause-bytes : goal.returns-clause-bytes
returns-clause-bytes g c =
    let chars = flat_map escaped (lossy_chars c.args.text.now) in
    joined _ _ _ (codes "\"") (chars ++ codes "\"") _ c.in_ok-put_all.ensures.bytes
    (joined _ _ _ chars (codes "\"") _ c.in_ok-put_chars.ensures.bytes c.put_all-2.ensures.bytes)
