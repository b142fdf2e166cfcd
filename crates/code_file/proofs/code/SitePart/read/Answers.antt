use Rattle.std.proofs.lemmas.Result.{err_from_is_err_and}
use Rattle.code_file.specs.CodeFile.{site_bytes}
use Rattle.code_file.specs.Parts.{FitsSite}
use Rattle.code_file.proofs.Reading.{exits}
use Rattle.code_file.proofs.CodeParts.{site_none, site_some}
use Rattle.code_file.proofs.code.SitePart.read.Goals as goal

pub returns-in_err-instr : goal.returns-in_err-instr
returns-in_err-instr c =
    exits FitsSite site_bytes c.args.reader.now c.read.new.reader c.from_residual.result _ (err_from_is_err_and c.from_residual.result c.from_residual.ensures.1)
    (site_none c.args.reader.now c.read.new.reader _ c.in_err-instr.ensures)

pub returns : goal.returns
returns c =
    site_some c.args.reader.now c.read.new.reader
    (c.in_ok-instr.instr, c.in_ok-instr.pins)
    c.in_ok-instr.ensures
