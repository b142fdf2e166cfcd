use Rattle.std.proofs.lemmas.Result.{err_from_is_err_and}
use Rattle.code_file.specs.CodeFile.{code_bytes}
use Rattle.code_file.specs.Parts.{FitsCode}
use Rattle.code_file.proofs.Reading.{exits}
use Rattle.code_file.proofs.CodeParts.{code_none, code_some}
use Rattle.code_file.proofs.code.CodePart.read.Goals as goal

pub returns-in_err-instrs : goal.returns-in_err-instrs
returns-in_err-instrs c =
    exits FitsCode code_bytes c.args.reader.now c.read.new.reader c.from_residual.result _ (err_from_is_err_and c.from_residual.result c.from_residual.ensures.1)
    (code_none c.args.reader.now c.read.new.reader _ c.in_err-instrs.ensures)

pub returns : goal.returns
returns c =
    code_some c.args.reader.now c.read.new.reader
    (c.in_ok-instrs.instrs, (c.in_ok-instrs.funcs, (c.in_ok-instrs.statics, (c.in_ok-instrs.layouts, (c.in_ok-instrs.sites, (c.in_ok-instrs.lines, c.in_ok-instrs.formats))))))
    c.in_ok-instrs.ensures
