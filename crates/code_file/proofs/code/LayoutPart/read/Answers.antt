use Rattle.std.proofs.lemmas.Result.{err_from_is_err_and}
use Rattle.code_file.specs.CodeFile.{layout_bytes}
use Rattle.code_file.specs.Parts.{FitsLayout}
use Rattle.code_file.proofs.Reading.{exits}
use Rattle.code_file.proofs.CodeParts.{layout_none, layout_some}
use Rattle.code_file.proofs.code.LayoutPart.read.Goals as goal

pub returns-in_err-size : goal.returns-in_err-size
returns-in_err-size c =
    exits FitsLayout layout_bytes c.args.reader.now c.read.new.reader c.from_residual.result _ (err_from_is_err_and c.from_residual.result c.from_residual.ensures.1)
    (layout_none c.args.reader.now c.read.new.reader _ c.in_err-size.ensures)

pub returns : goal.returns
returns c =
    layout_some c.args.reader.now c.read.new.reader
    (c.in_ok-size.size, (c.in_ok-size.align, c.in_ok-size.slots))
    c.in_ok-size.ensures
