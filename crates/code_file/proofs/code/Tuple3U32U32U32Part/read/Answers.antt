use Rattle.std.proofs.lemmas.Result.{err_from_is_err_and}
use Rattle.code_file.specs.CodeFile.{pointer_bytes}
use Rattle.code_file.specs.Parts.{FitsPointer}
use Rattle.code_file.proofs.Reading.{exits}
use Rattle.code_file.proofs.CodeParts.{pointer_none, pointer_some}
use Rattle.code_file.proofs.code.Tuple3U32U32U32Part.read.Goals as goal

pub returns-in_err-slot : goal.returns-in_err-slot
returns-in_err-slot c =
    exits FitsPointer pointer_bytes c.args.reader.now c.read.new.reader c.from_residual.result _ (err_from_is_err_and c.from_residual.result c.from_residual.ensures.1)
    (pointer_none c.args.reader.now c.read.new.reader _ c.in_err-slot.ensures)

pub returns : goal.returns
returns c =
    pointer_some c.args.reader.now c.read.new.reader (c.in_ok-slot.slot, (c.in_ok-slot.target, c.in_ok-slot.offset)) c.in_ok-slot.ensures
