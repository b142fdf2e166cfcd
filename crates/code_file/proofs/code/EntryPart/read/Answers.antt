use Rattle.std.proofs.lemmas.Result.{err_from_is_err_and}
use Rattle.code_file.specs.CodeFile.{entry_bytes}
use Rattle.code_file.specs.Parts.{FitsEntry}
use Rattle.code_file.proofs.Reading.{exits}
use Rattle.code_file.proofs.CodeParts.{entry_none, entry_some}
use Rattle.code_file.proofs.code.EntryPart.read.Goals as goal

pub returns-in_err-first : goal.returns-in_err-first
returns-in_err-first c =
    exits FitsEntry entry_bytes c.args.reader.now c.read.new.reader c.from_residual.result _ (err_from_is_err_and c.from_residual.result c.from_residual.ensures.1)
    (entry_none c.args.reader.now c.read.new.reader _ c.in_err-first.ensures)

pub returns : goal.returns
returns c =
    entry_some c.args.reader.now c.read.new.reader
    (c.in_ok-first.first, (c.in_ok-first.params, (c.in_ok-first.kinds, c.in_ok-first.mems)))
    c.in_ok-first.ensures
