use Rattle.std.proofs.lemmas.Result.{err_from_is_err_and}
use Rattle.code_file.specs.CodeFile.{spelling}
use Rattle.code_file.specs.Parts.{FitsFile}
use Rattle.code_file.proofs.Files.{IsMagic, a_file, magic, no_magic}
use Rattle.code_file.proofs.Reading.{exits, hands_on}
use Rattle.code_file.proofs.whole.read_file.Goals as goal

pub returns-in_err-take_magic : goal.returns-in_err-take_magic
returns-in_err-take_magic c =
    exits FitsFile spelling c.args.reader.now c.take_magic.new.reader c.from_residual.result _ (err_from_is_err_and c.from_residual.result c.from_residual.ensures.1)
    (hands_on FitsFile spelling c.args.reader.now c.take_magic.new.reader IsMagic magic c.args.reader.now c.take_magic.new.reader _ (no_magic c.args.reader.now) c.in_err-take_magic.ensures)

pub returns : goal.returns
returns c =
    a_file c.args.reader.now c.take_magic.new.reader c.read.new.reader c.read_names.new.reader c.in_ok-code.code c.in_ok-names.names
    c.in_ok-take_magic.ensures c.in_ok-code.ensures c.in_ok-names.ensures
