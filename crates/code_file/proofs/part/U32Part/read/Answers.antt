use Rattle.std.proofs.Common.{arith}
use Rattle.std.proofs.lemmas.Result.{err_from_is_err_and}
use Rattle.code_file.specs.Spelling.{IsNumber, number}
use Rattle.code_file.proofs.Numbers.{length-number, number_once}
use Rattle.code_file.proofs.Reading.{exits, of_width, says_none, too_short}
use Rattle.code_file.proofs.part.U32Part.read.Goals as goal

pub returns-in_err-take : goal.returns-in_err-take
returns-in_err-take c =
    exits IsNumber number c.args.reader.now c.take.new.self c.from_residual.result _ (err_from_is_err_and c.from_residual.result c.from_residual.ensures.1)
    (says_none IsNumber number c.args.reader.now c.take.new.self _ c.in_err-take.ensures.none.0
    (too_short IsNumber number 4 c.args.reader.now length-number c.in_err-take.ensures.none.1))

pub returns : goal.returns
returns c =
    of_width IsNumber number 4 c.args.reader.now c.in_ok-take.field-0.now c.take.new.self c.number_of.result length-number
    (λ y fits same. number_once y c.number_of.result fits (omega arith) same) (omega arith) c.number_of.ensures c.in_ok-take.ensures.some.1
