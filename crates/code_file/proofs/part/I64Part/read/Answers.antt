use Rattle.std.proofs.Common.{ℤ, FitsSigned, sym, subst}
use Rattle.std.specs.Int.{w64}
use Rattle.std.proofs.lemmas.Result.{err_from_is_err_and}
use Rattle.code_file.specs.Spelling.{Begins, IsSigned, signed}
use Rattle.code_file.proofs.Numbers.{length-signed, passed, signed_once}
use Rattle.code_file.proofs.Reading.{exits, of_width, says_none, too_short}
use Rattle.code_file.proofs.part.I64Part.read.Goals as goal

pub returns-in_err-take : goal.returns-in_err-take
returns-in_err-take c =
    exits IsSigned signed c.args.reader.now c.take.new.self c.from_residual.result _ (err_from_is_err_and c.from_residual.result c.from_residual.ensures.1)
    (says_none IsSigned signed c.args.reader.now c.take.new.self _ c.in_err-take.ensures.none.0
    (too_short IsSigned signed 8 c.args.reader.now length-signed c.in_err-take.ensures.none.1))

pub returns : goal.returns
returns c =
    let n = c.signed_of.result in
    let small : FitsSigned w64 n = record { sfits = c.signed_of.type_inv } in
    subst (λ (m : ℤ). Begins IsSigned signed c.args.reader.now c.take.new.self m) (sym (passed n small))
    (of_width IsSigned signed 8 c.args.reader.now c.in_ok-take.field-0.now c.take.new.self n length-signed
    (λ y fits same. signed_once y n fits small same) small c.signed_of.ensures c.in_ok-take.ensures.some.1)
