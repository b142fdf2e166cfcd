use Rattle.std.proofs.Common.{refl, sym, subst}
use Rattle.std.proofs.lemmas.Result.{err_from_is_err_and}
use Rattle.code_file.specs.CodeFile.{EndsOtherwise, static_bytes}
use Rattle.code_file.specs.Parts.{FitsStatic}
use Rattle.code_file.proofs.Reading.{exits}
use Rattle.code_file.proofs.CodeParts.{start_none, start_some, start_zero}
use Rattle.code_file.proofs.code.StaticInitPart.read.Goals as goal

pub returns-in_err-layout : goal.returns-in_err-layout
returns-in_err-layout c =
    exits FitsStatic static_bytes c.args.reader.now c.read.new.reader c.from_residual.result _ (err_from_is_err_and c.from_residual.result c.from_residual.ensures.1)
    (start_none c.args.reader.now c.read.new.reader _ c.in_err-layout.ensures)

pub returns-then-ends_in_zero : goal.returns-then-ends_in_zero
returns-then-ends_in_zero c =
    start_zero c.args.reader.now c.read.new.reader (c.in_ok-layout.layout, (c.in_ok-layout.bytes, c.in_ok-layout.pointers))
    (λ ends. c.if-ends_in_zero.ensures.yes refl (subst EndsOtherwise (sym c.as_slice.ensures) ends)) c.in_ok-layout.ensures

pub returns : goal.returns
returns c =
    start_some c.args.reader.now c.read.new.reader (c.in_ok-layout.layout, (c.in_ok-layout.bytes, c.in_ok-layout.pointers))
    (subst EndsOtherwise c.as_slice.ensures (c.if-ends_in_zero.ensures.no refl)) c.in_ok-layout.ensures
