use Rattle.std.proofs.Common.{ℤ, sym, subst}
use Rattle.flat_code.specs.declared.instructions.Instr.{Instr}
use Rattle.code_file.specs.Spelling.{Begins}
use Rattle.code_file.proofs.Numbers.{passed}
use Rattle.std.proofs.lemmas.Result.{err_from_is_err_and}
use Rattle.code_file.specs.CodeFile.{instr_bytes}
use Rattle.code_file.specs.Parts.{FitsInstr}
use Rattle.code_file.proofs.Reading.{exits}
use Rattle.code_file.proofs.CodeParts.{instr_none, instr_some}
use Rattle.code_file.proofs.code.InstrPart.read.Goals as goal

pub returns-in_err-op : goal.returns-in_err-op
returns-in_err-op c =
    exits FitsInstr instr_bytes c.args.reader.now c.read.new.reader c.from_residual.result _ (err_from_is_err_and c.from_residual.result c.from_residual.ensures.1)
    (instr_none c.args.reader.now c.read.new.reader _ c.in_err-op.ensures)

pub returns : goal.returns
returns c =
    let imm = c.in_ok-op.imm in
    subst (λ (n : ℤ). let i : Instr = record { op = c.in_ok-op.op; a = c.in_ok-op.a; b = c.in_ok-op.b; c = c.in_ok-op.c; imm = n } in Begins FitsInstr instr_bytes c.args.reader.now c.read.new.reader i)
    (sym (passed imm c.in_ok-op.ensures.fits.1.1.1.1))
    (instr_some c.args.reader.now c.read.new.reader (c.in_ok-op.op, (c.in_ok-op.a, (c.in_ok-op.b, (c.in_ok-op.c, imm)))) c.in_ok-op.ensures)
