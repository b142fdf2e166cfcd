use Rattle.std.proofs.Common.{List, Bool, Err, sym, ◌∙◌, subst}
use Rattle.std.proofs.lemmas.Result.{err_from_is_err_and}
use Rattle.code_file.specs.Spelling.{Begins, Reads}
use Rattle.code_file.specs.CodeFile.{function_names}
use Rattle.code_file.specs.Parts.{FitsFunction, FitsRegister, IsShortBeside}
use Rattle.code_file.proofs.Functions.{Head, Mems, Registers, a_function, all_parts, head, mems, no_head, no_mems, no_registers, other_mems, registers}
use Rattle.code_file.proofs.Reading.{exits, hands_on}
use Rattle.code_file.proofs.names.FuncBesideEntry.read_beside.Goals as goal

pub returns-in_err-name : goal.returns-in_err-name
returns-in_err-name c =
    let entry = c.args.known.now in let bytes = c.args.reader.now in
    exits (FitsFunction entry) function_names bytes c.read.new.reader c.from_residual.result _ (err_from_is_err_and c.from_residual.result c.from_residual.ensures.1)
    (hands_on (FitsFunction entry) function_names bytes c.read.new.reader Head head bytes c.read.new.reader _ (no_head entry bytes) c.in_err-name.ensures)

pub returns-in_err-regs : goal.returns-in_err-regs
returns-in_err-regs c =
    let entry = c.args.known.now in let bytes = c.args.reader.now in
    let rest = c.read_list_beside.new.reader in let r = c.from_residual-in_err-regs.result in
    exits (FitsFunction entry) function_names bytes rest r _ (err_from_is_err_and r c.from_residual-in_err-regs.ensures.1)
    (hands_on (FitsFunction entry) function_names bytes rest (Registers entry) registers c.read.new.reader rest _
    (no_registers entry bytes c.read.new.reader (c.in_ok-name.name, c.in_ok-name.line) c.in_ok-name.ensures)
    (subst (λ (ks : List Bool). Reads (IsShortBeside FitsRegister ks) registers c.read.new.reader rest (Err c.in_err-regs.field-0.0)) c.as_slice.ensures c.in_err-regs.ensures))

pub returns-in_err-mems : goal.returns-in_err-mems
returns-in_err-mems c =
    let entry = c.args.known.now in let bytes = c.args.reader.now in
    let middle = c.read.new.reader in let behind = c.read_list_beside.new.reader in
    let rest = c.read-2.new.reader in let r = c.from_residual-in_err-mems.result in
    exits (FitsFunction entry) function_names bytes rest r _ (err_from_is_err_and r c.from_residual-in_err-mems.ensures.1)
    (hands_on (FitsFunction entry) function_names bytes rest Mems mems behind rest _
    (no_mems entry bytes middle behind (c.in_ok-name.name, c.in_ok-name.line) c.in_ok-regs.regs c.in_ok-name.ensures
    (subst (λ (ks : List Bool). Begins (IsShortBeside FitsRegister ks) registers middle behind c.in_ok-regs.regs) c.as_slice.ensures c.in_ok-regs.ensures))
    c.in_err-mems.ensures)

pub returns-then-len : goal.returns-then-len
returns-then-len c =
    let middle = c.read.new.reader in let behind = c.read_list_beside.new.reader in
    other_mems c.args.known.now c.args.reader.now c.read-2.new.reader ((c.in_ok-name.name, c.in_ok-name.line), (c.in_ok-regs.regs, c.in_ok-mems.mems))
    (λ same. c.if-len.true (c.len.ensures ∙ same ∙ sym c.len-2.ensures))
    (all_parts c.args.known.now c.args.reader.now middle behind c.read-2.new.reader (c.in_ok-name.name, c.in_ok-name.line) c.in_ok-regs.regs c.in_ok-mems.mems c.in_ok-name.ensures
    (subst (λ (ks : List Bool). Begins (IsShortBeside FitsRegister ks) registers middle behind c.in_ok-regs.regs) c.as_slice.ensures c.in_ok-regs.ensures) c.in_ok-mems.ensures)

pub returns : goal.returns
returns c =
    let middle = c.read.new.reader in let behind = c.read_list_beside.new.reader in
    a_function c.args.known.now c.args.reader.now c.read-2.new.reader ((c.in_ok-name.name, c.in_ok-name.line), (c.in_ok-regs.regs, c.in_ok-mems.mems)) c.new.result c.new-2.result
    c.new.ensures c.new-2.ensures (sym c.len.ensures ∙ c.if-len.false ∙ c.len-2.ensures)
    (all_parts c.args.known.now c.args.reader.now middle behind c.read-2.new.reader (c.in_ok-name.name, c.in_ok-name.line) c.in_ok-regs.regs c.in_ok-mems.mems c.in_ok-name.ensures
    (subst (λ (ks : List Bool). Begins (IsShortBeside FitsRegister ks) registers middle behind c.in_ok-regs.regs) c.as_slice.ensures c.in_ok-regs.ensures) c.in_ok-mems.ensures)
