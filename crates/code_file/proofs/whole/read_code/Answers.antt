use Rattle.std.proofs.Common.{◌≡◌, ◌==◌, ℕ, List, length, true, false, sym, ap, ◌∙◌}
use Rattle.std.proofs.lemmas.Bool.{eqb-true}
use Rattle.std.proofs.lemmas.List.{nil_from_length}
use Rattle.std.proofs.lemmas.Result.{err_from_is_err_and}
use Rattle.code_file.specs.declared.file.CodeError.TheVariants as error
use Rattle.code_file.proofs.Files.{more_is_left, no_file, nothing_is_left}
use Rattle.code_file.proofs.whole.read_code.Goals as goal

pub returns-in_err-file-clause-form : goal.returns-in_err-file-clause-form
returns-in_err-file-clause-form c = λ form.
    let shown = err_from_is_err_and c.from_residual.result c.from_residual.ensures.1 in
    let is : shown.0 ≡ error.Form = cc (shown.1, form) in
    no_file c.args.bytes.now c.new-reader.result c.read_file.new.reader _ c.new-reader.ensures c.in_err-file.ensures (sym shown.2 ∙ is)

pub returns-then-not-is_at_end-clause-form : goal.returns-then-not-is_at_end-clause-form
returns-then-not-is_at_end-clause-form c = λ _.
    more_is_left c.args.bytes.now c.new-reader.result c.read_file.new.reader c.in_ok-file.file c.new-reader.ensures c.in_ok-file.ensures
    (λ empty. let e : false ≡ true = sym c.if-not-is_at_end.true ∙ c.is_at_end.ensures ∙ ap (λ (s : List ℕ). length s == 0) empty in cc)

pub returns-clause-file : goal.returns-clause-file
returns-clause-file c =
    nothing_is_left c.args.bytes.now c.new-reader.result c.read_file.new.reader c.in_ok-file.file c.new-reader.ensures c.in_ok-file.ensures
    (nil_from_length c.read_file.new.reader (eqb-true (length c.read_file.new.reader) 0 (sym c.is_at_end.ensures ∙ c.if-not-is_at_end.false)))
