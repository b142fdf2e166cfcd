use Rattle.std.proofs.Common.{ℕ, List, Err, ap, inl, refl, sym, subst}
use Rattle.code_file.specs.declared.file.CodeFile.{CodeFile}
use Rattle.code_file.specs.CodeFile.{HasBytes, IsFileOf}
use Rattle.heapsafe.specs.Execution.{AnswersBytes, AnswersVerified}
use Rattle.heapsafe.specs.Shown.{bad_code}
use Rattle.heapsafe.proofs.Told.{said_as}
use Rattle.heapsafe.proofs.Bytes.{code_line, is_read, is_refused}
use Rattle.heapsafe.proofs.Served.{serves_as, serves_none, serves_said}
use Rattle.heapsafe.proofs.executing.with_bytes.Goals as goal

-- what was read has the bytes that the slice has
pub returns-in-Ok : goal.returns-in-Ok
returns-in-Ok g c =
    let file = subst (λ (bytes : List ℕ). IsFileOf bytes c.in-Ok.code) c.as_slice.ensures c.in-Ok.ensures.file in
    serves_as _ _ _ _ _ _ (λ i a. AnswersVerified c.args.file.now c.in-Ok.code i c.args.asked a) (λ i a. AnswersBytes c.args.file.now c.args.bytes i c.args.asked a)
    (λ i a is. is_read c.args.file.now i c.args.asked a c.args.bytes c.in-Ok.code file is) (λ i a is more. is.read c.in-Ok.code file.has) c.with_code.ensures

pub returns-in-Err-Form : goal.returns-in-Err-Form
returns-in-Err-Form g c =
    let none : (file : CodeFile) → HasBytes c.args.bytes file → ⊥ = λ file has. c.in-Err-Form.ensures.form (ap Err c.in-Err-Form.field-0-is) file (subst (λ (bytes : List ℕ). HasBytes bytes file) (sym c.as_slice.ensures) has) in
    serves_said _ _ _ _ _ _ (λ i a. AnswersBytes c.args.file.now c.args.bytes i c.args.asked a) (bad_code c.args.file.now) (code_line c.args.file.now)
    (λ i. inl (is_refused c.args.file.now i c.args.asked (bad_code c.args.file.now) c.args.bytes none refl)) (λ i a is. inl (is.refused none))
    (said_as _ _ _ _ (bad_code c.args.file.now) (ap bad_code c.as_bytes.ensures.value) c.refuse.ensures)

pub returns : goal.returns
returns g c = serves_none _ _ _ _ _ _ _ c.refuse-in-Err-NoMemory.ensures
