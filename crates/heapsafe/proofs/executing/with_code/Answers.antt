use Rattle.std.proofs.Common.{◌≡◌, ◌∙◌, ap, false, inl, refl, sym, true, arith}
use Rattle.flat_code.specs.WellFormed.{IsWellFormed}
use Rattle.heapsafe.specs.Execution.{AnswersCode, AnswersVerified}
use Rattle.heapsafe.specs.Shown.{unverified}
use Rattle.heapsafe.proofs.Told.{said_as}
use Rattle.heapsafe.proofs.Bytes.{is_unverified, is_verified, unverified_line}
use Rattle.heapsafe.proofs.Served.{serves_as, serves_none, serves_said}
use Rattle.heapsafe.proofs.executing.with_code.Goals as goal

pub returns-in_default : goal.returns-in_default
returns-in_default g c = serves_none _ _ _ _ _ _ _ c.refuse.ensures

pub returns-in-Ok-true : goal.returns-in-Ok-true
returns-in-Ok-true g c =
    let formed = c.in-Ok-true.ensures.0 c.in-Ok-true.field-0-test in
    serves_as _ _ _ _ _ _ (λ i a. AnswersCode c.args.file.now c.args.code.now i c.args.asked a) (λ i a. AnswersVerified c.args.file.now c.args.code.now i c.args.asked a)
    (λ i a is. is_verified c.args.file.now i c.args.asked a c.args.code.now formed is) (λ i a is more. is.verified formed) c.run_verified.ensures

pub returns-in-Ok-false : goal.returns-in-Ok-false
returns-in-Ok-false g c =
    let other : IsWellFormed c.args.code.now.code → ⊥ = λ formed. (let yes : true ≡ false = sym (c.in-Ok-false.ensures.1 formed) ∙ c.in-Ok-false.field-0-test in absurd (cc)) in
    serves_said _ _ _ _ _ _ (λ i a. AnswersVerified c.args.file.now c.args.code.now i c.args.asked a) (unverified c.args.file.now) (unverified_line c.args.file.now)
    (λ i. inl (is_unverified c.args.file.now i c.args.asked (unverified c.args.file.now) c.args.code.now other refl)) (λ i a is. inl (is.refused other))
    (said_as _ _ _ _ (unverified c.args.file.now) (ap unverified c.as_bytes.ensures.value) c.refuse-in-Ok-false.ensures)

pub returns : goal.returns
returns g c = serves_none _ _ _ _ _ _ _ c.refuse-in-Err.ensures
