use Rattle.std.proofs.Common.{rules, sym, ap, ◌∙◌, append_assoc, ◌+◌, ◌-◌, ◌≡◌, ℕ, List, ◌++◌, Option, Some, Result, Ok, Err, IsErr, length, take, drop}
use Rattle.std.proofs.lemmas.List.{take-append-drop, take_rest}
use Rattle.std.proofs.Math.Seq.{take-add}
use Rattle.hs_base.specs.declared.outside.Failed.{Failed}
use Rattle.hs_base.specs.PutAll.{PutsAll}
use Rattle.hs_base.proofs.output.put_all.Goals as goal

-- what was taken before, and then a further piece
taken_further : (taken bytes : List ℕ) (done n : ℕ) →
    (taken ++ take done bytes) ++ take n (take (length bytes - done) (drop done bytes)) ≡ taken ++ take (done + n) bytes
taken_further taken bytes done n =
    ap (λ rest. (taken ++ take done bytes) ++ take n rest) (take_rest bytes done)
    ∙ append_assoc taken (take done bytes) (take n (drop done bytes))
    ∙ ap (λ piece. taken ++ piece) (sym (take-add done n bytes))

-- a failure leaves what was taken before it
failed : {T : Type 0} (before after : Option (List ℕ)) (bytes : List ℕ) (done : ℕ) (result : Result T Failed) →
    IsErr result → ((taken : List ℕ) → before ≡ Some taken → after ≡ Some (taken ++ take done bytes)) →
    PutsAll before after bytes result
failed before after bytes done (Ok value) is_err begun = absurd (cc)
failed before after bytes done (Err e) is_err begun =
    λ taken told. (take done bytes, drop done bytes, take-append-drop done bytes, begun taken told)

pub returns-in_err-done-clause-bytes : goal.returns-in_err-done-clause-bytes
returns-in_err-done-clause-bytes g c =
    failed _ _ _ c.loop-done.done c.from_residual.result c.from_residual.ensures.0
    (λ taken told. c.in_err-done.ensures.bytes ∙ c.loop-done.invariant.begun taken told)

pub loop-done-preserved : goal.loop-done-preserved
loop-done-preserved g c = record {
  within = search rules;
  none_failed = search rules;
  begun = λ taken told.
      c.in_ok-done.ensures.bytes _ (c.loop-done.invariant.begun taken told)
      ∙ ap Some (taken_further taken c.args.bytes.now c.loop-done.done c.in_ok-done.field-0);
}
