use Rattle.std.proofs.Common.{◌≡◌, ◌∙◌, ℕ, List, [], Some, drop, length, refl, ap}
use Rattle.heapsafe.proofs.Alone.{made, went}
use Rattle.heapsafe.proofs.Ended.{same_some}
use Rattle.heapsafe.proofs.generated.run_core.Goals as goal

pub returns : goal.returns
returns c =
    let left : Some (drop c.new-input.result.place c.new-input.result.bytes) ≡ Some [] =
    ap (λ (n : ℕ). Some (drop n c.new-input.result.bytes)) c.new-input.ensures.place
    ∙ ap (λ (bytes : List ℕ). Some (drop 0 bytes)) (c.new-input.ensures.bytes ∙ c.new.ensures) in
    let taken : Some c.new-out.result.bytes.items ≡ Some [] = ap Some c.new-out.ensures.bytes in
    let ran = (c.in_ok-end.ensures.ran [] left).2 in
    let told = ran.told in
    record {
      answers = λ text. went c.args.core.now c.args.limits c.args.steps _ told.put _
          (ap length (c.bytes.ensures ∙ same_some c.run_code.new.out.bytes.items told.put (told.took [] taken))) text c.in_ok-end.end _ _ _ _
          told.is c.in_ok-end.ensures.faults refl c.in_default.not-OutputFault c.status_of.ensures;
      made = c.steps_made.ensures ∙ made c.args.core.now c.args.limits c.args.steps c.in_ok-end.end _ _ _ _ _ ran.made c.in_ok-end.ensures.faults refl c.in_default.not-OutputFault;
    }
