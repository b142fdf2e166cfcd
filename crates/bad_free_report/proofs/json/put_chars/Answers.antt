use Rattle.std.proofs.Common.{◌≡◌, ◌∷◌, ◌++◌, ◌∙◌, ℕ, List, Some, rules, ap, sym, append_assoc}
use Rattle.std.specs.List.{flat_map}
use Rattle.bad_free_report.specs.Json.{escaped}
use Rattle.bad_free_report.proofs.Joining.{failed_behind}
use Rattle.bad_free_report.proofs.json.put_chars.Goals as goal

pub chars-preserved : goal.chars-preserved
chars-preserved g c =
    let x = c.in-Some.c in
    let rest = c.next.new.self in
    let same : c.chars.chars ≡ x ∷ rest = search rules in
    record {
      can_next = tt;
      is_finite = tt;
      none_failed = c.in_ok-put_char.ensures.cause ∙ c.chars.invariant.none_failed;
      begun = λ taken told.
          let b = c.chars.invariant.begun taken told in (
            b.0 ++ escaped x,
            c.in_ok-put_char.ensures.bytes (taken ++ b.0) b.1 ∙ ap Some (append_assoc taken b.0 (escaped x)),
            append_assoc b.0 (escaped x) (flat_map escaped rest)
                ∙ ap (λ (cs : List ℕ). b.0 ++ flat_map escaped cs) (sym same) ∙ b.2,
          );
    }

pub returns-in_err-put_char-clause-bytes : goal.returns-in_err-put_char-clause-bytes
returns-in_err-put_char-clause-bytes g c =
    let x = c.in-Some.c in
    let rest = c.next.new.self in
    let same : c.chars.chars ≡ x ∷ rest = search rules in
    failed_behind _ _ _ (escaped x) (flat_map escaped rest) _ c.put_char.result c.from_residual.result
    (search rules) c.from_residual.ensures.0
    (λ taken told.
    let b = c.chars.invariant.begun taken told in (b.0, b.1, ap (λ (cs : List ℕ). b.0 ++ flat_map escaped cs) (sym same) ∙ b.2))
    c.put_char.ensures.bytes
