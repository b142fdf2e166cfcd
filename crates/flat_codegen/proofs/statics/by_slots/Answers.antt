use Rattle.std.proofs.Common.{ℕ, List, sym, subst, rules}
use Rattle.std.proofs.lemmas.List.Sorted.{answers_always}
use Rattle.std.specs.Prelude.{IsSortedByKey}
use Rattle.std.specs.Ordering.{nat_cmp}
use Rattle.flat_codegen.proofs.statics.by_slots.Goals as goal

pub returns-clause-ascending : goal.returns-clause-ascending
returns-clause-ascending c =
    subst (λ (ps : List (ℕ × ℕ × ℕ)). IsSortedByKey (λ (p : ℕ × ℕ × ℕ). p.0) nat_cmp ps) (sym c.from.ensures)
    (c.sort_unstable_by_key.ensures.sorted (λ p. p.0) (answers_always _ _ _ (λ f a r q k. search rules)))
