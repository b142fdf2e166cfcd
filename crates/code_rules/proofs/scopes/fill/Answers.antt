use Rattle.std.proofs.Common.{◌<◌, ◌∙◌, ℕ, List, Option, length, refl, sym, subst, arith}
use Rattle.code_rules.specs.Scopes.{IsClosedAt}
use Rattle.code_rules.proofs.scopes.fill.Goals as goal

pub returns-in-Same : goal.returns-in-Same
returns-in-Same c =
    let m = c.in-Same.ensures in (
      m.long ∙ c.loop.invariant.long,
      m.reached c.loop.invariant.reached,
      subst (λ (l : List (Option ℕ)). (place : ℕ) → place < length l → IsClosedAt c.args.code.now c.args.entry.now l place) (sym (m.kept refl)) (λ p less. m.closed refl p (omega arith) less),
      λ q s is. m.stays q s (c.loop.invariant.stays q s is),
    )
