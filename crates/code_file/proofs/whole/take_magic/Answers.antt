use Rattle.std.proofs.Common.{◌≡◌, List, ℕ, codes, true, false, not, eqb, sym, ap, ◌∙◌}
use lib.Pointwise.{pointwise}
use Rattle.code_file.proofs.Numbers.{same_fronts}
use Rattle.code_file.proofs.whole.take_magic.Goals as goal

pub returns-then-ne : goal.returns-then-ne
returns-then-ne c = λ _ others _ is.
    let front = (same_fronts c.in_ok-front.front.now (codes "HSCODE01") c.take.new.self others c.in_ok-front.ensures.some.0 (sym c.in_ok-front.ensures.some.1 ∙ is)).0 in
    let differ : true ≡ false = sym c.if-ne.true ∙ c.ne.ensures ∙ ap (λ (s : List ℕ). not (pointwise eqb s (codes "HSCODE01"))) front in
    cc
