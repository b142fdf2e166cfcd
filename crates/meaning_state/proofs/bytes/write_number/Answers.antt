use Rattle.std.proofs.Common.{◌≡◌, ℕ, zero, suc, List, ◌≤◌, ◌∷◌, ◌/◌, ◌%◌, take, refl, ap, ◌∙◌, arith}
use Rattle.hs_base.specs.Access.{bytes_of, overlaid}
use Rattle.hs_base.specs.AccessEquations.{bytes_are}
use Rattle.meaning_state.proofs.bytes.write_number.Goals as goal

take_bytes : (k n value : ℕ) → k ≤ n → take k (bytes_of n value) ≡ bytes_of k value
take_bytes zero n value h = refl
take_bytes (suc k) zero value h = absurd (omega arith)
take_bytes (suc k) (suc n) value h = ap (λ bs. value % 256 ∷ bs) (take_bytes k n (value / 256) (omega arith))

low : (k value : ℕ) (all : List ℕ) → all ≡ bytes_of 8 value → k ≤ 8 → take k all ≡ bytes_of k value
low k value all e h = ap (take k) e ∙ take_bytes k 8 value h

pub returns-clause-bytes : goal.returns-clause-bytes
returns-clause-bytes c =
    let e = low c.args.width c.args.value c.to_le_bytes.result (c.to_le_bytes.ensures ∙ bytes_are 8 c.args.value) c.requires.width in
    c.overlay_bytes.ensures.bytes ∙ ap (overlaid c.args.bytes.now c.args.at) e
