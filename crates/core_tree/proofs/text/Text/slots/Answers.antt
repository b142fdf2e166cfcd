use Rattle.std.proofs.Common.{◌≡◌, ◌++◌, ◌∷◌, decimal, codes, append_assoc}
use Rattle.std.specs.List.{flat_map}
use Rattle.std.proofs.lemmas.Result.{IfOk-equal}
use Rattle.core_tree.proofs.Joining.{joined}
use Rattle.core_tree.proofs.text.Text.slots.Goals as goal

pub returns-in_ok-number-in-Some : goal.returns-in_ok-number-in-Some
returns-in_ok-number-in-Some c =
    IfOk-equal _ _ _ _ c.more_slots.ensures
    (let first : c.number.new.self ≡ c.args.self.now ++ decimal c.from.result = c.in_ok-number-in-Some.ensures in
    let same : c.from.result ≡ c.in-Some.first.now = c.from.ensures in
    let whole : c.args.slots.now ≡ c.in-Some.first.now ∷ c.in-Some.rest.now = c.in-Some.ensures.cases.0 in
    rw (first, same, whole, joined c.in-Some.first.now c.in-Some.rest.now) (append_assoc c.args.self.now (decimal c.in-Some.first.now) (flat_map (λ slot. codes "," ++ decimal slot) c.in-Some.rest.now)))
