use Rattle.std.proofs.Common.{◌≡◌, ◌++◌, List, ℕ, length, ap, ◌∙◌, subst, arith}
use Rattle.std.specs.List.{All, flat_map}
use Rattle.code_file.specs.Spelling.{list_of, number}
use Rattle.code_file.proofs.Lists.{take_whole}
use Rattle.code_file.proofs.part.ItemsSpelled.write.Goals as goal

pub returns-clause-bytes : goal.returns-clause-bytes
unfolding list_of
returns-clause-bytes g c =
    let items = c.as_slice-item-items.result.now in
    let all : length items ≡ c.loop-item.item-index = omega arith in
    c.loop-item.invariant.bytes
    ∙ ap (λ (s : List ℕ). c.args.text.now.items ++ (number (length c.args.self.now) ++ s))
    (ap (flat_map g.T.Spelled.spelling) (take_whole c.loop-item.item-index items all) ∙ ap (flat_map g.T.Spelled.spelling) c.as_slice-item-items.ensures)

pub returns-clause-ranged : goal.returns-clause-ranged
returns-clause-ranged g c =
    let items = c.as_slice-item-items.result.now in
    let all : length items ≡ c.loop-item.item-index = omega arith in
    subst (λ (xs : List _). All g.T.Spelled.is_ranged xs) (take_whole c.loop-item.item-index items all ∙ c.as_slice-item-items.ensures) c.loop-item.invariant.ranged
