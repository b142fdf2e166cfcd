use Rattle.std.proofs.Common.{◌≡◌, ℕ, List, replicate, ap, sym, subst, arith, rules}
use Rattle.std.proofs.lemmas.List.Folds.{sum_by-replicate}
use Rattle.count_table.specs.Excess.{Pairs}
use Rattle.count_table.specs.Table.{Table}
use Rattle.count_table.proofs.Kept.{IsTable-shown, Show, Show-replicate, counts_of-shown}
use Rattle.count_table.proofs.Counts.new.Goals as goal

pub invariant_of-result : goal.invariant_of-result
invariant_of-result c =
    let zeros : List ℕ = replicate c.args.granules 0 in
    let lows : c.in_ok-vec.field-0.items ≡ zeros = search rules in
    let shown : Show c.in_ok-vec.field-0.items c.in_ok-new.field-0.list zeros =
    subst (λ (l : List ℕ). Show l c.in_ok-new.field-0.list zeros) (sym lows) (subst (λ (e : Pairs). Show zeros e.list zeros) (sym c.in_ok-new.ensures) (Show-replicate c.args.granules)) in
    IsTable-shown c.in_ok-new.field-0 c.args.most shown (omega (arith, sum_by-replicate (λ x. x) c.args.granules 0)) (ap (λ (e : Pairs). e.room) c.in_ok-new.ensures) (omega (arith, c.ranges.most))

pub returns : goal.returns
returns c =
    let zeros : List ℕ = replicate c.args.granules 0 in
    let lows : c.in_ok-vec.field-0.items ≡ zeros = search rules in
    let shown : Show c.in_ok-vec.field-0.items c.in_ok-new.field-0.list zeros =
    subst (λ (l : List ℕ). Show l c.in_ok-new.field-0.list zeros) (sym lows) (subst (λ (e : Pairs). Show zeros e.list zeros) (sym c.in_ok-new.ensures) (Show-replicate c.args.granules)) in
    let made : List ℕ → Table = λ l. record { counts = l; most = c.args.most } in
    ap made (counts_of-shown shown)
