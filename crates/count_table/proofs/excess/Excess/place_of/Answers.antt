use Rattle.std.proofs.Common.{◌≡◌, ℕ, Bool, true, false, take, ap, ◌∙◌, sym, subst, rules}
use Rattle.std.specs.Prelude.{nat_lt}
use Rattle.std.specs.List.Sorted.{IsPartitionPoint}
use Rattle.std.proofs.lemmas.List.Sorted.{IsPartitionPoint-from_clause}
use Rattle.count_table.specs.Excess.{IsAscending, Pairs}
use Rattle.count_table.proofs.Around.{IsPartitionedBy-ascending, IsPlace, IsPlace-partition}
use Rattle.count_table.proofs.excess.Excess.place_of.Goals as goal

pub returns-clause-place : goal.returns-clause-place
returns-clause-place c =
    let items = c.self.inside.pairs.items in
    let used = c.self.inside.used in
    let granule = c.args.granule in
    let place = c.partition_point.result in
    let some = take used c.deref.result.now in
    let shown : some ≡ take used items = ap (take used) c.deref.ensures.value in
    let listed : some ≡ c.args.self.now.list = shown ∙ ap (λ (pairs : Pairs). pairs.list) c.self.view_is in
    let test : ℕ × ℕ → Bool = λ p. nat_lt p.0 granule in
    let point : IsPartitionPoint (λ p. test p ≡ true) (λ p. test p ≡ false) some place =
    IsPartitionPoint-from_clause test some place c.partition_point.ensures.partitioned (IsPartitionedBy-ascending some granule (subst IsAscending (sym shown) c.self.invariant.0)) (λ a r q k. search rules) in
    subst (λ l. IsPlace l granule place) listed (IsPlace-partition some granule place point)
