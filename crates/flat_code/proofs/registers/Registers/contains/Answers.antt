use Rattle.std.proofs.Common.{◌≡◌, ◌<◌, ◌↔◌, ℕ, true, false, List, sym, subst, arith, IsTrue}
use Rattle.std.specs.Prelude.{AllPairs, Contains}
use Rattle.std.specs.List.Sorted.{IsNonDecreasingBy, IsPartitionPoint}
use Rattle.std.proofs.Math.Dec.{leb, ltb}
use Rattle.std.proofs.lemmas.Bool.{ltb-true}
use Rattle.flat_code.specs.declared.registers.Run.{Run}
use Rattle.flat_code.proofs.RunLists.{apart, found, not_found, rising}
use Rattle.flat_code.proofs.registers.Registers.contains.Goals as goal

pub ended-place-requires : goal.ended-place-requires
ended-place-requires c =
    let runs = c.self.inside.runs.items in
    let ascends = subst (λ (rs : List ℕ). AllPairs (λ one other. one < other) rs) (sym c.self.view_is) c.requires in
    subst (λ (rs : List Run). IsNonDecreasingBy (λ (run : Run). run.last) rs) (sym c.deref.ensures.value) (rising runs c.self.invariant.each (apart runs c.self.invariant.each ascends))

pub returns-then-place-len : goal.returns-then-place-len
returns-then-place-len c =
    let runs = c.self.inside.runs.items in
    let r = c.args.register in let place = c.ended-place.result in
    let ascends = subst (λ (rs : List ℕ). AllPairs (λ one other. one < other) rs) (sym c.self.view_is) c.requires in
    let split = subst (λ (rs : List Run). IsPartitionPoint (λ (run : Run). ltb run.last r ≡ true) (λ (run : Run). ltb run.last r ≡ false) rs place) c.deref.ensures.value c.ended-place.ensures in
    let run = c.index.result.now in
    subst (λ (rs : List ℕ). IsTrue (leb run.first r) ↔ Contains rs r) c.self.view_is
    (found runs c.self.invariant.each (apart runs c.self.invariant.each ascends) r place split run (omega arith) c.index.ensures)

pub returns-else-place-len : goal.returns-else-place-len
returns-else-place-len c =
    let runs = c.self.inside.runs.items in
    let r = c.args.register in let place = c.ended-place.result in
    let ascends = subst (λ (rs : List ℕ). AllPairs (λ one other. one < other) rs) (sym c.self.view_is) c.requires in
    let split = subst (λ (rs : List Run). IsPartitionPoint (λ (run : Run). ltb run.last r ≡ true) (λ (run : Run). ltb run.last r ≡ false) rs place) c.deref.ensures.value c.ended-place.ensures in (
      λ yes. absurd (let less = ltb-true place c.len.result yes in omega (arith, less)),
      λ there. absurd (not_found runs c.self.invariant.each (apart runs c.self.invariant.each ascends) r place split (omega arith) (subst (λ (rs : List ℕ). Contains rs r) (sym c.self.view_is) there)),
    )
