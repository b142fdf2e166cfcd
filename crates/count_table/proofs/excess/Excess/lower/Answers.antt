use Rattle.std.proofs.Common.{◌≡◌, ◌<◌, ℕ, length, refl, sym, subst, arith, rules}
use Rattle.std.proofs.lemmas.Bool.{false≢true}
use Rattle.count_table.proofs.Searched.{Lacks, excess_nowhere, lacks_end, lacks_other, lowered_there, removed_there, same_read, searched_for, some_there, within_use}
use Rattle.count_table.proofs.excess.Excess.lower.Goals as goal
use Rattle.count_table.proofs.excess.Excess.lower.Goals.{then-place-self-via-then-place-self, then-place-self-via-else-place-self+then-index-granule}

pub returns-then-place-self-clause-had : goal.returns-then-place-self-clause-had
returns-then-place-self-clause-had c =
    let searched = searched_for c.self.view_is c.self.invariant c.place_of-place.ensures.within c.place_of-place.ensures.place in
    let lacks : Lacks searched =
    elim c.then-place-self.branch [
      | then-place-self-via-then-place-self w ↦ lacks_end searched (omega arith)
      | then-place-self-via-else-place-self+then-index-granule w ↦ lacks_other searched w.index.result.now (omega (arith, within_use searched, w.if-place-self.false)) w.index.ensures w.if-index-granule.true
    ] in
    let none = excess_nowhere searched lacks in
    (λ t. absurd (false≢true t), λ some. absurd (omega (arith, none)))

pub invariant_of-self : goal.invariant_of-self
invariant_of-self c =
    let searched = searched_for c.self.view_is c.self.invariant c.place_of-place.ensures.within c.place_of-place.ensures.place in
    let in_place : c.place_of-place.result < c.self.inside.used = omega (arith, within_use searched, c.if-place-self.false) in
    let more : 1 < c.index_mut.result.now.1 = subst (λ (p : ℕ × ℕ). 1 < p.1) (sym (same_read searched c.index-2.result.now c.index_mut.result.now in_place c.index-2.ensures c.index_mut.ensures.value)) c.if-index-gt1.true in
    let edited = lowered_there searched c.index.result.now c.index_mut.result.now in_place c.index.ensures c.index_mut.ensures.value c.if-index-granule.false more in
    (edited.still_up, edited.now_in_use)

pub returns-then-index-gt1-clause-had : goal.returns-then-index-gt1-clause-had
returns-then-index-gt1-clause-had c =
    let searched = searched_for c.self.view_is c.self.invariant c.place_of-place.ensures.within c.place_of-place.ensures.place in
    let in_place : c.place_of-place.result < c.self.inside.used = omega (arith, within_use searched, c.if-place-self.false) in
    (λ _. some_there searched c.index.result.now in_place c.index.ensures c.if-index-granule.false, λ _. refl)

pub returns-then-index-gt1-clause-lowered : goal.returns-then-index-gt1-clause-lowered
returns-then-index-gt1-clause-lowered c =
    let searched = searched_for c.self.view_is c.self.invariant c.place_of-place.ensures.within c.place_of-place.ensures.place in
    let in_place : c.place_of-place.result < c.self.inside.used = omega (arith, within_use searched, c.if-place-self.false) in
    let more : 1 < c.index_mut.result.now.1 = subst (λ (p : ℕ × ℕ). 1 < p.1) (sym (same_read searched c.index-2.result.now c.index_mut.result.now in_place c.index-2.ensures c.index_mut.ensures.value)) c.if-index-gt1.true in
    (lowered_there searched c.index.result.now c.index_mut.result.now in_place c.index.ensures c.index_mut.ensures.value c.if-index-granule.false more).now

pub invariant_of-self-else-index-gt1 : goal.invariant_of-self-else-index-gt1
invariant_of-self-else-index-gt1 c =
    let searched = searched_for c.self.view_is c.self.invariant c.place_of-place.ensures.within c.place_of-place.ensures.place in
    let in_place : c.place_of-place.result < c.self.inside.used = omega (arith, within_use searched, c.if-place-self.false) in
    let long : length c.copy_within.new.self.items ≡ length c.self.inside.pairs.items = search rules in
    let edited = removed_there searched c.index.result.now c.index-2.result.now in_place c.index.ensures c.index-2.ensures c.if-index-granule.false c.if-index-gt1.false c.copy_within.new.self.items c.copy_within.ensures.items long in
    (edited.still_up, edited.now_in_use)

pub returns-else-index-gt1-clause-had : goal.returns-else-index-gt1-clause-had
returns-else-index-gt1-clause-had c =
    let searched = searched_for c.self.view_is c.self.invariant c.place_of-place.ensures.within c.place_of-place.ensures.place in
    let in_place : c.place_of-place.result < c.self.inside.used = omega (arith, within_use searched, c.if-place-self.false) in
    (λ _. some_there searched c.index.result.now in_place c.index.ensures c.if-index-granule.false, λ _. refl)

pub returns-else-index-gt1-clause-lowered : goal.returns-else-index-gt1-clause-lowered
returns-else-index-gt1-clause-lowered c =
    let searched = searched_for c.self.view_is c.self.invariant c.place_of-place.ensures.within c.place_of-place.ensures.place in
    let in_place : c.place_of-place.result < c.self.inside.used = omega (arith, within_use searched, c.if-place-self.false) in
    let long : length c.copy_within.new.self.items ≡ length c.self.inside.pairs.items = search rules in
    (removed_there searched c.index.result.now c.index-2.result.now in_place c.index.ensures c.index-2.ensures c.if-index-granule.false c.if-index-gt1.false c.copy_within.new.self.items c.copy_within.ensures.items long).now
