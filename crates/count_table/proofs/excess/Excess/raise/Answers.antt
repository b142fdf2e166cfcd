use Rattle.std.proofs.Common.{◌≡◌, ◌<◌, length, ap, arith, rules}
use Rattle.count_table.specs.Excess.{Pairs}
use Rattle.count_table.proofs.Searched.{Lacks, has_room, its_excess, lacks_end, lacks_other, raised_nowhere, raised_there, searched_for, within_use}
use Rattle.count_table.proofs.excess.Excess.raise.Goals as goal
use Rattle.count_table.proofs.excess.Excess.raise.Goals.{else-place-self-via-else-place-self, else-place-self-via-then-place-self+else-index-granule}

pub overflow_add-index_mut : goal.overflow_add-index_mut
overflow_add-index_mut c =
    let searched = searched_for c.self.view_is c.self.invariant c.place_of-place.ensures.within c.place_of-place.ensures.place in
    omega (arith, c.requires.fits, its_excess searched c.index.result.now c.index_mut.result.now c.if-place-self.true c.index.ensures c.index_mut.ensures.value c.if-index-granule.true)

pub invariant_of-self : goal.invariant_of-self
invariant_of-self c =
    let searched = searched_for c.self.view_is c.self.invariant c.place_of-place.ensures.within c.place_of-place.ensures.place in
    let edited = raised_there searched c.index.result.now c.index_mut.result.now c.if-place-self.true c.index.ensures c.index_mut.ensures.value c.if-index-granule.true in
    (edited.still_up, edited.now_in_use)

pub returns-then-index-granule-clause-raised : goal.returns-then-index-granule-clause-raised
returns-then-index-granule-clause-raised c =
    let searched = searched_for c.self.view_is c.self.invariant c.place_of-place.ensures.within c.place_of-place.ensures.place in
    (raised_there searched c.index.result.now c.index_mut.result.now c.if-place-self.true c.index.ensures c.index_mut.ensures.value c.if-index-granule.true).now

pub copy_within-requires-clause-dest_in_bounds : goal.copy_within-requires-clause-dest_in_bounds
copy_within-requires-clause-dest_in_bounds c =
    let searched = searched_for c.self.view_is c.self.invariant c.place_of-place.ensures.within c.place_of-place.ensures.place in
    let lacks : Lacks searched =
    elim c.else-place-self.branch [
      | else-place-self-via-else-place-self w ↦ lacks_end searched w.if-place-self.false
      | else-place-self-via-then-place-self+else-index-granule w ↦ lacks_other searched w.index.result.now w.if-place-self.true w.index.ensures w.if-index-granule.false
    ] in
    let room : c.self.inside.used < length c.self.inside.pairs.items = has_room searched lacks (length c.self.inside.pairs.items) (omega (arith, c.requires.room, ap (λ (pairs : Pairs). pairs.room) c.self.view_is)) in
    let in_place = within_use searched in
    search rules

pub index_mut-requires-else-place-self : goal.index_mut-requires-else-place-self
index_mut-requires-else-place-self c =
    let searched = searched_for c.self.view_is c.self.invariant c.place_of-place.ensures.within c.place_of-place.ensures.place in
    let lacks : Lacks searched =
    elim c.else-place-self.branch [
      | else-place-self-via-else-place-self w ↦ lacks_end searched w.if-place-self.false
      | else-place-self-via-then-place-self+else-index-granule w ↦ lacks_other searched w.index.result.now w.if-place-self.true w.index.ensures w.if-index-granule.false
    ] in
    let room : c.self.inside.used < length c.self.inside.pairs.items = has_room searched lacks (length c.self.inside.pairs.items) (omega (arith, c.requires.room, ap (λ (pairs : Pairs). pairs.room) c.self.view_is)) in
    let in_place = within_use searched in
    search rules

pub invariant_of-self-else-place-self : goal.invariant_of-self-else-place-self
invariant_of-self-else-place-self c =
    let searched = searched_for c.self.view_is c.self.invariant c.place_of-place.ensures.within c.place_of-place.ensures.place in
    let lacks : Lacks searched =
    elim c.else-place-self.branch [
      | else-place-self-via-else-place-self w ↦ lacks_end searched w.if-place-self.false
      | else-place-self-via-then-place-self+else-index-granule w ↦ lacks_other searched w.index.result.now w.if-place-self.true w.index.ensures w.if-index-granule.false
    ] in
    let room : c.self.inside.used < length c.self.inside.pairs.items = has_room searched lacks (length c.self.inside.pairs.items) (omega (arith, c.requires.room, ap (λ (pairs : Pairs). pairs.room) c.self.view_is)) in
    let long : length c.copy_within.new.self.items ≡ length c.self.inside.pairs.items = search rules in
    let edited = raised_nowhere searched lacks c.copy_within.new.self.items c.copy_within.ensures.items long room in
    (edited.still_up, edited.now_in_use)

pub returns-else-place-self-clause-raised : goal.returns-else-place-self-clause-raised
returns-else-place-self-clause-raised c =
    let searched = searched_for c.self.view_is c.self.invariant c.place_of-place.ensures.within c.place_of-place.ensures.place in
    let lacks : Lacks searched =
    elim c.else-place-self.branch [
      | else-place-self-via-else-place-self w ↦ lacks_end searched w.if-place-self.false
      | else-place-self-via-then-place-self+else-index-granule w ↦ lacks_other searched w.index.result.now w.if-place-self.true w.index.ensures w.if-index-granule.false
    ] in
    let room : c.self.inside.used < length c.self.inside.pairs.items = has_room searched lacks (length c.self.inside.pairs.items) (omega (arith, c.requires.room, ap (λ (pairs : Pairs). pairs.room) c.self.view_is)) in
    let long : length c.copy_within.new.self.items ≡ length c.self.inside.pairs.items = search rules in
    (raised_nowhere searched lacks c.copy_within.new.self.items c.copy_within.ensures.items long room).now
