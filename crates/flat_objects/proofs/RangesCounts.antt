-- The counts of a memory that tracks frees, and the words in the slots of an object.
use Rattle.std.proofs.Common.{◌≡◌, ◌<◌, ◌≤◌, ◌+◌, ◌-◌, ◌/◌, inl, inr, ℕ, zero, suc, Bool, true, false, not, List, [], ◌∷◌, ◌++◌, length, get_or, set, refl, ap, ◌∙◌, subst, arith}
use Rattle.std.specs.Prelude.{nat_eq, ◌&&◌}
use Rattle.std.specs.List.{sum_by, count_by}
use Rattle.std.proofs.lemmas.Bool.{and_right, cases_lt, ne_eqb}
use Rattle.std.proofs.lemmas.List.{get_or_default}
use Rattle.std.proofs.lemmas.List.Sums.{sum_by-append, sum_by-cons, sum_by-set, count_by-le-length}
use Rattle.hs_base.specs.declared.values.Pointer.{Pointer}
use Rattle.hs_base.specs.declared.values.Pointer.TheVariants as pointer
use Rattle.hs_base.specs.Access.{with_object}
use Rattle.hs_base.specs.Object.{Object, is_dead, no_object, object_at}
use Rattle.count_table.specs.Table.{Table}
use Rattle.typed_copies.specs.Pointers.{ArePointers, Cover, Follow, HaveRoom, addresses, into_granule, words_at}
use Rattle.flat_objects.specs.Memory.{Memory, IsMemory}
use Rattle.flat_objects.specs.Standing.{IsThere, IsAddressOf}
use Rattle.flat_objects.specs.Keeping.{Keeps}
use Rattle.flat_objects.specs.Counting.{AreCounts, Frees, Tracks, leads_into, living_pointers, pointers_in}
use Rattle.flat_objects.proofs.Blocks.{there_below}
use Rattle.flat_objects.proofs.Changing.{SameShape}
use Rattle.flat_objects.proofs.Counted.{count_is, counts_few, granule_inside, lands_as, leads, leads_as, living_few, pointers_there}
use Rattle.flat_objects.proofs.Owners.{own_inside}
use Rattle.flat_objects.proofs.RangesWords.{Stand, stand_at, stand_long, words_stand}
use Rattle.flat_objects.specs.SumEquations.{sum_flat}
use Rattle.flat_objects.proofs.Tallies.{one_if}

-- Sums over pointers

-- what an item gives is no more than the whole sum
part_of_sum : {X : Type 0} (f : X → ℕ) (xs : List X) (k : ℕ) (d : X) → k < length xs → f (get_or xs k d) ≤ sum_by f xs
part_of_sum f [] k d less = absurd (omega arith)
part_of_sum f (x ∷ xs) zero d less = let one = sum_by-cons f x xs in omega arith
part_of_sum f (x ∷ xs) (suc k) d less = let one = sum_by-cons f x xs in let rest = part_of_sum f xs k d (omega arith) in omega arith

-- 1 for a null pointer
abbrev pub is_null : Pointer → ℕ
is_null p = 1 - one_if (leads p)

one_or_none : (b : Bool) → one_if b ≤ 1
one_or_none true = omega arith
one_or_none false = omega arith

-- each pointer leads to an object or is null
leads_or_not : (ps : List Pointer) → count_by leads ps + sum_by is_null ps ≡ length ps
leads_or_not [] = refl
leads_or_not (p ∷ ps) =
    let one = sum_by-cons (λ p. one_if (leads p)) p ps in
    let two = sum_by-cons is_null p ps in
    let rest = leads_or_not ps in
    omega (arith, one_or_none (leads p))

-- the pointers of an object are among those of all objects that are not dead
pub own_part : (w : Pointer → ℕ) (objects : List Object) (birth : ℕ) → IsThere objects birth → sum_by w (object_at objects birth).pointers ≤ sum_by w (living_pointers objects)
own_part w objects birth there =
    let o = object_at objects birth in
    let all = sum_flat w pointers_in objects in
    let part = part_of_sum (λ (o : Object). sum_by w (pointers_in o)) objects birth no_object (there_below objects birth there) in
    let own : sum_by w (pointers_in o) ≡ sum_by w o.pointers = ap (sum_by w) (pointers_there o there) in
    omega arith

-- where one object has other pointers, they weigh in place of its old ones
pub living_changed : (w : Pointer → ℕ) (objects : List Object) (birth : ℕ) → IsThere objects birth → (new : Object) → SameShape (object_at objects birth) new
    → sum_by w (living_pointers (with_object objects birth new)) + sum_by w (object_at objects birth).pointers ≡ sum_by w (living_pointers objects) + sum_by w new.pointers
living_changed w objects birth there new like =
    let o = object_at objects birth in
    let weigh : Object → ℕ = λ o. sum_by w (pointers_in o) in
    let before = sum_flat w pointers_in objects in
    let after = sum_flat w pointers_in (set objects birth new) in
    let moved = sum_by-set weigh objects birth new no_object (there_below objects birth there) in
    let old : weigh o ≡ sum_by w o.pointers = ap (sum_by w) (pointers_there o there) in
    let now : weigh new ≡ sum_by w new.pointers = ap (sum_by w) (pointers_there new (ap is_dead like.standing ∙ there)) in
    omega arith

-- Words and pointers

module _ (memory : Memory) (places : ℕ → ℕ) (objects : List Object) (keeps : Keeps memory places objects) where
  -- as many words are addresses in a granule as pointers lead into it
  pub into_as : (g : ℕ) (ps : List Pointer) (ws : List ℕ) → Stand places objects ps ws → into_granule g ws ≡ count_by (leads_into places g) ps
  into_as g [] [] s = refl
  into_as g [] (w ∷ ws) s = absurd s
  into_as g (p ∷ ps) [] s = absurd s
  into_as g (p ∷ ps) (w ∷ ws) s =
      let first = ap one_if (lands_as memory places objects keeps p w g s.0) in
      let one = sum_by-cons (λ w. one_if (not (nat_eq w 0) && nat_eq (w / 16) g)) w ws in
      let two = sum_by-cons (λ p. one_if (leads_into places g p)) p ps in
      let rest = into_as g ps ws s.1 in
      omega arith

-- What the words in an object's slots need of the counts

-- no word that lies below a granule is an address in it
into_none : (g : ℕ) (ws : List ℕ) → ((k : ℕ) → k < length ws → get_or ws k 0 / 16 < g) → into_granule g ws ≡ 0
into_none g [] below = refl
into_none g (w ∷ ws) below =
    let first = below 0 (omega arith) in
    let here : one_if (not (nat_eq w 0) && nat_eq (w / 16) g) ≡ 0 = ap one_if (and_right (not (nat_eq w 0)) (nat_eq (w / 16) g) (ne_eqb (w / 16) g (λ e. omega arith))) in
    let one = sum_by-cons (λ w. one_if (not (nat_eq w 0) && nat_eq (w / 16) g)) w ws in
    let rest = into_none g ws (λ k less. below (suc k) (omega arith)) in
    omega arith

module _ (locals heap : ℕ) (memory : Memory) (shape : IsMemory locals heap memory) (places : ℕ → ℕ) (objects : List Object) (keeps : Keeps memory places objects) where
  -- an address of a pointer lies inside the bytes, where there are some
  address_inside : 0 < length memory.bytes → (p : Pointer) (addr : ℕ) → IsAddressOf places objects p addr → addr < length memory.bytes
  address_inside some pointer.Null addr is = omega (arith, is)
  address_inside some (pointer.At birth offset) addr is =
      let inside = own_inside memory places objects keeps birth is.there locals heap shape in
      omega (arith, is.inside, is.address)

  pub are_pointers : (birth : ℕ) → IsThere objects birth → ArePointers memory.bytes memory.counts (words_at memory.bytes (places birth) (object_at objects birth).slots)
  are_pointers birth there =
      let o = object_at objects birth in
      let ws = words_at memory.bytes (places birth) o.slots in
      let own = own_inside memory places objects keeps birth there locals heap shape in
      let stand = words_stand memory places objects keeps birth there in
      record {
        inside = λ k d less.
            subst (λ (w : ℕ). w < length memory.bytes) (get_or_default ws k 0 d less)
            (address_inside (omega arith) (get_or o.pointers k pointer.Null) (get_or ws k 0) (stand_at places objects o.pointers ws stand k less));
        granules = omega (arith, shape.granules);
      }

  module _ (frees : Frees) (tracks : Tracks memory places objects frees) where
    -- as many words are addresses as pointers lead to an object
    addresses_as : (ps : List Pointer) (ws : List ℕ) → Stand places objects ps ws → addresses ws ≡ count_by leads ps
    addresses_as [] [] s = refl
    addresses_as [] (w ∷ ws) s = absurd s
    addresses_as (p ∷ ps) [] s = absurd s
    addresses_as (p ∷ ps) (w ∷ ws) s =
        let first = leads_as locals heap memory shape places objects keeps frees tracks p w s.0 in
        let one = sum_by-cons (λ w. one_if (not (nat_eq w 0))) w ws in
        let two = sum_by-cons (λ p. one_if (leads p)) p ps in
        let rest = addresses_as ps ws s.1 in
        omega arith

  module _ (frees : Frees) (tracks : Tracks memory places objects frees) (birth : ℕ) (there : IsThere objects birth) where
    pub cover : Cover memory.counts (words_at memory.bytes (places birth) (object_at objects birth).slots)
    cover g =
        let o = object_at objects birth in
        let ws = words_at memory.bytes (places birth) o.slots in
        let stand = words_stand memory places objects keeps birth there in
        elim (cases_lt g (length memory.counts.counts)) [
          | inl less ↦
              let same = into_as memory places objects keeps g o.pointers ws stand in
              let count = count_is locals heap memory shape places objects keeps frees tracks g less in
              let part = own_part (λ p. one_if (leads_into places g p)) objects birth there in
              omega arith
          | inr past ↦
              let none = into_none g ws (λ k inside.
              let granule = granule_inside locals heap memory shape places objects keeps frees tracks (get_or o.pointers k pointer.Null) (get_or ws k 0) (stand_at places objects o.pointers ws stand k inside) in
              omega arith) in
              omega arith
        ]

    pub have_room : (new : List ℕ) → length new ≡ length (words_at memory.bytes (places birth) (object_at objects birth).slots) → HaveRoom memory.counts (words_at memory.bytes (places birth) (object_at objects birth).slots) new
    have_room new many =
        let o = object_at objects birth in
        let ws = words_at memory.bytes (places birth) o.slots in
        let stand = words_stand memory places objects keeps birth there in
        let same = addresses_as frees tracks o.pointers ws stand in
        let long = stand_long places objects o.pointers ws stand in
        let come = count_by-le-length (λ w. not (nat_eq w 0)) new in
        let own = own_part is_null objects birth there in
        let all = counts_few places (living_pointers objects ++ frees.pins) memory.counts.counts tracks.counts in
        let split = sum_by-append (λ p. one_if (leads p)) (living_pointers objects) frees.pins in
        let pins = count_by-le-length leads frees.pins in
        omega (arith, tracks.few, shape.room, leads_or_not o.pointers, leads_or_not (living_pointers objects), living_few locals heap memory shape places objects keeps)

    -- Where the words in its slots change, so do the counts

    pub counts_follow : (after : Table) (new : Object) (like : SameShape (object_at objects birth) new) (ws : List ℕ) → Stand places objects new.pointers ws → Follow memory.counts after (words_at memory.bytes (places birth) (object_at objects birth).slots) ws
        → AreCounts places (living_pointers (with_object objects birth new) ++ frees.pins) after.counts
    counts_follow after new like ws stand follow g less =
        let o = object_at objects birth in
        let w : Pointer → ℕ = λ p. one_if (leads_into places g p) in
        let inside : g < length memory.counts.counts = omega (arith, follow.long) in
        let count = count_is locals heap memory shape places objects keeps frees tracks g inside in
        let went = into_as memory places objects keeps g o.pointers (words_at memory.bytes (places birth) o.slots) (words_stand memory places objects keeps birth there) in
        let came = into_as memory places objects keeps g new.pointers ws stand in
        let exact = follow.exact g in
        let moved = living_changed w objects birth there new like in
        let all = sum_by-append w (living_pointers (with_object objects birth new)) frees.pins in
        omega arith
