-- The first pointers of statics.
use Rattle.std.proofs.Common.{◌≡◌, ◌≢◌, ◌<◌, ◌≤◌, ◌+◌, ◌^◌, ℕ, List, [], ◌∷◌, ◌++◌, inl, inr, cond, length, get_or, set, take, sym, ap, ◌∙◌, refl, subst, arith, length-take}
use Rattle.std.specs.Prelude.{All, AllPairs, Contains, map, nat_eq, slice_index}
use Rattle.std.proofs.lemmas.Bool.{cases_eq, cases_order, cond-true, cond-false, eq-eqb, ne_eqb}
use Rattle.std.proofs.lemmas.List.{ext_get_or, get_or-map, length-map, get_or-set_same, get_or-set_other, set-set, set-get_or, get_or_default, take_more, get_or-take}
use Rattle.std.proofs.lemmas.List.Elements.{All-head, All-tail}
use Rattle.std.proofs.Math.ListN.{length-set}
use Rattle.hs_base.specs.declared.values.Pointer.TheVariants as pointer
use Rattle.hs_base.specs.Access.{with_object, with_pointer, slots_below}
use Rattle.byte_memory.specs.Bytes.{word, put_word}
use Rattle.hs_base.specs.Object.{Object, Standing, is_dead, no_object, object_at}
use Rattle.object_meaning.specs.objects.Making.{first_pointer}
use Rattle.flat_objects.specs.Memory.{Memory, IsMemory}
use Rattle.flat_objects.specs.Standing.{IsAddressOf}
use Rattle.flat_objects.specs.Answering.{IsChanged}
use Rattle.flat_objects.specs.Counting.{Frees, Tracks, one_less, one_more}
use Rattle.flat_objects.specs.Starting.{HasSlotFor, IsFirstTarget, TakesPointers, with_first_pointers}
use Rattle.flat_objects.proofs.Ascending.{Ascend, below_slot, slot_ends, slots_apart}
use Rattle.flat_objects.proofs.Changing.{SameShape, with_bytes, at_same, shapes}
use Rattle.flat_objects.proofs.Counted.{MayPut, put_memory, with_counts}
use Rattle.flat_objects.proofs.Owners.{own_inside}
use Rattle.flat_objects.proofs.Reached.{are_slots}
use Rattle.flat_objects.proofs.Stored.{put_changed, put_requires, put_tracked}

-- One slot

module _ (locals heap : ℕ) (memory : Memory) (shape : IsMemory locals heap memory) (places : ℕ → ℕ) (objects : List Object) (birth start slot target target_start offset : ℕ) (has : HasSlotFor memory places objects birth start slot target target_start offset) where
  pub slot_room : start + slot + 4 ≤ length memory.bytes
  slot_room =
      let o = object_at objects birth in
      let old = has.keeps.standing birth has.there in
      let ends = slot_ends 0 o.size o.slots slot (are_slots locals heap memory _ o shape old.slots) has.held in
      let inside = own_inside memory places objects has.keeps birth has.there locals heap shape in
      omega (arith, has.starts)

  pub target_small : target_start + offset < 2 ^ 32
  target_small =
      let inside = own_inside memory places objects has.keeps target has.target_there locals heap shape in
      omega (arith, has.target_starts, has.inside, shape.reach)

  abbrev number : ℕ
  number = has.held.0

  slot_is : slice_index (object_at objects birth).slots number ≡ slot
  slot_is = get_or_default (object_at objects birth).slots number 0 slot has.held.1 ∙ has.held.2

  own_start : start + slot ≡ places birth + slot
  own_start = ap (λ s. s + slot) has.starts

  stands_for : IsAddressOf places objects (pointer.At target offset) (target_start + offset)
  stands_for = record { there = has.target_there; inside = has.inside; address = ap (λ s. s + offset) has.target_starts }

  pub slot_requires : (frees : Frees) → Tracks memory places objects frees → MayPut memory.counts (word memory.bytes (start + slot) 4) (target_start + offset)
  slot_requires frees tracks =
      let inside = own_inside memory places objects has.keeps birth has.there locals heap shape in
      put_requires locals heap memory shape places objects has.keeps birth has.there slot number (pointer.At target offset) (target_start + offset) inside has.held.1 slot_is target_small stands_for
      (word memory.bytes (start + slot) 4) (ap (λ a. word memory.bytes a 4) own_start) frees tracks

  with_number : with_pointer (object_at objects birth) slot (pointer.At target offset) ≡ record (object_at objects birth) { pointers = set (object_at objects birth).pointers number (pointer.At target offset) }
  with_number =
      let o = object_at objects birth in
      let old = has.keeps.standing birth has.there in
      let number_is : length (slots_below o.slots slot) ≡ number =
      ap (λ s. length (slots_below o.slots s)) (sym has.held.2) ∙ below_slot 0 o.size o.slots number slot (are_slots locals heap memory _ o shape old.slots) has.held.1 in
      ap (λ n. let x : Object = record o { pointers = set o.pointers n (pointer.At target offset) } in x) number_is

  pub slot_set : IsChanged (put_memory memory (start + slot) (target_start + offset)) places objects (with_object objects birth (with_pointer (object_at objects birth) slot (pointer.At target offset)))
  slot_set =
      let inside = own_inside memory places objects has.keeps birth has.there locals heap shape in
      let old = word memory.bytes (start + slot) 4 in
      let change = put_changed locals heap memory shape places objects has.keeps birth has.there slot number (pointer.At target offset) (target_start + offset) inside has.held.1 slot_is target_small stands_for
      old (ap (λ a. word memory.bytes a 4) own_start) in
      subst (λ (a : ℕ). IsChanged (with_counts (with_bytes memory (put_word memory.bytes a 4 (target_start + offset))) (one_more (one_less memory.counts old) (target_start + offset))) places objects (with_object objects birth (with_pointer (object_at objects birth) slot (pointer.At target offset)))) (sym own_start)
      (subst (λ (x : Object). IsChanged (with_counts (with_bytes memory (put_word memory.bytes (places birth + slot) 4 (target_start + offset))) (one_more (one_less memory.counts old) (target_start + offset))) places objects (with_object objects birth x)) (sym with_number) change)

  pub slot_tracked : (frees : Frees) → Tracks memory places objects frees → Tracks (put_memory memory (start + slot) (target_start + offset)) places (with_object objects birth (with_pointer (object_at objects birth) slot (pointer.At target offset))) frees
  slot_tracked frees tracks =
      let inside = own_inside memory places objects has.keeps birth has.there locals heap shape in
      let old = word memory.bytes (start + slot) 4 in
      let tracked = put_tracked locals heap memory shape places objects has.keeps birth has.there slot number (pointer.At target offset) (target_start + offset) inside has.held.1 slot_is target_small stands_for
      old (ap (λ a. word memory.bytes a 4) own_start) frees tracks in
      subst (λ (a : ℕ). Tracks (with_counts (with_bytes memory (put_word memory.bytes a 4 (target_start + offset))) (one_more (one_less memory.counts old) (target_start + offset))) places (with_object objects birth (with_pointer (object_at objects birth) slot (pointer.At target offset))) frees) (sym own_start)
      (subst (λ (x : Object). Tracks (with_counts (with_bytes memory (put_word memory.bytes (places birth + slot) 4 (target_start + offset))) (one_more (one_less memory.counts old) (target_start + offset))) places (with_object objects birth x) frees) (sym with_number) tracked)

-- One pointer more in the list

abbrev First : Type 0
First = ℕ × ℕ × ℕ

other_first : (xs : List First) (p : First) (s : ℕ) → (p.0 ≡ s → ⊥) → first_pointer (xs ++ p ∷ []) s ≡ first_pointer xs s
other_first [] p s differ = cond-false (nat_eq p.0 s) (pointer.At p.1 p.2) pointer.Null (ne_eqb p.0 s differ)
other_first (x ∷ xs) p s differ = ap (λ r. cond (nat_eq x.0 s) (pointer.At x.1 x.2) r) (other_first xs p s differ)

own_first : (xs : List First) (p : First) → All (λ x. x.0 ≢ p.0) xs → first_pointer (xs ++ p ∷ []) p.0 ≡ pointer.At p.1 p.2
own_first [] p none = cond-true (nat_eq p.0 p.0) (pointer.At p.1 p.2) pointer.Null (eq-eqb p.0 p.0 refl)
own_first (x ∷ xs) p none =
    cond-false (nat_eq x.0 p.0) (pointer.At x.1 x.2) (first_pointer (xs ++ p ∷ []) p.0) (ne_eqb x.0 p.0 (All-head (λ y. y.0 ≢ p.0) x xs none))
    ∙ own_first xs p (All-tail (λ y. y.0 ≢ p.0) x xs none)

different_slots : (high : ℕ) (slots : List ℕ) (i k : ℕ) → Ascend 0 high slots → i < length slots → k < length slots → (i ≡ k → ⊥) → slice_index slots i ≡ slice_index slots k → ⊥
different_slots high slots i k ascend i_in k_in differ same =
    elim (cases_order i k) [
      | inl e ↦ differ e
      | inr (inl h) ↦ let apart = slots_apart 0 high slots i k 0 ascend h k_in in omega arith
      | inr (inr h) ↦ let apart = slots_apart 0 high slots k i 0 ascend h i_in in omega arith
    ]

pointers_more : (high : ℕ) (slots : List ℕ) (xs : List First) (p : First) (k : ℕ) → Ascend 0 high slots → k < length slots → slice_index slots k ≡ p.0 → All (λ x. x.0 ≢ p.0) xs
    → set (map (first_pointer xs) slots) k (pointer.At p.1 p.2) ≡ map (first_pointer (xs ++ p ∷ [])) slots
pointers_more high slots xs p k ascend below slot_is none =
    let old = map (first_pointer xs) slots in
    let new = map (first_pointer (xs ++ p ∷ [])) slots in
    let old_long = length-map slots (first_pointer xs) in
    let new_long = length-map slots (first_pointer (xs ++ p ∷ [])) in
    ext_get_or pointer.Null (set old k (pointer.At p.1 p.2)) new (length-set old k (pointer.At p.1 p.2) ∙ old_long ∙ sym new_long)
    (λ i less. let inside : i < length slots = omega (arith, length-set old k (pointer.At p.1 p.2)) in
    let here : get_or new i pointer.Null ≡ first_pointer (xs ++ p ∷ []) (slice_index slots i) = get_or-map (first_pointer (xs ++ p ∷ [])) slots i 0 pointer.Null inside in
    elim (cases_eq i k) [
      | inl e ↦
          let place : slice_index slots i ≡ p.0 = ap (slice_index slots) e ∙ slot_is in
          ap (λ j. get_or (set old k (pointer.At p.1 p.2)) j pointer.Null) e ∙ get_or-set_same old k (pointer.At p.1 p.2) pointer.Null (omega arith)
          ∙ sym (own_first xs p none) ∙ ap (first_pointer (xs ++ p ∷ [])) (sym place) ∙ sym here
      | inr differ ↦
          let apart : p.0 ≡ slice_index slots i → ⊥ = λ e. different_slots high slots i k ascend inside below differ (sym e ∙ sym slot_is) in
          get_or-set_other old k i (pointer.At p.1 p.2) pointer.Null differ ∙ get_or-map (first_pointer xs) slots i 0 pointer.Null inside ∙ sym (other_first xs p (slice_index slots i) apart) ∙ sym here
    ])

-- All first pointers

pub earlier_differ : (ps : List First) (j : ℕ) (d : First) → AllPairs (λ a b. a.0 ≢ b.0) ps → j < length ps → All (λ x. x.0 ≢ (get_or ps j d).0) (take j ps)
earlier_differ ps j d distinct less = λ i e below.
    let inside : i < j = omega (arith, length-take j ps) in
    let same : get_or (take j ps) i e ≡ get_or ps i d = get_or-take j ps i e inside ∙ get_or_default ps i e d (omega arith) in
    subst (λ (x : First). x.0 ≢ (get_or ps j d).0) (sym same) (distinct i j d inside less)

module _ (places : ℕ → ℕ) (objects : List Object) (birth addr : ℕ) (pointers : List First) (starts : List ℕ) where
  abbrev pub after_first : ℕ → List Object
  after_first n = with_object objects birth (with_first_pointers (object_at objects birth) (take n pointers))

  first_none : (memory : Memory) → TakesPointers memory places objects birth addr pointers starts → objects ≡ after_first 0
  first_none memory takes =
      let o = object_at objects birth in
      let old = takes.keeps.standing birth takes.there in
      let none : o.pointers ≡ map (first_pointer []) o.slots =
      ext_get_or pointer.Null o.pointers (map (first_pointer []) o.slots) (old.many ∙ sym (length-map o.slots (first_pointer [])))
      (λ i less. takes.null i pointer.Null less ∙ sym (get_or-map (first_pointer []) o.slots i 0 pointer.Null (omega (arith, old.many)))) in
      sym (set-get_or objects birth no_object) ∙ ap (λ ps. with_object objects birth (record o { pointers = ps })) none

  pub pointers_none : (memory : Memory) → TakesPointers memory places objects birth addr pointers starts → IsChanged memory places objects (after_first 0)
  pointers_none memory takes =
      subst (IsChanged memory places objects) (first_none memory takes) (record { keeps = takes.keeps; many = refl; blocks = λ any range. refl; stand = λ p a h. h })

  pub pointers_none_tracked : (memory : Memory) → TakesPointers memory places objects birth addr pointers starts → (frees : Frees) → Tracks memory places objects frees → Tracks memory places (after_first 0) frees
  pointers_none_tracked memory takes frees tracks = subst (λ (os : List Object). Tracks memory places os frees) (first_none memory takes) tracks

  like_first : (n : ℕ) → SameShape (object_at objects birth) (with_first_pointers (object_at objects birth) (take n pointers))
  like_first n = record { sort = refl; size = refl; slots = refl; standing = refl }

  module _ (before memory next : Memory) (takes : TakesPointers before places objects birth addr pointers starts) (j : ℕ) (p : First) (less : j < length pointers) (p_is : p ≡ get_or pointers j p) (so_far : IsChanged memory places objects (after_first j)) where
    pub slot_for : HasSlotFor memory places (after_first j) birth addr p.0 p.1 (slice_index starts p.1) p.2
    slot_for =
        let target : IsFirstTarget places objects starts p = subst (IsFirstTarget places objects starts) (sym p_is) (takes.targets j p less) in
        let held : Contains (object_at objects birth).slots p.0 = subst (λ (q : First). Contains (object_at objects birth).slots q.0) (sym p_is) (takes.slots j p less) in
        let here = at_same objects birth takes.there (with_first_pointers (object_at objects birth) (take j pointers)) in
        let like = shapes objects birth takes.there (with_first_pointers (object_at objects birth) (take j pointers)) (like_first j) in
        record {
          keeps = so_far.keeps;
          there = ap (λ (s : Standing). is_dead s) (like birth).standing ∙ takes.there;
          starts = takes.address;
          held = subst (λ (o : Object). Contains o.slots p.0) (sym here) held;
          target_there = ap (λ (s : Standing). is_dead s) (like p.1).standing ∙ target.there;
          target_starts = target.start;
          inside = omega (arith, target.inside, (like p.1).size);
        }

    next_first : (high : ℕ) → Ascend 0 high (object_at objects birth).slots → with_object (after_first j) birth (with_pointer (object_at (after_first j) birth) p.0 (pointer.At p.1 p.2)) ≡ after_first (j + 1)
    next_first high ascend =
        let o = object_at objects birth in
        let held : Contains o.slots p.0 = subst (λ (q : First). Contains o.slots q.0) (sym p_is) (takes.slots j p less) in
        let k = held.0 in
        let slot_is : slice_index o.slots k ≡ p.0 = get_or_default o.slots k 0 p.0 held.1 ∙ held.2 in
        let number_is : length (slots_below o.slots p.0) ≡ k = ap (λ s. length (slots_below o.slots s)) (sym held.2) ∙ below_slot 0 high o.slots k p.0 ascend held.1 in
        let none : All (λ x. x.0 ≢ p.0) (take j pointers) = subst (λ (q : First). All (λ x. x.0 ≢ q.0) (take j pointers)) (sym p_is) (earlier_differ pointers j p takes.distinct less) in
        let list : take j pointers ++ p ∷ [] ≡ take (j + 1) pointers = ap (λ (q : First). take j pointers ++ q ∷ []) p_is ∙ sym (take_more pointers j p less) in
        let here = at_same objects birth takes.there (with_first_pointers o (take j pointers)) in
        let object : with_pointer (object_at (after_first j) birth) p.0 (pointer.At p.1 p.2) ≡ with_first_pointers o (take (j + 1) pointers) =
        ap (λ (x : Object). with_pointer x p.0 (pointer.At p.1 p.2)) here
        ∙ ap (λ n. let x : Object = record o { pointers = set (map (first_pointer (take j pointers)) o.slots) n (pointer.At p.1 p.2) } in x) number_is
        ∙ ap (λ ps. let x : Object = record o { pointers = ps } in x) (pointers_more high o.slots (take j pointers) p k ascend held.1 slot_is none)
        ∙ ap (with_first_pointers o) list in
        ap (with_object (after_first j) birth) object ∙ set-set objects birth (with_first_pointers o (take j pointers)) (with_first_pointers o (take (j + 1) pointers))

    pub pointers_next : (high : ℕ) → Ascend 0 high (object_at objects birth).slots → IsChanged next places (after_first j) (with_object (after_first j) birth (with_pointer (object_at (after_first j) birth) p.0 (pointer.At p.1 p.2))) → IsChanged next places objects (after_first (j + 1))
    pointers_next high ascend change =
        let told = subst (IsChanged next places (after_first j)) (next_first high ascend) change in
        record { keeps = told.keeps; many = told.many ∙ so_far.many; blocks = λ any range. told.blocks any range ∙ so_far.blocks any range; stand = λ q a h. told.stand q a (so_far.stand q a h) }

    pub pointers_next_tracked : (high : ℕ) → Ascend 0 high (object_at objects birth).slots → (frees : Frees) → Tracks next places (with_object (after_first j) birth (with_pointer (object_at (after_first j) birth) p.0 (pointer.At p.1 p.2))) frees → Tracks next places (after_first (j + 1)) frees
    pointers_next_tracked high ascend frees tracks = subst (λ (os : List Object). Tracks next places os frees) (next_first high ascend) tracks
