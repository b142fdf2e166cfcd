-- The first pointers of a static may stand in any order, since their slots differ.
use Rattle.meaning_laws.proofs.Words.Core.{Code, Core, IsSound, Layout, Live, Object, Pointer, Static, StaticInit, overlaid}
use Rattle.meaning_laws.proofs.Words.Meaning.{IsCompiled, IsStatic, IsTrimmed, Pins, first_pointer, layout_in, no_layout}
use Rattle.meaning_laws.proofs.Words.Std.{AllByRecursion, Bool, IsDistinct-head, IsDistinct-tail, IsPermutation, List, Some, [], ap, append_assoc, arith, cond, drop, drop-replicate, enumerate_from, eqb-false, eqb-true, false, get_or_from_slice_get, length, length-append, length-replicate, map, nat_eq, ne_eqb, option_map_or, refl, replicate, replicate-append-replicate, slice_get, slice_get_within, subst, suc, sum_by, sum_by-IsPermutation, sum_by-cons, sym, true, zero, ℕ, ◌++◌, ◌+◌, ◌-◌, ◌∙◌, ◌∷◌, ◌≡◌, ◌≤◌}
use Rattle.std.specs.List.{IsDistinct}
use Rattle.hs_base.specs.Object.{Static as StaticObject}
use Rattle.hs_base.specs.declared.values.Pointer.TheVariants as pointer
use Rattle.core_tree.specs.Sound as core_sound
use Rattle.object_meaning.specs.objects.Making as making
use Rattle.object_meaning.specs.code.CodeMeaning as code_meaning

module _ (slot : ℕ) where
  -- a number where a pointer stands at the slot, and else 0
  abbrev only : (ℕ × ℕ × ℕ → ℕ) → ℕ × ℕ × ℕ → ℕ
  only part p = cond (nat_eq p.0 slot) (part p) 0

  -- the sum of a number over the pointers at the slot
  abbrev at_slot : (ℕ × ℕ × ℕ → ℕ) → List (ℕ × ℕ × ℕ) → ℕ
  at_slot part pointers = sum_by (only part) pointers

  abbrev one : ℕ × ℕ × ℕ → ℕ
  one p = 1

  abbrev birth : ℕ × ℕ × ℕ → ℕ
  birth p = p.1

  abbrev offset : ℕ × ℕ × ℕ → ℕ
  offset p = p.2

  -- the pointer at the slot, where there is one at most, from how many there are and the sums
  abbrev from_sums : ℕ → ℕ → ℕ → Pointer
  from_sums zero b o = pointer.Null
  from_sums (suc n) b o = pointer.At b o

  none_by : (p : ℕ × ℕ × ℕ) (part : ℕ × ℕ × ℕ → ℕ) (is : Bool) (n m : ℕ) → cond is 1 0 + n ≡ 0 → m ≡ 0 → cond is (part p) 0 + m ≡ 0
  none_by p part true n m h e = absurd (omega (arith, h))
  none_by p part false n m h e = omega arith

  rest_none : (is : Bool) (n : ℕ) → cond is 1 0 + n ≡ 0 → n ≡ 0
  rest_none true n h = absurd (omega (arith, h))
  rest_none false n h = omega (arith, h)

  none_at : (part : ℕ × ℕ × ℕ → ℕ) (pointers : List (ℕ × ℕ × ℕ)) → at_slot one pointers ≡ 0 → at_slot part pointers ≡ 0
  none_at part [] h = refl
  none_at part (p ∷ pointers) h =
      let e : cond (nat_eq p.0 slot) 1 0 + at_slot one pointers ≡ 0 = sym (sum_by-cons (only one) p pointers) ∙ h in
      sum_by-cons (only part) p pointers ∙ none_by p part (nat_eq p.0 slot) _ _ e (none_at part pointers (rest_none (nat_eq p.0 slot) _ e))

  first_by : (p : ℕ × ℕ × ℕ) (pointers : List (ℕ × ℕ × ℕ)) (is : Bool) → cond is 1 0 + at_slot one pointers ≤ 1 → first_pointer pointers slot ≡ from_sums (at_slot one pointers) (at_slot birth pointers) (at_slot offset pointers) → cond is (pointer.At p.1 p.2) (first_pointer pointers slot) ≡ from_sums (cond is 1 0 + at_slot one pointers) (cond is p.1 0 + at_slot birth pointers) (cond is p.2 0 + at_slot offset pointers)
  first_by p pointers true le h =
      let n : at_slot one pointers ≡ 0 = omega (arith, le) in
      let b = none_at birth pointers n in
      let o = none_at offset pointers n in
      let c : 1 + at_slot one pointers ≡ 1 = omega arith in
      let d : p.1 + at_slot birth pointers ≡ p.1 = omega arith in
      let f : p.2 + at_slot offset pointers ≡ p.2 = omega arith in
      rw (c, d, f)
  first_by p pointers false le h =
      let c : 0 + at_slot one pointers ≡ at_slot one pointers = omega arith in
      let d : 0 + at_slot birth pointers ≡ at_slot birth pointers = omega arith in
      let f : 0 + at_slot offset pointers ≡ at_slot offset pointers = omega arith in
      rw (c, d, f) h

  at_most : (is : Bool) (n : ℕ) → cond is 1 0 + n ≤ 1 → n ≤ 1
  at_most true n h = omega (arith, h)
  at_most false n h = omega (arith, h)

  first_is : (pointers : List (ℕ × ℕ × ℕ)) → at_slot one pointers ≤ 1 → first_pointer pointers slot ≡ from_sums (at_slot one pointers) (at_slot birth pointers) (at_slot offset pointers)
  first_is [] h = refl
  first_is (p ∷ pointers) h =
      let le : cond (nat_eq p.0 slot) 1 0 + at_slot one pointers ≤ 1 = omega (arith, h, sum_by-cons (only one) p pointers) in
      first_by p pointers (nat_eq p.0 slot) le (first_is pointers (at_most (nat_eq p.0 slot) _ le))
      ∙ ap (λ n. from_sums n (cond (nat_eq p.0 slot) p.1 0 + at_slot birth pointers) (cond (nat_eq p.0 slot) p.2 0 + at_slot offset pointers)) (sym (sum_by-cons (only one) p pointers))
      ∙ ap (λ n. from_sums (at_slot one (p ∷ pointers)) n (cond (nat_eq p.0 slot) p.2 0 + at_slot offset pointers)) (sym (sum_by-cons (only birth) p pointers))
      ∙ ap (λ n. from_sums (at_slot one (p ∷ pointers)) (at_slot birth (p ∷ pointers)) n) (sym (sum_by-cons (only offset) p pointers))

  -- where the slots differ there is one at most
  others_none : (k : ℕ) (pointers : List (ℕ × ℕ × ℕ)) → k ≡ slot → AllByRecursion (λ y. nat_eq k y ≡ false) (map (λ (p : ℕ × ℕ × ℕ). p.0) pointers) → at_slot one pointers ≡ 0
  others_none k [] e h = refl
  others_none k (p ∷ pointers) e h =
      let other : nat_eq p.0 slot ≡ false = ne_eqb p.0 slot (λ i. eqb-false k p.0 h.0 (e ∙ sym i)) in
      sum_by-cons (only one) p pointers ∙ ap (λ b. cond b 1 0 + at_slot one pointers) other ∙ ap (λ n. 0 + n) (others_none k pointers e h.1)

  most_by : (p : ℕ × ℕ × ℕ) (pointers : List (ℕ × ℕ × ℕ)) (is : Bool) → nat_eq p.0 slot ≡ is → AllByRecursion (λ y. nat_eq p.0 y ≡ false) (map (λ (p : ℕ × ℕ × ℕ). p.0) pointers) → at_slot one pointers ≤ 1 → cond is 1 0 + at_slot one pointers ≤ 1
  most_by p pointers true e all h = omega (arith, others_none p.0 pointers (eqb-true p.0 slot e) all)
  most_by p pointers false e all h = omega (arith, h)

  distinct_most : (pointers : List (ℕ × ℕ × ℕ)) → IsDistinct nat_eq (map (λ (p : ℕ × ℕ × ℕ). p.0) pointers) → at_slot one pointers ≤ 1
  distinct_most [] h = omega arith
  distinct_most (p ∷ pointers) h =
      let slots = map (λ (p : ℕ × ℕ × ℕ). p.0) pointers in
      omega (arith, sum_by-cons (only one) p pointers, most_by p pointers (nat_eq p.0 slot) refl (IsDistinct-head nat_eq p.0 slots h) (distinct_most pointers (IsDistinct-tail nat_eq p.0 slots h)))

  pub first_same : (pointers others : List (ℕ × ℕ × ℕ)) → IsPermutation pointers others → IsDistinct nat_eq (map (λ (p : ℕ × ℕ × ℕ). p.0) pointers) → first_pointer others slot ≡ first_pointer pointers slot
  first_same pointers others moved distinct =
      let le = distinct_most pointers distinct in
      let n = sum_by-IsPermutation (only one) pointers others moved in
      let b = sum_by-IsPermutation (only birth) pointers others moved in
      let o = sum_by-IsPermutation (only offset) pointers others moved in
      first_is others (omega (arith, le, n))
      ∙ ap (λ k. from_sums k (at_slot birth others) (at_slot offset others)) n
      ∙ ap (λ k. from_sums (at_slot one pointers) k (at_slot offset others)) b
      ∙ ap (from_sums (at_slot one pointers) (at_slot birth pointers)) o
      ∙ sym (first_is pointers le)

-- The statics of code are those of its core.

-- zeros behind a place are some zeros and those behind a later place
trimmed_behind : (size many short long z : ℕ) → size - short ≡ many + (size - long) → drop short (replicate size z) ≡ replicate many z ++ drop long (replicate size z)
trimmed_behind size many short long z sum =
    drop-replicate short size z
    ∙ ap (λ n. replicate n z) sum
    ∙ sym (replicate-append-replicate many (size - long) z)
    ∙ ap (λ bs. replicate many z ++ bs) (sym (drop-replicate long size z))

-- bytes without the zeros at their end, over zeros
trimmed_same : (size : ℕ) (bytes trimmed : List ℕ) → IsTrimmed bytes trimmed → length bytes ≤ size → overlaid (replicate size 0) 0 trimmed ≡ overlaid (replicate size 0) 0 bytes
trimmed_same size bytes trimmed t le =
    let zeros : List ℕ = replicate t.zeros 0 in
    let whole = trimmed ++ zeros in
    let count : length whole ≡ length trimmed + t.zeros = length-append trimmed zeros ∙ ap (λ n. length trimmed + n) (length-replicate t.zeros 0) in
    let long = ap (λ (bs : List ℕ). length bs) t.same in
    let sum : size - (0 + length trimmed) ≡ t.zeros + (size - (0 + length whole)) = omega (arith, le, long, count) in
    let behind : drop (0 + length trimmed) (replicate size 0) ≡ zeros ++ drop (0 + length whole) (replicate size 0) = trimmed_behind size t.zeros (0 + length trimmed) (0 + length whole) 0 sum in
    ap (λ bs. trimmed ++ bs) behind
    ∙ sym (append_assoc trimmed zeros (drop (0 + length whole) (replicate size 0)))
    ∙ ap (λ bs. overlaid (replicate size 0) 0 bs) (sym t.same)

map_same : {A B : Type 0} (f g : A → B) (xs : List A) → ((x : A) → f x ≡ g x) → map f xs ≡ map g xs
map_same f g [] h = refl
map_same f g (x ∷ xs) h = ap (λ y. y ∷ map f xs) (h x) ∙ ap (λ ys. g x ∷ ys) (map_same f g xs h)

module _ (code : Code) where
  static_same : (core : Core) (k : ℕ) (static : Static) (init : StaticInit) → core_sound.IsStatic core static → IsStatic code static init → code_meaning.static_object code (k, init) ≡ making.static_object (k, static)
  static_same core k static init sound compiled =
      let made : Layout → List ℕ → List Pointer → Object = λ layout bytes pointers. record { sort = StaticObject k; size = layout.size; slots = layout.slots; bytes = bytes; pointers = pointers; standing = Live } in
      let layout : layout_in code init.layout ≡ static.layout = ap (λ o. option_map_or (λ (l : Layout). l) o no_layout) compiled.layout in
      let bytes = trimmed_same static.layout.size static.start.bytes init.bytes compiled.bytes sound.inside in
      let pointers = map_same (first_pointer init.pointers) (first_pointer static.start.pointers) static.layout.slots (λ slot. first_same slot static.start.pointers init.pointers compiled.same_pointers sound.distinct) in
      ap (λ (l : Layout). made l (overlaid (replicate l.size 0) 0 init.bytes) (map (first_pointer init.pointers) l.slots)) layout
      ∙ ap (λ bs. made static.layout bs (map (first_pointer init.pointers) static.layout.slots)) bytes
      ∙ ap (made static.layout (overlaid (replicate static.layout.size 0) 0 static.start.bytes)) pointers

  -- the statics of two lists are the same, one by one
  abbrev Matches : List Static → List StaticInit → Type 0
  Matches statics inits =
      (k n : ℕ) (static : Static) → slice_get statics k ≡ Some static → (init : StaticInit) × (slice_get inits k ≡ Some init) × (code_meaning.static_object code (n, init) ≡ making.static_object (n, static))

  all_same : (statics : List Static) (inits : List StaticInit) (n : ℕ) → length inits ≡ length statics → Matches statics inits → map (code_meaning.static_object code) (enumerate_from n inits) ≡ map making.static_object (enumerate_from n statics)
  all_same [] [] n e h = refl
  all_same [] (init ∷ inits) n e h = absurd (omega (arith, e))
  all_same (static ∷ statics) [] n e h = absurd (omega (arith, e))
  all_same (static ∷ statics) (init ∷ inits) n e h =
      let first = h 0 n static refl in
      let here : init ≡ first.0 = cc (first.1) in
      ap (λ i. code_meaning.static_object code (n, i) ∷ map (code_meaning.static_object code) (enumerate_from (n + 1) inits)) here
      ∙ ap (λ o. o ∷ map (code_meaning.static_object code) (enumerate_from (n + 1) inits)) first.2
      ∙ ap (λ os. making.static_object (n, static) ∷ os) (all_same statics inits (n + 1) (omega (arith, e)) (λ k. h (suc k)))

  pub statics_same : (core : Core) (pins : Pins) → IsSound core → IsCompiled core pins code → code_meaning.static_objects code ≡ making.static_objects core.statics
  statics_same core pins sound compiled =
      all_same core.statics code.statics 0 compiled.few_statics (λ k n static at. let init = compiled.statics k static at in
      let lt = slice_get_within core.statics k static at in
      let is = subst (core_sound.IsStatic core) (get_or_from_slice_get core.statics k static static at) (sound.statics k static lt) in
      (init.0, init.1, static_same core n static init.0 is init.2))
