-- The statics of the code of a sound core.
use Rattle.meaning_laws.proofs.Words.Core.{Code, Core, IsFirst, IsSound, IsTarget, Layout, Static, StaticInit, block_size, static_size}
use Rattle.meaning_laws.proofs.Words.Meaning.{IsCompiled, IsStatic, Pins}
use Rattle.meaning_laws.proofs.Words.Std.{All, All-permutation, All-weaker, Contains, IsDistinct-IsPermutation, IsPermutation-map, IsSomeAnd, List, Option, Some, [], ap, arith, length, length-append, map, nat_eq, nat_tests, option_map_or, refl, replicate, same_Some, slice_get, slice_get-get_or, slice_index_or, subst, suc, sum_by, sum_by-cons, sym, unwrap_or, zero, ℕ, ◌++◌, ◌+◌, ◌<◌, ◌∙◌, ◌∷◌, ◌≡◌, ◌≤◌}
use Rattle.core_tree.specs.Sound as cores
use Rattle.meaning_laws.proofs.dangling.Standing.{found as element}
use Rattle.meaning_laws.proofs.soundness.Lists.{all_at}

-- lists whose elements have the same weights have the same sum
same_sums : {X Y : Type 0} (f : X → ℕ) (g : Y → ℕ) (xs : List X) (ys : List Y) → length xs ≡ length ys → ((k : ℕ) (x : X) (y : Y) → slice_get xs k ≡ Some x → slice_get ys k ≡ Some y → f x ≡ g y) → sum_by f xs ≡ sum_by g ys
same_sums f g [] [] e h = refl
same_sums f g [] (y ∷ ys) e h = absurd (omega arith)
same_sums f g (x ∷ xs) [] e h = absurd (omega arith)
same_sums f g (x ∷ xs) (y ∷ ys) e h =
    let first = h 0 x y refl refl in
    let rest = same_sums f g xs ys (omega arith) (λ k a b p q. h (suc k) a b p q) in
    omega (arith, sum_by-cons f x xs, sum_by-cons g y ys, first, rest)

-- a byte that is zero in some bytes is zero without the zeros at their end
trimmed_zero : (bytes : List ℕ) (n k : ℕ) → unwrap_or (slice_get (bytes ++ replicate n 0) k) 0 ≡ 0 → unwrap_or (slice_get bytes k) 0 ≡ 0
trimmed_zero [] n k h = refl
trimmed_zero (b ∷ bytes) n zero h = h
trimmed_zero (b ∷ bytes) n (suc k) h = trimmed_zero bytes n k h

eq_flips : (x y : ℕ) → nat_eq x y ≡ nat_eq y x
eq_flips x y = grind (arith, nat_tests)

module _ (core : Core) {pins : Pins} (code : Code) (sound : IsSound core) (is : IsCompiled core pins code) where
  size_is : (static : Static) (init : StaticInit) → IsStatic code static init → static_size code init ≡ static.layout.size
  size_is static init h = ap (λ (o : Option Layout). option_map_or (λ (l : Layout). l.size) o 0) h.layout

  same_static : (k : ℕ) (static : Static) (init : StaticInit) → slice_get core.statics k ≡ Some static → slice_get code.statics k ≡ Some init → IsStatic code static init
  same_static k static init at_core at_code =
      let there = is.statics k static at_core in
      subst (λ (i : StaticInit). IsStatic code static i) (same_Some there.0 init (sym there.1 ∙ at_code)) there.2

  is_target : (pointer : ℕ × ℕ × ℕ) → cores.IsTarget core pointer → IsTarget code pointer
  is_target pointer h =
      let there = is.statics pointer.1 h.0 h.1 in (there.0, there.1, omega (arith, size_is h.0 there.0 there.2, h.2))

  first_is : (static : Static) (init : StaticInit) → cores.IsStatic core static → IsStatic code static init → IsFirst code init static.layout
  first_is static init kept h =
      let bytes = h.bytes in
      let long = length-append init.bytes (replicate bytes.zeros 0) in
      let same = ap length bytes.same in
      record {
        inside = omega (arith, long, same, kept.inside);
        zeros = All-weaker (λ slot. (k : ℕ) → k < 4 → unwrap_or (slice_get static.start.bytes (slot + k)) 0 ≡ 0) (λ slot. (k : ℕ) → k < 4 → unwrap_or (slice_get init.bytes (slot + k)) 0 ≡ 0)
            (λ slot zero_there k less. trimmed_zero init.bytes bytes.zeros (slot + k) (ap (λ bs. unwrap_or (slice_get bs (slot + k)) 0) (sym bytes.same) ∙ zero_there k less))
            static.layout.slots kept.zeros;
        slots = All-permutation (λ (pointer : ℕ × ℕ × ℕ). Contains static.layout.slots pointer.0) static.start.pointers init.pointers h.same_pointers kept.slots;
        distinct = IsDistinct-IsPermutation nat_eq eq_flips (map (λ (pointer : ℕ × ℕ × ℕ). pointer.0) static.start.pointers) (map (λ (pointer : ℕ × ℕ × ℕ). pointer.0) init.pointers)
            (IsPermutation-map (λ (pointer : ℕ × ℕ × ℕ). pointer.0) static.start.pointers init.pointers h.same_pointers) kept.distinct;
        targets = All-permutation (IsTarget code) static.start.pointers init.pointers h.same_pointers (All-weaker (cores.IsTarget core) (IsTarget code) is_target static.start.pointers kept.targets);
      }

  pub statics_are : All (λ (static : StaticInit). IsSomeAnd (slice_get code.layouts static.layout) (IsFirst code static)) code.statics
  statics_are k d h =
      let at_code = slice_get-get_or code.statics k d h in
      let x = element core.statics k (omega (arith, is.few_statics)) in
      let init = slice_index_or code.statics k d in
      let same = same_static k x.0 init x.1 at_code in
      let kept = all_at (cores.IsStatic core) core.statics k x.0 sound.statics x.1 in
      let first = first_is x.0 init kept same in
      subst (λ (o : Option Layout). IsSomeAnd o (IsFirst code init)) (sym same.layout) first

  pub static_bytes_are : sum_by (λ static. block_size (static_size code static)) code.statics ≤ 67108864
  static_bytes_are =
      let same =
      same_sums (λ (init : StaticInit). block_size (static_size code init)) (λ (static : Static). block_size static.layout.size) code.statics core.statics is.few_statics
      (λ k init static at_code at_core. ap block_size (size_is static init (same_static k static init at_core at_code))) in
      omega (arith, same, sound.static_bytes)
