-- The words in the slots of an object stand for its pointers.
use Rattle.std.proofs.Common.{◌≡◌, ◌<◌, ◌+◌, ℕ, zero, suc, List, [], ◌∷◌, ◌++◌, length, get_or, take, drop, replicate, refl, sym, subst, arith}
use Rattle.hs_base.specs.declared.values.Pointer.{Pointer}
use Rattle.hs_base.specs.declared.values.Pointer.TheVariants as pointer
use Rattle.hs_base.specs.Access.{overlaid}
use Rattle.hs_base.specs.Object.{Object, object_at}
use Rattle.typed_copies.specs.Pointers.{words_at}
use Rattle.typed_copies.specs.PointersEquations.{word_at, words_len}
use Rattle.flat_objects.specs.Memory.{Memory}
use Rattle.flat_objects.specs.Standing.{IsThere, IsAddressOf}
use Rattle.flat_objects.specs.Keeping.{Keeps}

-- each word stands for the pointer at its place
abbrev pub Stand : (ℕ → ℕ) → List Object → List Pointer → List ℕ → Type 0
Stand places objects [] [] = Unit {0}
Stand places objects (p ∷ ps) (w ∷ ws) = IsAddressOf places objects p w × Stand places objects ps ws
Stand places objects _ _ = ⊥

module _ (places : ℕ → ℕ) (objects : List Object) where
  pub stand_long : (ps : List Pointer) (ws : List ℕ) → Stand places objects ps ws → length ws ≡ length ps
  stand_long [] [] s = refl
  stand_long [] (w ∷ ws) s = absurd s
  stand_long (p ∷ ps) [] s = absurd s
  stand_long (p ∷ ps) (w ∷ ws) s = let rest = stand_long ps ws s.1 in omega arith

  pub stand_at : (ps : List Pointer) (ws : List ℕ) → Stand places objects ps ws → (k : ℕ) → k < length ws → IsAddressOf places objects (get_or ps k pointer.Null) (get_or ws k 0)
  stand_at [] [] s k less = absurd (omega arith)
  stand_at [] (w ∷ ws) s k less = absurd s
  stand_at (p ∷ ps) [] s k less = absurd s
  stand_at (p ∷ ps) (w ∷ ws) s zero less = s.0
  stand_at (p ∷ ps) (w ∷ ws) s (suc k) less = stand_at ps ws s.1 k (omega arith)

  pub stand_from : (ps : List Pointer) (ws : List ℕ) → length ws ≡ length ps → ((k : ℕ) → k < length ws → IsAddressOf places objects (get_or ps k pointer.Null) (get_or ws k 0)) → Stand places objects ps ws
  stand_from [] [] long each = tt
  stand_from [] (w ∷ ws) long each = omega arith
  stand_from (p ∷ ps) [] long each = omega arith
  stand_from (p ∷ ps) (w ∷ ws) long each = (each 0 (omega arith), stand_from ps ws (omega arith) (λ k less. each (suc k) (omega arith)))

  -- Parts of both lists

  pub stand_take : (n : ℕ) (ps : List Pointer) (ws : List ℕ) → Stand places objects ps ws → Stand places objects (take n ps) (take n ws)
  stand_take zero ps ws s = tt
  stand_take (suc n) [] [] s = tt
  stand_take (suc n) [] (w ∷ ws) s = absurd s
  stand_take (suc n) (p ∷ ps) [] s = absurd s
  stand_take (suc n) (p ∷ ps) (w ∷ ws) s = (s.0, stand_take n ps ws s.1)

  pub stand_drop : (n : ℕ) (ps : List Pointer) (ws : List ℕ) → Stand places objects ps ws → Stand places objects (drop n ps) (drop n ws)
  stand_drop zero ps ws s = s
  stand_drop (suc n) [] [] s = tt
  stand_drop (suc n) [] (w ∷ ws) s = absurd s
  stand_drop (suc n) (p ∷ ps) [] s = absurd s
  stand_drop (suc n) (p ∷ ps) (w ∷ ws) s = stand_drop n ps ws s.1

  pub stand_append : (ps : List Pointer) (ws : List ℕ) (qs : List Pointer) (vs : List ℕ) → Stand places objects ps ws → Stand places objects qs vs → Stand places objects (ps ++ qs) (ws ++ vs)
  stand_append [] [] qs vs s t = t
  stand_append [] (w ∷ ws) qs vs s t = absurd s
  stand_append (p ∷ ps) [] qs vs s t = absurd s
  stand_append (p ∷ ps) (w ∷ ws) qs vs s t = (s.0, stand_append ps ws qs vs s.1 t)

  pub stand_nulls : (n : ℕ) → Stand places objects (replicate n pointer.Null) (replicate n 0)
  stand_nulls zero = tt
  stand_nulls (suc n) = (refl, stand_nulls n)

  -- others in place of as many
  pub stand_overlaid : (at : ℕ) (ps : List Pointer) (ws : List ℕ) (qs : List Pointer) (vs : List ℕ) → Stand places objects ps ws → Stand places objects qs vs → Stand places objects (overlaid ps at qs) (overlaid ws at vs)
  stand_overlaid at ps ws qs vs s t =
      let rest = stand_drop (at + length qs) ps ws s in
      stand_append (take at ps ++ qs) (take at ws ++ vs) (drop (at + length qs) ps) (drop (at + length vs) ws) (stand_append (take at ps) (take at ws) qs vs (stand_take at ps ws s) t)
      (subst (λ (n : ℕ). Stand places objects (drop (at + length qs) ps) (drop (at + n) ws)) (sym (stand_long qs vs t)) rest)

-- those of an object that is kept
pub words_stand : (memory : Memory) (places : ℕ → ℕ) (objects : List Object) → Keeps memory places objects → (birth : ℕ) → IsThere objects birth
    → Stand places objects (object_at objects birth).pointers (words_at memory.bytes (places birth) (object_at objects birth).slots)
words_stand memory places objects keeps birth there =
    let o = object_at objects birth in
    let old = keeps.standing birth there in
    let words = words_at memory.bytes (places birth) o.slots in
    let long = words_len memory.bytes (places birth) o.slots in
    stand_from places objects o.pointers words (omega (arith, old.many))
    (λ k less. subst (IsAddressOf places objects (get_or o.pointers k pointer.Null)) (sym (word_at memory.bytes (places birth) o.slots k (omega arith))) (old.pointers k (omega arith)))
