-- The blocks of objects, one by one.
use Rattle.std.proofs.Common.{◌≡◌, ◌<◌, ◌≤◌, ◌+◌, ◌-◌, ◌∙◌, ℕ, zero, suc, Bool, true, not, List, [], ◌∷◌, length, get_or, sym, ap, subst, arith, zero-add}
use Rattle.std.specs.Prelude.{All, AllPairs, map, filter}
use Rattle.std.specs.List.{enumerate_from}
use Rattle.std.proofs.lemmas.Bool.{cond_both, and_parts, not-true}
use Rattle.std.proofs.lemmas.List.{get_or_default}
use Rattle.std.proofs.lemmas.List.Elements.{All-nil, All-cons, All-map}
use Rattle.std.proofs.lemmas.List.FromFn.{length-enumerate_from, get_or-enumerate_from}
use Rattle.hs_base.specs.Object.{Object, is_dead, no_object, object_at}
use Rattle.hs_base.specs.Place.{Block, block_size}
use Rattle.heap_blocks.specs.Heads.{header_at}
use Rattle.heap_blocks.specs.Held.{HasHeader, HasHeaders, HaveOwnBirths}
use Rattle.flat_objects.specs.Memory.{Memory, Range, heap_of, is_of, range_of}
use Rattle.flat_objects.specs.Standing.{IsThere}
use Rattle.flat_objects.specs.Keeping.{Keeps, block_of, blocks_of, stands_in}
use Rattle.flat_objects.specs.KeptEquations.{all_kept}
use Rattle.flat_objects.specs.MemoryEquations.{range_from}

-- what holds of the block of each object of a range holds of all its blocks
pub all_blocks : (Q : Block → Type 0) (memory : Memory) (places : ℕ → ℕ) (objects : List Object) (range : Range) → ((birth : ℕ) → IsThere objects birth → range_of (object_at objects birth).sort ≡ range → Q (block_of places (heap_of memory range).base (birth, object_at objects birth))) → All Q (blocks_of memory places objects range)
all_blocks Q memory places objects range each =
    let base = (heap_of memory range).base in
    All-map Q (block_of places base) (filter (stands_in range) (enumerate_from 0 objects))
    (all_kept (λ (one : ℕ × Object). Q (block_of places base one)) (stands_in range) (enumerate_from 0 objects)
    (λ k d less passes. let inside : k < length objects = omega (arith, length-enumerate_from 0 objects) in
    let same : get_or (enumerate_from 0 objects) k (0, no_object) ≡ (k, object_at objects k) =
    get_or-enumerate_from 0 objects k (0, no_object) inside ∙ ap (λ (n : ℕ). let pair : ℕ × Object = (n, object_at objects k) in pair) (zero-add k) in
    let here : get_or (enumerate_from 0 objects) k d ≡ (k, object_at objects k) = get_or_default (enumerate_from 0 objects) k d (0, no_object) less ∙ same in
    let stands = subst (λ (one : ℕ × Object). stands_in range one ≡ true) here passes in
    let both = and_parts (is_of range (object_at objects k).sort) (not (is_dead (object_at objects k).standing)) stands in
    subst (λ (one : ℕ × Object). Q (block_of places base one)) (sym here) (each k (not-true (is_dead (object_at objects k).standing) both.1) (range_from range (object_at objects k).sort both.0))))

-- the bytes have the headers of the blocks
pub has_headers : (memory : Memory) (places : ℕ → ℕ) (objects : List Object) (range : Range) → Keeps memory places objects → HasHeaders (heap_of memory range).base memory.bytes (blocks_of memory places objects range)
has_headers memory places objects range keeps =
    all_blocks (HasHeader (heap_of memory range).base memory.bytes) memory places objects range
    (λ birth there own. let old = keeps.standing birth there in
    let base = (heap_of memory range).base in
    let same_base : (heap_of memory (range_of (object_at objects birth).sort)).base ≡ base = ap (λ r. (heap_of memory r).base) own in
    let place : base + (places birth - (base + 32)) ≡ places birth - 32 = omega (arith, old.room) in
    record {
      birth = ap (λ a. (header_at memory.bytes a).birth) place ∙ old.header.born;
      size = ap (λ a. block_size (header_at memory.bytes a).size) place ∙ ap block_size old.header.size;
    })

-- each block has its own birth
above : (places : ℕ → ℕ) (base : ℕ) (p : ℕ × Object → Bool) (n m : ℕ) (objects : List Object) → n ≤ m → All (λ (b : Block). n ≤ b.birth) (map (block_of places base) (filter p (enumerate_from m objects)))
above places base p n m [] less = All-nil (λ (b : Block). n ≤ b.birth)
above places base p n m (o ∷ objects) less =
    let rest = above places base p n (m + 1) objects (omega arith) in
    cond_both (p (m, o)) ((m, o) ∷ filter p (enumerate_from (m + 1) objects)) (filter p (enumerate_from (m + 1) objects)) (λ (l : List (ℕ × Object)). All (λ (b : Block). n ≤ b.birth) (map (block_of places base) l))
    (λ _. All-cons (λ (b : Block). n ≤ b.birth) (block_of places base (m, o)) (map (block_of places base) (filter p (enumerate_from (m + 1) objects))) less rest) (λ _. rest)

pairs_cons : {X : Type 0} (R : X → X → Type 0) (x : X) (xs : List X) → All (R x) xs → AllPairs R xs → AllPairs R (x ∷ xs)
pairs_cons R x xs first rest zero zero d less inside = absurd (omega arith)
pairs_cons R x xs first rest zero (suc j) d less inside = first j d (omega arith)
pairs_cons R x xs first rest (suc i) zero d less inside = absurd (omega arith)
pairs_cons R x xs first rest (suc i) (suc j) d less inside = rest i j d (omega arith) (omega arith)

own_births_from : (places : ℕ → ℕ) (base : ℕ) (p : ℕ × Object → Bool) (n : ℕ) (objects : List Object) → HaveOwnBirths (map (block_of places base) (filter p (enumerate_from n objects)))
own_births_from places base p n [] = λ i j d less inside. absurd (omega arith)
own_births_from places base p n (o ∷ objects) =
    let rest = own_births_from places base p (n + 1) objects in
    let later = above places base p (n + 1) (n + 1) objects (omega arith) in
    cond_both (p (n, o)) ((n, o) ∷ filter p (enumerate_from (n + 1) objects)) (filter p (enumerate_from (n + 1) objects)) (λ (l : List (ℕ × Object)). HaveOwnBirths (map (block_of places base) l))
    (λ _. pairs_cons (λ (a b : Block). a.birth ≡ b.birth → ⊥) (block_of places base (n, o)) (map (block_of places base) (filter p (enumerate_from (n + 1) objects)))
    (λ i d less e. let high = later i d less in omega arith) rest) (λ _. rest)

pub own_births : (memory : Memory) (places : ℕ → ℕ) (objects : List Object) (range : Range) → HaveOwnBirths (blocks_of memory places objects range)
own_births memory places objects range =
    own_births_from places (heap_of memory range).base (stands_in range) 0 objects
