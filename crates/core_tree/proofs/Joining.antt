-- Texts that are put together.
use Rattle.std.proofs.Common.{◌≡◌, ◌++◌, ◌+◌, ◌<◌, ℕ, zero, suc, List, [], ◌∷◌, map, take, length, get_or, codes, decimal, ap, sym, ◌∙◌, append-nil, append_assoc, add-one, arith}
use Rattle.std.specs.List.{flat_map, join_with_byte}
use Rattle.core_tree.specs.Listing.{numbered}

-- items with commas between them are the first, and the others each behind a comma
pub joined : (x : ℕ) (xs : List ℕ) → join_with_byte 44 (map decimal (x ∷ xs)) ≡ decimal x ++ flat_map (λ slot. codes "," ++ decimal slot) xs
joined x [] = sym (append-nil (decimal x))
joined x (y ∷ xs) = ap (λ rest. decimal x ++ (44 ∷ rest)) (joined y xs)

-- what is written of one item more
numbered-take :
    {X : Type 0} (write : ℕ → X → List ℕ) (k i j : ℕ) (xs : List X) (d : X) → i < length xs → j ≡ k + i →
    numbered write k (take (suc i) xs) ≡ numbered write k (take i xs) ++ write j (get_or xs i d)
numbered-take write k i j [] d b e = absurd (omega arith)
numbered-take write k zero j (x ∷ xs) d b e =
    let same : j ≡ k = omega arith in
    rw same (append-nil (write k x))
numbered-take write k (suc i) j (x ∷ xs) d b e =
    ap (λ rest. write k x ++ rest) (numbered-take write (k + 1) i j xs d (omega arith) (omega arith))
    ∙ sym (append_assoc (write k x) (numbered write (k + 1) (take i xs)) (write j (get_or xs i d)))

-- a step of a loop that writes items and their numbers
pub numbered_step :
    {X : Type 0} (write : ℕ → X → List ℕ) (place : ℕ) (xs : List X) (x : X) (old before new : List ℕ) → place < length xs →
    x ≡ get_or xs place x → before ≡ old ++ numbered write 0 (take place xs) → new ≡ before ++ write place x →
    new ≡ old ++ numbered write 0 (take (place + 1) xs)
numbered_step write place xs x old before new b is so_far now =
    let more : numbered write 0 (take (suc place) xs) ≡ numbered write 0 (take place xs) ++ write place (get_or xs place x) =
    numbered-take write 0 place place xs x b (omega arith) in
    now
    ∙ ap (λ t. t ++ write place x) so_far
    ∙ append_assoc old (numbered write 0 (take place xs)) (write place x)
    ∙ ap (λ t. old ++ (numbered write 0 (take place xs) ++ write place t)) is
    ∙ ap (λ t. old ++ t) (sym more)
    ∙ ap (λ n. old ++ numbered write 0 (take n xs)) (sym (add-one place))
