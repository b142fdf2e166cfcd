-- Lines that grow by a register or by a point.
use Rattle.std.proofs.Common.{◌≡◌, ◌↔◌, ◌+◌, ◌++◌, ◌∷◌, ℕ, zero, suc, Bool, true, false, IsTrue, List, [], map, codes, refl, sym, ap, ◌∙◌, add-one, append-nil, append_assoc, arith}
use Rattle.std.specs.List.{filter, flat_map, range_with_len}
use Rattle.std.proofs.lemmas.List.{flat_map_more}
use Rattle.std.proofs.lemmas.List.Elements.{filter-append}
use Rattle.core_tree.specs.declared.statements.Stm.{Stm}
use Rattle.core_tree.specs.Listing.{spaced, register_word}
use Rattle.core_tree.specs.Lives.{IsLive, is_live}
use Rattle.local_liveness.specs.Tables.{LiveByPaths}

-- one number more
pub range_more : (n a : ℕ) → range_with_len a (suc n) ≡ range_with_len a n ++ (a + n) ∷ []
range_more zero a = let e : a ≡ a + 0 = omega arith in ap (λ x. x ∷ []) e
range_more (suc n) a =
    let e : a + 1 + n ≡ a + suc n = omega arith in
    ap (λ xs. a ∷ xs) (range_more n (a + 1) ∙ ap (λ x. range_with_len (a + 1) n ++ x ∷ []) e)

up_to_more : (n : ℕ) → range_with_len 0 (n + 1) ≡ range_with_len 0 n ++ n ∷ []
up_to_more n =
    let e : 0 + n ≡ n = omega arith in
    ap (range_with_len 0) (add-one n) ∙ range_more n 0 ∙ ap (λ x. range_with_len 0 n ++ x ∷ []) e

-- an answer that is yes exactly where a path exists is that of the test
pub same_answer : LiveByPaths → (body : List Stm) (point r : ℕ) (answer : Bool) → (IsTrue answer ↔ IsLive body point r) → answer ≡ is_live body point r
same_answer paths body point r answer exact =
    decided answer (is_live body point r) (λ h. (paths body point r).1 (exact.0 h)) (λ h. exact.1 ((paths body point r).0 h))
  where
    decided : (a b : Bool) → (IsTrue a → IsTrue b) → (IsTrue b → IsTrue a) → a ≡ b
    decided true true f g = refl
    decided true false f g = sym (f refl)
    decided false true f g = g refl
    decided false false f g = refl

-- the registers below a number that are live after a point, each behind a space
abbrev pub words_below : List Stm → ℕ → ℕ → List ℕ
words_below body point n = spaced (map register_word (filter (is_live body point) (range_with_len 0 n)))

chosen : (p : ℕ → Bool) (n : ℕ) → p n ≡ true → filter p (n ∷ []) ≡ n ∷ []
chosen p n e = rw e refl

left_out : (p : ℕ → Bool) (n : ℕ) → p n ≡ false → filter p (n ∷ []) ≡ []
left_out p n e = rw e refl

filter_more : (p : ℕ → Bool) (n : ℕ) → filter p (range_with_len 0 (n + 1)) ≡ filter p (range_with_len 0 n) ++ filter p (n ∷ [])
filter_more p n = ap (filter p) (up_to_more n) ∙ filter-append p (range_with_len 0 n) (n ∷ [])

word_more : (xs : List ℕ) (n : ℕ) → spaced (map register_word (xs ++ n ∷ [])) ≡ spaced (map register_word xs) ++ (codes " " ++ register_word n)
word_more [] n = append-nil (codes " " ++ register_word n)
word_more (x ∷ xs) n =
    ap (λ rest. (codes " " ++ register_word x) ++ rest) (word_more xs n)
    ∙ sym (append_assoc (codes " " ++ register_word x) (spaced (map register_word xs)) (codes " " ++ register_word n))

-- a register that is live is written
pub live_more :
    (body : List Stm) (point n : ℕ) (old before new : List ℕ) → before ≡ old ++ words_below body point n → is_live body point n ≡ true →
    new ≡ before ++ (codes " " ++ register_word n) → new ≡ old ++ words_below body point (n + 1)
live_more body point n old before new so_far live now =
    let all : filter (is_live body point) (range_with_len 0 (n + 1)) ≡ filter (is_live body point) (range_with_len 0 n) ++ n ∷ [] =
    filter_more (is_live body point) n ∙ ap (λ one. filter (is_live body point) (range_with_len 0 n) ++ one) (chosen (is_live body point) n live) in
    now
    ∙ ap (λ t. t ++ (codes " " ++ register_word n)) so_far
    ∙ append_assoc old (words_below body point n) (codes " " ++ register_word n)
    ∙ ap (λ t. old ++ t) (sym (word_more (filter (is_live body point) (range_with_len 0 n)) n))
    ∙ ap (λ xs. old ++ spaced (map register_word xs)) (sym all)

-- another one is not
pub dead_more :
    (body : List Stm) (point n : ℕ) (old before : List ℕ) → before ≡ old ++ words_below body point n → is_live body point n ≡ false →
    before ≡ old ++ words_below body point (n + 1)
dead_more body point n old before so_far dead =
    let all : filter (is_live body point) (range_with_len 0 (n + 1)) ≡ filter (is_live body point) (range_with_len 0 n) =
    filter_more (is_live body point) n
    ∙ ap (λ one. filter (is_live body point) (range_with_len 0 n) ++ one) (left_out (is_live body point) n dead)
    ∙ append-nil (filter (is_live body point) (range_with_len 0 n)) in
    so_far ∙ ap (λ xs. old ++ spaced (map register_word xs)) (sym all)

-- one line more
pub line_more :
    (line : ℕ → List ℕ) (n : ℕ) (old before new : List ℕ) → before ≡ old ++ flat_map line (range_with_len 0 n) → new ≡ before ++ line n →
    new ≡ old ++ flat_map line (range_with_len 0 (n + 1))
line_more line n old before new so_far now =
    now
    ∙ ap (λ t. t ++ line n) so_far
    ∙ flat_map_more line old (range_with_len 0 n) n
    ∙ ap (λ xs. old ++ flat_map line xs) (sym (up_to_more n))
