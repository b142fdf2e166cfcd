-- Lists of slots as they grow.
use Rattle.std.proofs.Common.{◌≡◌, ◌≤◌, ◌<◌, ◌+◌, ◌-◌, ◌*◌, ℕ, suc, zero, List, [], ◌∷◌, ◌++◌, take, drop, length, get_or, refl, ap, sym, subst, ◌∙◌, append-nil, append_assoc, add-zero, arith, length-drop, length-take, take_all}
use Rattle.std.specs.List.{flat_map, range_with_len, All, slice_range}
use Rattle.std.proofs.lemmas.List.{get_or_append_left, map-append, take_more, get_or-take, get_or-drop, drop_all, drop-append-le, take-append-le}
use Rattle.c_types.specs.Layouts.{moved}
use Rattle.c_types.proofs.Sound.{flat_map_none, none_moved, flat_map_push}

-- one more slot of a range
pub copy_more :
    (old items ys : List ℕ) (start place by slot : ℕ) → start ≤ place → place < length old → items ≡ old ++ ys → slot ≡ get_or items place slot →
    ys ≡ moved by (take (place - start) (drop start old)) → items ++ (by + slot) ∷ [] ≡ old ++ moved by (take (place + 1 - start) (drop start old))
copy_more old items ys start place by slot a b is at e =
    let more : place + 1 - start ≡ place - start + 1 = omega arith in
    let within : place - start < length (drop start old) = omega (arith, length-drop start old) in
    let same : start + (place - start) ≡ place = omega arith in
    let there : get_or (drop start old) (place - start) slot ≡ slot =
    get_or-drop start old (place - start) slot
    ∙ (ap (λ i. get_or old i slot) same ∙ (sym (get_or_append_left old ys slot place b) ∙ (ap (λ l. get_or l place slot) (sym is) ∙ sym at))) in
    rw (
      more,
      take_more (drop start old) (place - start) slot within,
      there,
      map-append (λ s. by + s) (take (place - start) (drop start old)) (slot ∷ []),
      ← e,
      is,
      append_assoc old ys ((by + slot) ∷ []),
    )
    refl

pub range_fits :
    (old : List ℕ) (start end place by slot bound : ℕ) → start ≤ place → place < end → end ≤ length old → slot ≡ get_or old place slot →
    All (λ s. s + by < bound) (slice_range old start end) → slot + by < bound
range_fits old start end place by slot bound a b w at all =
    let within : place - start < length (slice_range old start end) =
    omega (arith, length-take (end - start) (drop start old), length-drop start old) in
    let same : start + (place - start) ≡ place = omega arith in
    let there : get_or (slice_range old start end) (place - start) slot ≡ slot =
    get_or-take (end - start) (drop start old) (place - start) slot (omega arith)
    ∙ (get_or-drop start old (place - start) slot ∙ (ap (λ i. get_or old i slot) same ∙ sym at)) in
    let P : ℕ → Type 0 = λ s. s + by < bound in
    subst P there (all (place - start) slot within)

range_more : (a n : ℕ) → range_with_len a (suc n) ≡ range_with_len a n ++ (a + n) ∷ []
range_more a zero = rw add-zero refl
range_more a (suc n) =
    let same : a + 1 + n ≡ a + suc n = omega arith in
    ap (λ l. a ∷ l) (range_more (a + 1) n ∙ ap (λ m. range_with_len (a + 1) n ++ m ∷ []) same)

abbrev pub repeats : ℕ → List ℕ → ℕ → ℕ → List ℕ
repeats size ss a n = flat_map (λ k. moved (k * size) ss) (range_with_len a n)

pub none_repeated : (old : List ℕ) (start size a n : ℕ) → length old ≤ start → old ≡ old ++ repeats size (drop start old) a n
none_repeated old start size a n h =
    sym
    (ap (λ t. old ++ t) (flat_map_none (λ k. moved (k * size) (drop start old)) (range_with_len a n) (λ k. none_moved (k * size) (drop start old) (drop_all start old h)))
    ∙ append-nil old)

last_part : (old ys : List ℕ) (start : ℕ) → start ≤ length old → slice_range (old ++ ys) start (length old) ≡ drop start old
last_part old ys start h =
    rw (drop-append-le start old ys h)
    (let len : length old - start ≡ length (drop start old) = sym (length-drop start old) in
    rw (len, take-append-le (length (drop start old)) (drop start old) ys (omega arith)) (take_all (length (drop start old)) (drop start old) (omega arith)))

repeats_more : (size : ℕ) (ss : List ℕ) (k : ℕ) → 1 ≤ k → repeats size ss 1 (k + 1 - 1) ≡ repeats size ss 1 (k - 1) ++ moved (k * size) ss
repeats_more size ss k one =
    let turns : k + 1 - 1 ≡ suc (k - 1) = omega arith in
    let last : 1 + (k - 1) ≡ k = omega arith in
    ap (λ n. repeats size ss 1 n) turns
    ∙ (ap (λ r. flat_map (λ k. moved (k * size) ss) r) (range_more 1 (k - 1))
    ∙ (flat_map_push (λ k. moved (k * size) ss) (range_with_len 1 (k - 1)) (1 + (k - 1)) ∙ ap (λ m. repeats size ss 1 (k - 1) ++ moved (m * size) ss) last))

pub repeat_more :
    (old items items2 ys : List ℕ) (start end size k : ℕ) → start ≤ length old → end ≡ length old → 1 ≤ k → items ≡ old ++ ys → ys ≡ repeats size (drop start old) 1 (k - 1) →
    items2 ≡ items ++ moved (k * size) (slice_range items start end) → items2 ≡ old ++ repeats size (drop start old) 1 (k + 1 - 1)
repeat_more old items items2 ys start end size k h l one is e more =
    let part : slice_range items start end ≡ drop start old = rw (l, is) (last_part old ys start h) in
    let all : repeats size (drop start old) 1 (k + 1 - 1) ≡ ys ++ moved (k * size) (drop start old) =
    repeats_more size (drop start old) k one ∙ ap (λ t. t ++ moved (k * size) (drop start old)) (sym e) in
    more
    ∙ (ap (λ t. items ++ moved (k * size) t) part
    ∙ (ap (λ t. t ++ moved (k * size) (drop start old)) is
    ∙ (append_assoc old ys (moved (k * size) (drop start old)) ∙ ap (λ t. old ++ t) (sym all))))
