-- First fit by jumps: a block that overlaps a place moves it to the block's end.
use Rattle.std.proofs.Common.{◌≡◌, ◌≤◌, ◌<◌, ◌+◌, ◌-◌, ◌*◌, ◌/◌, ◌%◌, inl, inr, ℕ, zero, suc, Bool, true, false, List, [], ◌∷◌, drop, length, get_or, Some, None, refl, sym, ap, ◌∙◌, arith}
use Rattle.std.specs.Prelude.{nat_le, ◌||◌}
use Rattle.std.specs.List.{list_all}
use Rattle.std.proofs.lemmas.Bool.{and_from, and_left, and_right, or_from, or_left, or_right, le-leb, lt-leb, cond-true, cond-false}
use Rattle.std.proofs.lemmas.List.{drop_more}
use Rattle.hs_base.specs.Place.{Block, block_size, is_free, lowest_free, first_fit}
use Rattle.meaning_state.specs.Fitting.{Held, IsApart, lowest_from}

-- is a block apart from so many bytes at a place?
abbrev pub clears : ℕ → ℕ → Block → Bool
clears place n b = nat_le (place + n) b.place || nat_le (b.place + b.length) place

-- a block that is not, and ends behind a later place, is not apart from as many bytes there
over : (place n p : ℕ) (b : Block) → b.place < place + n → place ≤ p → p < b.place + b.length → clears p n b ≡ false
over place n p b before low high =
    or_from (nat_le (p + n) b.place) (nat_le (b.place + b.length) p) (lt-leb (p + n) b.place (omega arith)) (lt-leb (b.place + b.length) p high)

-- one block that is not is enough
some_over : (held : List Block) (k place n : ℕ) (b : Block) → k < length held → b ≡ get_or held k b → clears place n b ≡ false → list_all (clears place n) held ≡ false
some_over [] k place n b lt is e = absurd (omega arith)
some_over (x ∷ held) zero place n b lt is e =
    and_left (clears place n x) (list_all (clears place n) held) (ap (clears place n) (sym is) ∙ e)
some_over (x ∷ held) (suc k) place n b lt is e =
    and_right (clears place n x) (list_all (clears place n) held) (some_over held k place n b (omega arith) is e)

-- from one block on, and from the next on
pub one_more : (held : List Block) (k place n : ℕ) (b : Block) → k < length held → b ≡ get_or held k b → clears place n b ≡ true → list_all (clears place n) (drop (k + 1) held) ≡ true → list_all (clears place n) (drop k held) ≡ true
one_more held k place n b lt is e rest =
    ap (list_all (clears place n)) (drop_more held k b lt) ∙ and_from (clears place n (get_or held k b)) (list_all (clears place n) (drop (k + 1) held)) (ap (clears place n) (sym is) ∙ e) rest

pub clears_apart : (place n : ℕ) (b : Block) → IsApart place n b → clears place n b ≡ true
clears_apart place n b (inl h) =
    or_left (nat_le (place + n) b.place) (nat_le (b.place + b.length) place) (le-leb (place + n) b.place h)
clears_apart place n b (inr h) =
    or_right (nat_le (place + n) b.place) (nat_le (b.place + b.length) place) (le-leb (b.place + b.length) place h)

module _ (held : List Block) (heap n : ℕ) where
  -- so many places are passed where none of them is free
  passed : (place total k : ℕ) → ((p : ℕ) → place ≤ p → p < place + k * 16 → is_free held heap n p ≡ false) → lowest_free held heap n place total ≡ lowest_free held heap n (place + k * 16) (total - k)
  passed place total zero none =
      let same : place ≡ place + 0 * 16 = omega arith in
      let all : total ≡ total - 0 = omega arith in
      ap (λ p. lowest_free held heap n p total) same ∙ ap (λ t. lowest_free held heap n (place + 0 * 16) t) all
  passed place zero (suc k) none =
      let left : 0 ≡ 0 - suc k = omega arith in
      ap (λ t. lowest_free held heap n (place + suc k * 16) t) left
  passed place (suc total) (suc k) none =
      let there : place + 16 + k * 16 ≡ place + suc k * 16 = omega arith in
      let left : total - k ≡ suc total - suc k = omega arith in
      cond-false (is_free held heap n place) (Some place) (lowest_free held heap n (place + 16) total) (none place (omega arith) (omega arith))
      ∙ passed (place + 16) total k (λ p low high. none p (omega arith) (omega arith))
      ∙ ap (λ p. lowest_free held heap n p (total - k)) there
      ∙ ap (λ t. lowest_free held heap n (place + suc k * 16) t) left

  found : (place total : ℕ) → 0 < total → is_free held heap n place ≡ true → lowest_free held heap n place total ≡ Some place
  found place zero some free = absurd (omega arith)
  found place (suc total) some free =
      cond-true (is_free held heap n place) (Some place) (lowest_free held heap n (place + 16) total) free

  -- no place fits behind one that reaches past the heap
  pub past : (place total : ℕ) → heap < place + n → lowest_free held heap n place total ≡ None
  past place zero h = refl
  past place (suc total) h =
      cond-false (is_free held heap n place) (Some place) (lowest_free held heap n (place + 16) total) (and_left (nat_le (place + n) heap) (list_all (clears place n) held) (lt-leb (place + n) heap h))
      ∙ past (place + 16) total (omega arith)

module _ (h : Held) (n : ℕ) where
  pub first_try : first_fit h.blocks h.heap n ≡ lowest_from h n 0
  first_try =
      let all : h.heap / 16 + 1 ≡ h.heap / 16 + 1 - 0 / 16 = omega arith in ap (λ t. lowest_free h.blocks h.heap n 0 t) all

  -- to the end of a block that overlaps them
  pub jumps : (k place : ℕ) (b : Block) → k < length h.blocks → b ≡ get_or h.blocks k b → place % 16 ≡ 0 → (b.place + b.length) % 16 ≡ 0 → b.place < place + n → place < b.place + b.length → lowest_from h n place ≡ lowest_from h n (b.place + b.length)
  jumps k place b lt is from to before later =
      let end = b.place + b.length in
      let j = end / 16 - place / 16 in
      let there : place + j * 16 ≡ end = omega arith in
      let left : h.heap / 16 + 1 - place / 16 - j ≡ h.heap / 16 + 1 - end / 16 = omega arith in
      passed h.blocks h.heap n place (h.heap / 16 + 1 - place / 16) j (λ p low high. and_right (nat_le (p + n) h.heap) (list_all (clears p n) h.blocks) (some_over h.blocks k p n b lt is (over place n p b before low (omega arith))))
      ∙ ap (λ p. lowest_free h.blocks h.heap n p (h.heap / 16 + 1 - place / 16 - j)) there
      ∙ ap (λ t. lowest_free h.blocks h.heap n end t) left

  pub fits : (place : ℕ) → place + n ≤ h.heap → list_all (clears place n) h.blocks ≡ true → lowest_from h n place ≡ Some place
  fits place within clear =
      found h.blocks h.heap n place (h.heap / 16 + 1 - place / 16) (omega arith) (and_from (nat_le (place + n) h.heap) (list_all (clears place n) h.blocks) (le-leb (place + n) h.heap within) clear)

-- an object that is as large as the heap has no place
pub too_large : (held : List Block) (heap size : ℕ) → heap ≤ size → first_fit held heap (block_size size) ≡ None
too_large held heap size h = past held heap (block_size size) 0 (heap / 16 + 1) (omega arith)
