-- The marks that blocks give.
use Rattle.std.proofs.Common.{◌≡◌, ◌≤◌, ◌<◌, ◌+◌, ◌/◌, ◌⊎◌, inl, inr, ⊎_elim, ℕ, Bool, true, false, cond, List, [], ◌∷◌, ◌++◌, refl, sym, ap, ◌∙◌, arith}
use Rattle.std.specs.Prelude.{All, nat_le, nat_lt, filter}
use Rattle.std.proofs.lemmas.Bool.{cases_Bool, cases_lt, and_from, and_left, and_right, le-leb, lt-leb, lt-ltb, le-ltb, cond-true, cond-false}
use Rattle.std.proofs.lemmas.List.Elements.{All-nil, All-cons, All-head, All-tail}
use Rattle.hs_base.specs.Place.{Block}
use Rattle.heap_blocks.specs.declared.marks.Mark.TheVariants.{Free, Of}
use Rattle.heap_blocks.specs.Held.{is_in, mark_of, AreApart}

-- a place is none of the block's, and it is one
abbrev pub IsOut : ℕ → Block → Type 0
IsOut place b = (place < b.place) ⊎ (b.place + b.length ≤ place)

pub record IsIn (place : ℕ) (b : Block) : Type 0 where
  pub above : b.place ≤ place
  pub below : place < b.place + b.length

pub in_or_out : (place : ℕ) (b : Block) → IsIn place b ⊎ IsOut place b
in_or_out place b =
    ⊎_elim (λ h. inr (inl h)) (λ h. ⊎_elim (λ k. inl (record { above = h; below = k })) (λ k. inr (inr k)) (cases_lt place (b.place + b.length))) (cases_lt place b.place)

pub in_not_out : {P : Type 0} (place : ℕ) (b : Block) → IsIn place b → IsOut place b → P
in_not_out place b i (inl h) = absurd (omega arith)
in_not_out place b i (inr h) = absurd (omega arith)

-- a place of a block is none of another's
pub out_of_other : (a b : Block) (place : ℕ) → AreApart a b → IsIn place b → IsOut place a
out_of_other a b place (inl h) i = inr (omega (arith, i.above))
out_of_other a b place (inr h) i = inl (omega (arith, i.below))

pub is_in_true : (place : ℕ) (b : Block) → IsIn place b → is_in place b ≡ true
is_in_true place b i =
    and_from (nat_le b.place place) (nat_lt place (b.place + b.length)) (le-leb b.place place i.above) (lt-ltb place (b.place + b.length) i.below)

pub is_in_false : (place : ℕ) (b : Block) → IsOut place b → is_in place b ≡ false
is_in_false place b (inl h) =
    and_left (nat_le b.place place) (nat_lt place (b.place + b.length)) (lt-leb b.place place h)
is_in_false place b (inr h) =
    and_right (nat_le b.place place) (nat_lt place (b.place + b.length)) (le-ltb place (b.place + b.length) h)

-- The mark by the first block

pub mark_out : (b : Block) (held : List Block) (place : ℕ) → IsOut place b → mark_of (b ∷ held) place ≡ mark_of held place
mark_out b held place out =
    cond-false (is_in place b) (Of (b.place / 16)) (mark_of held place) (is_in_false place b out)

pub mark_in : (b : Block) (held : List Block) (place : ℕ) → IsIn place b → mark_of (b ∷ held) place ≡ Of (b.place / 16)
mark_in b held place i =
    cond-true (is_in place b) (Of (b.place / 16)) (mark_of held place) (is_in_true place b i)

used_in : (b : Block) (held : List Block) (place : ℕ) → IsIn place b → mark_of (b ∷ held) place ≡ Free → ⊥
used_in b held place i free =
    let e : Of (b.place / 16) ≡ Free = sym (mark_in b held place i) ∙ free in
    cc

-- Free places

pub free_from_out : (held : List Block) (place : ℕ) → All (IsOut place) held → mark_of held place ≡ Free
free_from_out [] place out = refl
free_from_out (b ∷ held) place out =
    mark_out b held place (All-head (IsOut place) b held out) ∙ free_from_out held place (All-tail (IsOut place) b held out)

pub out_from_free : (held : List Block) (place : ℕ) → mark_of held place ≡ Free → All (IsOut place) held
out_from_free [] place free = All-nil (IsOut place)
out_from_free (b ∷ held) place free =
    elim (in_or_out place b) [
      | inl i ↦ absurd (used_in b held place i free)
      | inr out ↦ All-cons (IsOut place) b held out (out_from_free held place (sym (mark_out b held place out) ∙ free))
    ]

-- Blocks that come and go

pub mark_more : (held : List Block) (b : Block) (place : ℕ) → IsOut place b → mark_of (held ++ b ∷ []) place ≡ mark_of held place
mark_more [] b place out = mark_out b [] place out
mark_more (c ∷ held) b place out =
    ap (cond (is_in place c) (Of (c.place / 16))) (mark_more held b place out)

pub mark_new : (held : List Block) (b : Block) (place : ℕ) → All (IsOut place) held → IsIn place b → mark_of (held ++ b ∷ []) place ≡ Of (b.place / 16)
mark_new [] b place out i = mark_in b [] place i
mark_new (c ∷ held) b place out i =
    mark_out c (held ++ b ∷ []) place (All-head (IsOut place) c held out) ∙ mark_new held b place (All-tail (IsOut place) c held out) i

-- the mark of a place outside all blocks that a filter leaves out
pub mark_kept : (keeps : Block → Bool) (held : List Block) (place : ℕ) → All (λ b. keeps b ≡ false → IsOut place b) held → mark_of (filter keeps held) place ≡ mark_of held place
mark_kept keeps [] place gone = refl
mark_kept keeps (b ∷ held) place gone =
    let rest = mark_kept keeps held place (All-tail (λ b. keeps b ≡ false → IsOut place b) b held gone) in
    elim (cases_Bool (keeps b)) [
      | inl kept ↦ ap (λ l. mark_of l place) (cond-true (keeps b) (b ∷ filter keeps held) (filter keeps held) kept) ∙ ap (cond (is_in place b) (Of (b.place / 16))) rest
      | inr out ↦ ap (λ l. mark_of l place) (cond-false (keeps b) (b ∷ filter keeps held) (filter keeps held) out) ∙ rest ∙ sym (mark_out b held place (All-head (λ b. keeps b ≡ false → IsOut place b) b held gone out))
    ]
