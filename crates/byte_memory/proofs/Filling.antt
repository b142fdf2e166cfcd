-- Lists of which the last items are all one and not there yet, and bytes among them.
use Rattle.std.proofs.Common.{◌≡◌, ◌≤◌, ◌<◌, ◌+◌, ◌-◌, ◌*◌, ◌^◌, ◌∙◌, ℕ, zero, suc, List, ◌++◌, ◌⊎◌, inl, inr, length, length-append, length-drop, get_or, take, drop, replicate, refl, sym, ap, subst, append_assoc, arith}
use Rattle.std.proofs.Math.Nat.{pow-suc}
use Rattle.std.proofs.lemmas.List.{drop-append-le, take-append-le, get_or_append_left, get_or-append_right, get_or-replicate, length-replicate, replicate-append-replicate}
use Rattle.hs_base.specs.Access.{bytes_of, little_endian}
use Rattle.byte_memory.specs.Bytes.{part, word, put_word}
use Rattle.byte_memory.specs.Filled.{filled_up}
use Rattle.byte_memory.specs.BytesEquations.{length-put_word, put_word_is, word_more, word_none}

-- a word among those that are there
pub word_first : (first : List ℕ) (size addr width : ℕ) → addr + width ≤ length first → word (filled_up first size 0) addr width ≡ word first addr width
unfolding filled_up word part
word_first first size addr width inside =
    let rest = replicate (size - length first) 0 in
    ap (λ l. little_endian (take width l)) (drop-append-le addr first rest (omega arith))
    ∙ ap little_endian (take-append-le width (drop addr first) rest (omega (arith, length-drop addr first)))

-- a byte, where the last ones are 0
pub byte_first : (first : List ℕ) (more at : ℕ) → at < length first → get_or first at 0 ≡ get_or (first ++ replicate more 0) at 0
byte_first first more at inside = sym (get_or_append_left first (replicate more 0) 0 at inside)

pub byte_past : (first : List ℕ) (more at : ℕ) → length first ≤ at → at < length first + more → 0 ≡ get_or (first ++ replicate more 0) at 0
byte_past first more at past inside =
    sym (get_or-append_right first (replicate more 0) (length first) at 0 refl past ∙ get_or-replicate more (at - length first) 0 0 (omega arith))

-- a word, from its lowest byte and the others
pub word_step : (first : List ℕ) (more at width low high : ℕ) → 0 < width → at + width ≤ length first + more → low ≡ get_or (first ++ replicate more 0) at 0 → high ≡ word (first ++ replicate more 0) (at + 1) (width - 1) → low + 256 * high ≡ word (first ++ replicate more 0) at width
word_step first more at width low high some inside is_low is_high =
    let all = first ++ replicate more 0 in
    let n = width - 1 in
    let next : suc n ≡ width = omega arith in
    let step = word_more all at (at + 1) n refl (omega (arith, length-append first (replicate more 0), length-replicate {A = ℕ} more 0)) in
    let sum : low + 256 * high ≡ word all at (suc n) = omega arith in
    sum ∙ ap (word all at) next

pub word_empty : (bytes : List ℕ) (at width : ℕ) → width ≡ 0 → 0 ≡ word bytes at width
word_empty bytes at width none = sym (word_none bytes at) ∙ ap (word bytes at) (sym none)

pub step_bound : (width low high : ℕ) → 0 < width → low < 256 → high < 256 ^ (width - 1) → low + 256 * high < 256 ^ width
step_bound zero low high some small large = absurd (omega arith)
step_bound (suc n) low high some small large =
    let same : suc n - 1 ≡ n = omega arith in
    let high_small : high < 256 ^ n = subst (λ m. high < 256 ^ m) same large in
    omega (arith, pow-suc 256 n)

pub empty_bound : (width : ℕ) → width ≡ 0 → 0 < 256 ^ width
empty_bound width none = subst (λ w. 0 < 256 ^ w) (sym none) (omega arith)

-- eight bytes are enough
pub eight_bytes : (width : ℕ) → width ≤ 8 → 256 ^ width ≤ 2 ^ 64
eight_bytes zero less = omega arith
eight_bytes (suc zero) less = omega arith
eight_bytes (suc (suc zero)) less = omega arith
eight_bytes (suc (suc (suc zero))) less = omega arith
eight_bytes (suc (suc (suc (suc zero)))) less = omega arith
eight_bytes (suc (suc (suc (suc (suc zero))))) less = omega arith
eight_bytes (suc (suc (suc (suc (suc (suc zero)))))) less = omega arith
eight_bytes (suc (suc (suc (suc (suc (suc (suc zero))))))) less = omega arith
eight_bytes (suc (suc (suc (suc (suc (suc (suc (suc zero)))))))) less = omega arith
eight_bytes (suc (suc (suc (suc (suc (suc (suc (suc (suc n))))))))) less = absurd (omega arith)

pub in_bits : (width n : ℕ) → (width ≡ 1) ⊎ ((width ≡ 2) ⊎ ((width ≡ 4) ⊎ (width ≡ 8))) → n < 256 ^ width → n < 2 ^ (8 * width)
in_bits width n (inl e) small = let at : n < 256 ^ 1 = subst (λ w. n < 256 ^ w) e small in subst (λ w. n < 2 ^ (8 * w)) (sym e) at
in_bits width n (inr (inl e)) small = let at : n < 256 ^ 2 = subst (λ w. n < 256 ^ w) e small in subst (λ w. n < 2 ^ (8 * w)) (sym e) at
in_bits width n (inr (inr (inl e))) small = let at : n < 256 ^ 4 = subst (λ w. n < 256 ^ w) e small in subst (λ w. n < 2 ^ (8 * w)) (sym e) at
in_bits width n (inr (inr (inr e))) small = let at : n < 256 ^ 8 = subst (λ w. n < 256 ^ w) e small in subst (λ w. n < 2 ^ (8 * w)) (sym e) at

-- more of them are there
pub filled_more : {A : Type 0} (first : List A) (size len : ℕ) (item : A) → length first ≤ len → len ≤ size → filled_up (first ++ replicate (len - length first) item) size item ≡ filled_up first size item
unfolding filled_up
filled_more first size len item fits less =
    let more = len - length first in
    let long : length (first ++ replicate more item) ≡ length first + more = length-append first (replicate more item) ∙ ap (λ n. length first + n) (length-replicate more item) in
    let left : more + (size - (length first + more)) ≡ size - length first = omega arith in
    ap (λ n. (first ++ replicate more item) ++ replicate (size - n) item) long
    ∙ append_assoc first (replicate more item) (replicate (size - (length first + more)) item)
    ∙ ap (λ l. first ++ l) (replicate-append-replicate more (size - (length first + more)) item ∙ ap (λ n. replicate n item) left)

-- a number written among the bytes that are there
pub put_first : (first : List ℕ) (size addr width value : ℕ) → addr + width ≤ length first → filled_up (put_word first addr width value) size 0 ≡ put_word (filled_up first size 0) addr width value
unfolding filled_up
put_first first size addr width value inside =
    let zeros = replicate (size - length first) 0 in
    let new = bytes_of width value in
    let before = take addr first in
    let behind = drop (addr + width) first in
    ap (λ n. put_word first addr width value ++ replicate (size - n) 0) (length-put_word first addr width value inside)
    ∙ ap (λ l. l ++ zeros) (put_word_is first addr width value)
    ∙ append_assoc before (new ++ behind) zeros
    ∙ ap (λ l. before ++ l) (append_assoc new behind zeros)
    ∙ (λ i. sym (take-append-le addr first zeros (omega arith)) i ++ (new ++ sym (drop-append-le (addr + width) first zeros inside) i))
    ∙ sym (put_word_is (first ++ zeros) addr width value)

pub filled_is : {A : Type 0} (first : List A) (size : ℕ) (item : A) → filled_up first size item ≡ first ++ replicate (size - length first) item
unfolding filled_up
filled_is first size item = refl
