-- Words that are equal byte by byte.
use Rattle.std.proofs.Common.{◌≡◌, ◌<◌, ◌≤◌, ◌+◌, ◌*◌, ℕ, zero, suc, List, length, get_or, refl, sym, ap, ◌∙◌, arith}
use Rattle.byte_memory.specs.Bytes.{word}
use Rattle.byte_memory.specs.BytesEquations.{word_none, word_more}

pub word_same_bytes : (a b : List ℕ) (x y n : ℕ) → x + n ≤ length a → y + n ≤ length b → ((i : ℕ) → i < n → get_or a (x + i) 0 ≡ get_or b (y + i) 0) → word a x n ≡ word b y n
word_same_bytes a b x y zero in_a in_b same = word_none a x ∙ sym (word_none b y)
word_same_bytes a b x y (suc n) in_a in_b same =
    let x0 : x ≡ x + 0 = omega arith in
    let y0 : y + 0 ≡ y = omega arith in
    let first : get_or a x 0 ≡ get_or b y 0 = ap (λ k. get_or a k 0) x0 ∙ same 0 (omega arith) ∙ ap (λ k. get_or b k 0) y0 in
    let rest : word a (x + 1) n ≡ word b (y + 1) n =
    word_same_bytes a b (x + 1) (y + 1) n (omega arith) (omega arith)
    (λ i less. let xi : x + 1 + i ≡ x + (i + 1) = omega arith in let yi : y + (i + 1) ≡ y + 1 + i = omega arith in ap (λ k. get_or a k 0) xi ∙ same (i + 1) (omega arith) ∙ ap (λ k. get_or b k 0) yi) in
    word_more a x (x + 1) n refl (omega arith) ∙ (λ i. first i + 256 * rest i) ∙ sym (word_more b y (y + 1) n refl (omega arith))
