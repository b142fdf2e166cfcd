-- What is left of bytes by a write, and by several.
use Rattle.std.proofs.Common.{◌≡◌, ◌≤◌, ◌+◌, ℕ, List, [], ◌++◌, length, take, drop, replicate, refl, sym, ap, ◌∙◌, arith}
use Rattle.std.proofs.lemmas.List.{drop-drop, take-take, take-replicate, replicate-append-replicate}
use Rattle.std.proofs.Math.Seq.{take-add}
use Rattle.hs_base.specs.Access.{little_endian}
use Rattle.byte_memory.specs.Bytes.{part, word, put_word}
use Rattle.byte_memory.specs.BytesEquations.{length-put_word, part_same, part_before, part_past}
use Rattle.heap_blocks.specs.Bytes.{ChangesOnly}

-- a word is the number of its part
pub word_from_part : (after before : List ℕ) (addr width : ℕ) → part after addr width ≡ part before addr width → word after addr width ≡ word before addr width
unfolding word
word_from_part after before addr width same = ap little_endian same

pub changes_written : (bytes : List ℕ) (addr width value : ℕ) → addr + width ≤ length bytes → ChangesOnly bytes (put_word bytes addr width value) addr width
changes_written bytes addr width value inside = record {
  long = length-put_word bytes addr width value inside;
  below = λ from k h. part_before bytes addr width value from k inside h;
  above = λ from k h. part_past bytes addr width value from k inside h;
}

pub changes_nothing : (bytes : List ℕ) (addr n : ℕ) → ChangesOnly bytes bytes addr n
changes_nothing bytes addr n = record { long = refl; below = λ from k h. refl; above = λ from k h. refl }

pub changes_widened : (before after : List ℕ) (x m addr n : ℕ) → ChangesOnly before after x m → addr ≤ x → x + m ≤ addr + n → ChangesOnly before after addr n
changes_widened before after x m addr n changed low high = record {
  long = changed.long;
  below = λ from k h. changed.below from k (omega arith);
  above = λ from k h. changed.above from k (omega arith);
}

-- two changes, both within n bytes from an address
pub changes_joined : (a b c : List ℕ) (x m y k addr n : ℕ) → ChangesOnly a b x m → ChangesOnly b c y k → addr ≤ x → x + m ≤ addr + n → addr ≤ y → y + k ≤ addr + n → ChangesOnly a c addr n
changes_joined a b c x m y k addr n first second low high low' high' = record {
  long = second.long ∙ first.long;
  below = λ from i h. second.below from i (omega arith) ∙ first.below from i (omega arith);
  above = λ from i h. second.above from i (omega arith) ∙ first.above from i (omega arith);
}

pub part_none : (bytes : List ℕ) (addr : ℕ) → part bytes addr 0 ≡ []
unfolding part
part_none bytes addr = refl

-- a part is one part and the next
pub part_split : (bytes : List ℕ) (addr m n : ℕ) → part bytes addr (m + n) ≡ part bytes addr m ++ part bytes (addr + m) n
unfolding part
part_split bytes addr m n = take-add m n (drop addr bytes) ∙ ap (λ l. take m (drop addr bytes) ++ take n l) (drop-drop m addr bytes)

-- the front of a part of zeros
pub zeros_front : (bytes : List ℕ) (addr m n : ℕ) → n ≤ m → part bytes addr m ≡ replicate m 0 → part bytes addr n ≡ replicate n 0
unfolding part
zeros_front bytes addr m n less zeros =
    sym (take-take n m (drop addr bytes) less) ∙ ap (take n) zeros ∙ take-replicate n m 0 less

-- a word of zeros behind a part of zeros
pub zeros_more : (bytes : List ℕ) (addr n : ℕ) → addr + n + 8 ≤ length bytes → part bytes addr n ≡ replicate n 0 → part (put_word bytes (addr + n) 8 0) addr (n + 8) ≡ replicate (n + 8) 0
zeros_more bytes addr n inside zeros =
    let after = put_word bytes (addr + n) 8 0 in
    let front : part after addr n ≡ replicate n 0 = part_before bytes (addr + n) 8 0 addr n inside (omega arith) ∙ zeros in
    let back : part after (addr + n) 8 ≡ replicate 8 0 = part_same bytes (addr + n) 8 0 inside in
    part_split after addr n 8 ∙ ap (λ l. l ++ part after (addr + n) 8) front ∙ ap (λ l. replicate n 0 ++ l) back ∙ replicate-append-replicate n 8 0
