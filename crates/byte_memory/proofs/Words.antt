-- Words in a list of bytes: what is read, what is written, and what is read after a write.
use Rattle.std.proofs.Common.{◌≡◌, ◌≤◌, ◌<◌, ◌+◌, ◌*◌, ◌^◌, ℕ, zero, suc, List, ◌++◌, length, get_or, take, drop, refl, sym, ap, ◌∙◌, arith}
use Rattle.std.proofs.Math.Nat.{pow-suc}
use Rattle.std.proofs.lemmas.List.{drop-drop}
use borrow.Rule.Slice.PartMut.{put_mid}
use Rattle.hs_base.specs.Access.{bytes_of}
use Rattle.byte_memory.specs.Bytes.{word, put_word}
use Rattle.byte_memory.specs.BytesEquations.{put_word_is, word_1, word_more, word_none}

-- Reading

pub word_2 : (bytes : List ℕ) (at : ℕ) → at + 2 ≤ length bytes →
    word bytes at 2 ≡ get_or bytes at 0 + get_or bytes (at + 1) 0 * 256
word_2 bytes at inside =
    let more = word_more bytes at (at + 1) 1 refl (omega arith) in
    let last = word_1 bytes (at + 1) (omega arith) in
    omega arith

pub word_4 : (bytes : List ℕ) (at : ℕ) → at + 4 ≤ length bytes →
    word bytes at 4 ≡ get_or bytes at 0 + get_or bytes (at + 1) 0 * 256 + get_or bytes (at + 2) 0 * 65536 + get_or bytes (at + 3) 0 * 16777216
word_4 bytes at inside =
    let w0 = word_more bytes at (at + 1) 3 (omega arith) (omega arith) in
    let w1 = word_more bytes (at + 1) (at + 2) 2 (omega arith) (omega arith) in
    let w2 = word_more bytes (at + 2) (at + 3) 1 (omega arith) (omega arith) in
    let w3 = word_1 bytes (at + 3) (omega arith) in
    omega arith

pub word_8 : (bytes : List ℕ) (at : ℕ) → at + 8 ≤ length bytes →
    word bytes at 8 ≡ get_or bytes at 0 + get_or bytes (at + 1) 0 * 256 + get_or bytes (at + 2) 0 * 65536 + get_or bytes (at + 3) 0 * 16777216 + get_or bytes (at + 4) 0 * 4294967296 + get_or bytes (at + 5) 0 * 1099511627776 + get_or bytes (at + 6) 0 * 281474976710656 + get_or bytes (at + 7) 0 * 72057594037927936
word_8 bytes at inside =
    let w0 = word_more bytes at (at + 1) 7 (omega arith) (omega arith) in
    let w1 = word_more bytes (at + 1) (at + 2) 6 (omega arith) (omega arith) in
    let w2 = word_more bytes (at + 2) (at + 3) 5 (omega arith) (omega arith) in
    let w3 = word_more bytes (at + 3) (at + 4) 4 (omega arith) (omega arith) in
    let w4 = word_more bytes (at + 4) (at + 5) 3 (omega arith) (omega arith) in
    let w5 = word_more bytes (at + 5) (at + 6) 2 (omega arith) (omega arith) in
    let w6 = word_more bytes (at + 6) (at + 7) 1 (omega arith) (omega arith) in
    let w7 = word_1 bytes (at + 7) (omega arith) in
    omega arith

-- a word of n bytes is less than 256 to the n
pub word_bound : (bytes : List ℕ) → ((i : ℕ) → get_or bytes i 0 < 256) → (at n : ℕ) → at + n ≤ length bytes → word bytes at n < 256 ^ n
word_bound bytes fits at zero inside = omega (arith, word_none bytes at)
word_bound bytes fits at (suc n) inside =
    let more = word_more bytes at (at + 1) n refl (omega arith) in
    let rest = word_bound bytes fits (at + 1) n (omega arith) in
    omega (arith, fits at, pow-suc 256 n)

-- Writing

-- what a copy over a part of a slice, and a write of one byte, leave
pub stored : (bytes : List ℕ) (addr k : ℕ) (new : List ℕ) (width value : ℕ) → k ≡ width → new ≡ bytes_of width value →
    put_mid addr k bytes new ≡ put_word bytes addr width value
stored bytes addr k new width value k_is new_is =
    (λ i. take addr bytes ++ (new_is i ++ drop (k_is i) (drop addr bytes)))
    ∙ ap (λ rest. take addr bytes ++ (bytes_of width value ++ rest)) (drop-drop width addr bytes) ∙ sym (put_word_is bytes addr width value)
