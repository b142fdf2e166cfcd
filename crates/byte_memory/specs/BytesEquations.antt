-- What is read and written as words in a list of bytes. Equations, proved from `Bytes`.
use Rattle.std.proofs.Common.{◌≡◌, ◌≤◌, ◌<◌, ◌+◌, ◌-◌, ◌*◌, ◌/◌, ◌%◌, ◌^◌, ℕ, zero, suc, List, ◌∷◌, ◌++◌, length, get_or, take, drop, set, refl, sym, ap, ◌∙◌, subst, append_assoc, length-append, length-drop, drop-cons, add-one, add-zero, add_assoc, le_trans, le-add_right, add-sub_of_le, mod-eq_of_lt, div-lt_iff_lt-mul, zero-lt-suc, div-add-mod', pow-suc, add_comm, mul_comm, not-suc-le-zero, le_of_suc-le-suc}
use Rattle.std.proofs.Math.Arith.{add-le_cancel_left}
use Rattle.std.proofs.lemmas.List.{set_split, drop-drop, drop_at, take_at, drop-append-le, take-append-le, take-append-drop, length-take-le}
use Rattle.hs_base.specs.Access.{little_endian, bytes_of, overlaid}
use Rattle.hs_base.specs.AccessEquations.{length-bytes_of}
use Rattle.byte_memory.specs.Bytes.{part, word, put_word}

-- Reading

pub word_none : (bytes : List ℕ) (addr : ℕ) → word bytes addr 0 ≡ 0
unfolding word part
word_none bytes addr = refl

pub word_more : (bytes : List ℕ) (addr next n : ℕ) → next ≡ addr + 1 → addr < length bytes →
    word bytes addr (suc n) ≡ get_or bytes addr 0 + 256 * word bytes next n
unfolding word part
word_more bytes addr next n is inside =
    ap (λ rest. little_endian (take (suc n) rest)) (drop-cons bytes addr 0 inside)
    ∙ ap (λ m. get_or bytes addr 0 + 256 * little_endian (take n (drop m bytes))) (sym (is ∙ add-one addr))

pub word_1 : (bytes : List ℕ) (at : ℕ) → at + 1 ≤ length bytes → word bytes at 1 ≡ get_or bytes at 0
word_1 bytes at inside =
    word_more bytes at (at + 1) 0 refl (subst (λ m. m ≤ length bytes) (add-one at) inside)
    ∙ ap (λ rest. get_or bytes at 0 + 256 * rest) (word_none bytes (at + 1)) ∙ add-zero (get_or bytes at 0)

-- Writing

pub put_word_is : (bytes : List ℕ) (addr width value : ℕ) →
    put_word bytes addr width value ≡ take addr bytes ++ (bytes_of width value ++ drop (addr + width) bytes)
unfolding put_word
put_word_is bytes addr width value =
    append_assoc (take addr bytes) (bytes_of width value) (drop (addr + length (bytes_of width value)) bytes)
    ∙ ap (λ n. take addr bytes ++ (bytes_of width value ++ drop (addr + n) bytes)) (length-bytes_of width value)

-- a write of one byte
pub stored_byte : (bytes : List ℕ) (addr value : ℕ) → addr < length bytes → value < 256 → set bytes addr value ≡ put_word bytes addr 1 value
stored_byte bytes addr value inside small =
    set_split bytes addr value inside ∙ ap (λ b. take addr bytes ++ (b ∷ drop (suc addr) bytes)) (sym (mod-eq_of_lt small))
    ∙ ap (λ n. take addr bytes ++ (value % 256 ∷ drop n bytes)) (sym (add-one addr))
    ∙ sym (put_word_is bytes addr 1 value)

-- Parts of lists

-- what is left behind k of some items
left_behind : (k n size : ℕ) → k + n ≤ size → n ≤ size - k
left_behind k n size inside =
    add-le_cancel_left k (subst (λ m. k + n ≤ m) (sym (add-sub_of_le (le_trans (le-add_right k n) inside))) inside)

-- a part of the first of two lists
part_front : (front rest : List ℕ) (from n : ℕ) → from + n ≤ length front → part (front ++ rest) from n ≡ part front from n
unfolding part
part_front front rest from n inside =
    ap (take n) (drop-append-le from front rest (le_trans (le-add_right from n) inside))
    ∙ take-append-le n (drop from front) rest (subst (λ m. n ≤ m) (sym (length-drop from front)) (left_behind from n (length front) inside))

-- a part of the second
part_back : (front rest : List ℕ) (place from n : ℕ) → length front ≡ place → place ≤ from →
    part (front ++ rest) from n ≡ part rest (from - place) n
unfolding part
part_back front rest place from n long past =
    ap (λ m. take n (drop m (front ++ rest))) (sym (add-sub_of_le past))
    ∙ ap (take n) (sym (drop-drop (from - place) place (front ++ rest)))
    ∙ ap (λ l. take n (drop (from - place) l)) (drop_at front rest place long)

-- as many bytes as were asked for
pub part_len : (bytes : List ℕ) (addr n : ℕ) → addr + n ≤ length bytes → length (part bytes addr n) ≡ n
unfolding part
part_len bytes addr n inside =
    length-take-le n (drop addr bytes)
    (subst (λ m. n ≤ m) (sym (length-drop addr bytes)) (left_behind addr n (length bytes) inside))

-- a part before new bytes
pub part_before_new : (bytes : List ℕ) (place : ℕ) (new : List ℕ) → place + length new ≤ length bytes → (from n : ℕ) → from + n ≤ place →
    part (overlaid bytes place new) from n ≡ part bytes from n
part_before_new bytes place new inside from n before =
    let long = length-take-le place bytes (le_trans (le-add_right place (length new)) inside) in
    let short : from + n ≤ length (take place bytes) = subst (λ m. from + n ≤ m) (sym long) before in
    ap (λ l. part l from n) (append_assoc (take place bytes) new (drop (place + length new) bytes))
    ∙ part_front (take place bytes) (new ++ drop (place + length new) bytes) from n short
    ∙ sym (part_front (take place bytes) (drop place bytes) from n short)
    ∙ ap (λ l. part l from n) (take-append-drop place bytes)

-- Reading a part after a write

module _ (bytes : List ℕ) (addr width value : ℕ) (inside : addr + width ≤ length bytes) where
  -- the bytes before the written ones
  front_length : length (take addr bytes) ≡ addr
  front_length = length-take-le addr bytes (le_trans (le-add_right addr width) inside)

  -- and with them
  done_length : length (take addr bytes ++ bytes_of width value) ≡ addr + width
  done_length =
      length-append (take addr bytes) (bytes_of width value) ∙ (λ i. front_length i + length-bytes_of width value i)

  pub length-put_word : length (put_word bytes addr width value) ≡ length bytes
  length-put_word =
      ap length (put_word_is bytes addr width value ∙ sym (append_assoc (take addr bytes) (bytes_of width value) (drop (addr + width) bytes)))
      ∙ length-append (take addr bytes ++ bytes_of width value) (drop (addr + width) bytes)
      ∙ (λ i. done_length i + length-drop (addr + width) bytes i) ∙ add-sub_of_le inside

  -- the part that was written
  pub part_same : part (put_word bytes addr width value) addr width ≡ bytes_of width value
  unfolding part
  part_same =
      ap (λ l. take width (drop addr l)) (put_word_is bytes addr width value)
      ∙ ap (take width) (drop_at (take addr bytes) (bytes_of width value ++ drop (addr + width) bytes) addr front_length)
      ∙ take_at (bytes_of width value) (drop (addr + width) bytes) width (length-bytes_of width value)

-- a part of what was written
pub part_inside : (bytes : List ℕ) (addr width value from n : ℕ) → addr + width ≤ length bytes → addr ≤ from → from + n ≤ addr + width →
    part (put_word bytes addr width value) from n ≡ part (bytes_of width value) (from - addr) n
part_inside bytes addr width value from n inside low high =
    let new = bytes_of width value in
    let place : addr + (from - addr) ≡ from = add-sub_of_le low in
    let within : from - addr + n ≤ width =
    add-le_cancel_left addr (subst (λ m. m ≤ addr + width) (ap (λ m. m + n) (sym place) ∙ add_assoc addr (from - addr) n) high) in
    ap (λ l. part l from n) (put_word_is bytes addr width value)
    ∙ part_back (take addr bytes) (new ++ drop (addr + width) bytes) addr from n (front_length bytes addr width value inside) low
    ∙ part_front new (drop (addr + width) bytes) (from - addr) n (subst (λ m. from - addr + n ≤ m) (sym (length-bytes_of width value)) within)

-- a part before it
pub part_before : (bytes : List ℕ) (addr width value from n : ℕ) → addr + width ≤ length bytes → from + n ≤ addr →
    part (put_word bytes addr width value) from n ≡ part bytes from n
unfolding put_word
part_before bytes addr width value from n inside before =
    let new = bytes_of width value in
    part_before_new bytes addr new (subst (λ m. addr + m ≤ length bytes) (sym (length-bytes_of width value)) inside) from n before

-- a part past it
pub part_past : (bytes : List ℕ) (addr width value from n : ℕ) → addr + width ≤ length bytes → addr + width ≤ from →
    part (put_word bytes addr width value) from n ≡ part bytes from n
part_past bytes addr width value from n inside past =
    let new = bytes_of width value in
    let rest = drop (addr + width) bytes in
    ap (λ l. part l from n) (put_word_is bytes addr width value ∙ sym (append_assoc (take addr bytes) new rest))
    ∙ part_back (take addr bytes ++ new) rest (addr + width) from n (done_length bytes addr width value inside) past
    ∙ sym (part_back (take (addr + width) bytes) rest (addr + width) from n (length-take-le (addr + width) bytes inside) past)
    ∙ ap (λ l. part l from n) (take-append-drop (addr + width) bytes)

-- Reading a word after a write

pub word_before : (bytes : List ℕ) (addr width value from n : ℕ) → addr + width ≤ length bytes → from + n ≤ addr →
    word (put_word bytes addr width value) from n ≡ word bytes from n
unfolding word
word_before bytes addr width value from n inside before = ap little_endian (part_before bytes addr width value from n inside before)

pub word_past : (bytes : List ℕ) (addr width value from n : ℕ) → addr + width ≤ length bytes → addr + width ≤ from →
    word (put_word bytes addr width value) from n ≡ word bytes from n
unfolding word
word_past bytes addr width value from n inside past = ap little_endian (part_past bytes addr width value from n inside past)

-- the number of the bytes of a number
less_than_one : (value : ℕ) → value < 1 → 0 ≡ value
less_than_one zero small = refl
less_than_one (suc value) small = absurd (not-suc-le-zero (le_of_suc-le-suc small))

little_endian-bytes_of : (n value : ℕ) → value < 256 ^ n → little_endian (bytes_of n value) ≡ value
little_endian-bytes_of zero value small = less_than_one value small
little_endian-bytes_of (suc n) value small =
    let high = (div-lt_iff_lt-mul {k = 256} {x = value} {y = 256 ^ n} (zero-lt-suc 255)).1 (subst (λ m. value < m) (pow-suc 256 n) small) in
    ap (λ m. value % 256 + 256 * m) (little_endian-bytes_of n (value / 256) high)
    ∙ add_comm (value % 256) (256 * (value / 256)) ∙ ap (λ m. m + value % 256) (mul_comm 256 (value / 256)) ∙ div-add-mod' value 256

pub word_same : (bytes : List ℕ) (addr width value : ℕ) → addr + width ≤ length bytes → value < 256 ^ width →
    word (put_word bytes addr width value) addr width ≡ value
unfolding word
word_same bytes addr width value inside small = ap little_endian (part_same bytes addr width value inside) ∙ little_endian-bytes_of width value small
