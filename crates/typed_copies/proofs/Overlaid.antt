-- A list with another in place of as many items.
use Rattle.std.proofs.Common.{◌≡◌, ◌<◌, ◌≤◌, ◌+◌, ◌-◌, ℕ, suc, List, [], ◌∷◌, ◌++◌, length, length-append, length-take, length-drop, append_assoc, get_or, get_or-take, get_or-drop, take, drop, set, replicate, refl, sym, ap, ◌∙◌, arith}
use Rattle.std.proofs.lemmas.List.{drop_more, ext_get_or, get_or-replicate, length-replicate, length_push, replicate_more, set_at, take_more}
use Rattle.hs_base.specs.Access.{little_endian, overlaid}
use Rattle.byte_memory.specs.Bytes.{part, put_word, word}
use Rattle.byte_memory.specs.BytesEquations.{stored_byte, part_len, part_before_new}
use Rattle.hs_base.specs.AccessEquations.{overlaid_len, at_before, at_inside, at_behind, overlaid_none}

-- Parts

-- a part of four zeros
zeros : part (replicate 4 0) 0 4 ≡ replicate 4 0
unfolding part
zeros = refl

-- a part of no bytes
part_none : (bytes : List ℕ) (addr : ℕ) → part bytes addr 0 ≡ []
unfolding part
part_none bytes addr = refl

-- a part with one byte more behind it
part_more : (bytes : List ℕ) (addr n : ℕ) → addr + n < length bytes → part bytes addr (n + 1) ≡ part bytes addr n ++ get_or bytes (addr + n) 0 ∷ []
unfolding part
part_more bytes addr n inside =
    take_more (drop addr bytes) n 0 (omega (arith, length-drop addr bytes)) ∙ ap (λ b. take n (drop addr bytes) ++ b ∷ []) (get_or-drop addr bytes n 0)

-- a part with one byte more before it
part_from : (bytes : List ℕ) (addr n : ℕ) → addr < length bytes → part bytes addr (suc n) ≡ get_or bytes addr 0 ∷ part bytes (addr + 1) n
unfolding part
part_from bytes addr n inside = ap (take (suc n)) (drop_more bytes addr 0 inside)

-- a byte of a part
part_at : (bytes : List ℕ) (addr n k d : ℕ) → k < n → get_or (part bytes addr n) k d ≡ get_or bytes (addr + k) d
unfolding part
part_at bytes addr n k d less = get_or-take n (drop addr bytes) k d less ∙ get_or-drop addr bytes k d

-- parts with the same bytes
same_part : (xs ys : List ℕ) (a b n : ℕ) → a + n ≤ length xs → b + n ≤ length ys → ((k : ℕ) → k < n → get_or xs (a + k) 0 ≡ get_or ys (b + k) 0) → part xs a n ≡ part ys b n
same_part xs ys a b n inside inside' same =
    let len = part_len xs a n inside in
    ext_get_or 0 (part xs a n) (part ys b n) (omega (arith, part_len ys b n inside')) (λ k less.
    let less' : k < n = omega arith in
    part_at xs a n k 0 less' ∙ same k less' ∙ sym (part_at ys b n k 0 less'))

module _ (bytes : List ℕ) (place : ℕ) (new : List ℕ) (inside : place + length new ≤ length bytes) where
  -- a part behind them
  pub part_behind : (at n : ℕ) → place + length new ≤ at → at + n ≤ length bytes → part (overlaid bytes place new) at n ≡ part bytes at n
  part_behind at n behind ends =
      same_part (overlaid bytes place new) bytes at at n (omega (arith, overlaid_len bytes place new inside)) ends (λ k less. at_behind bytes place new inside (at + k) 0 (omega arith))

  -- a part of them
  part_inside : (j n : ℕ) → j + n ≤ length new → part (overlaid bytes place new) (place + j) n ≡ part new j n
  part_inside j n ends =
      same_part (overlaid bytes place new) new (place + j) j n (omega (arith, overlaid_len bytes place new inside)) ends (λ k less.
      let at : place + j + k ≡ place + (j + k) = omega arith in
      ap (λ i. get_or (overlaid bytes place new) i 0) at ∙ at_inside bytes place new inside (j + k) 0 (omega arith))

  -- a word before the new bytes
  pub word_before : (at n : ℕ) → at + n ≤ place → word (overlaid bytes place new) at n ≡ word bytes at n
  unfolding word
  word_before at n before = ap little_endian (part_before_new bytes place new inside at n before)

  -- a word behind them
  pub word_behind : (at n : ℕ) → place + length new ≤ at → at + n ≤ length bytes → word (overlaid bytes place new) at n ≡ word bytes at n
  unfolding word
  word_behind at n behind ends = ap little_endian (part_behind at n behind ends)

  -- a word of them
  word_inside : (j n : ℕ) → j + n ≤ length new → word (overlaid bytes place new) (place + j) n ≡ word new j n
  unfolding word
  word_inside j n ends = ap little_endian (part_inside j n ends)

-- a move keeps the length
pub moved_long : (bytes new : List ℕ) (to from n : ℕ) → to + n ≤ length bytes → from + n ≤ length bytes → new ≡ overlaid bytes to (part bytes from n) → length new ≡ length bytes
moved_long bytes new to from n into out is = let len = part_len bytes from n out in ap length is ∙ overlaid_len bytes to (part bytes from n) (omega arith)

-- a word of bytes that were moved, and of bytes that were set to 0
pub word_moved : (bytes : List ℕ) (to from n j m : ℕ) → to + n ≤ length bytes → from + n ≤ length bytes → j + m ≤ n → word (overlaid bytes to (part bytes from n)) (to + j) m ≡ word bytes (from + j) m
unfolding word
word_moved bytes to from n j m into out ends =
    let len = part_len bytes from n out in
    word_inside bytes to (part bytes from n) (omega arith) j m (omega arith)
    ∙ ap little_endian (same_part (part bytes from n) bytes j (from + j) m (omega arith) (omega arith) (λ k less.
    let at : from + (j + k) ≡ from + j + k = omega arith in
    part_at bytes from n (j + k) 0 (omega arith) ∙ ap (λ i. get_or bytes i 0) at))

-- a word of zeros
zero_word : (n j : ℕ) → j + 4 ≤ n → word (replicate n 0) j 4 ≡ 0
unfolding word
zero_word n j ends =
    ap little_endian (same_part (replicate n 0) (replicate 4 0) j 0 4 (omega (arith, length-replicate {A = ℕ} n 0)) (omega (arith, length-replicate {A = ℕ} 4 0)) (λ k less. get_or-replicate n (j + k) 0 0 (omega arith) ∙ sym (get_or-replicate 4 (0 + k) 0 0 (omega arith))) ∙ zeros)

-- a word of bytes that were set to 0
pub word_null : (bytes : List ℕ) (to n j : ℕ) → to + n ≤ length bytes → j + 4 ≤ n → word (overlaid bytes to (replicate n 0)) (to + j) 4 ≡ 0
word_null bytes to n j into ends =
    let len : length (replicate {A = ℕ} n 0) ≡ n = length-replicate n 0 in
    word_inside bytes to (replicate n 0) (omega arith) j 4 (omega arith) ∙ zero_word n j ends

-- Another item

-- one more behind the new ones
overlaid_more : (items : List ℕ) (place : ℕ) (new : List ℕ) (x : ℕ) → place + length new < length items → set (overlaid items place new) (place + length new) x ≡ overlaid items place (new ++ x ∷ [])
overlaid_more items place new x inside =
    let i = place + length new in
    let front = take place items ++ new in
    let len : length front ≡ i = length-append (take place items) new ∙ omega (arith, length-take place items) in
    let next : i + 1 ≡ place + length (new ++ x ∷ []) = omega (arith, length_push new x) in
    ap (λ l. set (front ++ l) i x) (drop_more items i 0 inside)
    ∙ set_at front (get_or items i 0) (drop (i + 1) items) x i len
    ∙ ap (λ j. front ++ x ∷ drop j items) next
    ∙ sym (append_assoc front (x ∷ []) (drop (place + length (new ++ x ∷ [])) items))
    ∙ ap (λ l. l ++ drop (place + length (new ++ x ∷ [])) items) (append_assoc (take place items) new (x ∷ []))

-- one more before them
overlaid_front : (items : List ℕ) (place : ℕ) (new : List ℕ) (x : ℕ) → place < length items → set (overlaid items (place + 1) new) place x ≡ overlaid items place (x ∷ new)
overlaid_front items place new x inside =
    let front = take place items in
    let y = get_or items place 0 in
    let rest = drop (place + 1 + length new) items in
    let len : length front ≡ place = length-take place items ∙ omega arith in
    let next : place + 1 + length new ≡ place + suc (length new) = omega arith in
    ap (λ l. set ((l ++ new) ++ rest) place x) (take_more items place 0 inside)
    ∙ ap (λ l. set (l ++ rest) place x) (append_assoc front (y ∷ []) new)
    ∙ ap (λ l. set l place x) (append_assoc front (y ∷ new) rest)
    ∙ set_at front y (new ++ rest) x place len
    ∙ ap (λ j. front ++ (x ∷ (new ++ drop j items))) next
    ∙ sym (append_assoc front (x ∷ new) (drop (place + suc (length new)) items))

-- Bytes that are moved one by one, from the lowest up and from the highest down, and bytes that are set

-- no byte is moved yet
pub moved_none : (bytes : List ℕ) (to from : ℕ) → overlaid bytes to (part bytes from 0) ≡ bytes
moved_none bytes to from = ap (overlaid bytes to) (part_none bytes from) ∙ overlaid_none bytes to

-- one byte more is moved down
pub moved_more : (bytes : List ℕ) (to from k : ℕ) → to ≤ from → from + k < length bytes
    → set (overlaid bytes to (part bytes from k)) (to + k) (get_or (overlaid bytes to (part bytes from k)) (from + k) 0) ≡ overlaid bytes to (part bytes from (k + 1))
moved_more bytes to from k down inside =
    let new = part bytes from k in
    let len : length new ≡ k = part_len bytes from k (omega arith) in
    let at : to + k ≡ to + length new = omega arith in
    ap (λ b. set (overlaid bytes to new) (to + k) b) (at_behind bytes to new (omega arith) (from + k) 0 (omega arith))
    ∙ ap (λ i. set (overlaid bytes to new) i (get_or bytes (from + k) 0)) at
    ∙ overlaid_more bytes to new (get_or bytes (from + k) 0) (omega arith)
    ∙ ap (overlaid bytes to) (sym (part_more bytes from k inside))

-- k more bytes are to come below n that were moved
moved_front : (bytes : List ℕ) (to from k n : ℕ) → from ≤ to → to + (k + 1) + n ≤ length bytes
    → set (overlaid bytes (to + (k + 1)) (part bytes (from + (k + 1)) n)) (to + k) (get_or (overlaid bytes (to + (k + 1)) (part bytes (from + (k + 1)) n)) (from + k) 0) ≡ overlaid bytes (to + k) (part bytes (from + k) (suc n))
moved_front bytes to from k n up inside =
    let new = part bytes (from + (k + 1)) n in
    let len : length new ≡ n = part_len bytes (from + (k + 1)) n (omega arith) in
    let up_one : to + (k + 1) ≡ to + k + 1 = omega arith in
    let from_one : from + k + 1 ≡ from + (k + 1) = omega arith in
    ap (λ b. set (overlaid bytes (to + (k + 1)) new) (to + k) b) (at_before bytes (to + (k + 1)) new (omega arith) (from + k) 0 (omega arith))
    ∙ ap (λ i. set (overlaid bytes i new) (to + k) (get_or bytes (from + k) 0)) up_one
    ∙ overlaid_front bytes (to + k) new (get_or bytes (from + k) 0) (omega arith)
    ∙ ap (λ i. overlaid bytes (to + k) (get_or bytes (from + k) 0 ∷ part bytes i n)) (sym from_one)
    ∙ ap (overlaid bytes (to + k)) (sym (part_from bytes (from + k) n (omega arith)))

-- one byte more is moved up
pub moved_back : (bytes current : List ℕ) (to from k n : ℕ) → from ≤ to → 0 < k → k ≤ n → to + n ≤ length bytes → current ≡ overlaid bytes (to + k) (part bytes (from + k) (n - k))
    → set current (to + (k - 1)) (get_or current (from + (k - 1)) 0) ≡ overlaid bytes (to + (k - 1)) (part bytes (from + (k - 1)) (n - (k - 1)))
moved_back bytes current to from k n up some less inside is =
    let m = k - 1 in
    let next : k ≡ m + 1 = omega arith in
    let one_more : suc (n - k) ≡ n - m = omega arith in
    let now = is ∙ ap (λ j. overlaid bytes (to + j) (part bytes (from + j) (n - k))) next in
    ap (λ l. set l (to + m) (get_or l (from + m) 0)) now ∙ moved_front bytes to from m (n - k) up (omega arith) ∙ ap (λ j. overlaid bytes (to + m) (part bytes (from + m) j)) one_more

-- no byte is moved yet, from the highest down
pub moved_last : (bytes : List ℕ) (to from n : ℕ) → overlaid bytes (to + n) (part bytes (from + n) (n - n)) ≡ bytes
moved_last bytes to from n = let none : n - n ≡ 0 = omega arith in ap (λ j. overlaid bytes (to + n) (part bytes (from + n) j)) none ∙ moved_none bytes (to + n) (from + n)

-- one byte more is set
pub set_byte_more : (bytes current : List ℕ) (to byte k : ℕ) → to + k < length bytes → byte < 256 → current ≡ overlaid bytes to (replicate k byte) → put_word current (to + k) 1 byte ≡ overlaid bytes to (replicate (k + 1) byte)
set_byte_more bytes current to byte k inside small is =
    let new = replicate k byte in
    let len : length new ≡ k = length-replicate k byte in
    let at : to + k ≡ to + length new = omega arith in
    let long : length current ≡ length bytes = ap length is ∙ overlaid_len bytes to new (omega arith) in
    sym (stored_byte current (to + k) byte (omega arith) small) ∙ ap (λ l. set l (to + k) byte) is ∙ ap (λ i. set (overlaid bytes to new) i byte) at
    ∙ overlaid_more bytes to new byte (omega arith) ∙ ap (overlaid bytes to) (replicate_more k byte)
