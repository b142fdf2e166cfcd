-- What replaced bytes do to the words in slots, and to the counts.
use Rattle.std.proofs.Common.{◌≡◌, ◌<◌, ◌≤◌, ◌+◌, ◌-◌, inl, inr, ℕ, List, [], ◌++◌, length, length-take, get_or, take, drop, replicate, refl, sym, ap, ◌∙◌, arith}
use Rattle.std.specs.List.{sum_by}
use Rattle.std.proofs.lemmas.Bool.{cases_lt}
use Rattle.std.proofs.lemmas.List.{append_assoc, drop_at, drop-drop, ext_get_or, take_at}
use Rattle.std.proofs.lemmas.List.Folds.{sum_by-replicate}
use Rattle.std.proofs.lemmas.List.Sums.{sum_by-append, sum_by-take-drop, sum_by-take-le}
use Rattle.hs_base.specs.Access.{overlaid}
use Rattle.byte_memory.specs.Bytes.{word}
use Rattle.count_table.specs.Table.{Table}
use Rattle.typed_copies.specs.declared.slots.Within.{Within}
use Rattle.typed_copies.specs.Slots.{AreWithin}
use Rattle.typed_copies.specs.Pointers.{Cover, Follow, HaveRoom, words_at}
use Rattle.typed_copies.proofs.Following.{is_address, one_if, points_into}
use Rattle.typed_copies.proofs.Overlaid.{word_before, word_behind}
use Rattle.typed_copies.specs.PointersEquations.{word_at, words_len}
use Rattle.hs_base.specs.AccessEquations.{at_before, at_behind, at_inside, overlaid_len}

-- Words

-- the words of an object where n of its bytes from an offset were replaced
module _ (old : List ℕ) (start offset n size : ℕ) (bytes slots : List ℕ) (w : Within) (are : AreWithin slots offset n w) (long : length bytes ≡ n) (inside : start + size ≤ length old) (fits : offset + n ≤ size) (ends : (k : ℕ) → k < length slots → get_or slots k 0 + 4 ≤ size) where
  -- words before the range and behind it are the same, and those within are given
  pub words_replaced : (new : List ℕ) → length new ≡ w.count → ((k : ℕ) → k < w.count → word (overlaid old (start + offset) bytes) (start + get_or slots (w.first + k) 0) 4 ≡ get_or new k 0)
      → words_at (overlaid old (start + offset) bytes) start slots ≡ overlaid (words_at old start slots) w.first new
  words_replaced new many same =
      let after = overlaid old (start + offset) bytes in
      let words = words_at old start slots in
      let all = words_len old start slots in
      let room : start + offset + length bytes ≤ length old = omega arith in
      let space : w.first + length new ≤ length words = omega (arith, are.inside) in
      ext_get_or 0 (words_at after start slots) (overlaid words w.first new) (words_len after start slots ∙ sym all ∙ sym (overlaid_len words w.first new space)) (λ k less.
      let below : k < length slots = omega (arith, words_len after start slots) in
      let end = ends k below in
      word_at after start slots k below ∙ elim (cases_lt k w.first) [
        | inl before ↦ word_before old (start + offset) bytes room (start + get_or slots k 0) 4 (let h = are.before k before in omega arith)
            ∙ sym (word_at old start slots k below) ∙ sym (at_before words w.first new space k 0 before)
        | inr from ↦ elim (cases_lt k (w.first + w.count)) [
          | inl within ↦ let e : w.first + (k - w.first) ≡ k = omega arith in
              ap (λ i. word after (start + get_or slots i 0) 4) (sym e) ∙ same (k - w.first) (omega arith)
              ∙ sym (at_inside words w.first new space (k - w.first) 0 (omega arith)) ∙ ap (λ i. get_or (overlaid words w.first new) i 0) e
          | inr behind ↦ word_behind old (start + offset) bytes room (start + get_or slots k 0) 4 (let h = are.behind k behind below in omega arith) (omega arith)
              ∙ sym (word_at old start slots k below) ∙ sym (at_behind words w.first new space k 0 (omega arith))
        ]
      ])

-- Sums over a list in which some items were replaced

-- what was replaced is out of the sum, and what is new is in it
sum_replaced : (f : ℕ → ℕ) (items : List ℕ) (first : ℕ) (new : List ℕ) → first + length new ≤ length items → sum_by f (overlaid items first new) + sum_by f (take (length new) (drop first items)) ≡ sum_by f items + sum_by f new
sum_replaced f items first new inside =
    let front = take first items in
    let middle = take (length new) (drop first items) in
    let back = drop (first + length new) items in
    let rest = ap (sum_by f) (drop-drop (length new) first items) in
    omega (arith, sum_by-append f (front ++ new) back, sum_by-append f front new, sum_by-take-drop f items first, sum_by-take-drop f (drop first items) (length new), rest)

-- the sum over a part is no greater
part_of_sum : (f : ℕ → ℕ) (items : List ℕ) (first count : ℕ) → sum_by f (take count (drop first items)) ≤ sum_by f items
part_of_sum f items first count = omega (arith, sum_by-take-le f (drop first items) count, sum_by-take-drop f items first)

-- the counts follow all words where they follow those that were replaced
pub follow_replaced : (before after : Table) (words : List ℕ) (first : ℕ) (new : List ℕ) → first + length new ≤ length words → Follow before after (take (length new) (drop first words)) new → Follow before after words (overlaid words first new)
follow_replaced before after words first new inside some = record {
  most = some.most;
  long = some.long;
  exact = λ granule. omega (arith, some.exact granule, sum_replaced (λ w. one_if (points_into granule w)) words first new inside);
  all = omega (arith, some.all, sum_replaced (λ w. one_if (is_address w)) words first new inside);
}

-- what some words were before they were replaced, and what they are
pub replaced_now : (words : List ℕ) (first : ℕ) (new : List ℕ) → first + length new ≤ length words → take (length new) (drop first (overlaid words first new)) ≡ new
replaced_now words first new inside =
    let front = take first words in
    let rest = drop (first + length new) words in
    ap (λ l. take (length new) (drop first l)) (append_assoc front new rest)
    ∙ ap (take (length new)) (drop_at front (new ++ rest) first (length-take first words ∙ omega arith))
    ∙ take_at new rest (length new) refl

-- Part of an object's words

-- counts that cover some words cover a part of them
pub cover_part : (counts : Table) (words : List ℕ) (first count : ℕ) → Cover counts words → Cover counts (take count (drop first words))
cover_part counts words first count covered = λ granule. omega (arith, covered granule, part_of_sum (λ w. one_if (points_into granule w)) words first count)

-- room for all words once some were replaced is room for these
pub room_replaced : (counts : Table) (words : List ℕ) (first : ℕ) (new : List ℕ) → first + length new ≤ length words → HaveRoom counts words (overlaid words first new) → HaveRoom counts (take (length new) (drop first words)) new
room_replaced counts words first new inside room = omega (arith, room, sum_replaced (λ w. one_if (is_address w)) words first new inside)

-- where pointers have gone there is room for those that come in their places
pub room_left : (before after : Table) (old new : List ℕ) → Follow before after old [] → HaveRoom before old new → HaveRoom after [] new
room_left before after old new gone room = omega (arith, gone.all, gone.most, room)

-- nulls in place of pointers that have gone
pub follow_nulls : (before after : Table) (words : List ℕ) (n : ℕ) → Follow before after words [] → Follow before after words (replicate n 0)
follow_nulls before after words n gone = record {
  most = gone.most;
  long = gone.long;
  exact = λ granule. omega (arith, gone.exact granule, sum_by-replicate (λ w. one_if (points_into granule w)) n 0);
  all = omega (arith, gone.all, sum_by-replicate (λ w. one_if (is_address w)) n 0);
}
