-- What a copy and a set leave.
use Rattle.std.proofs.Common.{◌≡◌, ◌<◌, ◌≤◌, ◌+◌, ◌-◌, ◌⊎◌, inl, inr, ℕ, false, List, [], ◌∷◌, length, get_or, take, drop, replicate, refl, sym, ap, ◌∙◌, subst, arith}
use Rattle.std.specs.Prelude.{nat_le, ◌&&◌}
use Rattle.std.proofs.lemmas.Bool.{and_left, and_right, cases_lt, cond-false, lt-leb}
use Rattle.std.proofs.lemmas.List.{get_or-replicate, length-replicate}
use Rattle.std.proofs.lemmas.List.Elements.{All-drop, All-take}
use Rattle.hs_base.specs.Access.{overlaid, slots_below, slots_within}
use Rattle.byte_memory.specs.Bytes.{part, word}
use Rattle.count_table.specs.Table.{Table}
use Rattle.typed_copies.specs.declared.Ranged.{Ranged}
use Rattle.typed_copies.specs.declared.slots.Within.{Within}
use Rattle.typed_copies.specs.Slots.{AreWithin, Correspond}
use Rattle.typed_copies.specs.Pointers.{ArePointers, Follow, HaveRoom, words_at, words_in}
use Rattle.typed_copies.specs.Copying.{IsCleared, IsCopied}
use Rattle.typed_copies.proofs.Overlaid.{moved_none, word_moved, word_null}
use Rattle.typed_copies.proofs.Replaced.{follow_nulls, follow_replaced, replaced_now, room_replaced, words_replaced}
use Rattle.typed_copies.proofs.Selecting.{first_is, many_within}
use Rattle.typed_copies.proofs.Touched.{touches_alike}
use Rattle.typed_copies.specs.PointersEquations.{words_len}
use Rattle.typed_copies.proofs.Worded.{word_in_at, words_in_len}
use Rattle.hs_base.specs.AccessEquations.{overlaid_none}
use Rattle.byte_memory.specs.BytesEquations.{part_len}

-- Copies

module _ (d s : List ℕ) (dst src : Ranged) (n : ℕ) (old : List ℕ) (into : Within) (co : Correspond d dst.offset s src.offset n into) (ends : (k : ℕ) → k < length d → get_or d k 0 + 4 ≤ dst.size) (inside : dst.start + dst.size ≤ length old) (room : dst.offset + n ≤ dst.size) (from : src.start + src.offset + n ≤ length old) where
  -- the words that come
  abbrev pub incoming : List ℕ
  incoming = words_in old src.start s co.out

  -- as many as there are slots to take them
  many_come : length incoming ≡ into.count
  many_come = words_in_len old src.start s co.out co.read.inside ∙ co.same.many

  -- the bytes after the move
  abbrev pub moved : List ℕ
  moved = overlaid old (dst.start + dst.offset) (part old (src.start + src.offset) n)

  -- a slot has the word of the slot at the same distance
  word_comes : (k : ℕ) → k < into.count → word moved (dst.start + get_or d (into.first + k) 0) 4 ≡ get_or incoming k 0
  word_comes k less =
      let there : k < co.out.count = omega (arith, co.same.many) in
      let j = get_or d (into.first + k) 0 - dst.offset in
      let low = co.written.low k less in
      let high = co.written.high k less in
      let low' = co.read.low k there in
      let same = co.same.same k less in
      let at : dst.start + get_or d (into.first + k) 0 ≡ dst.start + dst.offset + j = omega arith in
      let at' : src.start + src.offset + j ≡ src.start + get_or s (co.out.first + k) 0 = omega arith in
      ap (λ a. word moved a 4) at ∙ word_moved old (dst.start + dst.offset) (src.start + src.offset) n j 4 (omega arith) from (omega arith)
      ∙ ap (λ a. word old a 4) at' ∙ sym (word_in_at old src.start s co.out k co.read.inside there)

  -- the words that come stand in place of those that go
  pub words_moved : words_at moved dst.start d ≡ overlaid (words_at old dst.start d) into.first incoming
  words_moved =
      words_replaced old dst.start dst.offset n dst.size (part old (src.start + src.offset) n) d into co.written (part_len old (src.start + src.offset) n from) inside room ends incoming many_come word_comes

  -- there are slots for them
  fit : into.first + length incoming ≤ length (words_at old dst.start d)
  fit = omega (arith, many_come, words_len old dst.start d, co.written.inside)

  -- what stands in these slots then
  pub come_is : words_in moved dst.start d into ≡ incoming
  come_is =
      ap (λ l. take into.count (drop into.first l)) words_moved
      ∙ ap (λ m. take m (drop into.first (overlaid (words_at old dst.start d) into.first incoming))) (sym many_come) ∙ replaced_now (words_at old dst.start d) into.first incoming fit

  -- the words that come are pointers where those of the source are
  pub pointers_come : (counts : Table) → ArePointers old counts (words_at old src.start s) → ArePointers old counts (words_in moved dst.start d into)
  pointers_come counts are =
      subst (ArePointers old counts) (sym come_is) (record {
        inside = All-take (λ w. w < length old) co.out.count (drop co.out.first (words_at old src.start s)) (All-drop (λ w. w < length old) co.out.first (words_at old src.start s) are.inside);
        granules = are.granules;
      })

  -- room for all words of the destination then is room for those that come
  pub room_comes : (counts : Table) → HaveRoom counts (words_at old dst.start d) (words_at moved dst.start d) → HaveRoom counts (words_in old dst.start d into) (words_in moved dst.start d into)
  room_comes counts room =
      let words = words_at old dst.start d in
      let some = room_replaced counts words into.first incoming fit (subst (HaveRoom counts words) words_moved room) in
      subst (HaveRoom counts (words_in old dst.start d into)) (sym come_is) (subst (λ (m : ℕ). HaveRoom counts (take m (drop into.first words)) incoming) many_come some)

  -- what a copy leaves
  pub copied_is : (new : List ℕ) (before after : Table) → new ≡ moved → Follow before after (words_in old dst.start d into) (words_in new dst.start d into) → IsCopied d s dst src n old new before after
  copied_is new before after is follow =
      let words = words_at old dst.start d in
      let now : words_at new dst.start d ≡ overlaid words into.first incoming = ap (λ l. words_at l dst.start d) is ∙ words_moved in
      let come = ap (λ l. words_in l dst.start d into) is ∙ come_is in
      let first = first_is d dst.offset n into co.written in
      let source = first_is s src.offset n co.out co.read in
      let number = many_within s src.offset n co.out co.read in
      let some : Follow before after (take (length incoming) (drop into.first words)) incoming =
      subst (λ (m : ℕ). Follow before after (take m (drop into.first words)) incoming) (sym many_come) (subst (Follow before after (words_in old dst.start d into)) come follow) in
      record {
        bytes = is;
        slots = touches_alike d dst.offset s src.offset n into co.out co.written co.read co.same;
        words = now ∙ sym (λ i. overlaid words (first i) (take (number i) (drop (source i) (words_at old src.start s))));
        counts = subst (Follow before after words) (sym now) (follow_replaced before after words into.first incoming fit some);
      }

-- no slot lies within no bytes
none_within : (slots : List ℕ) (offset : ℕ) → slots_within slots offset 0 ≡ []
none_within [] offset = refl
none_within (s ∷ slots) offset =
    let out = elim (cases_lt s offset) as (λ _. (nat_le offset s && nat_le (s + 4) (offset + 0)) ≡ false) [
      | inl below ↦ and_left (nat_le offset s) (nat_le (s + 4) (offset + 0)) (lt-leb offset s below)
      | inr behind ↦ and_right (nat_le offset s) (nat_le (s + 4) (offset + 0)) (lt-leb (s + 4) (offset + 0) (omega arith))
    ] in
    cond-false (nat_le offset s && nat_le (s + 4) (offset + 0)) (s ∷ slots_within slots offset 0) (slots_within slots offset 0) out ∙ none_within slots offset

-- nothing goes and nothing comes
follow_itself : (table : Table) (words : List ℕ) → Follow table table words words
follow_itself table words = record { most = refl; long = refl; exact = λ granule. refl; all = refl }

-- a copy of no bytes leaves all as it is
pub copied_none : (d s : List ℕ) (dst src : Ranged) (n : ℕ) (bytes : List ℕ) (counts : Table) → n ≡ 0 → IsCopied d s dst src n bytes bytes counts counts
copied_none d s dst src n bytes counts none =
    let words = words_at bytes dst.start d in
    let read = drop (length (slots_below s src.offset)) (words_at bytes src.start s) in
    subst (λ (m : ℕ). IsCopied d s dst src m bytes bytes counts counts) (sym none) (record {
      bytes = sym (moved_none bytes (dst.start + dst.offset) (src.start + src.offset));
      slots = λ k less. absurd (omega arith);
      words = sym (ap (λ l. overlaid words (length (slots_below d dst.offset)) (take (length l) read)) (none_within s src.offset) ∙ overlaid_none words (length (slots_below d dst.offset)));
      counts = follow_itself counts words;
    })

-- Sets

-- a set of no bytes leaves all as it is
pub cleared_none : (d : List ℕ) (dst : Ranged) (byte n : ℕ) (bytes : List ℕ) (counts : Table) → n ≡ 0 → IsCleared d dst byte n bytes bytes counts counts
cleared_none d dst byte n bytes counts none =
    let words = words_at bytes dst.start d in
    subst (λ (m : ℕ). IsCleared d dst byte m bytes bytes counts counts) (sym none) (record {
      bytes = sym (overlaid_none bytes (dst.start + dst.offset));
      words = sym (ap (λ l. overlaid words (length (slots_below d dst.offset)) (replicate (length l) 0)) (none_within d dst.offset) ∙ overlaid_none words (length (slots_below d dst.offset)));
      counts = follow_itself counts words;
    })

module _ (d : List ℕ) (dst : Ranged) (byte n : ℕ) (old : List ℕ) (within : Within) (are : AreWithin d dst.offset n within) (ends : (k : ℕ) → k < length d → get_or d k 0 + 4 ≤ dst.size) (inside : dst.start + dst.size ≤ length old) (room : dst.offset + n ≤ dst.size) (null : (byte ≡ 0) ⊎ (within.count ≡ 0)) where
  -- the bytes after the set
  abbrev pub filled : List ℕ
  filled = overlaid old (dst.start + dst.offset) (replicate n byte)

  -- a slot that was set to 0 is null
  word_goes : (k : ℕ) → k < within.count → word filled (dst.start + get_or d (within.first + k) 0) 4 ≡ get_or (replicate within.count 0) k 0
  word_goes k less =
      let j = get_or d (within.first + k) 0 - dst.offset in
      let low = are.low k less in
      let high = are.high k less in
      let at : dst.start + get_or d (within.first + k) 0 ≡ dst.start + dst.offset + j = omega arith in
      elim null [
        | inr none ↦ absurd (omega arith)
        | inl zero_byte ↦ ap (λ a. word filled a 4) at ∙ ap (λ b. word (overlaid old (dst.start + dst.offset) (replicate n b)) (dst.start + dst.offset + j) 4) zero_byte
            ∙ word_null old (dst.start + dst.offset) n j (omega arith) (omega arith) ∙ sym (get_or-replicate within.count k 0 0 less)
      ]

  -- what a set leaves
  pub cleared_is : (new : List ℕ) (before after : Table) → new ≡ filled → Follow before after (words_in old dst.start d within) [] → IsCleared d dst byte n old new before after
  cleared_is new before after is follow =
      let words = words_at old dst.start d in
      let nulls = replicate within.count 0 in
      let first = first_is d dst.offset n within are in
      let number = many_within d dst.offset n within are in
      let many : length nulls ≡ within.count = length-replicate within.count 0 in
      let fit : within.first + length nulls ≤ length words = omega (arith, words_len old dst.start d, are.inside) in
      let now : words_at new dst.start d ≡ overlaid words within.first nulls =
      ap (λ l. words_at l dst.start d) is
      ∙ words_replaced old dst.start dst.offset n dst.size (replicate n byte) d within are (length-replicate n byte) inside room ends nulls many word_goes in
      let some : Follow before after (take (length nulls) (drop within.first words)) nulls =
      subst (λ (m : ℕ). Follow before after (take m (drop within.first words)) nulls) (sym many) (follow_nulls before after (words_in old dst.start d within) within.count follow) in
      record {
        bytes = is;
        words = now ∙ sym (λ i. overlaid words (first i) (replicate (number i) 0));
        counts = subst (Follow before after words) (sym now) (follow_replaced before after words within.first nulls fit some);
      }
