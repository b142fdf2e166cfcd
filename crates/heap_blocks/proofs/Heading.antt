-- The header that seven writes leave.
use Rattle.std.proofs.Common.{◌≡◌, ◌≤◌, ◌<◌, ◌+◌, ◌-◌, ◌^◌, ◌⊎◌, inl, inr, ℕ, List, length, sym, ap, ◌∙◌, subst, arith}
use Rattle.byte_memory.specs.Bytes.{part, word, put_word}
use Rattle.byte_memory.specs.BytesEquations.{word_same, length-put_word}
use Rattle.heap_blocks.specs.declared.headers.Header.{Header}
use Rattle.heap_blocks.specs.Bytes.{ChangesOnly}
use Rattle.heap_blocks.specs.Heads.{header_at}
use Rattle.heap_blocks.proofs.Pieces.{word_from_part, changes_written, changes_joined, changes_nothing}

-- bytes before a word of a header was written, and after that and later writes behind it
record Written (before after : List ℕ) (block place width value : ℕ) : Type 0 where
  reads : word after place width ≡ value
  outside : ChangesOnly before after place (block + 32 - place)

long_after : (before here : List ℕ) (place width value : ℕ) → here ≡ put_word before place width value → place + width ≤ length before → length here ≡ length before
long_after before here place width value is inside = ap length is ∙ length-put_word before place width value inside

-- a write, and what is written behind it
written : (before here after : List ℕ) (block place width next value : ℕ) → here ≡ put_word before place width value → block ≤ place → next ≡ place + width → next ≤ block + 32 → block + 32 ≤ length before → value < 256 ^ width
    → ChangesOnly here after next (block + 32 - next) → Written before after block place width value
written before here after block place width next value is above behind low inside small later =
    let fits : place + width ≤ length before = omega arith in
    let changed : ChangesOnly before here place width =
    subst (λ (l : List ℕ). ChangesOnly before l place width) (sym is) (changes_written before place width value fits) in
    record {
      reads = word_from_part after here place width (later.below place width (omega arith)) ∙ ap (λ l. word l place width) is ∙ word_same before place width value fits small;
      outside = changes_joined before here after place width next (block + 32 - next) place (block + 32 - place) changed later (omega arith) (omega arith) (omega arith) (omega arith);
    }

pub header_written : (b0 b1 b2 b3 b4 b5 b6 b7 : List ℕ) (block : ℕ) (h : Header) → block + 32 ≤ length b0
    → h.birth < 2 ^ 64 → h.size < 2 ^ 32 → h.layout < 2 ^ 32 → h.line < 2 ^ 32 → h.state < 2 ^ 32 → h.freed < 2 ^ 32 → h.next < 2 ^ 32
    → b1 ≡ put_word b0 block 8 h.birth → b2 ≡ put_word b1 (block + 8) 4 h.size → b3 ≡ put_word b2 (block + 12) 4 h.layout → b4 ≡ put_word b3 (block + 16) 4 h.line
    → b5 ≡ put_word b4 (block + 20) 4 h.state → b6 ≡ put_word b5 (block + 24) 4 h.freed → b7 ≡ put_word b6 (block + 28) 4 h.next
    → (header_at b7 block ≡ h) × ChangesOnly b0 b7 block 32
header_written b0 b1 b2 b3 b4 b5 b6 b7 block h inside s1 s2 s3 s4 s5 s6 s7 e1 e2 e3 e4 e5 e6 e7 =
    let l1 = long_after b0 b1 block 8 h.birth e1 (omega arith) in
    let l2 = long_after b1 b2 (block + 8) 4 h.size e2 (omega arith) in
    let l3 = long_after b2 b3 (block + 12) 4 h.layout e3 (omega arith) in
    let l4 = long_after b3 b4 (block + 16) 4 h.line e4 (omega arith) in
    let l5 = long_after b4 b5 (block + 20) 4 h.state e5 (omega arith) in
    let l6 = long_after b5 b6 (block + 24) 4 h.freed e6 (omega arith) in
    let w7 = written b6 b7 b7 block (block + 28) 4 (block + 32) h.next e7 (omega arith) (omega arith) (omega arith) (omega arith) s7 (changes_nothing b7 (block + 32) (block + 32 - (block + 32))) in
    let w6 = written b5 b6 b7 block (block + 24) 4 (block + 28) h.freed e6 (omega arith) (omega arith) (omega arith) (omega arith) s6 w7.outside in
    let w5 = written b4 b5 b7 block (block + 20) 4 (block + 24) h.state e5 (omega arith) (omega arith) (omega arith) (omega arith) s5 w6.outside in
    let w4 = written b3 b4 b7 block (block + 16) 4 (block + 20) h.line e4 (omega arith) (omega arith) (omega arith) (omega arith) s4 w5.outside in
    let w3 = written b2 b3 b7 block (block + 12) 4 (block + 16) h.layout e3 (omega arith) (omega arith) (omega arith) (omega arith) s3 w4.outside in
    let w2 = written b1 b2 b7 block (block + 8) 4 (block + 12) h.size e2 (omega arith) (omega arith) (omega arith) (omega arith) s2 w3.outside in
    let w1 = written b0 b1 b7 block block 8 (block + 8) h.birth e1 (omega arith) (omega arith) (omega arith) (omega arith) s1 w2.outside in
    let width : block + 32 - block ≡ 32 = omega arith in (
      (λ i. record { birth = w1.reads i; size = w2.reads i; layout = w3.reads i; line = w4.reads i; state = w5.reads i; freed = w6.reads i; next = w7.reads i }),
      subst (λ n. ChangesOnly b0 b7 block n) width w1.outside,
    )

-- a header whose bytes are the same
pub header_from_parts : (before after : List ℕ) (block : ℕ) → ((from k : ℕ) → block ≤ from → from + k ≤ block + 32 → part after from k ≡ part before from k) → header_at after block ≡ header_at before block
header_from_parts before after block parts =
    let same : (from k : ℕ) → block ≤ from → from + k ≤ block + 32 → word after from k ≡ word before from k =
    λ from k low high. word_from_part after before from k (parts from k low high) in
    λ i. record {
      birth = same block 8 (omega arith) (omega arith) i;
      size = same (block + 8) 4 (omega arith) (omega arith) i;
      layout = same (block + 12) 4 (omega arith) (omega arith) i;
      line = same (block + 16) 4 (omega arith) (omega arith) i;
      state = same (block + 20) 4 (omega arith) (omega arith) i;
      freed = same (block + 24) 4 (omega arith) (omega arith) i;
      next = same (block + 28) 4 (omega arith) (omega arith) i;
    }

-- a header is the same where its bytes are
pub header_kept : (after before : List ℕ) (block at n : ℕ) → ChangesOnly before after at n → (block + 32 ≤ at) ⊎ (at + n ≤ block) → header_at after block ≡ header_at before block
header_kept after before block at n changed beside =
    header_from_parts before after block (λ from k low high. elim beside [ inl h ↦ changed.below from k (omega arith) | inr h ↦ changed.above from k (omega arith) ])

-- the header that the writes of a block that is queued leave
pub queued_written : (b0 b1 b2 b3 : List ℕ) (block freed : ℕ) → block + 32 ≤ length b0 → freed < 2 ^ 32
    → b1 ≡ put_word b0 (block + 20) 4 2 → b2 ≡ put_word b1 (block + 24) 4 freed → b3 ≡ put_word b2 (block + 28) 4 0
    → (let queued : Header = record (header_at b0 block) { state = 2; freed = freed; next = 0 } in header_at b3 block ≡ queued) × ChangesOnly b0 b3 (block + 20) 12
queued_written b0 b1 b2 b3 block freed inside small e1 e2 e3 =
    let l1 = long_after b0 b1 (block + 20) 4 2 e1 (omega arith) in
    let l2 = long_after b1 b2 (block + 24) 4 freed e2 (omega arith) in
    let w3 = written b2 b3 b3 block (block + 28) 4 (block + 32) 0 e3 (omega arith) (omega arith) (omega arith) (omega arith) (omega arith) (changes_nothing b3 (block + 32) (block + 32 - (block + 32))) in
    let w2 = written b1 b2 b3 block (block + 24) 4 (block + 28) freed e2 (omega arith) (omega arith) (omega arith) (omega arith) small w3.outside in
    let w1 = written b0 b1 b3 block (block + 20) 4 (block + 24) 2 e1 (omega arith) (omega arith) (omega arith) (omega arith) (omega arith) w2.outside in
    let width : block + 32 - (block + 20) ≡ 12 = omega arith in
    let changed : ChangesOnly b0 b3 (block + 20) 12 = subst (λ n. ChangesOnly b0 b3 (block + 20) n) width w1.outside in
    let same : (from k : ℕ) → from + k ≤ block + 20 → word b3 from k ≡ word b0 from k =
    λ from k low. word_from_part b3 b0 from k (changed.below from k low) in (
      (λ i. record {
        birth = same block 8 (omega arith) i;
        size = same (block + 8) 4 (omega arith) i;
        layout = same (block + 12) 4 (omega arith) i;
        line = same (block + 16) 4 (omega arith) i;
        state = w1.reads i;
        freed = w2.reads i;
        next = w3.reads i;
      }),
      changed,
    )

-- the header that a write of its last field leaves
pub next_written : (before after : List ℕ) (block next : ℕ) → block + 32 ≤ length before → next < 2 ^ 32 → after ≡ put_word before (block + 28) 4 next
    → (let linked : Header = record (header_at before block) { next = next } in header_at after block ≡ linked) × ChangesOnly before after (block + 28) 4
next_written before after block next inside small e =
    let changed : ChangesOnly before after (block + 28) 4 =
    subst (λ (l : List ℕ). ChangesOnly before l (block + 28) 4) (sym e) (changes_written before (block + 28) 4 next (omega arith)) in
    let same : (from k : ℕ) → from + k ≤ block + 28 → word after from k ≡ word before from k =
    λ from k low. word_from_part after before from k (changed.below from k low) in
    let reads : word after (block + 28) 4 ≡ next = ap (λ l. word l (block + 28) 4) e ∙ word_same before (block + 28) 4 next (omega arith) small in (
      (λ i. record {
        birth = same block 8 (omega arith) i;
        size = same (block + 8) 4 (omega arith) i;
        layout = same (block + 12) 4 (omega arith) i;
        line = same (block + 16) 4 (omega arith) i;
        state = same (block + 20) 4 (omega arith) i;
        freed = same (block + 24) 4 (omega arith) i;
        next = reads i;
      }),
      changed,
    )
