-- What a walk over the heap tells of its objects that wait.
use Rattle.std.proofs.Common.{◌≡◌, ◌≤◌, ◌<◌, ◌+◌, ◌*◌, ◌/◌, ◌^◌, ◌∙◌, ℕ, Bool, true, false, cond, Option, Some, None, List, [], ◌∷◌, length, refl, sym, ap, subst, arith}
use Rattle.std.specs.Prelude.{◌&&◌, filter, nat_eq}
use Rattle.std.specs.List.{sum_by}
use Rattle.std.proofs.lemmas.List.Sums.{sum_by-cons}
use Rattle.hs_base.specs.Object as object
use Rattle.hs_base.specs.Object.{Object, Standing, object_at}
use Rattle.heap_blocks.specs.declared.headers.Header.{Header}
use Rattle.flat_objects.specs.declared.waiting.Tally.{Tally}
use Rattle.flat_objects.specs.declared.waiting.Waiting.{Waiting}
use Rattle.flat_objects.specs.Memory.{Memory, IsMemory, end_of}
use Rattle.flat_objects.specs.Keeping.{Keeps, IsHeaderOf, IsStateOf}
use Rattle.flat_objects.specs.Leaks.{IsHeaderAt, all_left, line_of_birth}
use Rattle.flat_objects.specs.Tries.{IsHeapStart}
use Rattle.flat_objects.specs.Waiting.{all_waiting, is_asked, line_of_one, tells_waiting, waiting_of, waits, with_waiting}
use Rattle.flat_objects.proofs.Leaking.{line_in, no_sum_yet, one_each, size_each, sum_below, sum_is, sum_met, sum_none}
use Rattle.flat_objects.proofs.Tallies.{sum_ones}

-- does an object wait that was freed at the line that is asked for?
abbrev pub is_waiting : Option ℕ → Object → Bool
is_waiting asked o = waits asked o.standing

abbrev pub line_each : Object → ℕ
line_each o = line_of_birth o.sort

-- a header tells whether its object waits
state_tested : (asked : Option ℕ) (s : Standing) (header : Header) → IsStateOf s header → tells_waiting asked header ≡ waits asked s
state_tested asked object.Live header is = ap (λ n. nat_eq n 2 && is_asked asked header.freed) is
state_tested asked (object.Queued line) header is =
    ap (λ n. nat_eq n 2 && is_asked asked header.freed) is.0 ∙ ap (is_asked asked) is.1
state_tested asked object.Dead header is = absurd is

-- one more, where a test passes
abbrev more : Bool → Tally → Header → Tally
more t tally header =
    cond t (record { blocks = tally.blocks + 1; bytes = tally.bytes + header.size; lines = tally.lines + header.line }) tally

blocks_are : (t : Bool) (tally : Tally) (header : Header) → (more t tally header).blocks ≡ cond t (tally.blocks + 1) tally.blocks
blocks_are true tally header = refl
blocks_are false tally header = refl

bytes_are : (t : Bool) (tally : Tally) (header : Header) → (more t tally header).bytes ≡ cond t (tally.bytes + header.size) tally.bytes
bytes_are true tally header = refl
bytes_are false tally header = refl

lines_are : (t : Bool) (tally : Tally) (header : Header) → (more t tally header).lines ≡ cond t (tally.lines + header.line) tally.lines
lines_are true tally header = refl
lines_are false tally header = refl

-- the line of birth of one object is the sum of the lines
one_line : (all : List Object) → length all ≡ 1 → line_of_one all ≡ Some (sum_by line_each all)
one_line [] one = absurd (cc)
one_line (o ∷ []) one = ap Some (sym (sum_by-cons line_each o [] ∙ omega arith))
one_line (o ∷ p ∷ rest) one = absurd (omega (arith, one))

-- and more or fewer have none
no_line : (all : List Object) → (length all ≡ 1 → ⊥) → line_of_one all ≡ None
no_line [] other = refl
no_line (o ∷ []) other = absurd (other refl)
no_line (o ∷ p ∷ rest) other = refl

-- so far a tally has the sums over the objects that wait and start below an address
pub record IsTally (places : ℕ → ℕ) (objects : List Object) (asked : Option ℕ) (tally : Tally) (below : ℕ) : Type 0 where
  pub blocks : tally.blocks ≡ sum_below places objects one_each (is_waiting asked) below
  pub bytes : tally.bytes ≡ sum_below places objects size_each (is_waiting asked) below
  pub lines : tally.lines ≡ sum_below places objects line_each (is_waiting asked) below

module _ (locals heap : ℕ) (memory : Memory) (shape : IsMemory locals heap memory) (places : ℕ → ℕ) (objects : List Object) (keeps : Keeps memory places objects) (asked : Option ℕ) where
  abbrev Tallied : Tally → ℕ → Type 0
  Tallied tally below = IsTally places objects asked tally below

  pub none_yet : (n : ℕ) (tally : Tally) → 16 * n ≤ memory.heap.base → tally.blocks ≡ 0 → tally.bytes ≡ 0 → tally.lines ≡ 0 → Tallied tally (16 * n)
  none_yet n tally low blocks bytes lines = record {
    blocks = blocks ∙ sym (no_sum_yet locals heap memory shape places objects keeps one_each (is_waiting asked) n low);
    bytes = bytes ∙ sym (no_sum_yet locals heap memory shape places objects keeps size_each (is_waiting asked) n low);
    lines = lines ∙ sym (no_sum_yet locals heap memory shape places objects keeps line_each (is_waiting asked) n low);
  }

  none_met : (n : ℕ) (tally : Tally) → (IsHeapStart places objects (16 * n) → ⊥) → Tallied tally (16 * n) → Tallied tally (16 * (n + 1))
  none_met n tally none is = record {
    blocks = is.blocks ∙ sym (sum_none locals heap memory shape places objects keeps one_each (is_waiting asked) n none);
    bytes = is.bytes ∙ sym (sum_none locals heap memory shape places objects keeps size_each (is_waiting asked) n none);
    lines = is.lines ∙ sym (sum_none locals heap memory shape places objects keeps line_each (is_waiting asked) n none);
  }

  some_met : (n : ℕ) (tally : Tally) (header : Header) (start : IsHeapStart places objects (16 * n)) → IsHeaderOf header start.birth (object_at objects start.birth) → Tallied tally (16 * n) → Tallied (with_waiting asked tally (Some header)) (16 * (n + 1))
  some_met n tally header start is_header is =
      let o = object_at objects start.birth in
      let t = tells_waiting asked header in
      let tested = state_tested asked o.standing header is_header.state in
      let born = line_in o.sort header.line start.heap is_header.line in
      record {
        blocks = blocks_are t tally header ∙ sum_met locals heap memory shape places objects keeps one_each (is_waiting asked) n start t tested tally.blocks is.blocks;
        bytes = bytes_are t tally header ∙ ap (λ m. cond t (tally.bytes + m) tally.bytes) is_header.size ∙ sum_met locals heap memory shape places objects keeps size_each (is_waiting asked) n start t tested tally.bytes is.bytes;
        lines = lines_are t tally header ∙ ap (λ m. cond t (tally.lines + m) tally.lines) born ∙ sum_met locals heap memory shape places objects keeps line_each (is_waiting asked) n start t tested tally.lines is.lines;
      }

  pub tally_met : (n : ℕ) (tally next : Tally) (found : Option Header) → next ≡ with_waiting asked tally found → IsHeaderAt places objects (16 * n) found → Tallied tally (16 * n) → Tallied next (16 * (n + 1))
  tally_met n tally next found next_is met is =
      subst (λ (t : Tally). Tallied t (16 * (n + 1))) (sym next_is) (with_found found met) where
        with_found : (found : Option Header) → IsHeaderAt places objects (16 * n) found → Tallied (with_waiting asked tally found) (16 * (n + 1))
        with_found None none = none_met n tally none is
        with_found (Some header) met = some_met n tally header met.0 met.1 is

  -- all objects of the heap start below its end
  pub record Sums (tally : Tally) : Type 0 where
    pub blocks : tally.blocks ≡ length (all_waiting asked objects)
    pub bytes : tally.bytes ≡ sum_by size_each (all_waiting asked objects)
    pub lines : tally.lines ≡ sum_by line_each (all_waiting asked objects)

  pub sums : (n : ℕ) (tally : Tally) → end_of memory.heap / 16 ≤ n → Tallied tally (16 * n) → Sums tally
  sums n tally past is = record {
    blocks = is.blocks ∙ sum_is locals heap memory shape places objects keeps one_each (is_waiting asked) n past ∙ sum_ones (all_waiting asked objects);
    bytes = is.bytes ∙ sum_is locals heap memory shape places objects keeps size_each (is_waiting asked) n past;
    lines = is.lines ∙ sum_is locals heap memory shape places objects keeps line_each (is_waiting asked) n past;
  }

  waiting_so : (tally : Tally) (result : Waiting) → Sums tally → result.blocks ≡ tally.blocks → result.bytes ≡ tally.bytes → result.line ≡ line_of_one (all_waiting asked objects) → result ≡ waiting_of asked objects
  waiting_so tally result all blocks bytes line =
      let all_blocks = blocks ∙ all.blocks in
      let all_bytes = bytes ∙ all.bytes in
      λ i. record { blocks = all_blocks i; bytes = all_bytes i; line = line i }

  -- where it is one it has that line
  pub one_waits : (tally : Tally) (result : Waiting) → Sums tally → result.blocks ≡ tally.blocks → result.bytes ≡ tally.bytes → tally.blocks ≡ 1 → result.line ≡ Some tally.lines → result ≡ waiting_of asked objects
  one_waits tally result all blocks bytes one line =
      waiting_so tally result all blocks bytes (line ∙ ap Some all.lines ∙ sym (one_line (all_waiting asked objects) (sym all.blocks ∙ one)))

  pub some_wait : (tally : Tally) (result : Waiting) → Sums tally → result.blocks ≡ tally.blocks → result.bytes ≡ tally.bytes → (tally.blocks ≡ 1 → ⊥) → result.line ≡ None → result ≡ waiting_of asked objects
  some_wait tally result all blocks bytes other line =
      waiting_so tally result all blocks bytes (line ∙ sym (no_line (all_waiting asked objects) (λ one. other (all.blocks ∙ one))))
