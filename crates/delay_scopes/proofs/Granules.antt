-- Totals over the granules of a block.
use Rattle.std.proofs.Common.{◌≡◌, ◌≤◌, ◌+◌, ◌-◌, ◌*◌, ◌/◌, ℕ, zero, suc, List, length, get_or, take, drop, refl, sym, ap, ◌∙◌, arith, drop-cons}
use Rattle.std.specs.Prelude.{sum, slice_index, slice_range}
use Rattle.std.specs.List.{sum_by, range_with_len}
use Rattle.std.proofs.lemmas.List.FromFn.{length-range_with_len}
use Rattle.std.proofs.lemmas.List.Sums.{sum_by-cons}
use Rattle.hs_base.specs.Place.{block_size}
use Rattle.delay_scopes.specs.Queue.{header_of}
use Rattle.delay_scopes.specs.Check.{granules_of}
use Rattle.delay_scopes.specs.Walks.{IsInside}

sum_part : (counts : List ℕ) (a n : ℕ) → a + n ≤ length counts → sum (take n (drop a counts)) ≡ sum_by (λ g. get_or counts g 0) (range_with_len a n)
sum_part counts a zero inside = refl
sum_part counts a (suc n) inside =
    let next : suc a ≡ a + 1 = omega arith in
    ap (λ l. sum (take (suc n) l)) (drop-cons counts a 0 (omega arith))
    ∙ sum_by-cons (λ x. x) (get_or counts a 0) (take n (drop (suc a) counts))
    ∙ ap (λ m. get_or counts a 0 + sum (take n (drop m counts))) next
    ∙ ap (λ m. get_or counts a 0 + m) (sum_part counts (a + 1) n (omega arith))
    ∙ sym (sum_by-cons (λ g. get_or counts g 0) a (range_with_len (a + 1) n))

pub total_is : (counts : List ℕ) (a n : ℕ) → a + n ≤ length counts → sum (slice_range counts a (a + n)) ≡ sum_by (λ g. get_or counts g 0) (range_with_len a n)
total_is counts a n inside =
    let long : a + n - a ≡ n = omega arith in
    ap (λ m. sum (take m (drop a counts))) long ∙ sum_part counts a n inside

module _ (bytes : List ℕ) (addr size : ℕ) (is : size ≡ (header_of bytes addr).size) where
  granules_are : range_with_len ((addr - 32) / 16) (size / 16 + 3) ≡ granules_of bytes addr
  granules_are =
      let many : size / 16 + 3 ≡ block_size size / 16 = omega arith in
      ap (range_with_len ((addr - 32) / 16)) (many ∙ ap (λ n. block_size n / 16) is)

  pub length-granules : length (granules_of bytes addr) ≡ size / 16 + 3
  length-granules = ap length (sym granules_are) ∙ length-range_with_len ((addr - 32) / 16) (size / 16 + 3)

  -- what the table answers for them
  pub block_total : (counts : List ℕ) (total : ℕ) → IsInside bytes addr → length bytes ≤ 16 * length counts → total ≡ sum (slice_range counts ((addr - 32) / 16) ((addr - 32) / 16 + (size / 16 + 3)))
      → total ≡ sum_by (slice_index counts) (granules_of bytes addr)
  block_total counts total inside granules read =
      let end : addr - 32 + (size / 16 + 3) * 16 ≤ length bytes = omega (arith, inside.inside, ap block_size is) in
      read ∙ total_is counts ((addr - 32) / 16) (size / 16 + 3) (omega arith) ∙ ap (sum_by (slice_index counts)) granules_are
