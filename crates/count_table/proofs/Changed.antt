-- One more and one less for a granule, as bytes and pairs take it.
use Rattle.std.proofs.Common.{◌≡◌, ◌<◌, ◌≤◌, ◌+◌, ◌-◌, ◌*◌, ◌/◌, ◌^◌, ℕ, List, length, get_or, set, sum, refl, sym, ap, ◌∙◌, subst, arith}
use Rattle.std.specs.Prelude.{min}
use Rattle.std.proofs.lemmas.List.{get_or_read, length-map, length-set}
use Rattle.std.proofs.lemmas.List.Sums.{get_or-le-sum_by, sum_by-set}
use Rattle.count_table.specs.Excess.{Pairs, excess_at, with_excess}
use Rattle.count_table.specs.Table.{IsTable, Table, counts_of, excess_of, with_count}
use Rattle.count_table.proofs.Kept.{IsTable-shown, Show, Show-high, Show-low, Show-table, counts_of-shown, excess_at-shown, excess_from-pigeons, low_at}

-- the table that bytes and pairs stand for
abbrev pub table_of : List ℕ → Pairs → ℕ → Table
table_of lows excess most = record { counts = counts_of lows excess.list; most = most }

-- they stand for an old table with another count for one granule
pub record Becomes (lows : List ℕ) (excess : Pairs) (most : ℕ) (old : Table) (n count : ℕ) : Type 0 where
  pub table : IsTable lows excess most
  pub is : table_of lows excess most ≡ with_count old n count
  pub long : length (counts_of lows excess.list) ≡ length old.counts
  pub sum_is : sum (counts_of lows excess.list) + get_or old.counts n 0 ≡ sum old.counts + count

Becomes-shown : {lows : List ℕ} (excess : Pairs) (old : Table) (n count : ℕ) → n < length old.counts → Show lows excess.list (set old.counts n count) → sum old.counts + count ≤ old.most + get_or old.counts n 0 → excess.room ≡ old.most / 256 → old.most < 2 ^ 32 → Becomes lows excess old.most old n count
Becomes-shown {lows} excess old n count inside shown bounded room fits =
    let all : sum (set old.counts n count) + get_or old.counts n 0 ≡ sum old.counts + count = sum_by-set (λ x. x) old.counts n count 0 inside in
    let e : counts_of lows excess.list ≡ set old.counts n count = counts_of-shown shown in
    let made : List ℕ → Table = λ counts. record { counts = counts; most = old.most } in
    record {
      table = IsTable-shown excess old.most shown (omega arith) room fits;
      is = ap made e;
      long = ap length e ∙ length-set old.counts n count;
      sum_is = omega (arith, ap sum e);
    }

module _ {lows : List ℕ} {excess : Pairs} {most : ℕ} (table : IsTable lows excess most) (n : ℕ) (inside : n < length (counts_of lows excess.list)) (low : ℕ) (item : low ≡ get_or lows n low) where
  read : low ≡ get_or lows n 0
  read =
      let counts = counts_of lows excess.list in
      let long : length lows ≡ length counts = ap length table.low ∙ length-map counts (λ count. min count 255) in
      get_or_read lows n low (omega arith) item 0

  no_excess : low < 255 → excess_at excess.list n ≡ 0
  no_excess less = omega (arith, read, low_at (Show-table table) n inside, excess_at-shown (Show-table table) n inside)

  inc_low : low < 255 → sum (counts_of lows excess.list) < most → Becomes (set lows n (low + 1)) excess most (table_of lows excess most) n (get_or (counts_of lows excess.list) n 0 + 1)
  inc_low less room =
      let counts = counts_of lows excess.list in
      let shown : Show lows excess.list counts = Show-table table in
      let same : low ≡ get_or counts n 0 = omega (arith, read, low_at shown n inside) in
      let next : Show (set lows n (low + 1)) excess.list (set counts n (low + 1)) = Show-low shown n inside (low + 1) (omega arith) (omega arith) in
      let count : low + 1 ≡ get_or counts n 0 + 1 = omega arith in
      Becomes-shown excess (table_of lows excess most) n (get_or counts n 0 + 1) inside (subst (λ x. Show (set lows n (low + 1)) excess.list (set counts n x)) count next) (omega arith) table.room table.fits

  inc_high : (other : Pairs) → 255 ≤ low → sum (counts_of lows excess.list) < most → other.list ≡ with_excess excess.list n (excess_at excess.list n + 1) → other.room ≡ excess.room → Becomes lows other most (table_of lows excess most) n (get_or (counts_of lows excess.list) n 0 + 1)
  inc_high other full room is same_room =
      let counts = counts_of lows excess.list in
      let shown : Show lows excess.list counts = Show-table table in
      let high : 255 ≤ get_or counts n 0 = omega (arith, read, low_at shown n inside) in
      let rest : excess_at excess.list n + 1 ≡ get_or counts n 0 + 1 - 255 = omega (arith, excess_at-shown shown n inside) in
      let next : Show lows other.list (set counts n (get_or counts n 0 + 1)) = Show-high shown n inside other.list (get_or counts n 0 + 1) high (omega arith) (is ∙ ap (with_excess excess.list n) rest) in
      Becomes-shown other (table_of lows excess most) n (get_or counts n 0 + 1) inside next (omega arith) (same_room ∙ table.room) table.fits

  dec_low : excess_at excess.list n ≡ 0 → 0 < get_or (counts_of lows excess.list) n 0 → (other : Pairs) → other.list ≡ excess.list → other.room ≡ excess.room → Becomes (set lows n (low - 1)) other most (table_of lows excess most) n (get_or (counts_of lows excess.list) n 0 - 1)
  dec_low none some other same_list same_room =
      let counts = counts_of lows excess.list in
      let shown : Show lows excess.list counts = Show-table table in
      let held : get_or counts n 0 ≤ 255 = omega (arith, excess_at-shown shown n inside) in
      let same : low ≡ get_or counts n 0 = omega (arith, read, low_at shown n inside) in
      let next : Show (set lows n (low - 1)) excess.list (set counts n (low - 1)) = Show-low shown n inside (low - 1) held (omega arith) in
      let count : low - 1 ≡ get_or counts n 0 - 1 = omega arith in
      let lower : Show (set lows n (low - 1)) excess.list (set counts n (get_or counts n 0 - 1)) = subst (λ x. Show (set lows n (low - 1)) excess.list (set counts n x)) count next in
      Becomes-shown other (table_of lows excess most) n (get_or counts n 0 - 1) inside (subst (λ l. Show (set lows n (low - 1)) l (set counts n (get_or counts n 0 - 1))) (sym same_list) lower) (omega (arith, table.bounded)) (same_room ∙ table.room) table.fits

  dec_high : 0 < excess_at excess.list n → (other : Pairs) → other.list ≡ with_excess excess.list n (excess_at excess.list n - 1) → other.room ≡ excess.room → Becomes lows other most (table_of lows excess most) n (get_or (counts_of lows excess.list) n 0 - 1)
  dec_high some other is same_room =
      let counts = counts_of lows excess.list in
      let shown : Show lows excess.list counts = Show-table table in
      let above : get_or counts n 0 - 255 ≡ excess_at excess.list n = sym (excess_at-shown shown n inside) in
      let rest : excess_at excess.list n - 1 ≡ get_or counts n 0 - 1 - 255 = omega arith in
      let next : Show lows other.list (set counts n (get_or counts n 0 - 1)) = Show-high shown n inside other.list (get_or counts n 0 - 1) (omega arith) (omega arith) (is ∙ ap (with_excess excess.list n) rest) in
      Becomes-shown other (table_of lows excess most) n (get_or counts n 0 - 1) inside next (omega (arith, table.bounded)) (same_room ∙ table.room) table.fits

module _ {lows : List ℕ} {excess : Pairs} {most : ℕ} {old : Table} (table : IsTable lows excess most) (view_is : table_of lows excess most ≡ old) (n : ℕ) (inside : n < length old.counts) (low : ℕ) (item : low ≡ get_or lows n low) where
  here : n < length (counts_of lows excess.list)
  here = subst (λ (t : Table). n < length t.counts) (sym view_is) inside

  below_most : sum old.counts < old.most → sum (counts_of lows excess.list) < most
  below_most = subst (λ (t : Table). sum t.counts < t.most → sum (counts_of lows excess.list) < most) view_is (λ room. room)

  some_there : 0 < get_or old.counts n 0 → 0 < get_or (counts_of lows excess.list) n 0
  some_there = subst (λ (t : Table). 0 < get_or t.counts n 0 → 0 < get_or (counts_of lows excess.list) n 0) view_is (λ some. some)

  -- one more in a byte, and in the excess over a full one
  pub byte_up : low < 255 → sum old.counts < old.most → Becomes (set lows n (low + 1)) excess most old n (get_or old.counts n 0 + 1)
  byte_up less room =
      subst (λ (t : Table). Becomes (set lows n (low + 1)) excess most t n (get_or t.counts n 0 + 1)) view_is (inc_low table n here low item less (below_most room))

  pub excess_up : 255 ≤ low → sum old.counts < old.most → (other : Pairs) → other.list ≡ with_excess excess.list n (excess_at excess.list n + 1) → other.room ≡ excess.room → Becomes lows other most old n (get_or old.counts n 0 + 1)
  excess_up full room other is same_room =
      subst (λ (t : Table). Becomes lows other most t n (get_or t.counts n 0 + 1)) view_is (inc_high table n here low item other full (below_most room) is same_room)

  -- what that excess takes
  pub excess_fits : sum old.counts < old.most → excess_at excess.list n + 1 < 2 ^ 32
  excess_fits room =
      let counts = counts_of lows excess.list in
      omega (arith, below_most room, excess_at-shown (Show-table table) n here, get_or-le-sum_by (λ x. x) counts n 0 here, table.fits)

  pub excess_has_room : 255 ≤ low → sum old.counts < old.most → length (with_excess excess.list n (excess_at excess.list n + 1)) ≤ excess.room
  excess_has_room full room =
      let other : Pairs = record { list = with_excess excess.list n (excess_at excess.list n + 1); room = excess.room } in
      let next = inc_high table n here low item other full (below_most room) refl refl in
      let pigeons : 256 * length (excess_of (counts_of lows other.list)) ≤ sum (counts_of lows other.list) = excess_from-pigeons 0 (counts_of lows other.list) in
      omega (arith, ap length next.table.above, pigeons, next.table.bounded, table.room)

  -- one less in a byte without excess, and in the excess
  pub byte_down : excess_at excess.list n ≡ 0 → 0 < get_or old.counts n 0 → (other : Pairs) → other.list ≡ excess.list → other.room ≡ excess.room → Becomes (set lows n (low - 1)) other most old n (get_or old.counts n 0 - 1)
  byte_down none some other same_list same_room =
      subst (λ (t : Table). Becomes (set lows n (low - 1)) other most t n (get_or t.counts n 0 - 1)) view_is (dec_low table n here low item none (some_there some) other same_list same_room)

  pub excess_down : 0 < excess_at excess.list n → (other : Pairs) → other.list ≡ with_excess excess.list n (excess_at excess.list n - 1) → other.room ≡ excess.room → Becomes lows other most old n (get_or old.counts n 0 - 1)
  excess_down some other is same_room =
      subst (λ (t : Table). Becomes lows other most t n (get_or t.counts n 0 - 1)) view_is (dec_high table n here low item some other is same_room)

  -- a byte that is not full has no excess
  pub empty_below : low < 255 → excess_at excess.list n ≡ 0
  empty_below = no_excess table n here low item
