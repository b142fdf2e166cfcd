-- Blocks that stand one behind the other.
use Rattle.std.proofs.Common.{◌≡◌, ◌≤◌, ◌<◌, ◌+◌, ◌*◌, ◌/◌, ◌%◌, inl, inr, ℕ, zero, suc, Bool, true, false, not, cond, List, [], ◌∷◌, ◌++◌, length, get_or, take, Option, Some, None, refl, sym, ap, ◌∙◌, subst, arith}
use Rattle.std.specs.Prelude.{All, filter, nat_eq, nat_le, slice_get}
use Rattle.std.specs.List.{list_all}
use Rattle.std.proofs.lemmas.Bool.{cases_lt, and_from, and_left, and_parts, le-leb, lt-leb, eq-eqb, ne_eqb, cond-true, cond-false, cond_both, false_from_ne_true}
use Rattle.std.proofs.lemmas.List.Elements.{All-nil, All-cons, All-head, All-tail, All-push, All-weaker, filter-append}
use Rattle.std.proofs.lemmas.List.Sums.{sum_by-cons}
use Rattle.std.proofs.lemmas.Option.{same_Some, slice_get_within}
use Rattle.std.proofs.lemmas.List.{append-nil, length-append}
use Rattle.std.proofs.Math.Seq.{get_or-append_seam}
use Rattle.std.proofs.Math.ListN.{get_or-append}
use Rattle.hs_base.specs.Place.{Block, block_size, is_free, lowest_free, first_fit, with_block, without_block, blocks_after}
use Rattle.hs_base.specs.Trace.{Event, Out, In, New, Gone, Enter, Leave}
use Rattle.heap_blocks.specs.Held.{HeapModel, Holds, HaveOwnBirths, IsBlock, fit_of}
use Rattle.heap_blocks.specs.Rows.{GivesNoneBack, StandInRow, row_length}
use Rattle.heap_blocks.proofs.Fitting.{IsClear, all_clear, clear_all, clears, lowest_at, lowest_none}

abbrev pub IsWhole : Block → Type 0
IsWhole b = b.length % 16 ≡ 0

row_length_cons : (b : Block) (held : List Block) → row_length (b ∷ held) ≡ b.length + row_length held
row_length_cons b held = sum_by-cons (λ (b : Block). b.length) b held

row_length_none : (held : List Block) → held ≡ [] → row_length held ≡ 0
row_length_none held none = ap row_length none

row_is_whole : (held : List Block) → All IsWhole held → row_length held % 16 ≡ 0
row_is_whole [] whole = refl
row_is_whole (b ∷ held) whole =
    let long = row_length_cons b held in
    let front : b.length % 16 ≡ 0 = All-head IsWhole b held whole in
    let rest = row_is_whole held (All-tail IsWhole b held whole) in
    omega arith

-- What is free beside a row

row_is_clear : (start place n : ℕ) (held : List Block) → StandInRow start held → start + row_length held ≤ place → All (IsClear place n) held
row_is_clear start place n [] row past = All-nil (IsClear place n)
row_is_clear start place n (b ∷ held) (here, row) past =
    let long = row_length_cons b held in
    All-cons (IsClear place n) b held (inr (omega arith)) (row_is_clear (start + b.length) place n held row (omega arith))

row_is_used : {P : Type 0} (start place n : ℕ) (held : List Block) → 0 < n → StandInRow start held → start ≤ place → place < start + row_length held → All (IsClear place n) held → P
row_is_used start place n [] some row low high clear =
    let none = row_length_none [] refl in
    absurd (omega arith)
row_is_used start place n (b ∷ held) some (here, row) low high clear =
    let long = row_length_cons b held in
    elim (cases_lt place (start + b.length)) [
      | inl within ↦ elim (All-head (IsClear place n) b held clear) [ inl k ↦ absurd (omega arith) | inr k ↦ absurd (omega arith) ]
      | inr past ↦ row_is_used (start + b.length) place n held some row past (omega arith) (All-tail (IsClear place n) b held clear)
    ]

module _ (held : List Block) (len n : ℕ) (some : 0 < n) (row : StandInRow 0 held) where
  free_behind : row_length held + n ≤ len → is_free held len n (row_length held) ≡ true
  free_behind within =
      and_from (nat_le (row_length held + n) len) (list_all (clears (row_length held) n) held)
      (le-leb (row_length held + n) len within) (all_clear (row_length held) n held (row_is_clear 0 (row_length held) n held row (omega arith)))

  used_before : (place : ℕ) → place < row_length held → is_free held len n place ≡ false
  used_before place before =
      false_from_ne_true (is_free held len n place)
      (λ free. row_is_used 0 place n held some row (omega arith) (omega arith) (clear_all place n held (and_parts (nat_le (place + n) len) (list_all (clears place n) held) free).1))

  none_past : (place : ℕ) → len < place + n → is_free held len n place ≡ false
  none_past place past =
      and_left (nat_le (place + n) len) (list_all (clears place n) held) (lt-leb (place + n) len past)

  -- first fit places behind a row, or nowhere
  pub row_fit : All IsWhole held → first_fit held len n ≡ cond (nat_le (row_length held + n) len) (Some (row_length held)) None
  row_fit whole =
      let m = row_length held / 16 in
      let whole_row = row_is_whole held whole in
      let end : m * 16 ≡ row_length held = omega arith in
      let zero_is : 0 ≡ 0 * 16 = omega arith in
      let from_zero : first_fit held len n ≡ lowest_free held len n (0 * 16) (len / 16 + 1) = ap (λ k. lowest_free held len n k (len / 16 + 1)) zero_is in
      from_zero ∙ elim (cases_lt len (row_length held + n)) [
        | inl past ↦ lowest_none held len n 0 (len / 16 + 1)
            (λ k. elim (cases_lt (k * 16) (row_length held)) [ inl h ↦ used_before (k * 16) h | inr h ↦ none_past (k * 16) (omega arith) ])
            ∙ sym (cond-false (nat_le (row_length held + n) len) (Some (row_length held)) None (lt-leb (row_length held + n) len past))
        | inr within ↦ lowest_at held len n m 0 (len / 16 + 1) m (omega arith) (omega arith)
            (subst (λ k. is_free held len n k ≡ true) (sym end) (free_behind within)) (λ k low high. used_before (k * 16) (omega arith))
            ∙ ap Some end ∙ sym (cond-true (nat_le (row_length held + n) len) (Some (row_length held)) None (le-leb (row_length held + n) len within))
      ]

-- Rows that grow

row_pushed : (start : ℕ) (held : List Block) (b : Block) → StandInRow start held → b.place ≡ start + row_length held → StandInRow start (held ++ b ∷ [])
row_pushed start [] b row at =
    let none = row_length_none [] refl in
    (omega arith, tt)
row_pushed start (c ∷ held) b (here, row) at =
    let long = row_length_cons c held in
    (here, row_pushed (start + c.length) held b row (omega arith))

row_with : (held : List Block) (len n birth : ℕ) → 0 < n → All IsWhole held → StandInRow 0 held → StandInRow 0 (with_block held birth n (first_fit held len n))
row_with held len n birth some whole row =
    subst (λ (fit : Option ℕ). StandInRow 0 (with_block held birth n fit)) (sym (row_fit held len n some row whole))
    (cond_both (nat_le (row_length held + n) len) (Some (row_length held)) None (λ (fit : Option ℕ). StandInRow 0 (with_block held birth n fit))
    (λ h. row_pushed 0 held (record { birth = birth; place = row_length held; length = n }) row (omega arith)) (λ h. row))

whole_with : (held : List Block) (n birth : ℕ) (fit : Option ℕ) → n % 16 ≡ 0 → All IsWhole held → All IsWhole (with_block held birth n fit)
whole_with held n birth None is_whole whole = whole
whole_with held n birth (Some place) is_whole whole =
    All-push IsWhole held (record { birth = birth; place = place; length = n }) whole is_whole

rest_gives_none_back : (event : Event) (events : List Event) → GivesNoneBack (event ∷ events) → GivesNoneBack events
rest_gives_none_back event events none birth (k, below, same) = none birth (suc k, omega arith, same)

rows_after : (len : ℕ) (held : List Block) (events : List Event) → GivesNoneBack events → All IsWhole held → StandInRow 0 held → StandInRow 0 (blocks_after len held events)
rows_after len held [] none whole row = row
rows_after len held (New birth size line ∷ events) none whole row =
    let n = block_size size in
    rows_after len (with_block held birth n (first_fit held len n)) events (rest_gives_none_back (New birth size line) events none)
    (whole_with held n birth (first_fit held len n) (omega arith) whole) (row_with held len n birth (omega arith) whole row)
rows_after len held (Gone birth ∷ events) none whole row = absurd (none birth (0, omega arith, refl))
rows_after len held (Out byte ∷ events) none whole row = rows_after len held events (rest_gives_none_back (Out byte) events none) whole row
rows_after len held (In byte ∷ events) none whole row = rows_after len held events (rest_gives_none_back (In byte) events none) whole row
rows_after len held (Enter cost line ∷ events) none whole row = rows_after len held events (rest_gives_none_back (Enter cost line) events none) whole row
rows_after len held (Leave ∷ events) none whole row = rows_after len held events (rest_gives_none_back Leave events none) whole row

pub placed_in_row : (len : ℕ) (events : List Event) → GivesNoneBack events → StandInRow 0 (blocks_after len [] events)
placed_in_row len events none = rows_after len [] events none (All-nil IsWhole) tt

whole_blocks : (heap : HeapModel) (held : List Block) → Holds heap held → All IsWhole held
whole_blocks heap held holds = All-weaker (IsBlock heap.len) IsWhole (λ b block. block.whole) held holds.blocks

pub row_grows_at : (heap : HeapModel) (held : List Block) (size : ℕ) → Holds heap held → StandInRow 0 held → fit_of heap held size ≡ cond (nat_le (row_length held + block_size size) heap.len) (Some (row_length held)) None
row_grows_at heap held size holds row =
    row_fit held heap.len (block_size size) (omega arith) row (whole_blocks heap held holds)

pub row_grows : (heap : HeapModel) (held : List Block) (birth size : ℕ) → Holds heap held → StandInRow 0 held → StandInRow 0 (with_block held birth (block_size size) (fit_of heap held size))
row_grows heap held birth size holds row =
    row_with held heap.len (block_size size) birth (omega arith) (whole_blocks heap held holds) row

-- Rows that shrink

pub row_front : (place : ℕ) (held more : List Block) → StandInRow place (held ++ more) → StandInRow place held
row_front place [] more row = tt
row_front place (b ∷ held) more (here, row) = (here, row_front (place + b.length) held more row)

all_kept : (keeps : Block → Bool) (held : List Block) → All (λ c. keeps c ≡ true) held → filter keeps held ≡ held
all_kept keeps [] kept = refl
all_kept keeps (c ∷ held) kept =
    cond-true (keeps c) (c ∷ filter keeps held) (filter keeps held) (All-head (λ c. keeps c ≡ true) c held kept)
    ∙ ap (λ l. c ∷ l) (all_kept keeps held (All-tail (λ c. keeps c ≡ true) c held kept))

pub last_given_back : (held : List Block) (b : Block) → HaveOwnBirths (held ++ b ∷ []) → without_block (held ++ b ∷ []) b.birth ≡ held
last_given_back held b births =
    let keeps : Block → Bool = λ c. not (nat_eq c.birth b.birth) in
    let gone : filter keeps (b ∷ []) ≡ [] = cond-false (keeps b) (b ∷ []) [] (ap not (eq-eqb b.birth b.birth refl)) in
    let others : All (λ c. keeps c ≡ true) held = λ i d below.
    let first : get_or (held ++ b ∷ []) i d ≡ get_or held i d = get_or-append held (b ∷ []) d i below in
    let last : get_or (held ++ b ∷ []) (length held) d ≡ b = get_or-append_seam held b [] d in
    ap not (ne_eqb (get_or held i d).birth b.birth
    (λ same. births i (length held) d below (omega (arith, length-append held (b ∷ []))) (ap (λ (c : Block). c.birth) first ∙ same ∙ sym (ap (λ (c : Block). c.birth) last)))) in
    filter-append keeps held (b ∷ []) ∙ ap (λ l. filter keeps held ++ l) gone ∙ append-nil (filter keeps held) ∙ all_kept keeps held others

-- Places in rows

pub place_in_row : (start : ℕ) (held : List Block) (k : ℕ) (b : Block) → StandInRow start held → slice_get held k ≡ Some b → b.place ≡ start + row_length (take k held)
place_in_row start [] k b row at =
    let below : k < 0 = slice_get_within [] k b at in
    absurd (omega arith)
place_in_row start (c ∷ held) zero b (here, row) at =
    let none = row_length_none [] refl in
    let same : c ≡ b = same_Some c b at in
    let place : c.place ≡ b.place = ap (λ (d : Block). d.place) same in
    omega arith
place_in_row start (c ∷ held) (suc k) b (here, row) at =
    let long = row_length_cons c (take k held) in
    let rest = place_in_row (start + c.length) held k b row at in
    omega arith
