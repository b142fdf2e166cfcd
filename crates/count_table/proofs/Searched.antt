-- What is done to the pairs in use at the place of a granule.
use Rattle.std.proofs.Common.{◌≡◌, ◌<◌, ◌≤◌, ◌+◌, ◌-◌, ℕ, List, ◌∷◌, ◌++◌, length, get_or, set, take, drop, sym, ap, ◌∙◌, subst, arith}
use Rattle.std.specs.List.{copy_within}
use Rattle.std.proofs.lemmas.List.{get_or-take, get_or_default, length-append, length-set, length-take-le, take-append-drop}
use Rattle.count_table.specs.Excess.{IsAscending, Pairs, excess_at, pair_of, with_excess}
use Rattle.count_table.proofs.Around.{Around, IsAscending-with_excess, IsPlace, excess_at-around, found, missing, pair_of-some, with_excess-around}
use Rattle.count_table.proofs.Moved.{changed, put_in, taken_out}

-- the pairs in use, and all that there may be
abbrev pub pairs_of : List (ℕ × ℕ) → ℕ → Pairs
pairs_of items used = record { list = take used items; room = length items }

-- the place of a granule in the list of the pairs in use was found
pub record Searched (items list : List (ℕ × ℕ)) (used place granule : ℕ) : Type 0 where
  pub is : take used items ≡ list
  pub up : IsAscending (take used items)
  pub in_use : used ≤ length items
  pub within : place ≤ length list
  pub at : IsPlace list granule place

-- it was, by what the type and the search say
pub searched_for : {items : List (ℕ × ℕ)} {used : ℕ} {now : Pairs} {place granule : ℕ} → pairs_of items used ≡ now → IsAscending (take used items) × (used ≤ length items) → place ≤ length now.list → IsPlace now.list granule place → Searched items now.list used place granule
searched_for view_is invariant within at = record {
  is = ap (λ (pairs : Pairs). pairs.list) view_is;
  up = invariant.0;
  in_use = invariant.1;
  within = within;
  at = at;
}

module _ {items list : List (ℕ × ℕ)} {used place granule : ℕ} (searched : Searched items list used place granule) where
  long : length list ≡ used
  long = sym (ap length searched.is) ∙ length-take-le used items searched.in_use

  pub within_use : place ≤ used
  within_use = omega (arith, searched.within, long)

  rising : IsAscending list
  rising = subst IsAscending searched.is searched.up

  -- what is read there
  read_there : (p : ℕ × ℕ) → place < used → p ≡ get_or items place p → p ≡ get_or list place p
  read_there p lt read = read ∙ sym (get_or-take used items place p lt) ∙ ap (λ l. get_or l place p) searched.is

  -- two reads give one pair
  pub same_read : (p q : ℕ × ℕ) → place < used → p ≡ get_or items place p → q ≡ get_or items place q → q ≡ p
  same_read p q lt read again = again ∙ get_or_default items place q p (omega (arith, searched.in_use)) ∙ sym read

  -- its pair stands there
  standing : (p : ℕ × ℕ) → place < used → p ≡ get_or items place p → p.0 ≡ granule → Around list (take place list) (drop (place + 1) list) granule p.1
  standing p lt read here =
      let e : length list ≡ used = long in
      found list granule place rising searched.within searched.at p (omega arith) (read_there p lt read) here

  -- none stands there
  pub Lacks : Type 0
  Lacks = place < length list → (d : ℕ × ℕ) → (get_or list place d).0 ≡ granule → ⊥

  pub lacks_end : used ≤ place → Lacks
  unfolding Lacks
  lacks_end past lt d e = let l : length list ≡ used = long in absurd (omega arith)

  pub lacks_other : (p : ℕ × ℕ) → place < used → p ≡ get_or items place p → (p.0 ≡ granule → ⊥) → Lacks
  unfolding Lacks
  lacks_other p lt read other = λ in_list d e. other (ap (λ (q : ℕ × ℕ). q.0) (read_there p lt read ∙ get_or_default list place p d in_list) ∙ e)

  standing_nowhere : Lacks → Around list (take place list) (drop place list) granule 0
  unfolding Lacks
  standing_nowhere lacks = missing list granule place rising searched.within searched.at lacks

  -- the excess of the granule
  pub excess_there : (p : ℕ × ℕ) → place < used → p ≡ get_or items place p → p.0 ≡ granule → excess_at list granule ≡ p.1
  excess_there p lt read here = excess_at-around (standing p lt read here)

  pub excess_nowhere : Lacks → excess_at list granule ≡ 0
  excess_nowhere lacks = excess_at-around (standing_nowhere lacks)

  pub some_there : (p : ℕ × ℕ) → place < used → p ≡ get_or items place p → p.0 ≡ granule → 0 < excess_at list granule
  some_there p lt read here =
      let e : length list ≡ used = long in
      let some : 0 < p.1 = subst (λ (q : ℕ × ℕ). 0 < q.1) (sym (read_there p lt read)) (rising.some place p (omega arith)) in
      omega (arith, some, excess_there p lt read here)

  -- its pair changed
  changed_there : (p x : ℕ × ℕ) → place < used → p ≡ get_or items place p → p.0 ≡ granule → x.0 ≡ granule → 0 < x.1 → take used (set items place x) ≡ with_excess list granule x.1
  changed_there p x lt read here same some =
      let rest = drop (place + 1) list in
      let own : x ∷ rest ≡ pair_of granule x.1 ++ rest = ap (λ g. (g, x.1) ∷ rest) same ∙ ap (λ l. l ++ rest) (sym (pair_of-some granule x.1 some)) in
      changed items used place x lt searched.in_use
      ∙ ap (λ l. take place l ++ (x ∷ drop (place + 1) l)) searched.is
      ∙ ap (λ l. take place list ++ l) own
      ∙ sym (with_excess-around (standing p lt read here) x.1)

  -- its pair put in, and how many there are then
  put_there : Lacks → used < length items → take (used + 1) (set (copy_within items place used (place + 1)) place (granule, 1)) ≡ with_excess list granule 1
  put_there lacks room =
      let e : length list ≡ used = long in
      let inside : place ≤ used = omega (arith, searched.within) in
      put_in items used place (granule, 1) inside room
      ∙ ap (λ l. take place l ++ ((granule, 1) ∷ drop place l)) searched.is
      ∙ sym (with_excess-around (standing_nowhere lacks) 1)

  one_longer : Lacks → length (with_excess list granule 1) ≡ used + 1
  one_longer lacks =
      let e : length list ≡ used = long in
      let parts : length (take place list) + length (drop place list) ≡ length list = sym (length-append (take place list) (drop place list)) ∙ ap length (take-append-drop place list) in
      omega (arith, ap length (with_excess-around (standing_nowhere lacks) 1), length-append (take place list) ((granule, 1) ∷ drop place list))

  -- its pair taken out
  taken_there : (p : ℕ × ℕ) → place < used → p ≡ get_or items place p → p.0 ≡ granule → take (used - 1) (copy_within items (place + 1) used place) ≡ with_excess list granule 0
  taken_there p lt read here =
      taken_out items used place lt searched.in_use
      ∙ ap (λ l. take place l ++ drop (place + 1) l) searched.is
      ∙ sym (with_excess-around (standing p lt read here) 0)

  -- other items, so many of them in use: the pairs with another excess of the granule
  pub record Edited (others : List (ℕ × ℕ)) (now_used excess : ℕ) : Type 0 where
    pub now : take now_used others ≡ with_excess list granule excess
    pub still_up : IsAscending (take now_used others)
    pub now_in_use : now_used ≤ length others

  edited : (others : List (ℕ × ℕ)) (now_used one other : ℕ) → one ≡ other → take now_used others ≡ with_excess list granule one → now_used ≤ length others → Edited others now_used other
  edited others now_used one other same e inside =
      let now : take now_used others ≡ with_excess list granule other = e ∙ ap (with_excess list granule) same in
      record {
        now = now;
        still_up = subst IsAscending (sym now) (IsAscending-with_excess list granule other rising);
        now_in_use = inside;
      }

  module _ (p q : ℕ × ℕ) (lt : place < used) (read : p ≡ get_or items place p) (again : q ≡ get_or items place q) (here : p.0 ≡ granule) where
    pub its_excess : excess_at list granule ≡ q.1
    its_excess = excess_there p lt read here ∙ sym (ap (λ (r : ℕ × ℕ). r.1) (same_read p q lt read again))

    -- one more in its pair
    pub raised_there : Edited (set items place (q.0, q.1 + 1)) used (excess_at list granule + 1)
    raised_there =
        edited (set items place (q.0, q.1 + 1)) used (q.1 + 1) (excess_at list granule + 1) (ap (λ e. e + 1) (sym its_excess))
        (changed_there p (q.0, q.1 + 1) lt read here (ap (λ (r : ℕ × ℕ). r.0) (same_read p q lt read again) ∙ here) (omega arith))
        (omega (arith, searched.in_use, length-set items place (q.0, q.1 + 1)))

    -- one less in it
    pub lowered_there : 1 < q.1 → Edited (set items place (q.0, q.1 - 1)) used (excess_at list granule - 1)
    lowered_there more =
        edited (set items place (q.0, q.1 - 1)) used (q.1 - 1) (excess_at list granule - 1) (ap (λ e. e - 1) (sym its_excess))
        (changed_there p (q.0, q.1 - 1) lt read here (ap (λ (r : ℕ × ℕ). r.0) (same_read p q lt read again) ∙ here) (omega arith))
        (omega (arith, searched.in_use, length-set items place (q.0, q.1 - 1)))

    -- the last one
    pub removed_there : q.1 ≤ 1 → (others : List (ℕ × ℕ)) → others ≡ copy_within items (place + 1) used place → length others ≡ length items → Edited others (used - 1) (excess_at list granule - 1)
    removed_there last others e same_long =
        let none : 0 ≡ excess_at list granule - 1 = omega (arith, its_excess) in
        edited others (used - 1) 0 (excess_at list granule - 1) none (ap (take (used - 1)) e ∙ taken_there p lt read here) (omega (arith, searched.in_use))

  -- the first one
  pub raised_nowhere : Lacks → (others : List (ℕ × ℕ)) → others ≡ copy_within items place used (place + 1) → length others ≡ length items → used < length items → Edited (set others place (granule, 1)) (used + 1) (excess_at list granule + 1)
  raised_nowhere lacks others e same_long room =
      let one : 1 ≡ excess_at list granule + 1 = omega (arith, excess_nowhere lacks) in
      edited (set others place (granule, 1)) (used + 1) 1 (excess_at list granule + 1) one (ap (λ l. take (used + 1) (set l place (granule, 1))) e ∙ put_there lacks room) (omega (arith, length-set others place (granule, 1)))

  -- there is room for it
  pub has_room : Lacks → (room : ℕ) → length (with_excess list granule (excess_at list granule + 1)) ≤ room → used < room
  has_room lacks room enough =
      let one : excess_at list granule + 1 ≡ 1 = omega (arith, excess_nowhere lacks) in
      omega (arith, one_longer lacks, ap (λ e. length (with_excess list granule e)) one)
