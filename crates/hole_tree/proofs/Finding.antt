-- Where holes are, by the free run from each place on.
use Rattle.std.proofs.Common.{◌≡◌, ◌≢◌, ◌≤◌, ◌<◌, ◌+◌, ◌-◌, inl, inr, ℕ, zero, suc, Bool, true, false, List, [], ◌∷◌, ◌++◌, length, drop, Some, refl, sym, ap, ◌∙◌, arith}
use Rattle.std.specs.Prelude.{slice_get}
use Rattle.std.proofs.Math.Seq.{drop-append-add}
use Rattle.std.proofs.lemmas.Bool.{cases_eq, cases_lt}
use Rattle.std.proofs.lemmas.List.{length-drop, drop-append-le}
use Rattle.hole_tree.specs.Granules.{IsHole, HasNoHole, IsFirstHole}
use Rattle.hole_tree.specs.Runs.{front_run, end_run, longest_run}
use Rattle.hole_tree.proofs.Laws.{front_le, front_all, front_some, front_longest, end_all, end_some, end_le}
use Rattle.hole_tree.proofs.Pieces.{slice_get-drop}

-- A hole at a place is a free run from there on that is long enough

run_front : (row : List Bool) (n : ℕ) → n ≤ length row → ((k : ℕ) → k < n → slice_get row k ≡ Some false) → n ≤ front_run row
run_front [] n long free = long
run_front (x ∷ row) zero long free = omega arith
run_front (true ∷ row) (suc n) long free = let h = free 0 (omega arith) in cc
run_front (false ∷ row) (suc n) long free =
    omega (arith, run_front row n (omega arith) (λ k low. free (suc k) (omega arith)))

front_free_at : (row : List Bool) (k : ℕ) → k < front_run row → slice_get row k ≡ Some false
front_free_at [] k low = absurd (omega arith)
front_free_at (true ∷ row) k low = absurd (omega arith)
front_free_at (false ∷ row) zero low = refl
front_free_at (false ∷ row) (suc k) low = front_free_at row k (omega arith)

pub hole_front : (row : List Bool) (n place : ℕ) → IsHole row n place → n ≤ front_run (drop place row)
hole_front row n place hole =
    run_front (drop place row) n (omega (arith, hole.inside, length-drop place row))
    (λ k low. slice_get-drop place row k ∙ hole.same (place + k) (omega arith) (omega arith))

pub front_hole : (row : List Bool) (n place : ℕ) → 0 < n → n ≤ front_run (drop place row) → IsHole row n place
front_hole row n place some long = record {
  inside = omega (arith, front_le (drop place row), length-drop place row);
  same = λ k low high. let at : place + (k - place) ≡ k = omega arith in
      ap (slice_get row) (sym at) ∙ sym (slice_get-drop place row (k - place)) ∙ front_free_at (drop place row) (k - place) (omega arith);
}

drop_longest : (row : List Bool) (place : ℕ) → front_run (drop place row) ≤ longest_run row
drop_longest row zero = front_longest row
drop_longest [] (suc place) = omega arith
drop_longest (x ∷ row) (suc place) = omega (arith, drop_longest row place)

pub no_hole_longest : (row : List Bool) (n : ℕ) → longest_run row < n → HasNoHole row n
no_hole_longest row n short place hole =
    omega (arith, hole_front row n place hole, drop_longest row place)

-- The free run at the end of a part

end_drop : (row : List Bool) (place : ℕ) → place + end_run row ≡ length row → front_run (drop place row) ≡ end_run row
end_drop [] zero at = refl
end_drop [] (suc place) at = absurd (omega arith)
end_drop (x ∷ row) zero at =
    elim (cases_eq (front_run (x ∷ row)) (length (x ∷ row))) [
      | inl all ↦ all ∙ sym (end_all (x ∷ row) all)
      | inr some ↦ absurd (omega (arith, end_some x row some, end_le row))
    ]
end_drop (x ∷ row) (suc place) at =
    elim (cases_eq (front_run (x ∷ row)) (length (x ∷ row))) [
      | inl all ↦ absurd (omega (arith, end_all (x ∷ row) all))
      | inr some ↦ end_drop row place (omega (arith, end_some x row some)) ∙ sym (end_some x row some)
    ]

end_before : (row : List Bool) (place : ℕ) → place + end_run row < length row → front_run (drop place row) ≢ length (drop place row)
end_before [] place low = absurd (omega arith)
end_before (x ∷ row) zero low =
    elim (cases_eq (front_run (x ∷ row)) (length (x ∷ row))) [
      | inl all ↦ absurd (omega (arith, end_all (x ∷ row) all))
      | inr some ↦ some
    ]
end_before (x ∷ row) (suc place) low =
    elim (cases_eq (front_run (x ∷ row)) (length (x ∷ row))) [
      | inl all ↦ absurd (omega (arith, end_all (x ∷ row) all))
      | inr some ↦ end_before row place (omega (arith, end_some x row some))
    ]

-- The free run from a place on, in two parts

module _ (xs ys : List Bool) (place : ℕ) where
  front_low : place + end_run xs < length xs → front_run (drop place (xs ++ ys)) ≡ front_run (drop place xs)
  front_low low =
      ap front_run (drop-append-le place xs ys (omega arith)) ∙ front_some (drop place xs) ys (end_before xs place low)

  front_high : place ≤ length xs → length xs ≤ place + end_run xs → front_run (drop place (xs ++ ys)) ≤ end_run xs + front_run ys
  front_high within high =
      let parts = ap front_run (drop-append-le place xs ys within) in
      elim (cases_eq (front_run (drop place xs)) (length (drop place xs))) [
        | inl all ↦ omega (arith, front_all (drop place xs) ys all, length-drop place xs)
        | inr some ↦ omega (arith, front_some (drop place xs) ys some, front_le (drop place xs), length-drop place xs)
      ]

  front_across : place + end_run xs ≡ length xs → front_run (drop place (xs ++ ys)) ≡ end_run xs + front_run ys
  front_across at =
      let parts = ap front_run (drop-append-le place xs ys (omega arith)) in
      let long = length-drop place xs in
      let same = end_drop xs place at in
      omega (arith, front_all (drop place xs) ys (omega arith))

  front_past : length xs ≤ place → front_run (drop place (xs ++ ys)) ≡ front_run (drop (place - length xs) ys)
  front_past past =
      let at : place ≡ length xs + (place - length xs) = omega arith in
      ap (λ n. front_run (drop n (xs ++ ys))) at ∙ ap front_run (drop-append-add xs ys (place - length xs))

front_within : (xs ys : List Bool) (n : ℕ) → n ≤ length xs → n ≤ front_run (xs ++ ys) → n ≤ front_run xs
front_within xs ys n within long =
    elim (cases_eq (front_run xs) (length xs)) [
      | inl all ↦ omega arith
      | inr some ↦ omega (arith, front_some xs ys some)
    ]

front_more : (xs ys : List Bool) → front_run xs ≤ front_run (xs ++ ys)
front_more xs ys =
    elim (cases_eq (front_run xs) (length xs)) [
      | inl all ↦ omega (arith, front_all xs ys all)
      | inr some ↦ omega (arith, front_some xs ys some)
    ]

-- Holes in two parts

module _ (xs ys : List Bool) (n : ℕ) (wanted : 0 < n) where
  hole_left : (place : ℕ) → IsHole xs n place → IsHole (xs ++ ys) n place
  hole_left place hole =
      let parts = ap front_run (drop-append-le place xs ys (omega (arith, hole.inside))) in
      front_hole (xs ++ ys) n place wanted (omega (arith, hole_front xs n place hole, front_more (drop place xs) ys))

  left_hole : (place : ℕ) → place + n ≤ length xs → IsHole (xs ++ ys) n place → IsHole xs n place
  left_hole place within hole =
      let parts = ap front_run (drop-append-le place xs ys (omega arith)) in
      let found = hole_front (xs ++ ys) n place hole in
      front_hole xs n place wanted (front_within (drop place xs) ys n (omega (arith, length-drop place xs)) (omega arith))

  pub first_left : (place : ℕ) → IsFirstHole xs n place → IsFirstHole (xs ++ ys) n place
  first_left place first = record {
    hole = hole_left place first.hole;
    lowest = λ below low hole. first.lowest below low (left_hole below (omega (arith, first.hole.inside)) hole);
  }

  module _ (none : HasNoHole xs n) where
    low_none : (place : ℕ) → place + end_run xs < length xs → ¬ IsHole (xs ++ ys) n place
    low_none place low hole =
        let found = hole_front (xs ++ ys) n place hole in
        none place (front_hole xs n place wanted (omega (arith, front_low xs ys place low)))

    pub first_across : n ≤ end_run xs + front_run ys → IsFirstHole (xs ++ ys) n (length xs - end_run xs)
    first_across across =
        let within = end_le xs in
        record {
          hole = front_hole (xs ++ ys) n (length xs - end_run xs) wanted (omega (arith, front_across xs ys (length xs - end_run xs) (omega arith)));
          lowest = λ below low. low_none below (omega arith);
        }

    -- a place from which no hole of the first part begins, nor one across
    left_none : end_run xs + front_run ys < n → (place : ℕ) → place < length xs → ¬ IsHole (xs ++ ys) n place
    left_none short place within hole =
        elim (cases_lt (place + end_run xs) (length xs)) [
          | inl low ↦ low_none place low hole
          | inr high ↦ omega (arith, hole_front (xs ++ ys) n place hole, front_high xs ys place (omega arith) high)
        ]

    right_hole : (place : ℕ) → length xs ≤ place → IsHole (xs ++ ys) n place → IsHole ys n (place - length xs)
    right_hole place past hole =
        let found = hole_front (xs ++ ys) n place hole in
        front_hole ys n (place - length xs) wanted (omega (arith, front_past xs ys place past))

    pub first_right : end_run xs + front_run ys < n → (place : ℕ) → IsFirstHole ys n place → IsFirstHole (xs ++ ys) n (length xs + place)
    first_right short place first =
        let at : length xs + place - length xs ≡ place = omega arith in
        let same = ap (λ k. front_run (drop k ys)) at in
        record {
          hole = front_hole (xs ++ ys) n (length xs + place) wanted (omega (arith, front_past xs ys (length xs + place) (omega arith), hole_front ys n place first.hole));
          lowest = λ below low hole. elim (cases_lt below (length xs)) [
            | inl within ↦ left_none short below within hole
            | inr past ↦ first.lowest (below - length xs) (omega arith) (right_hole below past hole)
          ];
        }

    pub no_hole_joined : end_run xs + front_run ys < n → HasNoHole ys n → HasNoHole (xs ++ ys) n
    no_hole_joined short none_right place hole =
        elim (cases_lt place (length xs)) [
          | inl within ↦ left_none short place within hole
          | inr past ↦ none_right (place - length xs) (right_hole place past hole)
        ]
