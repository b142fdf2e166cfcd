-- The free runs of two parts, one behind the other.
use Rattle.std.proofs.Common.{◌≡◌, ◌≢◌, ◌≤◌, ◌+◌, inl, inr, suc, max, Bool, true, false, List, [], ◌∷◌, ◌++◌, length, refl, ap, ◌∙◌, arith}
use Rattle.std.specs.Prelude.{nat_eq}
use Rattle.std.proofs.lemmas.Bool.{cases_eq, eq-eqb, ne_eqb, cond-true, cond-false}
use Rattle.std.proofs.lemmas.List.{length-append}
use Rattle.hole_tree.specs.Runs.{front_run, end_run, longest_run}

-- The run at the front

pub front_le : (row : List Bool) → front_run row ≤ length row
front_le [] = omega arith
front_le (true ∷ row) = omega arith
front_le (false ∷ row) = omega (arith, front_le row)

pub front_all : (xs ys : List Bool) → front_run xs ≡ length xs → front_run (xs ++ ys) ≡ length xs + front_run ys
front_all [] ys all = omega arith
front_all (true ∷ xs) ys all = absurd (omega arith)
front_all (false ∷ xs) ys all = omega (arith, front_all xs ys (omega arith))

pub front_some : (xs ys : List Bool) → front_run xs ≢ length xs → front_run (xs ++ ys) ≡ front_run xs
front_some [] ys some = absurd (some refl)
front_some (true ∷ xs) ys some = refl
front_some (false ∷ xs) ys some = ap suc (front_some xs ys (λ all. some (ap suc all)))

-- The run at the end

pub end_all : (row : List Bool) → front_run row ≡ length row → end_run row ≡ length row
end_all [] all = refl
end_all (x ∷ row) all =
    cond-true (nat_eq (front_run (x ∷ row)) (length (x ∷ row))) (length (x ∷ row)) (end_run row) (eq-eqb (front_run (x ∷ row)) (length (x ∷ row)) all)

pub end_some : (x : Bool) (row : List Bool) → front_run (x ∷ row) ≢ length (x ∷ row) → end_run (x ∷ row) ≡ end_run row
end_some x row some =
    cond-false (nat_eq (front_run (x ∷ row)) (length (x ∷ row))) (length (x ∷ row)) (end_run row) (ne_eqb (front_run (x ∷ row)) (length (x ∷ row)) some)

pub end_le : (row : List Bool) → end_run row ≤ length row
end_le [] = omega arith
end_le (x ∷ row) =
    elim (cases_eq (front_run (x ∷ row)) (length (x ∷ row))) [
      | inl all ↦ omega (arith, end_all (x ∷ row) all)
      | inr some ↦ omega (arith, end_some x row some, end_le row)
    ]

pub end_append_all : (xs ys : List Bool) → front_run ys ≡ length ys → end_run (xs ++ ys) ≡ length ys + end_run xs
end_append_all [] ys free = omega (arith, end_all ys free)
end_append_all (x ∷ xs) ys free =
    let long = length-append (x ∷ xs) ys in
    elim (cases_eq (front_run (x ∷ xs)) (length (x ∷ xs))) [
      | inl all ↦ omega (arith, end_all (x ∷ xs) all, end_all (x ∷ xs ++ ys) (omega (arith, front_all (x ∷ xs) ys all, long)))
      | inr some ↦ omega (arith, end_some x xs some, end_append_all xs ys free, end_some x (xs ++ ys) (λ h. some (omega (arith, front_some (x ∷ xs) ys some, front_le (x ∷ xs), long))))
    ]

pub end_append_some : (xs ys : List Bool) → front_run ys ≢ length ys → end_run (xs ++ ys) ≡ end_run ys
end_append_some [] ys some = refl
end_append_some (x ∷ xs) ys some =
    let long = length-append (x ∷ xs) ys in
    end_some x (xs ++ ys)
    (λ h. elim (cases_eq (front_run (x ∷ xs)) (length (x ∷ xs))) [
      | inl all ↦ some (omega (arith, front_all (x ∷ xs) ys all, long))
      | inr part ↦ part (omega (arith, front_some (x ∷ xs) ys part, front_le (x ∷ xs), long))
    ])
    ∙ end_append_some xs ys some

-- The longest run

pub front_longest : (row : List Bool) → front_run row ≤ longest_run row
front_longest [] = omega arith
front_longest (x ∷ row) = omega arith

pub longest_append : (xs ys : List Bool) → longest_run (xs ++ ys) ≡ max (max (longest_run xs) (longest_run ys)) (end_run xs + front_run ys)
longest_append [] ys = omega (arith, front_longest ys)
longest_append (x ∷ xs) ys =
    elim (cases_eq (front_run (x ∷ xs)) (length (x ∷ xs))) [
      | inl all ↦ omega (arith, longest_append xs ys, front_all (x ∷ xs) ys all, end_all (x ∷ xs) all, end_le xs)
      | inr some ↦ omega (arith, longest_append xs ys, front_some (x ∷ xs) ys some, end_some x xs some)
    ]
