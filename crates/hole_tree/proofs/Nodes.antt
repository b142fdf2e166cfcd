-- The node of a part that is made of others.
use Rattle.std.proofs.Common.{◌≡◌, ◌≢◌, ◌≤◌, ◌<◌, ◌+◌, inl, inr, ℕ, zero, suc, max, Bool, true, false, List, [], ◌∷◌, ◌++◌, length, get_or, take, drop, replicate, refl, sym, ap, ◌∙◌, arith}
use Rattle.std.proofs.lemmas.Bool.{cases_Bool, cases_eq}
use Rattle.std.proofs.lemmas.List.{drop_more, length-replicate, length-take, take-append-drop, take_more}
use Rattle.hole_tree.specs.declared.node.Node.{Node}
use Rattle.hole_tree.specs.Runs.{front_run, end_run, longest_run, summary}
use Rattle.hole_tree.proofs.Laws.{front_all, front_some, end_all, end_some, end_append_all, end_append_some, longest_append}

abbrev node : ℕ → ℕ → ℕ → Node
node l f e = record { longest = l; front = f; end = e }

pub same_node : {l l' f f' e e' : ℕ} → l ≡ l' → f ≡ f' → e ≡ e' → node l f e ≡ node l' f' e'
same_node {l} {l'} {f} {f'} {e} {e'} p q r =
    ap (λ n. node n f e) p ∙ ap (λ n. node l' n e) q ∙ ap (λ n. node l' f' n) r

pub end_longest : (row : List Bool) → end_run row ≤ longest_run row
end_longest [] = omega arith
end_longest (x ∷ row) =
    elim (cases_eq (front_run (x ∷ row)) (length (x ∷ row))) [
      | inl all ↦ omega (arith, end_all (x ∷ row) all)
      | inr some ↦ omega (arith, end_some x row some, end_longest row)
    ]

-- One granule more

pub end_taken : (part : List Bool) → end_run (part ++ true ∷ []) ≡ 0
end_taken part = end_append_some part (true ∷ []) (λ h. omega arith)

pub end_free : (part : List Bool) → end_run (part ++ false ∷ []) ≡ end_run part + 1
end_free part = omega (arith, end_append_all part (false ∷ []) refl)

pub longest_more : (part : List Bool) (x : Bool) → longest_run (part ++ x ∷ []) ≡ max (end_run (part ++ x ∷ [])) (longest_run part)
longest_more part true =
    omega (arith, longest_append part (true ∷ []), end_longest part, end_taken part)
longest_more part false = omega (arith, longest_append part (false ∷ []), end_free part)

-- the runs of so many granules of a part, one more than before
pub record IsCounted (part : List Bool) (index longest end : ℕ) : Type 0 where
  pub longest_is : longest ≡ longest_run (take index part)
  pub end_is : end ≡ end_run (take index part)

pub counted_more : (part : List Bool) (index longest end longest' end' : ℕ) → index < length part → IsCounted part index longest end → (get_or part index false ≡ true → end' ≡ 0) → (get_or part index false ≡ false → end' ≡ end + 1) → longest' ≡ max end' longest
    → IsCounted part (index + 1) longest' end'
counted_more part index longest end longest' end' below counted at_taken at_free longest_is =
    let x = get_or part index false in
    let more : take (index + 1) part ≡ take index part ++ x ∷ [] = take_more part index false below in
    let end_more : end' ≡ end_run (take index part ++ x ∷ []) =
    elim (cases_Bool x) [
      | inl taken ↦ at_taken taken ∙ sym (end_taken (take index part)) ∙ ap (λ y. end_run (take index part ++ y ∷ [])) (sym taken)
      | inr free ↦ at_free free ∙ ap (λ n. n + 1) counted.end_is ∙ sym (end_free (take index part)) ∙ ap (λ y. end_run (take index part ++ y ∷ [])) (sym free)
    ] in
    record {
      longest_is = longest_is ∙ ap (λ n. max n longest) end_more ∙ ap (max (end_run (take index part ++ x ∷ []))) counted.longest_is ∙ sym (longest_more (take index part) x) ∙ ap longest_run (sym more);
      end_is = end_more ∙ ap end_run (sym more);
    }

pub front_stops : (part : List Bool) (index : ℕ) → index < length part → front_run (take index part) ≡ index → get_or part index false ≡ true → index ≡ front_run part
front_stops part index below free taken =
    let rest = ap front_run (drop_more part index false below ∙ ap (λ x. x ∷ drop (index + 1) part) taken) in
    let whole = ap front_run (take-append-drop index part) in
    omega (arith, front_all (take index part) (drop index part) (omega (arith, length-take index part)), length-take index part)

pub front_goes : (part : List Bool) (index : ℕ) → index < length part → front_run (take index part) ≡ index → get_or part index false ≡ false → front_run (take (index + 1) part) ≡ index + 1
front_goes part index below free here =
    let more = ap front_run (take_more part index false below ∙ ap (λ x. take index part ++ x ∷ []) here) in
    omega (arith, front_all (take index part) (false ∷ []) (omega (arith, length-take index part)), length-take index part)

-- Two parts

pub node_joined : (x y : Node) (xs ys : List Bool) (l f e : ℕ) → x ≡ summary xs → y ≡ summary ys → l ≡ max (max x.longest y.longest) (x.end + y.front) → (x.front ≡ length xs → f ≡ length xs + y.front) → (x.front ≢ length xs → f ≡ x.front)
    → (y.front ≡ length ys → e ≡ length ys + x.end) → (y.front ≢ length ys → e ≡ y.end) → node l f e ≡ summary (xs ++ ys)
node_joined x y xs ys l f e x_is y_is l_is f_all f_some e_all e_some =
    let x_longest : x.longest ≡ longest_run xs = ap (λ (m : Node). m.longest) x_is in
    let x_front : x.front ≡ front_run xs = ap (λ (m : Node). m.front) x_is in
    let x_end : x.end ≡ end_run xs = ap (λ (m : Node). m.end) x_is in
    let y_longest : y.longest ≡ longest_run ys = ap (λ (m : Node). m.longest) y_is in
    let y_front : y.front ≡ front_run ys = ap (λ (m : Node). m.front) y_is in
    let y_end : y.end ≡ end_run ys = ap (λ (m : Node). m.end) y_is in
    same_node (omega (arith, longest_append xs ys))
    (elim (cases_eq (front_run xs) (length xs)) [
      | inl all ↦ omega (arith, f_all (x_front ∙ all), front_all xs ys all)
      | inr some ↦ f_some (λ h. some (sym x_front ∙ h)) ∙ x_front ∙ sym (front_some xs ys some)
    ])
    (elim (cases_eq (front_run ys) (length ys)) [
      | inl all ↦ omega (arith, e_all (y_front ∙ all), end_append_all xs ys all)
      | inr some ↦ e_some (λ h. some (sym y_front ∙ h)) ∙ y_end ∙ sym (end_append_some xs ys some)
    ])

-- A part all of whose granules are free

front_replicate : (n : ℕ) → front_run (replicate n false) ≡ n
front_replicate zero = refl
front_replicate (suc n) = ap suc (front_replicate n)

longest_replicate : (n : ℕ) → longest_run (replicate n false) ≡ n
longest_replicate zero = refl
longest_replicate (suc n) = omega (arith, front_replicate n, longest_replicate n)

pub node_open : (n : ℕ) → node n n n ≡ summary (replicate n false)
node_open n =
    let front = front_replicate n in
    same_node (sym (longest_replicate n)) (sym front)
    (omega (arith, end_all (replicate n false) (omega (arith, front, length-replicate n false)), length-replicate n false))
