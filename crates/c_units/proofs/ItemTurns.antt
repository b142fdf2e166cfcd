-- Lists of trees that are gone through in turn, each changed where it stands.
use Rattle.c_units.proofs.Words.Std.{List, [], ap, ap₂, arith, drop, get_or, get_or-set_other, length, length-set, refl, set, suc, sym, take, zero, ℕ, ◌++◌, ◌+◌, ◌<◌, ◌∙◌, ◌∷◌, ◌≡◌, ◌≢◌, ◌≤◌}
use Rattle.c_units.proofs.Words.Trees.{Tree, Trees, none, trees, ◌▹◌}
use Rattle.c_units.proofs.Words.Units.{Names, behind, each_renamed, in_turn, joined, renamed}

pub joined_none : (ts : Trees) → joined ts none ≡ ts
joined_none none = refl
joined_none (tree ▹ rest) = ap (λ (t : Trees). tree ▹ t) (joined_none rest)

module _ {A : Type 0} where
  -- of as many those from a place on are the same
  abbrev pub AreLeft : List A → List A → ℕ → Type 0
  AreLeft xs ys i = (length ys ≡ length xs) × ((k : ℕ) (d : A) → i ≤ k → get_or ys k d ≡ get_or xs k d)

  -- one more is changed
  pub left_next : (xs ys : List A) (i : ℕ) (r : A) → AreLeft xs ys i → AreLeft xs (set ys i r) (i + 1)
  left_next xs ys i r was = (
    length-set ys i r ∙ was.0,
    λ k d le. let apart : k ≢ i = omega (arith, le) in let before : i ≤ k = omega (arith, le) in get_or-set_other ys i k r d apart ∙ was.1 k d before,
  )

-- things whose trees are made one by one: how the trees of some are made and what is known behind them, what it is that one is made
-- of another, and what is known behind one
module _ {A : Type 0} (view : A → Tree) (made : Trees → Names → Trees) (knows : Trees → Names → Names) (IsMade : A → A → Names → Type 0) (known : A → Names → Names)
    (made_first : (x r : A) (rest : Trees) (s : Names) → IsMade x r s → made (view x ▹ rest) s ≡ view r ▹ made rest (known x s))
    (knows_first : (x : A) (rest : Trees) (s : Names) → knows (view x ▹ rest) s ≡ knows rest (known x s))
    (made_none : (s : Names) → made none s ≡ none) (knows_none : (s : Names) → knows none s ≡ s) where
  -- those that are left come behind those that are made, and what is known so far
  abbrev pub Lead : List A → List A → ℕ → Names → Names → Type 0
  Lead xs ys i s first =
      (joined (trees view (take i ys)) (made (trees view (drop i ys)) s) ≡ made (trees view xs) first)
      × (knows (trees view (drop i ys)) s ≡ knows (trees view xs) first)

  -- the next stands behind those that are made, and is gone through
  made_here : (ys : List A) (i : ℕ) (x r : A) (s : Names) → i < length ys → IsMade (get_or ys i x) r s →
      joined (trees view (take (suc i) (set ys i r))) (made (trees view (drop (suc i) (set ys i r))) (known (get_or ys i x) s)) ≡
      joined (trees view (take i ys)) (made (trees view (drop i ys)) s)
  made_here [] i x r s h is = absurd (omega (arith, h))
  made_here (y ∷ ys) zero x r s h is = sym (made_first y r (trees view ys) s is)
  made_here (y ∷ ys) (suc i) x r s h is = ap (λ (t : Trees). view y ▹ t) (made_here ys i x r s (omega (arith, h)) is)

  known_here : (ys : List A) (i : ℕ) (x r : A) (s : Names) → i < length ys →
      knows (trees view (drop (suc i) (set ys i r))) (known (get_or ys i x) s) ≡ knows (trees view (drop i ys)) s
  known_here [] i x r s h = absurd (omega (arith, h))
  known_here (y ∷ ys) zero x r s h = sym (knows_first y (trees view ys) s)
  known_here (y ∷ ys) (suc i) x r s h = known_here ys i x r s (omega (arith, h))

  pub next_leads : (xs ys : List A) (i : ℕ) (x r : A) (s d first : Names) → i < length xs → AreLeft xs ys i → Lead xs ys i s first →
      IsMade (get_or ys i x) r s → d ≡ known (get_or ys i x) s → AreLeft xs (set ys i r) (i + 1) × Lead xs (set ys i r) (i + 1) d first
  next_leads xs ys i x r s d first h left leads is knew =
      let within : i < length ys = omega (arith, h, left.0) in
      let next : i + 1 ≡ suc i = omega arith in (
        left_next xs ys i r left,
        (
          ap₂ (λ (n : ℕ) (u : Names). joined (trees view (take n (set ys i r))) (made (trees view (drop n (set ys i r))) u)) next knew
              ∙ made_here ys i x r s within is ∙ leads.0,
          ap₂ (λ (n : ℕ) (u : Names). knows (trees view (drop n (set ys i r))) u) next knew ∙ known_here ys i x r s within ∙ leads.1,
        ),
      )

  -- at the end all are made
  made_end : (ys : List A) (i : ℕ) (s : Names) → length ys ≤ i →
      (joined (trees view (take i ys)) (made (trees view (drop i ys)) s) ≡ trees view ys) × (knows (trees view (drop i ys)) s ≡ s)
  made_end [] zero s h = (made_none s, knows_none s)
  made_end [] (suc i) s h = (made_none s, knows_none s)
  made_end (y ∷ ys) zero s h = absurd (omega (arith, h))
  made_end (y ∷ ys) (suc i) s h = let end = made_end ys i s (omega (arith, h)) in (ap (λ (t : Trees). view y ▹ t) end.0, end.1)

  pub all_lead : (xs ys : List A) (i : ℕ) (s first : Names) → length xs ≤ i → AreLeft xs ys i → Lead xs ys i s first →
      (trees view ys ≡ made (trees view xs) first) × (s ≡ knows (trees view xs) first)
  all_lead xs ys i s first h left leads =
      let end = made_end ys i s (omega (arith, h, left.0)) in (sym end.0 ∙ leads.0, sym end.1 ∙ leads.1)

module _ {A : Type 0} (view : A → Tree) where
  pub joined_more : (done : List A) (r : A) (more : Trees) → joined (trees view (done ++ r ∷ [])) more ≡ joined (trees view done) (view r ▹ more)
  joined_more [] r more = refl
  joined_more (x ∷ done) r more = ap (λ (t : Trees). view x ▹ t) (joined_more done r more)

  -- trees of which none is a scope
  abbrev pub Leads : List A → List A → ℕ → Names → Names → Type 0
  Leads xs ys i s first =
      (joined (trees view (take i ys)) (each_renamed (trees view (drop i ys)) s) ≡ each_renamed (trees view xs) first)
      × (in_turn (trees view (drop i ys)) s ≡ in_turn (trees view xs) first)

  is_first : (x r : A) (rest : Trees) (s : Names) → view r ≡ renamed (view x) s → each_renamed (view x ▹ rest) s ≡ view r ▹ each_renamed rest (behind (view x) s)
  is_first x r rest s h = ap (λ (t : Tree). t ▹ each_renamed rest (behind (view x) s)) (sym h)

  pub item_next : (xs ys : List A) (i : ℕ) (x r : A) (s d first : Names) → i < length xs → AreLeft xs ys i → Leads xs ys i s first →
      view r ≡ renamed (view (get_or ys i x)) s → d ≡ behind (view (get_or ys i x)) s →
      AreLeft xs (set ys i r) (i + 1) × Leads xs (set ys i r) (i + 1) d first
  item_next = next_leads view each_renamed in_turn (λ x r s. view r ≡ renamed (view x) s) (λ x s. behind (view x) s) is_first (λ x rest s. refl) (λ s. refl) (λ s. refl)

  all_items : (xs ys : List A) (i : ℕ) (s first : Names) → length xs ≤ i → AreLeft xs ys i → Leads xs ys i s first →
      (trees view ys ≡ each_renamed (trees view xs) first) × (s ≡ in_turn (trees view xs) first)
  all_items = all_lead view each_renamed in_turn (λ x r s. view r ≡ renamed (view x) s) (λ x s. behind (view x) s) is_first (λ x rest s. refl) (λ s. refl) (λ s. refl)

  pub all_made : (xs ys : List A) (i : ℕ) (s first : Names) → length xs ≤ i → AreLeft xs ys i → Leads xs ys i s first →
      trees view ys ≡ each_renamed (trees view xs) first
  all_made xs ys i s first h left leads = (all_items xs ys i s first h left leads).0

  pub all_known : (xs ys : List A) (i : ℕ) (s first : Names) → length xs ≤ i → AreLeft xs ys i → Leads xs ys i s first →
      s ≡ in_turn (trees view xs) first
  all_known xs ys i s first h left leads = (all_items xs ys i s first h left leads).1
