-- Words that are taken off the counts, one after another.
use Rattle.std.proofs.Common.{◌≡◌, ◌≢◌, ◌≤◌, ◌<◌, ◌+◌, ◌-◌, ◌/◌, inl, inr, ℕ, Bool, cond, List, [], ◌∷◌, length, get_or, take, set, refl, sym, ap, ◌∙◌, subst, arith}
use Rattle.std.specs.Prelude.{not, nat_eq, ◌&&◌}
use Rattle.std.proofs.lemmas.Bool.{cases_eq, cases_lt, and_from, and_left, and_right, eq-eqb, ne_eqb, cond-true, cond-false}
use Rattle.std.proofs.lemmas.List.{get_or_past, get_or-set_same, get_or-set_other, length-set, take_more}
use Rattle.std.proofs.lemmas.List.Sums.{sum_by-take-le}
use Rattle.count_table.specs.Table.{Table, with_count}
use Rattle.delay_scopes.specs.Pointers.{LowersBy, into_granule}
use Rattle.delay_scopes.specs.PointersEquations.{into_both, lowers_both}

-- One word

-- is a word an address in the granule?
abbrev pub leads_into : ℕ → ℕ → Bool
leads_into granule w = not (nat_eq w 0) && nat_eq (w / 16) granule

into_one : (granule w n : ℕ) → cond (leads_into granule w) 1 0 ≡ n → into_granule granule (w ∷ []) ≡ n
into_one granule w n e = omega (arith, e)

into_own : (w : ℕ) → w ≢ 0 → into_granule (w / 16) (w ∷ []) ≡ 1
into_own w some =
    into_one (w / 16) w 1 (cond-true (leads_into (w / 16) w) 1 0 (and_from (not (nat_eq w 0)) (nat_eq (w / 16) (w / 16)) (ap not (ne_eqb w 0 some)) (eq-eqb (w / 16) (w / 16) refl)))

into_other : (granule w : ℕ) → (w / 16 ≡ granule → ⊥) → into_granule granule (w ∷ []) ≡ 0
into_other granule w other =
    into_one granule w 0 (cond-false (leads_into granule w) 1 0 (and_right (not (nat_eq w 0)) (nat_eq (w / 16) granule) (ne_eqb (w / 16) granule other)))

into_null : (granule w : ℕ) → w ≡ 0 → into_granule granule (w ∷ []) ≡ 0
into_null granule w null =
    into_one granule w 0 (cond-false (leads_into granule w) 1 0 (and_left (not (nat_eq w 0)) (nat_eq (w / 16) granule) (ap not (eq-eqb w 0 null))))

pub counted_in_range : (counts : List ℕ) (granule : ℕ) → 0 < get_or counts granule 0 → granule < length counts
counted_in_range counts granule some =
    elim (cases_lt granule (length counts)) [ inl h ↦ h | inr h ↦ absurd (let none = get_or_past counts granule 0 h in omega arith) ]

-- a pointer that is covered has a count
pub covers_own : (counts : List ℕ) (w p : ℕ) → p ≡ w → p ≢ 0 → ((granule : ℕ) → into_granule granule (w ∷ []) ≤ get_or counts granule 0) → 0 < get_or counts (p / 16) 0
covers_own counts w p is some covered =
    let here : into_granule (p / 16) (p ∷ []) ≤ get_or counts (p / 16) 0 =
    subst (λ (v : ℕ). into_granule (p / 16) (v ∷ []) ≤ get_or counts (p / 16) 0) (sym is) (covered (p / 16)) in
    omega (arith, into_own p some)

pub lowers_one : (before after : Table) (w : ℕ) → w ≢ 0 → 0 < get_or before.counts (w / 16) 0 → after ≡ with_count before (w / 16) (get_or before.counts (w / 16) 0 - 1) → LowersBy (w ∷ []) before after
lowers_one before after w some positive changed =
    let g = w / 16 in
    let less = get_or before.counts g 0 - 1 in
    let counts : after.counts ≡ set before.counts g less = ap (λ (t : Table). t.counts) changed in
    record {
      most = ap (λ (t : Table). t.most) changed;
      long = ap length counts ∙ length-set before.counts g less;
      exact = λ granule. elim (cases_eq g granule) [
        | inl same ↦ subst (λ (k : ℕ). get_or after.counts k 0 + into_granule k (w ∷ []) ≡ get_or before.counts k 0) same
            (let here : get_or after.counts g 0 ≡ less = ap (λ (l : List ℕ). get_or l g 0) counts ∙ get_or-set_same before.counts g less 0 (counted_in_range before.counts g positive) in
            let own = into_own w some in
            omega arith)
        | inr other ↦ let there : get_or after.counts granule 0 ≡ get_or before.counts granule 0 = ap (λ (l : List ℕ). get_or l granule 0) counts ∙ get_or-set_other before.counts g granule less 0 (λ e. other (sym e)) in
            let none = into_other granule w other in
            omega arith
      ];
    }

pub lowers_null : (table : Table) (w : ℕ) → w ≡ 0 → LowersBy (w ∷ []) table table
lowers_null table w null = record {
  most = refl;
  long = refl;
  exact = λ granule. let none = into_null granule w null in omega arith;
}

-- Words after words

pub lowers_more : (words : List ℕ) (k : ℕ) (a b c : Table) → k < length words → LowersBy (take k words) a b → LowersBy (get_or words k 0 ∷ []) b c → LowersBy (take (k + 1) words) a c
lowers_more words k a b c below first second =
    subst (λ (l : List ℕ). LowersBy l a c) (sym (take_more words k 0 below)) (lowers_both (take k words) (get_or words k 0 ∷ []) a b c first second)

-- what covers all words covers the next one, after those before it were taken off
pub covers_next : (words : List ℕ) (k : ℕ) (a b : Table) → k < length words → ((granule : ℕ) → into_granule granule words ≤ get_or a.counts granule 0) → LowersBy (take k words) a b
    → (granule : ℕ) → into_granule granule (get_or words k 0 ∷ []) ≤ get_or b.counts granule 0
covers_next words k a b below covered lowered granule =
    let next : into_granule granule (take (k + 1) words) ≡ into_granule granule (take k words) + into_granule granule (get_or words k 0 ∷ []) =
    ap (into_granule granule) (take_more words k 0 below) ∙ into_both granule (take k words) (get_or words k 0 ∷ []) in
    let part : into_granule granule (take (k + 1) words) ≤ into_granule granule words = sum_by-take-le (λ w. cond (leads_into granule w) 1 0) words (k + 1) in
    omega (arith, covered granule, lowered.exact granule)
