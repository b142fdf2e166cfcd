-- The test of liveness says whether a path leads to a read. Proved from `Lives`.
use Rattle.std.proofs.Common.{◌≡◌, ◌⊎◌, ◌≤◌, ◌<◌, ◌&&◌, ◌||◌, ◌↔◌, ℕ, zero, suc, Bool, true, false, not, eqb, List, [], ◌∷◌, ◌++◌, Option, None, Some, length, slice_get, All, Contains, IsTrue, refl, ap, sym, ◌∙◌, subst, inl, inr, ⊎_elim, not-suc-le-zero, le_of_suc-le-suc, eq-or-lt_of_le}
use Rattle.std.specs.List.{IsDistinct, list_any}
use Rattle.std.specs.Option.{option_map_or}
use Rattle.std.proofs.lemmas.Bool.{and_from, and_parts, cases_Bool, eqb-true, false≢true, not-true, not_from_false, or_cases, or_right}
use Rattle.std.proofs.lemmas.List.Elements.{All-nil, All-cons, All-head, All-tail, All-weaker, recursion_from_All}
use Rattle.std.proofs.lemmas.List.Folds.{Any-from_list_any, list_any_at}
use Rattle.std.proofs.lemmas.Map.Steps.{length-le_from_distinct_below}
use Rattle.std.proofs.lemmas.Option.{slice_get_within}
use Rattle.core_tree.specs.declared.statements.Stm.{Stm}
use Rattle.core_tree.specs.Statements.{edges, reads_at, writes_at, edges_at}
use Rattle.core_tree.specs.Lives.{IsPath, IsLive, live_within, is_live}

module _ (body : List Stm) (r : ℕ) where
  abbrev Unwritten : ℕ → Type 0
  Unwritten p = writes_at body p r ≡ false

  -- a path of at most so many edges leads to a read, as the test finds it
  abbrev Finds : ℕ → ℕ → Type 0
  Finds n point = live_within body r n point ≡ true

  -- an edge's end reads, or it does not write and a path goes on from it
  abbrev GoesOn : ℕ → ℕ → Type 0
  GoesOn n next = (reads_at body next r ≡ true) ⊎ (Unwritten next × Finds n next)

  abbrev goes_on : ℕ → ℕ → Bool
  goes_on n next = reads_at body next r || (not (writes_at body next r) && live_within body r n next)

  -- what is found has a first edge
  first_edge : (n point : ℕ) → Finds (suc n) point → (next : ℕ) × Contains (edges_at body point) next × GoesOn n next
  unfolding live_within
  first_edge n point e = let a = Any-from_list_any (goes_on n) (edges_at body point) e in (a.1, (a.0, a.2, a.3), by a.1 a.4) where
    by : (next : ℕ) → goes_on n next ≡ true → GoesOn n next
    by next h =
        ⊎_elim
        (λ (read : reads_at body next r ≡ true). inl read)
        (λ rest. let both = and_parts (not (writes_at body next r)) _ rest in inr (not-true (writes_at body next r) both.0, both.1))
        (or_cases (reads_at body next r) _ h)

  found_by_edge : (n point next : ℕ) → Contains (edges_at body point) next → GoesOn n next → Finds (suc n) point
  unfolding live_within
  found_by_edge n point next edge g = list_any_at (goes_on n) (edges_at body point) edge.0 next edge.1 (ap (goes_on n) edge.2 ∙ by g) where
    by : GoesOn n next → goes_on n next ≡ true
    by (inl read) = ap (λ b. b || (not (writes_at body next r) && live_within body r n next)) read
    by (inr rest) = or_right (reads_at body next r) _ (and_from (not (writes_at body next r)) _ (not_from_false _ rest.0) rest.1)

  none_by_none : (point : ℕ) {P : Type 0} → Finds 0 point → P
  unfolding live_within
  none_by_none point e = absurd (false≢true e)

  -- a path is found by as many edges as it has
  found : (read : ℕ) (before : List ℕ) (point : ℕ) → IsPath body point (before ++ read ∷ []) → All Unwritten before → reads_at body read r ≡ true →
      Finds (suc (length before)) point
  found read [] point path u e = found_by_edge 0 point read path.0 (inl e)
  found read (next ∷ before) point path u e =
      let rest = found read before next path.1 (All-tail Unwritten next before u) e in
      found_by_edge (suc (length before)) point next path.0 (inr (All-head Unwritten next before u, rest))

  -- live by an edge whose end reads, or does not write and has the register live behind it
  pub live_by_read : (point next : ℕ) → Contains (edges_at body point) next → reads_at body next r ≡ true → IsLive body point r
  live_by_read point next edge read = record { before = []; read = next; path = (edge, tt); unwritten = All-nil Unwritten; is_read = read }

  pub live_by_edge : (point next : ℕ) → Contains (edges_at body point) next → writes_at body next r ≡ false → IsLive body next r → IsLive body point r
  live_by_edge point next edge w l = record {
    before = next ∷ l.before;
    read = l.read;
    path = (edge, l.path);
    unwritten = All-cons Unwritten next l.before w l.unwritten;
    is_read = l.is_read;
  }

  live_if_found : (n point : ℕ) → Finds n point → IsLive body point r
  live_if_found zero point e = none_by_none point e
  live_if_found (suc n) point e =
      let a = first_edge n point e in
      ⊎_elim
      (λ (read : reads_at body a.0 r ≡ true). live_by_read point a.0 a.1 read)
      (λ rest. live_by_edge point a.0 a.1 rest.0 (live_if_found n a.0 rest.1))
      a.2

  -- more edges find more
  one_more : (n point : ℕ) → Finds n point → Finds (suc n) point
  one_more zero point e = none_by_none point e
  one_more (suc n) point e =
      let a = first_edge n point e in
      found_by_edge (suc n) point a.0 a.1 (⊎_elim (λ (read : reads_at body a.0 r ≡ true). inl read) (λ rest. inr (rest.0, one_more n a.0 rest.1)) a.2)

  more : (m n point : ℕ) → n ≤ m → Finds n point → Finds m point
  more zero zero point le e = e
  more zero (suc n) point le e = absurd (not-suc-le-zero le)
  more (suc m) n point le e =
      ⊎_elim
      (λ (same : n ≡ suc m). subst (λ k. Finds k point) same e)
      (λ (less : n < suc m). one_more m point (more m n point (le_of_suc-le-suc less) e))
      (eq-or-lt_of_le le)

  -- only a point of the body has edges
  within_body : (n point : ℕ) → Finds (suc n) point → point < length body
  within_body n point e = by (slice_get body point) refl (first_edge n point e).1 where
    by : (o : Option Stm) → slice_get body point ≡ o → {next : ℕ} → Contains (option_map_or (λ (stm : Stm). edges stm.kind point) o []) next →
        point < length body
    by None at edge = absurd (not-suc-le-zero edge.1)
    by (Some stm) at edge = slice_get_within body point stm at

  -- n points of which no two are the same, from each of which at most n edges lead to a read
  record Points (n : ℕ) : Type 0 where
    points : List ℕ
    count : length points ≡ n
    distinct : IsDistinct eqb points
    found : All (Finds n) points

  -- one more point, from which as few edges do not lead to a read
  point_more : (n point : ℕ) → Finds (suc n) point → live_within body r n point ≡ false → Points n → Points (suc n)
  unfolding IsDistinct
  point_more n point e fails ps = record {
    points = point ∷ ps.points;
    count = ap suc ps.count;
    distinct = (recursion_from_All (λ q. eqb point q ≡ false) ps.points (All-weaker (Finds n) (λ q. eqb point q ≡ false) apart ps.points ps.found), ps.distinct);
    found = All-cons (Finds (suc n)) point ps.points e (All-weaker (Finds n) (Finds (suc n)) (one_more n) ps.points ps.found);
  } where
    apart : (q : ℕ) → Finds n q → eqb point q ≡ false
    apart q h =
        ⊎_elim
        (λ same. absurd (false≢true (sym fails ∙ ap (live_within body r n) (eqb-true point q same) ∙ h)))
        (λ differs. differs)
        (cases_Bool (eqb point q))

  no_points : Points 0
  unfolding IsDistinct
  no_points = record { points = []; count = refl; distinct = tt; found = All-nil (Finds 0) }

  -- where n edges find no read and one more does, the end of the first edge is such a point for one edge less
  as_late : (n point next : ℕ) → Contains (edges_at body point) next → live_within body r (suc n) point ≡ false → GoesOn (suc n) next →
      Finds (suc n) next × (live_within body r n next ≡ false)
  as_late n point next edge fails (inl read) = absurd (false≢true (sym fails ∙ found_by_edge n point next edge (inl read)))
  as_late n point next edge fails (inr rest) =
      let late : live_within body r n next ≡ false =
      ⊎_elim
      (λ soon. absurd (false≢true (sym fails ∙ found_by_edge n point next edge (inr (rest.0, soon)))))
      (λ late. late)
      (cases_Bool (live_within body r n next)) in (rest.1, late)

  -- so the points of a path that no shorter one replaces are as many as its edges
  points_of_shortest : (n point : ℕ) → Finds (suc n) point → live_within body r n point ≡ false → Points (suc n)
  points_of_shortest zero point e fails = point_more zero point e fails no_points
  points_of_shortest (suc n) point e fails =
      let a = first_edge (suc n) point e in
      let l = as_late n point a.0 a.1 fails a.2 in
      point_more (suc n) point e fails (points_of_shortest n a.0 l.0 l.1)

  at_most_body : (n : ℕ) → Points (suc n) → suc n ≤ length body
  at_most_body n ps = subst (λ k. k ≤ length body) ps.count (length-le_from_distinct_below ps.points (length body) ps.distinct below) where
    below : (q : ℕ) → list_any (eqb q) ps.points ≡ true → q < length body
    below q has =
        let a = Any-from_list_any (eqb q) ps.points has in
        within_body n q (subst (Finds (suc n)) (a.3 ∙ sym (eqb-true q a.1 a.4)) (ps.found a.0 a.1 a.2))

  -- what any number of edges finds, as many edges as there are statements find
  bounded : (n point : ℕ) → Finds n point → Finds (length body) point
  bounded zero point e = none_by_none point e
  bounded (suc n) point e =
      ⊎_elim
      (λ soon. bounded n point soon)
      (λ late. more (length body) (suc n) point (at_most_body n (points_of_shortest n point e late)) e)
      (cases_Bool (live_within body r n point))

pub live_by_paths : (body : List Stm) (point r : ℕ) → IsTrue (is_live body point r) ↔ IsLive body point r
unfolding is_live
live_by_paths body point r = (
  λ e. live_if_found body r (length body) point e,
  λ l. bounded body r (suc (length l.before)) point (found body r l.read l.before point l.path l.unwritten l.is_read),
)
