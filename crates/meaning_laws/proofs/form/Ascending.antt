-- Lists of sites that ascend, and the pins of an instruction in them.
use Rattle.meaning_laws.proofs.Words.Core.{Site, site_of}
use Rattle.meaning_laws.proofs.Words.Std.{All, All-append, All-cons, All-nil, All-weaker, AllPairs, AllPairs-cons, Contains, Contains-append_left, Contains-append_right, List, None, Some, [], ap, arith, cond, enumerate_from, eq-eqb, flat_map, get_or_from_slice_get, length, ne_eqb, refl, slice_get, slice_get_within, subst, suc, sym, zero, ℕ, ◌++◌, ◌+◌, ◌<◌, ◌∙◌, ◌∷◌, ◌≡◌, ◌≢◌, ◌≤◌}

abbrev Before : Site → Site → Type 0
Before one other = one.instr < other.instr

abbrev Between : ℕ → ℕ → Site → Type 0
Between from to site = (from ≤ site.instr) × (site.instr < to)

-- sites ascend, and stand at instructions from one on and before another
pub record Ascend (from to : ℕ) (sites : List Site) : Type 0 where
  pub order : from ≤ to
  pub ascend : AllPairs Before sites
  pub within : All (Between from to) sites

pub none_ascend : (from to : ℕ) → from ≤ to → Ascend from to []
none_ascend from to h =
    record { order = h; ascend = λ i j d less below. absurd (omega arith); within = All-nil (Between from to) }

pub one_ascends : (from to : ℕ) (site : Site) → from ≤ site.instr → site.instr < to → Ascend from to (site ∷ [])
one_ascends from to site low high =
    record {
      order = omega arith;
      ascend = λ i j d less below. absurd (omega arith);
      within = All-cons (Between from to) site [] (low, high) (All-nil (Between from to));
    }

later : (site : Site) (sites : List Site) → AllPairs Before (site ∷ sites) → All (Before site) sites
later site sites h = λ k d less. h 0 (suc k) d (omega arith) (omega arith)

rest_ascends : (site : Site) (sites : List Site) → AllPairs Before (site ∷ sites) → AllPairs Before sites
rest_ascends site sites h = λ i j d less below. h (suc i) (suc j) d (omega arith) (omega arith)

both_ascend : (xs ys : List Site) → AllPairs Before xs → AllPairs Before ys → ((site : Site) → Contains xs site → All (Before site) ys) → AllPairs Before (xs ++ ys)
both_ascend [] ys h g between = g
both_ascend (x ∷ xs) ys h g between =
    AllPairs-cons Before x (xs ++ ys)
    (All-append (Before x) xs ys (later x xs h) (between x (0, omega arith, refl)))
    (both_ascend xs ys (rest_ascends x xs h) g (λ site at. between site (suc at.0, omega (arith, at.1), at.2)))

joined_ascend : (a b c : ℕ) (xs ys : List Site) → Ascend a b xs → Ascend b c ys → Ascend a c (xs ++ ys)
joined_ascend a b c xs ys h g =
    record {
      order = omega (arith, h.order, g.order);
      ascend = both_ascend xs ys h.ascend g.ascend
          (λ site at.
          let less = subst (Between a b) at.2 (h.within at.0 site at.1) in
          All-weaker (Between b c) (Before site) (λ other w. omega (arith, less, w)) ys g.within);
      within = All-append (Between a c) xs ys
          (All-weaker (Between a b) (Between a c) (λ site w. (w.0, omega (arith, w.1, g.order))) xs h.within)
          (All-weaker (Between b c) (Between a c) (λ site w. (omega (arith, w.0, h.order), w.1)) ys g.within);
    }

-- Sites of numbered things, one after another

module _ {X : Type 0} (sites : ℕ × X → List Site) where
  -- what holds of each thing and its number
  abbrev pub Each : (ℕ → X → Type 0) → ℕ → List X → Type 0
  Each P n xs = (k m : ℕ) (x : X) → slice_get xs k ≡ Some x → n + k ≡ m → P m x

  pub all_ascend : (bound : ℕ → ℕ) (n : ℕ) (xs : List X) → Each (λ m x. Ascend (bound m) (bound (m + 1)) (sites (m, x))) n xs → Ascend (bound n) (bound (n + length xs)) (flat_map sites (enumerate_from n xs))
  all_ascend bound n [] h = none_ascend (bound n) (bound (n + 0)) (let e : n ≡ n + 0 = omega arith in omega (arith, ap bound e))
  all_ascend bound n (x ∷ xs) h =
      let rest = all_ascend bound (n + 1) xs (λ k m y at e. h (suc k) m y at (omega arith)) in
      let e : n + 1 + length xs ≡ n + length (x ∷ xs) = omega arith in
      joined_ascend (bound n) (bound (n + 1)) (bound (n + length (x ∷ xs))) (sites (n, x)) (flat_map sites (enumerate_from (n + 1) xs)) (h 0 n x refl (omega arith))
      (subst (λ m. Ascend (bound (n + 1)) (bound m) (flat_map sites (enumerate_from (n + 1) xs))) e rest)

  pub all_hold : (P : Site → Type 0) (n : ℕ) (xs : List X) → Each (λ m x. All P (sites (m, x))) n xs → All P (flat_map sites (enumerate_from n xs))
  all_hold P n [] h = All-nil P
  all_hold P n (x ∷ xs) h =
      All-append P (sites (n, x)) (flat_map sites (enumerate_from (n + 1) xs)) (h 0 n x refl (omega arith))
      (all_hold P (n + 1) xs (λ k m y at e. h (suc k) m y at (omega arith)))

  pub one_is_in : (n : ℕ) (xs : List X) (k m : ℕ) (x : X) (site : Site) → slice_get xs k ≡ Some x → n + k ≡ m → Contains (sites (m, x)) site → Contains (flat_map sites (enumerate_from n xs)) site
  one_is_in n [] k m x site at e h = absurd (cc)
  one_is_in n (y ∷ xs) zero m x site at e h =
      let same : y ≡ x = cc in
      let number : m ≡ n = omega arith in
      Contains-append_left (sites (n, y)) (flat_map sites (enumerate_from (n + 1) xs)) site
      (subst (λ z. Contains (sites (n, z)) site) (sym same) (subst (λ k. Contains (sites (k, x)) site) number h))
  one_is_in n (y ∷ xs) (suc k) m x site at e h =
      Contains-append_right (sites (n, y)) (flat_map sites (enumerate_from (n + 1) xs)) site (one_is_in (n + 1) xs k m x site at (omega arith) h)

-- The site of an instruction

pub no_site : (sites : List Site) (point : ℕ) → All (λ (site : Site). site.instr ≢ point) sites → site_of sites point ≡ None
no_site [] point h = refl
no_site (site ∷ sites) point h =
    let other = ne_eqb site.instr point (h 0 site (omega arith)) in
    let rest = no_site sites point (λ k d less. h (suc k) d (omega arith)) in
    ap (λ b. cond b (Some site.pins) (site_of sites point)) other ∙ rest

-- where sites ascend, each stands for its instruction
pub site_found : (sites : List Site) → AllPairs Before sites → (site : Site) (k : ℕ) → slice_get sites k ≡ Some site → site_of sites site.instr ≡ Some site.pins
site_found [] h site k at = absurd (cc)
site_found (first ∷ sites) h site zero at =
    let same : first ≡ site = cc in
    let own = eq-eqb first.instr site.instr (ap (λ (s : Site). s.instr) same) in
    ap (λ b. cond b (Some first.pins) (site_of sites site.instr)) own ∙ ap (λ (s : Site). Some s.pins) same
site_found (first ∷ sites) h site (suc k) at =
    let less = later first sites h k site (slice_get_within sites k site at) in
    let is = get_or_from_slice_get sites k site site at in
    let other = ne_eqb first.instr site.instr (λ e. absurd (omega (arith, less, ap (λ (s : Site). s.instr) is))) in
    ap (λ b. cond b (Some first.pins) (site_of sites site.instr)) other ∙ site_found sites (rest_ascends first sites h) site k at
