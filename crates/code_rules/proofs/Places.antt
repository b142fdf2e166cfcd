-- A table of the places of sites, filled site by site.
use Rattle.std.proofs.Common.{◌≡◌, ◌≢◌, ◌<◌, ◌≤◌, ◌+◌, ℕ, zero, suc, Bool, true, false, cond, List, [], ◌∷◌, ◌++◌, Option, Some, None, length, get_or, set, take, replicate, refl, sym, ap, ◌∙◌, subst, ⊎_elim, add-one, arith}
use Rattle.std.specs.Prelude.{is_some, nat_eq, not, option_map}
use Rattle.std.specs.List.{slice_get}
use Rattle.std.proofs.lemmas.Bool.{cases_lt}
use Rattle.std.proofs.lemmas.Bool.Decides.{eqb_tells}
use Rattle.std.proofs.lemmas.List.{get_or-replicate, get_or-set_other, get_or-set_same, get_or_past, length-replicate, length-set}
use Rattle.flat_code.specs.declared.program.Code.{Code}
use Rattle.flat_code.specs.declared.program.Site.{Site}
use Rattle.flat_code.specs.Sites.{site_of}
use Rattle.code_rules.specs.Answers.{ArePlacesUpTo, pins_at}

-- The first site of an instruction, with one site more behind a list

take_next : {X : Type 0} (xs : List X) (n : ℕ) (x : X) → slice_get xs n ≡ Some x → take (n + 1) xs ≡ take n xs ++ x ∷ []
take_next [] n x is = absurd (cc)
take_next (y ∷ xs) zero x is = let same : y ≡ x = cc in ap (λ z. z ∷ []) same
take_next (y ∷ xs) (suc n) x is =
    ap (λ m. take m (y ∷ xs)) (add-one (suc n)) ∙ ap (λ m. y ∷ take m xs) (sym (add-one n)) ∙ ap (λ (zs : List _). y ∷ zs) (take_next xs n x is)

found_at : (b : Bool) (pins others : List ℕ) (rest more : Option (List ℕ)) → (rest ≡ Some others → more ≡ Some others) → cond b (Some pins) rest ≡ Some others → cond b (Some pins) more ≡ Some others
found_at true pins others rest more so is = is
found_at false pins others rest more so is = so is

still_found : (sites : List Site) (s : Site) (p : ℕ) (pins : List ℕ) → site_of sites p ≡ Some pins → site_of (sites ++ s ∷ []) p ≡ Some pins
still_found [] s p pins is = absurd (cc)
still_found (x ∷ sites) s p pins is =
    found_at (nat_eq x.instr p) x.pins pins (site_of sites p) (site_of (sites ++ s ∷ []) p) (λ so. still_found sites s p pins so) is

none_at : (b : Bool) (pins : List ℕ) (rest more last : Option (List ℕ)) → (rest ≡ None → more ≡ last) → cond b (Some pins) rest ≡ None → cond b (Some pins) more ≡ last
none_at true pins rest more last so is = absurd (cc)
none_at false pins rest more last so is = so is

found_last : (sites : List Site) (s : Site) (p : ℕ) → site_of sites p ≡ None → site_of (sites ++ s ∷ []) p ≡ cond (nat_eq s.instr p) (Some s.pins) None
found_last [] s p is = refl
found_last (x ∷ sites) s p is =
    none_at (nat_eq x.instr p) x.pins (site_of sites p) (site_of (sites ++ s ∷ []) p) (cond (nat_eq s.instr p) (Some s.pins) None) (λ so. found_last sites s p so) is

-- An instruction whose place stays, and one that has none before

module _ (sites : List Site) (count : ℕ) (s : Site) (is : slice_get sites count ≡ Some s) (p : ℕ) where
  there : {X : Type 0} (xs : List X) (k : ℕ) → k < length xs → (x : X) × (slice_get xs k ≡ Some x)
  there [] k h = absurd (omega arith)
  there (x ∷ xs) zero h = (x, refl)
  there (x ∷ xs) (suc k) h = there xs k (omega arith)

  other : (o : Option (List ℕ)) → site_of (take count sites) p ≡ o → s.instr ≢ p → site_of (take count sites ++ s ∷ []) p ≡ o
  other None before apart =
      found_last (take count sites) s p before
      ∙ ⊎_elim (λ h. absurd (apart h.1)) (λ h. ap (λ b. cond b (Some s.pins) None) h.0) (eqb_tells s.instr p)
  other (Some pins) before apart = still_found (take count sites) s p pins before

  stays : (o : Option ℕ) → pins_at sites o ≡ site_of (take count sites) p → ((k : ℕ) → o ≡ Some k → k < length sites) → (s.instr ≡ p → o ≢ None) → pins_at sites o ≡ site_of (take count sites ++ s ∷ []) p
  stays None before inside has = sym (other None (sym before) (λ same. has same refl))
  stays (Some k) before inside has =
      let one = there sites k (inside k refl) in
      let found : pins_at sites (Some k) ≡ Some one.0.pins = ap (option_map (λ (site : Site). site.pins)) one.1 in
      found ∙ sym (still_found (take count sites) s p one.0.pins (sym before ∙ found))

  comes : s.instr ≡ p → site_of (take count sites) p ≡ None → pins_at sites (Some count) ≡ site_of (take count sites ++ s ∷ []) p
  comes same before =
      ap (option_map (λ (site : Site). site.pins)) is
      ∙ sym (found_last (take count sites) s p before ∙ ⊎_elim (λ h. ap (λ b. cond b (Some s.pins) None) h.0) (λ h. absurd (h.1 same)) (eqb_tells s.instr p))

-- The table

abbrev Places : Type 0
Places = List (Option ℕ)

abbrev none : Option ℕ
none = None

pub none_yet : (code : Code) (count : ℕ) → count ≡ length code.instrs → ArePlacesUpTo code 0 (replicate count none)
none_yet code count same = record {
  long = length-replicate count none ∙ same;
  there = λ point place is. absurd (let no : None ≡ Some place = sym (blank point) ∙ is in cc);
  first = λ point inside. ap (pins_at code.sites) (blank point);
} where
  blank : (point : ℕ) → get_or (replicate count none) point None ≡ None
  blank point =
      ⊎_elim
      (λ (less : point < count). get_or-replicate count point none None less)
      (λ (past : count ≤ point). get_or_past (replicate count none) point None (omega (arith, length-replicate count none)))
      (cases_lt point count)

module _ (code : Code) (count : ℕ) (s : Site) (is : slice_get code.sites count ≡ Some s) (places : Places) (are : ArePlacesUpTo code count places) where
  -- the instruction of the site has a place, or is none
  pub places_stay : (s.instr < length places → get_or places s.instr None ≢ None) → ArePlacesUpTo code (count + 1) places
  places_stay has = record {
    long = are.long;
    there = are.there;
    first = λ point inside.
        stays code.sites count s is point (get_or places point None) (are.first point inside) (are.there point)
        (λ same. subst (λ n. get_or places n None ≢ None) same (has (omega (arith, same, are.long))))
        ∙ sym (ap (λ (l : List Site). site_of l point) (take_next code.sites count s is));
  }

  -- it gets this one
  pub place_put : count < length code.sites → s.instr < length places → get_or places s.instr None ≡ None → ArePlacesUpTo code (count + 1) (set places s.instr (Some count))
  place_put less inside free = record {
    long = length-set places s.instr (Some count) ∙ are.long;
    there = λ point place at. put_there point place at;
    first = λ point within. put_first point within ∙ sym (ap (λ (l : List Site). site_of l point) (take_next code.sites count s is));
  } where
    here : (point : ℕ) → s.instr ≡ point → get_or (set places s.instr (Some count)) point None ≡ Some count
    here point same = subst (λ n. get_or (set places s.instr (Some count)) n None ≡ Some count) same (get_or-set_same places s.instr (Some count) None inside)

    elsewhere : (point : ℕ) → s.instr ≢ point → get_or (set places s.instr (Some count)) point None ≡ get_or places point None
    elsewhere point apart = get_or-set_other places s.instr point (Some count) None (λ e. apart (sym e))

    put_there : (point place : ℕ) → get_or (set places s.instr (Some count)) point None ≡ Some place → place < length code.sites
    put_there point place at =
        ⊎_elim
        (λ h. let same : count ≡ place = let e = sym (here point h.1) ∙ at in cc in omega arith)
        (λ h. are.there point place (sym (elsewhere point h.1) ∙ at))
        (eqb_tells s.instr point)

    put_first : (point : ℕ) → point < length code.instrs → pins_at code.sites (get_or (set places s.instr (Some count)) point None) ≡ site_of (take count code.sites ++ s ∷ []) point
    put_first point within =
        ⊎_elim
        (λ h. ap (pins_at code.sites) (here point h.1)
        ∙ comes code.sites count s is point h.1 (subst (λ n. site_of (take count code.sites) n ≡ None) h.1 (sym (are.first s.instr (omega (arith, inside, are.long))) ∙ ap (pins_at code.sites) free)))
        (λ h. ap (pins_at code.sites) (elsewhere point h.1)
        ∙ stays code.sites count s is point (get_or places point None) (are.first point within) (are.there point) (λ same. absurd (h.1 same)))
        (eqb_tells s.instr point)

-- What a test for a place says

pub none_of : (o : Option ℕ) (b : Bool) → is_some o ≡ not b → b ≡ true → o ≡ None
none_of None b e t = refl
none_of (Some x) b e t = absurd (let none_there : not b ≡ false = ap not t in cc)

pub some_of : (o : Option ℕ) (b : Bool) → is_some o ≡ not b → b ≡ false → o ≢ None
some_of None b e f = λ none_there. absurd (let there_is : not b ≡ true = ap not f in cc)
some_of (Some x) b e f = λ none_there. cc
