-- A look at each granule of a part.
use Rattle.std.proofs.Common.{◌≡◌, ◌≢◌, ◌≤◌, ◌<◌, ◌+◌, ◌-◌, ℕ, Bool, true, false, List, [], ◌∷◌, ◌++◌, length, get_or, take, drop, refl, sym, ap, subst, ◌∙◌, arith}
use Rattle.std.proofs.lemmas.List.{take_more, drop_more, take_all, take-append-drop, length-take}
use Rattle.hole_tree.specs.Granules.{HasNoHole, IsFirstHole}
use Rattle.hole_tree.specs.Runs.{front_run, end_run, longest_run}
use Rattle.hole_tree.proofs.Laws.{end_append_all, end_append_some}
use Rattle.hole_tree.proofs.Finding.{no_hole_longest, no_hole_joined, first_across}

-- before a place, so many granules at the end are free, fewer than are wanted, and there is no hole
pub record IsScanned (part : List Bool) (n index free : ℕ) : Type 0 where
  pub end : free ≡ end_run (take index part)
  pub within : free ≤ index
  pub short : free < n
  pub none : HasNoHole (take index part) n

pub scan_begins : (part : List Bool) (n : ℕ) → 0 < n → IsScanned part n 0 0
scan_begins part n wanted = record {
  end = refl;
  within = omega arith;
  short = wanted;
  none = no_hole_longest [] n wanted;
}

module _ (part : List Bool) (n index free : ℕ) (below : index < length part) (scanned : IsScanned part n index free) where
  more_is : (x : Bool) → get_or part index false ≡ x → take (index + 1) part ≡ take index part ++ x ∷ []
  more_is x here =
      take_more part index false below ∙ ap (λ y. take index part ++ y ∷ []) here

  none_more : (x : Bool) → get_or part index false ≡ x → longest_run (x ∷ []) < n → free + front_run (x ∷ []) < n → HasNoHole (take (index + 1) part) n
  none_more x here alone across =
      let end = scanned.end in
      subst (λ row. HasNoHole row n) (sym (more_is x here)) (no_hole_joined (take index part) (x ∷ []) n (omega arith) scanned.none (omega arith) (no_hole_longest (x ∷ []) n alone))

  pub scan_taken : get_or part index false ≡ true → IsScanned part n (index + 1) 0
  scan_taken here = record {
    end = sym (ap end_run (more_is true here) ∙ end_append_some (take index part) (true ∷ []) (λ h. omega arith));
    within = omega arith;
    short = omega (arith, scanned.short);
    none = none_more true here (omega (arith, scanned.short)) (omega (arith, scanned.short));
  }

  pub scan_free : get_or part index false ≡ false → free + 1 ≢ n → IsScanned part n (index + 1) (free + 1)
  scan_free here other =
      let short = scanned.short in
      record {
        end = sym (ap end_run (more_is false here) ∙ end_append_all (take index part) (false ∷ []) refl ∙ omega (arith, scanned.end));
        within = omega (arith, scanned.within);
        short = omega arith;
        none = none_more false here (omega arith) (omega arith);
      }

  pub scan_found : get_or part index false ≡ false → free + 1 ≡ n → IsFirstHole part n (index + 1 - n)
  scan_found here full =
      let end = scanned.end in
      let front = ap front_run (drop_more part index false below ∙ ap (λ x. x ∷ drop (index + 1) part) here) in
      let first = first_across (take index part) (drop index part) n (omega arith) scanned.none (omega arith) in
      let at : length (take index part) - end_run (take index part) ≡ index + 1 - n = omega (arith, length-take index part) in
      subst (IsFirstHole part n) at (subst (λ row. IsFirstHole row n (length (take index part) - end_run (take index part))) (take-append-drop index part) first)

pub scan_ends : (part : List Bool) (n index free : ℕ) → length part ≤ index → IsScanned part n index free → HasNoHole part n
scan_ends part n index free past scanned =
    subst (λ row. HasNoHole row n) (take_all index part past) scanned.none
