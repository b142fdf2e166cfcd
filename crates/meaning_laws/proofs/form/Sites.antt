-- The sites of the code of a sound core: they ascend, and an instruction has the site that it must have.
use Rattle.meaning_laws.proofs.Words.Core.{Atom, Code, Core, Entry, Func, HasSite, Instr, IsAt, IsSound, Site, Stm, StmKind, has_site, site_of}
use Rattle.meaning_laws.proofs.Words.Meaning.{AreAscending, AreExact, IsCompiled, Pins, first_of, func_sites, hand_of, handed_atoms, may_free, pins_of, place_of, sites_of, statement_sites}
use Rattle.meaning_laws.proofs.Words.Std.{All, All-cons, All-nil, All-weaker, AllPairs, Bool, Contains, None, Some, [], ap, arith, both_ways, cond, false, length, refl, same_Some, slice_get, slice_get-get_or, subst, sym, true, ℕ, ◌+◌, ◌<◌, ◌∙◌, ◌∷◌, ◌≡◌, ◌≢◌, ◌≤◌}
use Rattle.core_tree.specs.declared.statements.StmKind.TheVariants as stm
use Rattle.meaning_laws.proofs.form.Ascending.{Ascend, none_ascend, one_ascends, all_ascend, all_hold, one_is_in, no_site, site_found}
use Rattle.meaning_laws.proofs.form.Typing.{doing, as_doing}
use Rattle.meaning_laws.proofs.form.Flow.{first_inside, last_inside}
use Rattle.meaning_laws.proofs.form.Sorts.{each_hand}
use Rattle.meaning_laws.proofs.form.Places.{place_more, place_all}
use Rattle.meaning_laws.proofs.form.Spots.{Spot, places, start, last, atoms}
use Rattle.meaning_laws.proofs.form.Pinned.{LiveByPaths, pins_are}

-- Which instructions have a site

hand_has_no_site : (a : Atom) → has_site (hand_of a).op ≡ false
hand_has_no_site a = each_hand (λ (i : Instr). has_site i.op ≡ false) (λ r. refl) (λ n. refl) (λ n. refl) refl (λ k. refl) (λ k. refl) a

frees : (place : ℕ → ℕ) (kind : StmKind) (n : ℕ) → has_site (doing place kind n).op ≡ may_free kind
frees place (stm.Return None) n = refl
frees place (stm.Return (Some a)) n = refl
frees place kind n = refl

-- The sites of a core

module _ (core : Core) (pins : Pins) where
  -- the site of a statement
  abbrev own_site : ℕ → Func → ℕ → Stm → Site
  own_site f func point stm =
      record { instr = place_of core f func.body point + length (handed_atoms stm.kind); pins = pins_of pins f point }

  if_ascends : (from to : ℕ) (b : Bool) (site : Site) → from ≤ site.instr → site.instr < to → Ascend from to (cond b (site ∷ []) [])
  if_ascends from to true site low high = one_ascends from to site low high
  if_ascends from to false site low high = none_ascend from to (omega arith)

  func_ascends : (f : ℕ) (func : Func) → slice_get core.funcs f ≡ Some func → Ascend (first_of core f) (first_of core (f + 1)) (func_sites core pins (f, func))
  func_ascends f func here =
      let place = place_of core f func.body in
      let all = all_ascend (statement_sites core pins f func) place 0 func.body
      (λ k m stm at e.
      let found : slice_get func.body m ≡ Some stm = subst (λ n. slice_get func.body n ≡ Some stm) (omega arith) at in
      let more = place_more core f func here m stm found in
      if_ascends (place m) (place (m + 1)) (may_free stm.kind) (own_site f func m stm) (omega arith) (omega (arith, more))) in
      let first : place 0 ≡ first_of core f = omega arith in
      let end : place (0 + length func.body) ≡ first_of core (f + 1) =
      ap place (omega arith) ∙ place_all core f func here in
      subst (λ n. Ascend n (first_of core (f + 1)) (func_sites core pins (f, func))) first
      (subst (λ n. Ascend (place 0) n (func_sites core pins (f, func))) end all)

  sites_of_ascend : Ascend (first_of core 0) (first_of core (0 + length core.funcs)) (sites_of core pins)
  sites_of_ascend =
      all_ascend (func_sites core pins) (first_of core) 0 core.funcs
      (λ k f func at e. func_ascends f func (subst (λ n. slice_get core.funcs n ≡ Some func) (omega arith) at))

  if_holds : (P : Site → Type 0) (b : Bool) (site : Site) → (b ≡ true → P site) → All P (cond b (site ∷ []) [])
  if_holds P true site h = All-cons P site [] (h refl) (All-nil P)
  if_holds P false site h = All-nil P

  -- what holds of the site of each statement that may free holds of each site
  each_site : (P : Site → Type 0) → ((f : ℕ) (func : Func) (here : slice_get core.funcs f ≡ Some func) (point : ℕ) (stm : Stm) (found : slice_get func.body point ≡ Some stm) → may_free stm.kind ≡ true → P (own_site f func point stm)) → All P (sites_of core pins)
  each_site P h =
      all_hold (func_sites core pins) P 0 core.funcs
      (λ k f func at e.
      let here : slice_get core.funcs f ≡ Some func = subst (λ n. slice_get core.funcs n ≡ Some func) (omega arith) at in
      all_hold (statement_sites core pins f func) P 0 func.body
      (λ j point stm at_stm same.
      let found : slice_get func.body point ≡ Some stm = subst (λ n. slice_get func.body n ≡ Some stm) (omega arith) at_stm in
      if_holds P (may_free stm.kind) (own_site f func point stm) (h f func here point stm found)))

  if_there : (b : Bool) (site : Site) → b ≡ true → Contains (cond b (site ∷ []) []) site
  if_there true site h = (0, omega arith, refl)
  if_there false site h = absurd (both_ways false refl h)

  -- the site of a statement that may free is among them
  own_site_in : (f : ℕ) (func : Func) → slice_get core.funcs f ≡ Some func → (point : ℕ) (stm : Stm) → slice_get func.body point ≡ Some stm → may_free stm.kind ≡ true → Contains (sites_of core pins) (own_site f func point stm)
  own_site_in f func here point stm found h =
      one_is_in (func_sites core pins) 0 core.funcs f f func (own_site f func point stm) here (omega arith)
      (one_is_in (statement_sites core pins f func) 0 func.body point point stm (own_site f func point stm) found (omega arith) (if_there (may_free stm.kind) (own_site f func point stm) h))

  own_site_found : (f : ℕ) (func : Func) → slice_get core.funcs f ≡ Some func → (point : ℕ) (stm : Stm) → slice_get func.body point ≡ Some stm → may_free stm.kind ≡ true → site_of (sites_of core pins) (place_of core f func.body point + length (handed_atoms stm.kind)) ≡ Some (pins_of pins f point)
  own_site_found f func here point stm found h =
      let own = own_site f func point stm in
      let in_all = own_site_in f func here point stm found h in
      site_found (sites_of core pins) sites_of_ascend.ascend own in_all.0
      (slice_get-get_or (sites_of core pins) in_all.0 own in_all.1 ∙ ap (λ (s : Site). Some s) in_all.2)

module _ (core : Core) {pins : Pins} (code : Code) (sound : IsSound core) (is : IsCompiled core pins code) where
  pub sites_ascend : AllPairs (λ (one other : Site). one.instr < other.instr) code.sites
  sites_ascend =
      subst (AllPairs (λ (one other : Site). one.instr < other.instr)) (sym is.sites) (sites_of_ascend core pins).ascend

  -- at each site stands an instruction of a function that has one
  record Stands (site : Site) : Type 0 where
    f : ℕ
    entry : Entry
    i : Instr
    at : IsAt code f entry site.instr i
    frees : has_site i.op ≡ true

  own_stands : (f : ℕ) (func : Func) (here : slice_get core.funcs f ≡ Some func) (point : ℕ) (stm : Stm) → slice_get func.body point ≡ Some stm → may_free stm.kind ≡ true → Stands (own_site core pins f func point stm)
  own_stands f func here point stm found h =
      let there = is.functions f func here in
      let s : Spot core code is = record {
        f = f;
        func = func;
        here = here;
        entry = there.0;
        matches = there.2;
        point = point;
        stm = stm;
        found = found;
      } in
      let does = (is.statements f point func stm here found).does in
      let d = as_doing core code f func stm.kind does.0 does.2 in
      let low = first_inside core code sound is s in
      let place = places core code is s in
      record {
        f = f;
        entry = there.0;
        i = does.0;
        at = record {
          function = there.1;
          from = omega (arith, low);
          before = last_inside core code sound is s;
          here = does.1;
        };
        frees = ap (λ (i : Instr). has_site i.op) d.1 ∙ frees place stm.kind d.0 ∙ h;
      }

  all_stand : All Stands code.sites
  all_stand = subst (All Stands) (sym is.sites) (each_site core pins Stands own_stands)

  pub sites_inside : All (λ (site : Site). (f : ℕ) × (entry : Entry) × (i : Instr) × IsAt code f entry site.instr i) code.sites
  sites_inside =
      All-weaker Stands (λ (site : Site). (f : ℕ) × (entry : Entry) × (i : Instr) × IsAt code f entry site.instr i) (λ site h. (h.f, h.entry, h.i, h.at)) code.sites all_stand

  -- an instruction that frees nothing has no site
  has_none : (point : ℕ) (i : Instr) → slice_get code.instrs point ≡ Some i → has_site i.op ≡ false → site_of code.sites point ≡ None
  has_none point i there h =
      no_site code.sites point
      (All-weaker Stands (λ (site : Site). site.instr ≢ point)
      (λ site s same.
      let e : s.i ≡ i = same_Some s.i i (sym s.at.here ∙ ap (slice_get code.instrs) same ∙ there) in
      both_ways (has_site i.op) h (ap (λ (j : Instr). has_site j.op) (sym e) ∙ s.frees))
      code.sites all_stand)

  pub hand_site : (s : Spot core code is) (k : ℕ) (a : Atom) → slice_get (atoms core code is s) k ≡ Some a → HasSite code s.entry (start core code is s + k) (hand_of a) (has_site (hand_of a).op)
  hand_site s k a h =
      let there = (is.statements s.f s.point s.func s.stm s.here s.found).hands k a h in
      subst (HasSite code s.entry (start core code is s + k) (hand_of a)) (sym (hand_has_no_site a)) (has_none (start core code is s + k) (hand_of a) there (hand_has_no_site a))

  pub does_site : LiveByPaths → AreExact core pins → AreAscending pins → (s : Spot core code is) (n : ℕ) → HasSite code s.entry (last core code is s) (doing (places core code is s) s.stm.kind n) (has_site (doing (places core code is s) s.stm.kind n).op)
  does_site paths exact ascending s n =
      let place = places core code is s in
      let i = doing place s.stm.kind n in
      let same = frees place s.stm.kind n in
      let does = (is.statements s.f s.point s.func s.stm s.here s.found).does in
      let d = as_doing core code s.f s.func s.stm.kind does.0 does.2 in
      let stands = ap (λ (j : Instr). has_site j.op) d.1 ∙ frees place s.stm.kind d.0 in
      subst (HasSite code s.entry (last core code is s) i) (sym same)
      (elim (may_free s.stm.kind) as (λ b. may_free s.stm.kind ≡ b → HasSite code s.entry (last core code is s) i b) [
        | true ↦ λ h. (
          pins_of pins s.f s.point,
          ap (λ sites. site_of sites (last core code is s)) is.sites ∙ own_site_found core pins s.f s.func s.here s.point s.stm s.found h,
          pins_are paths core code sound is s n exact ascending h,
        )
        | false ↦ λ h. has_none (last core code is s) does.0 does.1 (stands ∙ h)
      ]
      refl)
