-- Where the run goes on behind an instruction of compiled code.
use Rattle.meaning_laws.proofs.Words.Core.{Atom, ClosesWhatIsOpen, Code, Core, Entry, Func, Instr, IsSound, LeadsOn, Sort, StartsAfresh, Stm, StmKind, atom_sort, edges, end_of, handed_before, handed_sort, hands, one_more_handed, scopes_after}
use Rattle.meaning_laws.proofs.Words.Meaning.{IsCompiled, IsEntry, Pins, first_of, hand_of, handed_atoms}
use Rattle.meaning_laws.proofs.Words.Std.{All, All-cons, All-map, All-nil, All-weaker, List, None, Option, Some, [], add-one, add-zero, ap, arith, false, get_or_from_slice_get, length, map, map_push, refl, slice_get, slice_get_within, subst, suc, sym, take, take_all, take_more, zero, ℕ, ◌++◌, ◌+◌, ◌-◌, ◌<◌, ◌∙◌, ◌∷◌, ◌≡◌, ◌≤◌}
use Rattle.flat_code.specs.WellFormed.{with_handed}
use Rattle.meaning_laws.proofs.form.Typing.{as_doing, does_not_hand, doing, same_edges}
use Rattle.meaning_laws.proofs.form.Places.{place, place_more, place_all, place_later, place_inside, place_below}
use Rattle.meaning_laws.proofs.form.Sorts.{hands_over, handed_is, each_hand}
use Rattle.meaning_laws.proofs.dangling.Standing.{found as element}
use Rattle.meaning_laws.proofs.form.Spots.{Spot, places, start, last, end_is}
use Rattle.core_tree.specs.declared.statements.StmKind.TheVariants as stm
use Rattle.core_tree.specs.Sound as sound
use Rattle.core_tree.specs.Statements as statements

-- What is handed over before each instruction of compiled code.

pub none_handed : (code : Code) (entry : Entry) (n : ℕ) (i : Instr) → slice_get code.instrs n ≡ Some i → hands i.op ≡ false → handed_before code entry (n + 1) ≡ []
none_handed code entry n i h t = rw (add-one, h, with_handed, t) refl

module _ (core : Core) {pins : Pins} (code : Code) (sound : IsSound core) (is : IsCompiled core pins code) where
  -- nothing is handed over behind the instruction that does what a statement does
  pub fresh_behind : (entry : Entry) (f : ℕ) (func : Func) (here : slice_get core.funcs f ≡ Some func) (point : ℕ) (stm : Stm) → slice_get func.body point ≡ Some stm → handed_before code entry (place core f func here point + length (handed_atoms stm.kind) + 1) ≡ []
  fresh_behind entry f func here point stm found =
      let does = (is.statements f point func stm here found).does in
      let d = as_doing core code f func stm.kind does.0 does.2 in
      none_handed code entry (place core f func here point + length (handed_atoms stm.kind)) does.0 does.1 (ap (λ (i : Instr). hands i.op) d.1 ∙ does_not_hand (place core f func here) stm.kind d.0)

  abbrev IsFresh : Entry → ℕ → Type 0
  IsFresh entry n = handed_before code entry n ≡ []

  fresh_after : (entry : Entry) (f : ℕ) (func : Func) (here : slice_get core.funcs f ≡ Some func) (n : ℕ) → n < length func.body → IsFresh entry (place core f func here (n + 1))
  fresh_after entry f func here n h =
      let x = element func.body n h in
      subst (IsFresh entry) (sym (place_more core f func here n x.0 x.1)) (fresh_behind entry f func here n x.0 x.1)

  fresh_end : (entry : Entry) (f : ℕ) (func : Func) (here : slice_get core.funcs f ≡ Some func) (n : ℕ) → n + 1 ≡ length func.body → IsFresh entry (first_of core (f + 1))
  fresh_end entry f func here n e =
      subst (IsFresh entry) (ap (place core f func here) e ∙ place_all core f func here) (fresh_after entry f func here n (omega arith))

  -- nor before a function's first instruction
  pub fresh_start : (entry : Entry) (f : ℕ) → f < length core.funcs → IsFresh entry (first_of core f)
  fresh_start entry zero h = rw is.start refl
  fresh_start entry (suc g) h =
      let x = element core.funcs g (omega arith) in
      let some = (sound.functions g x.0 x.1).some in
      let end = fresh_end entry g x.0 x.1 (length x.0.body - 1) (omega arith) in rw add-one at end

  -- nor before a statement's first instruction
  pub fresh_at : (entry : Entry) (f : ℕ) (func : Func) (here : slice_get core.funcs f ≡ Some func) (point : ℕ) → point ≤ length func.body → IsFresh entry (place core f func here point)
  fresh_at entry f func here zero h =
      let e : first_of core f ≡ place core f func here 0 = omega arith in
      subst (IsFresh entry) e (fresh_start entry f (slice_get_within core.funcs f func here))
  fresh_at entry f func here (suc n) h =
      subst (λ (k : ℕ). IsFresh entry (place core f func here k)) (add-one n) (fresh_after entry f func here n (omega arith))

  module _ (f : ℕ) (func : Func) (here : slice_get core.funcs f ≡ Some func) (entry : Entry) (e : IsEntry core code f func entry) (point : ℕ) (stm : Stm) (found : slice_get func.body point ≡ Some stm) where
    abbrev atoms : List Atom
    atoms = handed_atoms stm.kind

    abbrev sorts : List Atom → List (Option Sort)
    sorts xs = map (atom_sort core func) xs

    abbrev at : ℕ
    at = place core f func here point

    sorts_more : (k : ℕ) (a : Atom) → slice_get atoms k ≡ Some a → sorts (take k atoms) ++ atom_sort core func a ∷ [] ≡ sorts (take (k + 1) atoms)
    sorts_more k a h =
        let inside = slice_get_within atoms k a h in
        let is_a = get_or_from_slice_get atoms k a a h in
        sym (ap sorts (take_more atoms k a inside ∙ ap (λ x. take k atoms ++ x ∷ []) is_a) ∙ map_push (atom_sort core func) (take k atoms) a)

    -- some of a statement's operands
    pub handed_some : (k : ℕ) → k ≤ length atoms → handed_before code entry (at + k) ≡ sorts (take k atoms)
    handed_some zero h = rw add-zero (fresh_at entry f func here point (omega (arith, slice_get_within func.body point stm found)))
    handed_some (suc k) h =
        let x = element atoms k (omega arith) in
        let there = (is.statements f point func stm here found).hands k x.0 x.1 in
        let more = one_more_handed code entry (at + k) (hand_of x.0) there (hands_over x.0) in
        let before = handed_some k (omega arith) in
        let same = handed_is core code is f func entry e x.0 in
        let one : at + suc k ≡ at + k + 1 = omega arith in
        let two : k + 1 ≡ suc k = omega arith in
        ap (handed_before code entry) one ∙ more ∙ ap (λ s. s ++ handed_sort code entry (hand_of x.0) (hand_of x.0).op ∷ []) before ∙ ap (λ s. sorts (take k atoms) ++ s ∷ []) same ∙ sorts_more k x.0 x.1 ∙ ap (λ n. sorts (take n atoms)) two

    -- all of them, before the instruction that does what the statement does
    pub handed_all : handed_before code entry (at + length atoms) ≡ sorts atoms
    handed_all = handed_some (length atoms) (omega arith) ∙ ap sorts (take_all (length atoms) atoms (omega arith))

-- Where the run goes on behind an instruction of compiled code.

-- Behind an instruction that hands a value over

pub hand_edges : (a : Atom) (at : ℕ) → edges (hand_of a) (hand_of a).op at ≡ (at + 1) ∷ []
hand_edges a at = each_hand (λ (i : Instr). edges i i.op at ≡ (at + 1) ∷ []) (λ r. refl) (λ n. refl) (λ n. refl) refl (λ k. refl) (λ k. refl) a

pub hand_scopes : (a : Atom) (scopes : ℕ) → scopes_after (hand_of a).op scopes ≡ scopes
hand_scopes a scopes = each_hand (λ (i : Instr). scopes_after i.op scopes ≡ scopes) (λ r. refl) (λ n. refl) (λ n. refl) refl (λ k. refl) (λ k. refl) a

pub hand_closes_nothing : (a : Atom) (scopes : ℕ) → ClosesWhatIsOpen (hand_of a).op scopes
hand_closes_nothing a scopes = each_hand (λ (i : Instr). ClosesWhatIsOpen i.op scopes) (λ r. tt) (λ n. tt) (λ n. tt) tt (λ k. tt) (λ k. tt) a

all_one : (P : ℕ → Type 0) (x : ℕ) → P x → All P (x ∷ [])
all_one P x h = All-cons P x [] h (All-nil P)

pub hand_leads : (P : ℕ → Type 0) (a : Atom) (at : ℕ) → P (at + 1) → All P (edges (hand_of a) (hand_of a).op at)
hand_leads P a at h = subst (λ next. All P next) (sym (hand_edges a at)) (all_one P (at + 1) h)

pub hand_leads_on : (a : Atom) (at : ℕ) → LeadsOn at (hand_of a) (hand_of a).op
hand_leads_on a at =
    let on = all_one (λ next. at < next) (at + 1) (omega arith) in
    each_hand (λ (i : Instr). LeadsOn at i i.op) (λ r. on) (λ n. on) (λ n. on) on (λ k. on) (λ k. on) a

pub hand_starts_afresh : (code : Code) (entry : Entry) (a : Atom) (at : ℕ) → StartsAfresh code entry at (hand_of a) (hands (hand_of a).op)
hand_starts_afresh code entry a at =
    subst (λ b. StartsAfresh code entry at (hand_of a) b) (sym (hands_over a)) tt

-- Behind an instruction that does what a statement does

-- what holds of the places to which a statement leads
pub leads : (P : ℕ → Type 0) (place : ℕ → ℕ) (kind : StmKind) (n point at : ℕ) → place (point + 1) ≡ at + 1 → All (λ next. P (place next)) (statements.edges kind point) → All P (edges (doing place kind n) (doing place kind n).op at)
leads P place kind n point at e h =
    subst (λ next. All P next) (sym (same_edges place kind n point at e)) (All-map P place (statements.edges kind point) h)

-- a statement that only leads on in the core leads on in the code
leads_on : (place : ℕ → ℕ) (kind : StmKind) (n point at : ℕ) → place (point + 1) ≡ at + 1 → ((next : ℕ) → point < next → at < place next) → sound.LeadsOn point kind → LeadsOn at (doing place kind n) (doing place kind n).op
leads_on place (stm.Loop l) n point at e later h = tt
leads_on place (stm.Return None) n point at e later h = All-nil (λ next. at < next)
leads_on place (stm.Return (Some a)) n point at e later h = All-nil (λ next. at < next)
leads_on place kind n point at e later h =
    leads (λ next. at < next) place kind n point at e (All-weaker (λ next. point < next) (λ next. at < place next) later (statements.edges kind point) h)

module _ (core : Core) {pins : Pins} (code : Code) (sound : IsSound core) (is : IsCompiled core pins code) (s : Spot core code is) where
  pub next_start : places core code is s (s.point + 1) ≡ last core code is s + 1
  next_start = place_more core s.f s.func s.here s.point s.stm s.found

  -- the instruction that does what a statement does is one of the function
  pub last_inside : last core code is s < end_of code s.f
  last_inside =
      let inside = slice_get_within core.funcs s.f s.func s.here in
      omega (arith, end_is core code is s.f inside, place_inside core s.f s.func s.here s.point s.stm s.found)

  pub first_inside : s.entry.first ≤ start core code is s
  first_inside = omega (arith, s.matches.first)

  stays : (next : ℕ) → next < length s.func.body → (s.entry.first ≤ places core code is s next) × (places core code is s next < end_of code s.f)
  stays next h =
      let inside = slice_get_within core.funcs s.f s.func s.here in
      let below = place_below core s.f s.func s.here next h in
      let first = s.matches.first in
      (omega (arith, first), omega (arith, end_is core code is s.f inside, below))

  pub leads_inside : (n : ℕ) → All (λ next. (s.entry.first ≤ next) × (next < end_of code s.f)) (edges (doing (places core code is s) s.stm.kind n) (doing (places core code is s) s.stm.kind n).op (last core code is s))
  leads_inside n =
      leads (λ next. (s.entry.first ≤ next) × (next < end_of code s.f)) (places core code is s) s.stm.kind n s.point (last core code is s) next_start
      (All-weaker (λ next. next < length s.func.body) (λ next. (s.entry.first ≤ places core code is s next) × (places core code is s next < end_of code s.f)) stays (statements.edges s.stm.kind s.point)
      ((sound.functions s.f s.func s.here).inside s.point s.stm s.found))

  pub leads_ahead : (n : ℕ) → LeadsOn (last core code is s) (doing (places core code is s) s.stm.kind n) (doing (places core code is s) s.stm.kind n).op
  leads_ahead n =
      leads_on (places core code is s) s.stm.kind n s.point (last core code is s) next_start
      (λ next h. place_later core s.f s.func s.here s.point next s.stm s.found h)
      ((sound.functions s.f s.func s.here).ahead s.point s.stm s.found)

  pub leads_afresh : (n : ℕ) → StartsAfresh code s.entry (last core code is s) (doing (places core code is s) s.stm.kind n) (hands (doing (places core code is s) s.stm.kind n).op)
  leads_afresh n =
      subst (λ b. StartsAfresh code s.entry (last core code is s) (doing (places core code is s) s.stm.kind n) b) (sym (does_not_hand (places core code is s) s.stm.kind n))
      (leads (λ next. handed_before code s.entry next ≡ []) (places core code is s) s.stm.kind n s.point (last core code is s) next_start
      (All-weaker (λ next. next < length s.func.body) (λ next. handed_before code s.entry (places core code is s next) ≡ [])
      (λ next h. fresh_at core code sound is s.entry s.f s.func s.here next (omega (arith, h))) (statements.edges s.stm.kind s.point)
      ((sound.functions s.f s.func s.here).inside s.point s.stm s.found)))
