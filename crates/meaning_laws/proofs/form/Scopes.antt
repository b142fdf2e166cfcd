-- Paths through compiled code lead over the statements of paths through the core, and open and close the same scopes.
use Rattle.meaning_laws.proofs.Words.Core.{Atom, ClosesWhatIsOpen, Code, Core, Entry, Func, HasScopes, Instr, IsSound, Opens, Stm, StmKind, edges, scopes_after}
use Rattle.meaning_laws.proofs.Words.Meaning.{IsCompiled, IsEntry, Pins, hand_of, handed_atoms}
use Rattle.meaning_laws.proofs.Words.Std.{All-contains, Contains, List, None, Option, Some, [], ap, arith, get_or-map, get_or_from_slice_get, length, length-map, map, refl, slice_get, slice_get_within, subst, sym, ℕ, ⊎_elim, ◌+◌, ◌<◌, ◌∙◌, ◌∷◌, ◌≡◌, ◌≤◌, ◌⊎◌}
use Rattle.core_tree.specs.declared.statements.StmKind.TheVariants as stm
use Rattle.core_tree.specs.Sound as cores
use Rattle.core_tree.specs.Statements as statements
use Rattle.flat_code.specs.WellFormed as form
use Rattle.meaning_laws.proofs.form.Typing.{doing, same_scopes, same_edges}
use Rattle.meaning_laws.proofs.form.Flow.{hand_edges, hand_scopes, hand_closes_nothing}
use Rattle.meaning_laws.proofs.form.Places.{Hands, DoesAll, role, place, place_more, same_point}
use Rattle.meaning_laws.proofs.dangling.Standing.{found as element}

pub contains_one : (x y : ℕ) → Contains (x ∷ []) y → x ≡ y
contains_one x y h = let e : h.0 ≡ 0 = omega (arith, h.1) in rw e at h.2

pub contains_map : {X Y : Type 0} (f : X → Y) (xs : List X) (y : Y) → Contains (map f xs) y → (x : X) × Contains xs x × (f x ≡ y)
contains_map f xs y h =
    let inside : h.0 < length xs = omega (arith, length-map xs f, h.1) in
    let x = element xs h.0 inside in
    (x.0, (h.0, inside, get_or_from_slice_get xs h.0 x.0 x.0 x.1), ap f (sym (get_or_from_slice_get xs h.0 x.0 x.0 x.1)) ∙ sym (get_or-map f xs h.0 x.0 y inside) ∙ h.2)

module _ (core : Core) {pins : Pins} (code : Code) (sound : IsSound core) (is : IsCompiled core pins code) (f : ℕ) (func : Func) (here : slice_get core.funcs f ≡ Some func) (entry : Entry) (e : IsEntry core code f func entry) where
  abbrev at : ℕ → ℕ
  at = place core f func here

  -- an instruction belongs to a statement to which some path through the core opens so many scopes
  record Over (point scopes : ℕ) : Type 0 where
    number : ℕ
    stm : Stm
    found : slice_get func.body number ≡ Some stm
    rest : ℕ
    below : rest ≤ length (handed_atoms stm.kind)
    sum : at number + rest ≡ point
    opens : cores.Opens func.body number scopes

  -- behind an operand that is handed over
  over_hand : (point next scopes : ℕ) (i : Instr) (o : Over point scopes) (a : Atom) → slice_get (handed_atoms o.stm.kind) o.rest ≡ Some a → hand_of a ≡ i → Contains (edges i i.op point) next → Over next (scopes_after i.op scopes)
  over_hand point next scopes i o a operand same edge =
      let less = slice_get_within (handed_atoms o.stm.kind) o.rest a operand in
      let only : Contains (edges (hand_of a) (hand_of a).op point) next =
      subst (λ (j : Instr). Contains (edges j j.op point) next) (sym same) edge in
      let on : point + 1 ≡ next =
      contains_one (point + 1) next (subst (λ (xs : List ℕ). Contains xs next) (hand_edges a point) only) in
      let scopes_same : scopes ≡ scopes_after i.op scopes =
      sym (hand_scopes a scopes) ∙ ap (λ (j : Instr). scopes_after j.op scopes) same in
      record {
        number = o.number;
        stm = o.stm;
        found = o.found;
        rest = o.rest + 1;
        below = omega (arith, less);
        sum = omega (arith, o.sum);
        opens = subst (λ n. cores.Opens func.body o.number n) scopes_same o.opens;
      }

  -- behind what a statement does
  over_statement : (point next scopes : ℕ) (i : Instr) (o : Over point scopes) (n : ℕ) → o.rest ≡ length (handed_atoms o.stm.kind) → doing at o.stm.kind n ≡ i → Contains (edges i i.op point) next → Over next (scopes_after i.op scopes)
  over_statement point next scopes i o n all same edge =
      let on : at (o.number + 1) ≡ point + 1 =
      place_more core f func here o.number o.stm o.found ∙ omega (arith, o.sum) in
      let leads : Contains (edges (doing at o.stm.kind n) (doing at o.stm.kind n).op point) next =
      subst (λ (j : Instr). Contains (edges j j.op point) next) (sym same) edge in
      let to = contains_map at (statements.edges o.stm.kind o.number) next (subst (λ (xs : List ℕ). Contains xs next) (same_edges at o.stm.kind n o.number point on) leads) in
      let inside = (sound.functions f func here).inside o.number o.stm o.found in
      let stm = element func.body to.0 (All-contains (λ next. next < length func.body) (statements.edges o.stm.kind o.number) to.0 inside to.1) in
      let scopes_same : cores.scopes_after o.stm.kind scopes ≡ scopes_after i.op scopes =
      sym (same_scopes at o.stm.kind n scopes) ∙ ap (λ (j : Instr). scopes_after j.op scopes) same in
      record {
        number = to.0;
        stm = stm.0;
        found = stm.1;
        rest = 0;
        below = omega arith;
        sum = omega (arith, to.2);
        opens = subst (λ n. cores.Opens func.body to.0 n) scopes_same (cores.goes o.number to.0 scopes o.stm o.opens o.found to.1);
      }

  role_of : (point scopes : ℕ) (o : Over point scopes) (i : Instr) → slice_get code.instrs point ≡ Some i → Hands o.stm.kind o.rest i ⊎ DoesAll code func at o.stm.kind o.rest i
  role_of point scopes o i there =
      role core code is f func here o.number o.stm o.found o.rest i o.below (ap (slice_get code.instrs) o.sum ∙ there)

  over : (point scopes : ℕ) → Opens code f entry point scopes → Over point scopes
  over point scopes form.start =
      let some = (sound.functions f func here).some in
      let stm = element func.body 0 some in
      record {
        number = 0;
        stm = stm.0;
        found = stm.1;
        rest = 0;
        below = omega arith;
        sum = omega (arith, e.first);
        opens = cores.start;
      }
  over _ _ (form.goes point next scopes i before there edge) =
      let o = over point scopes before in
      ⊎_elim
      (λ (h : Hands o.stm.kind o.rest i). over_hand point next scopes i o h.0 h.1 h.2 edge)
      (λ (h : DoesAll code func at o.stm.kind o.rest i). over_statement point next scopes i o h.0 h.1 h.2 edge)
      (role_of point scopes o i there.here)

  closes_statement : (kind : StmKind) (n scopes : ℕ) → (kind ≡ stm.Leave → 0 < scopes) → ((a : Option Atom) → kind ≡ stm.Return a → scopes ≡ 0) → ClosesWhatIsOpen (doing at kind n).op scopes
  closes_statement stm.Leave n scopes leave return = leave refl
  closes_statement (stm.Return None) n scopes leave return = return None refl
  closes_statement (stm.Return (Some a)) n scopes leave return = return (Some a) refl
  closes_statement kind n scopes leave return = tt

  pub scopes_kept : HasScopes code f entry
  scopes_kept =
      let kept = (sound.functions f func here).scopes in
      record {
        same = λ point one other first second.
            let o = over point one first in
            let p = over point other second in
            let number : p.number ≡ o.number =
            same_point core f func here p.number o.number p.rest o.rest p.stm o.stm p.found o.found p.below o.below (p.sum ∙ sym o.sum) in
            kept.same o.number one other o.opens (subst (λ n. cores.Opens func.body n other) number p.opens);
        closes = λ point scopes i opens there.
            let o = over point scopes opens in
            ⊎_elim
            (λ (h : Hands o.stm.kind o.rest i). subst (λ (j : Instr). ClosesWhatIsOpen j.op scopes) h.2 (hand_closes_nothing h.0 scopes))
            (λ (h : DoesAll code func at o.stm.kind o.rest i).
            subst (λ (j : Instr). ClosesWhatIsOpen j.op scopes) h.2
            (closes_statement o.stm.kind h.0 scopes (kept.closes o.number o.stm o.found scopes o.opens) (λ a r. kept.ends o.number o.stm o.found scopes a o.opens r)))
            (role_of point scopes o i there.here);
      }
