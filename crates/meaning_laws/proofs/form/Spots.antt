-- Each instruction of compiled code hands over an operand of a statement, or does what a statement does.
use Rattle.meaning_laws.proofs.Words.Core.{Atom, Code, Core, EachInstr, Entry, Func, Instr, Stm, end_of}
use Rattle.meaning_laws.proofs.Words.Meaning.{IsCompiled, IsEntry, Pins, first_of, hand_of, handed_atoms}
use Rattle.meaning_laws.proofs.Words.Std.{List, Option, Some, ap, arith, cases_lt, length, option_map_or, same_Some, slice_get, slice_get_past, slice_get_within, subst, sym, ℕ, ⊎_elim, ◌+◌, ◌<◌, ◌∙◌, ◌≡◌, ◌≤◌}
use Rattle.meaning_laws.proofs.form.Typing.{doing, Numbers}
use Rattle.meaning_laws.proofs.form.Places.{place, InStatement, in_statement, Hands, DoesAll, role}
use Rattle.meaning_laws.proofs.dangling.Standing.{found as element}

module _ (core : Core) {pins : Pins} (code : Code) (is : IsCompiled core pins code) where
  -- the function of an entry
  pub record Owner (f : ℕ) (entry : Entry) : Type 0 where
    pub func : Func
    pub here : slice_get core.funcs f ≡ Some func
    pub matches : IsEntry core code f func entry

  pub owner : (f : ℕ) (entry : Entry) → slice_get code.funcs f ≡ Some entry → Owner f entry
  owner f entry h =
      let x = element core.funcs f (omega (arith, slice_get_within code.funcs f entry h, is.few_funcs)) in
      let there = is.functions f x.0 x.1 in
      let same : there.0 ≡ entry = same_Some there.0 entry (sym there.1 ∙ h) in
      record { func = x.0; here = x.1; matches = subst (λ (e : Entry). IsEntry core code f x.0 e) same there.2 }

  abbrev end_by : Option Entry → ℕ
  end_by next = option_map_or (λ (next : Entry). next.first) next (length code.instrs)

  -- a function's code ends where the next one begins
  pub end_is : (f : ℕ) → f < length core.funcs → end_of code f ≡ first_of core (f + 1)
  end_is f h =
      ⊎_elim
      (λ (less : f + 1 < length core.funcs).
      let x = element core.funcs (f + 1) less in
      let there = is.functions (f + 1) x.0 x.1 in
      ap end_by there.1 ∙ there.2.first)
      (λ (more : length core.funcs ≤ f + 1).
      let past : length code.funcs ≤ f + 1 = omega (arith, is.few_funcs) in
      let last : length core.funcs ≡ f + 1 = omega arith in
      ap end_by (slice_get_past code.funcs (f + 1) past) ∙ is.few_instrs ∙ ap (first_of core) last)
      (cases_lt (f + 1) (length core.funcs))

  -- a statement, with the entry of its function
  pub record Spot : Type 0 where
    pub f : ℕ
    pub func : Func
    pub here : slice_get core.funcs f ≡ Some func
    pub entry : Entry
    pub matches : IsEntry core code f func entry
    pub point : ℕ
    pub stm : Stm
    pub found : slice_get func.body point ≡ Some stm

  abbrev pub places : Spot → ℕ → ℕ
  places s = place core s.f s.func s.here

  abbrev pub start : Spot → ℕ
  start s = places s s.point

  abbrev pub atoms : Spot → List Atom
  atoms s = handed_atoms s.stm.kind

  -- the instruction that does what the statement does
  abbrev pub last : Spot → ℕ
  last s = start s + length (atoms s)

  module _ (P : ℕ → Entry → ℕ → Instr → Type 0) where
    abbrev HandsHold : Type 0
    HandsHold =
        (s : Spot) (k : ℕ) (a : Atom) → slice_get (atoms s) k ≡ Some a → P s.f s.entry (start s + k) (hand_of a)

    abbrev StatementsHold : Type 0
    StatementsHold =
        (s : Spot) (n : ℕ) → Numbers code s.func s.stm.kind n → P s.f s.entry (last s) (doing (places s) s.stm.kind n)

    in_spot : HandsHold → StatementsHold → (s : Spot) (k : ℕ) (i : Instr) → k ≤ length (atoms s) → slice_get code.instrs (start s + k) ≡ Some i → P s.f s.entry (start s + k) i
    in_spot hands does s k i h there =
        ⊎_elim
        (λ (r : Hands s.stm.kind k i). subst (λ (j : Instr). P s.f s.entry (start s + k) j) r.2 (hands s k r.0 r.1))
        (λ (r : DoesAll code s.func (places s) s.stm.kind k i).
        subst (λ (j : Instr). P s.f s.entry (start s + k) j) r.2 (subst (λ n. P s.f s.entry (start s + n) (doing (places s) s.stm.kind r.0)) (sym r.1) (does s r.0 r.3)))
        (role core code is s.f s.func s.here s.point s.stm s.found k i h there)

    in_part : HandsHold → StatementsHold → (f : ℕ) (func : Func) (here : slice_get core.funcs f ≡ Some func) (entry : Entry) → IsEntry core code f func entry → (point : ℕ) (w : InStatement core f func here point) (i : Instr) → slice_get code.instrs point ≡ Some i → P f entry point i
    in_part hands does f func here entry matches point w i there =
        let s : Spot = record {
          f = f;
          func = func;
          here = here;
          entry = entry;
          matches = matches;
          point = w.point;
          stm = w.stm;
          found = w.found;
        } in
        subst (λ n. P f entry n i) w.sum (in_spot hands does s w.rest i w.below (ap (slice_get code.instrs) w.sum ∙ there))

    -- what holds of each instruction that hands over and of each that does a statement holds of each instruction
    pub each_instr : HandsHold → StatementsHold → EachInstr code P
    each_instr hands does f entry point i at =
        let o = owner f entry at.function in
        let inside = slice_get_within core.funcs f o.func o.here in
        let from : first_of core f ≤ point = omega (arith, at.from, o.matches.first) in
        let before : point < first_of core (f + 1) = omega (arith, at.before, end_is f inside) in
        let w = in_statement core f o.func o.here point from before in
        in_part hands does f o.func o.here entry o.matches point w i at.here
