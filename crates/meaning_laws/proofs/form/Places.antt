-- Where the statements of a core stand in its code, and to which of them an instruction belongs.
use Rattle.meaning_laws.proofs.Words.Core.{Atom, Code, Core, Func, Instr, Stm, StmKind}
use Rattle.meaning_laws.proofs.Words.Meaning.{IsCompiled, Pins, body_length, code_length, first_of, hand_of, handed_atoms, place_of}
use Rattle.meaning_laws.proofs.Words.Std.{Some, ap, arith, cases_lt, inl, inr, length, refl, same_Some, slice_get, sym, ℕ, ⊎_elim, ◌+◌, ◌-◌, ◌<◌, ◌∙◌, ◌≡◌, ◌≤◌, ◌⊎◌}
use Rattle.meaning_laws.proofs.form.Parts.{part_at, before_more, before_all, before_later, before_end, one_part}
use Rattle.meaning_laws.proofs.dangling.Standing.{found as element}
use Rattle.meaning_laws.proofs.form.Typing.{doing, as_doing, Numbers}

abbrev pub weight : Stm → ℕ
weight stm = code_length stm.kind

abbrev pub func_length : Func → ℕ
func_length func = body_length func.body

module _ (core : Core) where
  pub first_more : (f : ℕ) (func : Func) → slice_get core.funcs f ≡ Some func → first_of core (f + 1) ≡ first_of core f + body_length func.body
  first_more f func h = omega (arith, before_more func_length core.funcs f func h)

  -- the function and the offset of an instruction behind the first one
  pub record InFunction (place : ℕ) : Type 0 where
    pub f : ℕ
    pub func : Func
    pub here : slice_get core.funcs f ≡ Some func
    pub offset : ℕ
    pub below : offset < body_length func.body
    pub sum : first_of core f + offset ≡ place

  pub in_function : (place : ℕ) → 1 ≤ place → place < first_of core (length core.funcs) → InFunction place
  in_function place low high =
      let p = part_at func_length core.funcs (place - 1) (omega (arith, before_all func_length core.funcs)) in
      record {
        f = p.number;
        func = p.item;
        here = p.here;
        offset = p.rest;
        below = p.below;
        sum = omega (arith, p.sum);
      }

  module _ (f : ℕ) (func : Func) (here : slice_get core.funcs f ≡ Some func) where
    abbrev pub place : ℕ → ℕ
    place point = place_of core f func.body point

    pub place_more : (point : ℕ) (stm : Stm) → slice_get func.body point ≡ Some stm → place (point + 1) ≡ place point + length (handed_atoms stm.kind) + 1
    place_more point stm h = omega (arith, before_more weight func.body point stm h)

    pub place_later : (point next : ℕ) (stm : Stm) → slice_get func.body point ≡ Some stm → point < next → place point + length (handed_atoms stm.kind) < place next
    place_later point next stm h less = omega (arith, before_later weight func.body point next stm h less)

    pub place_inside : (point : ℕ) (stm : Stm) → slice_get func.body point ≡ Some stm → place point + length (handed_atoms stm.kind) < first_of core (f + 1)
    place_inside point stm h = omega (arith, before_end weight func.body point stm h, first_more f func here)

    pub place_below : (point : ℕ) → point < length func.body → place point < first_of core (f + 1)
    place_below point h = let x = element func.body point h in omega (arith, place_inside point x.0 x.1)

    pub place_all : place (length func.body) ≡ first_of core (f + 1)
    place_all = omega (arith, before_all weight func.body, first_more f func here)

    -- the statement to which an instruction of the function belongs, and how many of the statement's stand before it
    pub record InStatement (at : ℕ) : Type 0 where
      pub point : ℕ
      pub stm : Stm
      pub found : slice_get func.body point ≡ Some stm
      pub rest : ℕ
      pub below : rest ≤ length (handed_atoms stm.kind)
      pub sum : place point + rest ≡ at

    pub in_statement : (at : ℕ) → first_of core f ≤ at → at < first_of core (f + 1) → InStatement at
    in_statement at low high =
        let p = part_at weight func.body (at - first_of core f) (omega (arith, first_more f func here)) in
        record {
          point = p.number;
          stm = p.item;
          found = p.here;
          rest = p.rest;
          below = omega (arith, p.below);
          sum = omega (arith, p.sum);
        }

    -- an instruction belongs to one statement
    pub same_point : (n m j k : ℕ) (x y : Stm) → slice_get func.body n ≡ Some x → slice_get func.body m ≡ Some y → j ≤ length (handed_atoms x.kind) → k ≤ length (handed_atoms y.kind) → place n + j ≡ place m + k → n ≡ m
    same_point n m j k x y at_n at_m a b same =
        one_part weight func.body n m j k x y at_n at_m (omega arith) (omega arith) (omega arith)

-- Each instruction of a statement hands one of its operands over, or does what the statement does.

-- the instruction hands the operand of a number over
abbrev pub Hands : StmKind → ℕ → Instr → Type 0
Hands kind k i = (a : Atom) × (slice_get (handed_atoms kind) k ≡ Some a) × (hand_of a ≡ i)

-- the instruction stands behind all operands, and does what the statement does
abbrev pub DoesAll : Code → Func → (ℕ → ℕ) → StmKind → ℕ → Instr → Type 0
DoesAll code func place kind k i =
    (n : ℕ) × (k ≡ length (handed_atoms kind)) × (doing place kind n ≡ i) × Numbers code func kind n

module _ (core : Core) {pins : Pins} (code : Code) (is : IsCompiled core pins code) (f : ℕ) (func : Func) (here : slice_get core.funcs f ≡ Some func) (point : ℕ) (stm : Stm) (found : slice_get func.body point ≡ Some stm) where
  abbrev at : ℕ
  at = place core f func here point

  abbrev last : ℕ
  last = length (handed_atoms stm.kind)

  hands : (k : ℕ) (i : Instr) → k < last → slice_get code.instrs (at + k) ≡ Some i → Hands stm.kind k i
  hands k i h there =
      let a = element (handed_atoms stm.kind) k h in
      let stands = (is.statements f point func stm here found).hands k a.0 a.1 in
      (a.0, a.1, same_Some (hand_of a.0) i (sym stands ∙ there))

  does : (i : Instr) → slice_get code.instrs (at + last) ≡ Some i → DoesAll code func (place core f func here) stm.kind last i
  does i there =
      let stands = (is.statements f point func stm here found).does in
      let d = as_doing core code f func stm.kind stands.0 stands.2 in
      (d.0, refl, sym d.1 ∙ same_Some stands.0 i (sym stands.1 ∙ there), d.2)

  pub role : (k : ℕ) (i : Instr) → k ≤ last → slice_get code.instrs (at + k) ≡ Some i → Hands stm.kind k i ⊎ DoesAll code func (place core f func here) stm.kind k i
  role k i h there =
      ⊎_elim
      (λ (less : k < last). inl (hands k i less there))
      (λ (more : last ≤ k).
      let e : k ≡ last = omega arith in
      let d = does i (ap (λ n. slice_get code.instrs (at + n)) (sym e) ∙ there) in inr (d.0, e, d.2, d.3))
      (cases_lt k last)
