-- A register that is needed at an instruction is live behind each instruction that leads there.
use Rattle.meaning_laws.proofs.Words.Core.{Code, Instr, IsLive, Op, edges, edges_at, reads, reads_at, writes, writes_at}
use Rattle.meaning_laws.proofs.Words.Meaning.{IsNeeded}
use Rattle.meaning_laws.proofs.Words.Std.{All-cons, All-nil, Contains, IsTrue, List, Option, Some, [], ap, eq-eqb, false, inl, inr, option_map_or, refl, slice_get, subst, sym, ℕ, ⊎_elim, ◌∙◌, ◌∷◌, ◌≡◌}
use Rattle.flat_code.specs.declared.instructions.Op.TheVariants as op

module _ (code : Code) (point next r : ℕ) (edge : Contains (edges_at code point) next) where
  by_read : IsTrue (reads_at code next r) → IsLive code point r
  by_read h = record { before = []; read = next; path = (edge, tt); unwritten = All-nil _; is_read = h }

  by_path : writes_at code next r ≡ false → IsLive code next r → IsLive code point r
  by_path w l = record {
    before = next ∷ l.before;
    read = l.read;
    path = (edge, l.path);
    unwritten = All-cons (λ p. writes_at code p r ≡ false) next l.before w l.unwritten;
    is_read = l.is_read;
  }

  -- a register that is needed where an instruction leads is live behind it
  pub live_back : IsNeeded code next r → IsLive code point r
  live_back h = ⊎_elim (λ reads. by_read reads) (λ both. by_path both.0 both.1) h

module _ (code : Code) (point : ℕ) (i : Instr) (at : slice_get code.instrs point ≡ Some i) where
  -- what an instruction hands over it needs
  pub needed_read : i.op ≡ op.HandReg → IsNeeded code point i.a
  needed_read is =
      let e : reads_at code point i.a ≡ reads i i.op i.a = ap (λ (o : Option Instr). option_map_or (λ (j : Instr). reads j j.op i.a) o false) at in
      inl (e ∙ ap (λ (o : Op). reads i o i.a) is ∙ eq-eqb i.a i.a refl)

  -- a register that is live behind it and not written there
  pub needed_live : (r : ℕ) → writes i i.op r ≡ false → IsLive code point r → IsNeeded code point r
  needed_live r w l =
      let e : writes_at code point r ≡ writes i i.op r = ap (λ (o : Option Instr). option_map_or (λ (j : Instr). writes j j.op r) o false) at in
      inr (e ∙ w, l)

  -- where it leads
  pub edge_here : (next : ℕ) → Contains (edges i i.op point) next → Contains (edges_at code point) next
  edge_here next h =
      let e : edges_at code point ≡ edges i i.op point = ap (λ (o : Option Instr). option_map_or (λ (j : Instr). edges j j.op point) o []) at in
      subst (λ (points : List ℕ). Contains points next) (sym e) h
