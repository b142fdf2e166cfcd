-- The pins of a statement are the registers that count at the last of its instructions.
use Rattle.meaning_laws.proofs.Words.Core.{ArePins, Code, Core, Counts, Func, Instr, Integer, IsSound, Reg, Sort, Stm, StmKind, answered, is_live}
use Rattle.meaning_laws.proofs.Words.Meaning.{AreAscending, AreExact, IsCompiled, Pins, counts_at, holds_on, holds_pointer, may_free, pins_of, takes_answer}
use Rattle.meaning_laws.proofs.Words.Std.{Bool, IsTrue, List, None, Option, Some, and_from, and_parts, ap, both_ways, cond, eqb-false, false, nat_eq, ne_eqb, not, not-true, not_from_false, option_map, option_map_or, refl, slice_get, sym, true, ℕ, ◌&&◌, ◌↔◌, ◌∙◌, ◌≡◌, ◌≢◌}
use Rattle.core_tree.specs.declared.statements.StmKind.TheVariants as stm
use Rattle.core_tree.specs.Lives.{IsLive}
use Rattle.core_tree.specs.Sorts.{Pointer}
use Rattle.core_tree.specs.Sorts as core_sorts
use Rattle.flat_code.specs.declared.instructions.Op.TheVariants as op
use Rattle.meaning_laws.proofs.form.Typing.{doing, chosen_is}
use Rattle.meaning_laws.proofs.form.Lives.{same_lives}
use Rattle.meaning_laws.proofs.form.Sorts.{register_is}
use Rattle.meaning_laws.proofs.form.Spots.{Spot, places, last}

-- Registers for pointers

points : (reg : Option Reg) → option_map core_sorts.sort_of reg ≡ Some Pointer → option_map_or (λ (reg : Reg). reg.pointer) reg false ≡ true
points None h = absurd (cc)
points (Some reg) h =
    elim reg.pointer as (λ b. ◌≡◌ {A = Option Sort} (Some (cond b Pointer Integer)) (Some Pointer) → b ≡ true) [
      | true ↦ λ e. refl
      | false ↦ λ e. absurd (cc)
    ]
    h

is_pointer : (reg : Option Reg) → option_map_or (λ (reg : Reg). reg.pointer) reg false ≡ true → option_map core_sorts.sort_of reg ≡ Some Pointer
is_pointer None h = absurd (cc)
is_pointer (Some reg) h = ap (λ b. Some (cond b Pointer Integer)) h

-- The register that takes an answer

-- that of a call
abbrev awaits : StmKind → Option ℕ
awaits (stm.Call g r args) = r
awaits kind = None

same_answered : (place : ℕ → ℕ) (kind : StmKind) (n : ℕ) → answered (doing place kind n) (doing place kind n).op ≡ awaits kind
same_answered place (stm.Call g r args) n = chosen_is r op.Call g
same_answered place (stm.Return None) n = refl
same_answered place (stm.Return (Some a)) n = refl
same_answered place kind n = refl

kept : (answer : Option ℕ) (r : ℕ) → answer ≢ Some r → not (takes_answer answer r) ≡ true
kept None r h = refl
kept (Some a) r h = not_from_false (nat_eq a r) (ne_eqb a r (λ e. h (ap (λ k. Some k) e)))

is_kept : (answer : Option ℕ) (r : ℕ) → not (takes_answer answer r) ≡ true → answer ≢ Some r
is_kept None r h e = absurd (cc)
is_kept (Some a) r h e =
    let same : a ≡ r = cc in eqb-false a r (not-true (nat_eq a r) h) same

-- What counts

and_true : (b : Bool) → b ≡ (b && true)
and_true true = refl
and_true false = refl

same_counts : (func : Func) (point : ℕ) (kind : StmKind) (r : ℕ) → may_free kind ≡ true → counts_at func point kind r ≡ (holds_on func point r && not (takes_answer (awaits kind) r))
same_counts func point (stm.Call g answer args) r h = refl
same_counts func point (stm.Realloc q p n t) r h = and_true (holds_on func point r)
same_counts func point (stm.Free p) r h = and_true (holds_on func point r)
same_counts func point stm.Leave r h = and_true (holds_on func point r)
same_counts func point kind r h = absurd (both_ways false refl h)

-- the test of liveness says what paths say: the law `live_by_paths` of `core_tree`
abbrev pub LiveByPaths : Type 0
LiveByPaths = (body : List Stm) (point r : ℕ) → IsTrue (is_live body point r) ↔ IsLive body point r

module _ (paths : LiveByPaths) (core : Core) {pins : Pins} (code : Code) (sound : IsSound core) (is : IsCompiled core pins code) (s : Spot core code is) (n : ℕ) where
  abbrev i : Instr
  i = doing (places core code is s) s.stm.kind n

  counts : (r : ℕ) → may_free s.stm.kind ≡ true → Counts code s.entry (last core code is s) i r → IsTrue (counts_at s.func s.point s.stm.kind r)
  counts r h c =
      let sort = points (slice_get s.func.regs r) (sym (register_is core code is s.f s.func s.entry s.matches r) ∙ c.sort) in
      let live = (paths s.func.body s.point r).1 ((same_lives core code sound is s.f s.func s.here r s.point s.stm s.found).0 c.live) in
      let free = kept (awaits s.stm.kind) r (λ e. c.kept (same_answered (places core code is s) s.stm.kind n ∙ e)) in
      same_counts s.func s.point s.stm.kind r h ∙
      and_from (holds_on s.func s.point r) (not (takes_answer (awaits s.stm.kind) r)) (and_from (holds_pointer s.func r) (is_live s.func.body s.point r) sort live) free

  counted : (r : ℕ) → may_free s.stm.kind ≡ true → IsTrue (counts_at s.func s.point s.stm.kind r) → Counts code s.entry (last core code is s) i r
  counted r h c =
      let parts = and_parts (holds_on s.func s.point r) (not (takes_answer (awaits s.stm.kind) r)) (sym (same_counts s.func s.point s.stm.kind r h) ∙ c) in
      let holds = and_parts (holds_pointer s.func r) (is_live s.func.body s.point r) parts.0 in
      record {
        sort = register_is core code is s.f s.func s.entry s.matches r ∙ is_pointer (slice_get s.func.regs r) holds.0;
        live = (same_lives core code sound is s.f s.func s.here r s.point s.stm s.found).1 ((paths s.func.body s.point r).0 holds.1);
        kept = λ e. is_kept (awaits s.stm.kind) r parts.1 (sym (same_answered (places core code is s) s.stm.kind n) ∙ e);
      }

  pub pins_are : AreExact core pins → AreAscending pins → may_free s.stm.kind ≡ true → ArePins code s.entry (last core code is s) i (pins_of pins s.f s.point)
  pins_are exact ascending h =
      let those = exact s.f s.func s.here s.point s.stm s.found in
      record {
        exact = λ r. (λ c. (those.exact r).0 (counts r h c), λ c. counted r h ((those.exact r).1 c));
        ascending = ascending s.f s.point;
      }
