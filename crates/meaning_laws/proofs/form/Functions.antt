-- Each function of the code of a sound core is well formed, and the run begins by a call of main.
use Rattle.meaning_laws.proofs.Words.Core.{Atom, Code, Core, EachAnswer, EachEntry, EachReturn, Entry, Func, GivesAnswer, GivesTo, Instr, Integer, IsFunction, IsSound, IsStart, IsTyped, Layout, Mem, OfAnswer, Sort, StmKind, TakesCall, answer_sort, atom_sort, handed_before, main_of}
use Rattle.meaning_laws.proofs.Words.Meaning.{IsCompiled, IsEntry, Pins, hand_of, handed_atoms, instr}
use Rattle.meaning_laws.proofs.Words.Std.{All, All-cons, All-nil, IsSome, List, None, Option, Some, [], ap, arith, map, pos, refl, same_Some, slice_get, slice_get_within, subst, sym, ℕ, ◌∙◌, ◌∷◌, ◌≡◌}
use Rattle.meaning_laws.proofs.form.Typing.{doing, given, Answered, is_there}
use Rattle.meaning_laws.proofs.form.Flow.{handed_all, fresh_start}
use Rattle.meaning_laws.proofs.form.Sorts.{each_hand, kinds_are}
use Rattle.meaning_laws.proofs.form.Spots.{places, each_instr, owner, end_is}
use Rattle.meaning_laws.proofs.form.Places.{place_inside}
use Rattle.meaning_laws.proofs.form.Scopes.{scopes_kept}
use Rattle.meaning_laws.proofs.dangling.Standing.{found as element, main_within}
use Rattle.core_tree.specs.declared.statements.StmKind.TheVariants as stm
use Rattle.flat_code.specs.declared.instructions.Op.TheVariants as op

-- The returns of compiled code give what the returns of its core have.

module _ (P : Option Sort → Type 0) where
  hand_is_no_answer : (a : Atom) (handed : List (Option Sort)) → OfAnswer P (hand_of a).op handed
  hand_is_no_answer a handed = each_hand (λ (i : Instr). OfAnswer P i.op handed) (λ r. tt) (λ n. tt) (λ n. tt) tt (λ k. tt) (λ k. tt) a

  answer_of : (core : Core) (func : Func) (place : ℕ → ℕ) (kind : StmKind) (n : ℕ) → ((a : Option Atom) → kind ≡ stm.Return a → P (answer_sort core func a)) → OfAnswer P (doing place kind n).op (map (atom_sort core func) (handed_atoms kind))
  answer_of core func place (stm.Return None) n h = h None refl
  answer_of core func place (stm.Return (Some a)) n h = h (Some a) refl
  answer_of core func place kind n h = tt

module _ (core : Core) {pins : Pins} (code : Code) (sound : IsSound core) (is : IsCompiled core pins code) where
  -- what holds of what each return of a function has holds of what its returns in the code give
  pub each_answer : (P : Option Sort → Type 0) (g : ℕ) (callee : Func) → slice_get core.funcs g ≡ Some callee → EachReturn callee (λ a. P (answer_sort core callee a)) → EachAnswer code g P
  each_answer P g callee here returns =
      each_instr core code is (λ f entry point i. f ≡ g → OfAnswer P i.op (handed_before code entry point))
      (λ s k a h same. hand_is_no_answer P a _)
      (λ s n m same.
      let own : s.func ≡ callee = same_Some s.func callee (sym s.here ∙ ap (slice_get core.funcs) same ∙ here) in
      let returns_here : EachReturn s.func (λ a. P (answer_sort core s.func a)) =
      subst (λ (func : Func). EachReturn func (λ a. P (answer_sort core func a))) (sym own) returns in
      let all = handed_all core code sound is s.f s.func s.here s.entry s.matches s.point s.stm s.found in
      subst (λ handed. OfAnswer P (doing (places core code is s) s.stm.kind n).op handed) (sym all) (answer_of P core s.func (places core code is s) s.stm.kind n (returns_here s.point s.stm s.found)))

  module _ (f : ℕ) (func : Func) (entry : Entry) (e : IsEntry core code f func entry) where
    callee_answers : (g : ℕ) (r : Option ℕ) (args : List Atom) (callee : Option Func) → slice_get core.funcs g ≡ callee → TakesCall core func args callee → GivesAnswer core func (stm.Call g r args) → EachAnswer code g (λ answer. GivesTo entry answer r)
    callee_answers g r args None same typed h = absurd typed
    callee_answers g r args (Some callee) same typed h =
        let returns = h callee same in
        each_answer (λ answer. GivesTo entry answer r) g callee same
        (λ point stm found a is_return. given core code is f func entry e (answer_sort core callee a) r (returns point stm found a is_return))

    pub answered : (kind : StmKind) → IsTyped core func kind → GivesAnswer core func kind → Answered core code is f func entry e kind
    answered (stm.Call g r args) typed h = callee_answers g r args (slice_get core.funcs g) refl typed.1 h
    answered kind typed h = tt

-- Each function of the code of a sound core is well formed, and the run begins by a call of main.

layouts_there : (layouts : List Layout) (ns : List ℕ) (mems : List Mem) → map (slice_get layouts) ns ≡ map (λ (m : Mem). Some m.layout) mems → All (λ n. IsSome (slice_get layouts n)) ns
layouts_there layouts [] mems h = All-nil (λ n. IsSome (slice_get layouts n))
layouts_there layouts (n ∷ ns) [] h = absurd (cc)
layouts_there layouts (n ∷ ns) (mem ∷ mems) h =
    let first : slice_get layouts n ≡ Some mem.layout = cc in
    All-cons (λ n. IsSome (slice_get layouts n)) n ns (is_there (slice_get layouts n) mem.layout first) (layouts_there layouts ns mems (cc))

module _ (core : Core) {pins : Pins} (code : Code) (sound : IsSound core) (is : IsCompiled core pins code) where
  pub functions : EachEntry code (IsFunction code)
  functions f entry listed =
      let o = owner core code is f entry listed in
      let func = sound.functions f o.func o.here in
      let there = slice_get_within core.funcs f o.func o.here in
      let stm = element o.func.body 0 func.some in
      let inside = place_inside core f o.func o.here 0 stm.0 stm.1 in
      record {
        first = omega (arith, o.matches.first);
        some = omega (arith, o.matches.first, end_is core code is f there, inside);
        afresh = subst (λ n. handed_before code entry n ≡ []) (sym o.matches.first) (fresh_start core code sound is entry f there);
        params = omega (arith, o.matches.params, func.params, kinds_are core code is f o.func entry o.matches);
        mems = layouts_there code.layouts entry.mems o.func.mems o.matches.mems;
        alike = each_answer core code sound is (λ one. EachAnswer code f (λ other. one ≡ other)) f o.func o.here
            (λ point stm found a is_return. each_answer core code sound is (λ other. answer_sort core o.func a ≡ other) f o.func o.here
            (λ next other at b is_other. func.alike point stm found a is_return next other at b is_other));
        scopes = scopes_kept core code sound is f o.func o.here entry o.matches;
      }

  pub main_func : (func : Func) × (slice_get core.funcs (main_of core) ≡ Some func)
  main_func = element core.funcs (main_of core) (main_within core.funcs (omega (arith, sound.one_main)))

  pub starts : (i : Instr) × (main : ℕ) × (entry : Entry) × (slice_get code.instrs 0 ≡ Some i) × IsStart code i main entry
  starts =
      let m = main_func in
      let is_main = sound.main m.0 m.1 in
      let there = is.functions (main_of core) m.0 m.1 in (
        instr op.Start 0 0 0 (pos (main_of core)),
        main_of core,
        there.0,
        is.start,
        record {
          begins = refl;
          number = refl;
          function = there.1;
          params = there.2.params ∙ is_main.params;
          answers = each_answer core code sound is (λ answer. answer ≡ Some Integer) (main_of core) m.0 m.1 is_main.answers;
        },
      )
