-- The last instruction of a statement does what the statement does.
use Rattle.meaning_laws.proofs.Words.Core.{Atom, Code, Core, Ending, Event, Frame, Func, Instr, IsSound, Layout, LibName, Object, Refusal, State, Stm, StmKind, Value, after_more, has_place, operands, site_of}
use Rattle.meaning_laws.proofs.Words.Meaning.{AreCounts, AreExact, CodeState, CountedState, Does, Good, Holds, IsCompiled, IsStatement, Next, Pins, answers, at_point, birth_in, call_lib, changes, code_length, enough, format_in, hand_or_act, handed_atoms, handed_value, holds_stale, instr, layout_in, make, may_free, more, moved_by, needed, no_layout, number, number_of, other_numbers, pins_of, place_of, pointer_of, print_format, renumbered, returned, same_numbers, size_in, statement_at, statement_in, testing, to, to_chosen, value_of, values_of, write}
use Rattle.meaning_laws.proofs.Words.Std.{Bool, List, None, Option, Result, Some, [], ap, arith, false, get_or_from_slice_get, ints, length, list_any, map, option_map_or, pos, refl, slice_get, slice_index, slice_index_or, subst, sym, true, unwrap_or, unwrap_or-slice_get, ℕ, ℤ, ◌*ℤ◌, ◌*◌, ◌+◌, ◌<◌, ◌∙◌, ◌∷◌, ◌≡◌, ◌≤◌}
use Rattle.core_tree.specs.Sound.{LeadsOn}
use Rattle.object_meaning.specs.counted.Pinning.{pinned}
use Rattle.meaning_laws.proofs.counts.Sorting.{InOrder, gives_pointer, Agrees}
use Rattle.meaning_laws.proofs.counts.Listed.{AreListed}
use Rattle.meaning_laws.proofs.agreement.Places.{place_at, place_is, place_next, place_later, place_within}
use Rattle.meaning_laws.proofs.agreement.Keeping.{moved, Follows, renumbered_same, with_same, with_others, IsLast, alike, writes, answers_both, changes_both, goes_to, branches, takes_step, goes_back, Matches, call_follows}
use Rattle.meaning_laws.proofs.agreement.Returns.{pins_there, give_follows}
use Rattle.meaning_laws.proofs.agreement.Library.{behind_both, made_both, prints_both, lib_both}
use Rattle.meaning_laws.proofs.agreement.Scopes.{enter_follows, leave_follows}
use Rattle.meaning_laws.proofs.agreement.Freeing.{free_follows, grow_follows}
use Rattle.meaning_laws.proofs.dangling.Standing.{called, step_stays_at, found}
use Rattle.meaning_laws.specs.objects.Laws.{StaysGood}
use Rattle.meaning_laws.proofs.dangling.Returning.{operands_fresh}
use Rattle.meaning_laws.proofs.counts.Acting.{step_agrees}
use Rattle.meaning_laws.proofs.counts.Running.{Agree, led_agree, tested_agree}
use Rattle.meaning_laws.proofs.agreement.Following.{Tied, tied_at}
use Rattle.meaning_laws.proofs.form.Instructions.{handed_in_range}
use Rattle.meaning_laws.proofs.agreement.Handing.{same_value, holding, all_handed}
use Rattle.core_tree.specs.declared.statements.StmKind.TheVariants as stm
use Rattle.flat_code.specs.declared.instructions.Op.TheVariants as op
use Rattle.object_meaning.specs.objects.Going as going
use Rattle.object_meaning.specs.counted.CountedState as counted
use Rattle.object_meaning.specs.counted.Returning as counted_returning
use Rattle.object_meaning.specs.counted.CountedMeaning as counted_meaning
use Rattle.object_meaning.specs.code.CodeMeaning as code_meaning
use Rattle.object_meaning.specs.code.Entering as entering
use Rattle.object_meaning.specs.code.Freeing as freeing
use Rattle.object_meaning.specs.code.Returning as returning
use Rattle.hs_base.specs.Runs as runs
use Rattle.object_meaning.specs.objects.Meaning as meaning
use Rattle.meaning_laws.proofs.agreement.Following as following

layout_is : (code : Code) (k : ℕ) (element : Layout) → slice_get code.layouts k ≡ Some element → layout_in code k ≡ element
layout_is code k element e = ap (λ o. option_map_or (λ (l : Layout). l) o no_layout) e

times_one : (n : ℤ) → n *ℤ pos 1 ≡ n
times_one n = omega (arith, ints)

module _ (core : Core) (pins : Pins) (code : Code) (sound : IsSound core) (listed : AreListed core pins) (compiled : IsCompiled core pins code) (s : State) (func : Func) (good : Holds core func needed s.scopes s) (order : InOrder core s) (places : ℕ → Bool) (line : ℕ) (numbers : ℕ → ℕ) where
  abbrev pub At : StmKind → Type 0
  At kind = slice_get func.body s.running.point ≡ Some (record { line = line; kind = kind })

  -- the last instruction of the statement, and the code's state there
  abbrev pub last_of : StmKind → ℕ
  last_of kind = place_at core s.running.func s.running.point + length (handed_atoms kind)

  abbrev pub there : StmKind → State
  there kind = at_point (moved core s) (last_of kind)

  pub is_last : (kind : StmKind) → At kind → IsLast core code s (last_of kind) (code_length kind)
  is_last kind at =
      let f = s.running.func in
      record {
        here = omega arith;
        next = omega (arith, place_next core f func good.here s.running.point _ at);
        within = omega (arith, place_within core f func good.here pins code compiled s.running.point _ at);
      }

  abbrev pub Values : StmKind → List Value
  Values kind = map (value_of s.running) (handed_atoms kind)

  abbrev Same : StmKind → counted.Next → Next → Type 0
  Same kind = Follows core code s (code_length kind)

  -- Families of statements

  writes_one : (kind : StmKind) → At kind → (r : ℕ) (v : Value) → Same kind (counted.same_numbers numbers (going.goes s [] (write s (Some r) v))) (same_numbers numbers (going.goes (there kind) [] (write (there kind) (Some r) v)))
  writes_one kind at r v =
      let last = is_last kind at in
      let h = writes core code s (last_of kind) (code_length kind) last s (alike core code s (last_of kind) (code_length kind) last) (Some r) v [] in
      (h.0, refl, h.2, refl, (h.1, refl))

  answers_one : (kind : StmKind) → At kind → (r : ℕ) (result : Result Value Refusal) → Same kind (counted.same_numbers numbers (answers line s (Some r) result)) (same_numbers numbers (answers line (there kind) (Some r) result))
  answers_one kind at r result =
      with_same core code s (code_length kind) _ _ numbers (answers_both core code s (last_of kind) (code_length kind) (is_last kind at) line (Some r) result)

  changes_one : (kind : StmKind) → At kind → (changed : ℕ) (result : Result (List Object) Refusal) → Same kind (counted.other_numbers (renumbered changed numbers) numbers (changes line s result)) (other_numbers (renumbered changed numbers) numbers (changes line (there kind) result))
  changes_one kind at changed result =
      with_others core code s (code_length kind) _ _ _ _ numbers (renumbered_same changed numbers) (changes_both core code s (last_of kind) (code_length kind) (is_last kind at) line result)

  changes_same : (kind : StmKind) → At kind → (result : Result (List Object) Refusal) → Same kind (counted.same_numbers numbers (changes line s result)) (same_numbers numbers (changes line (there kind) result))
  changes_same kind at result =
      with_same core code s (code_length kind) _ _ numbers (changes_both core code s (last_of kind) (code_length kind) (is_last kind at) line result)

  makes : (kind : StmKind) → At kind → (r n k : ℕ) (element : Layout) → slice_get code.layouts k ≡ Some element → Same kind (counted.same_numbers numbers (make places line r n element s)) (same_numbers numbers (make places line r n (layout_in code k) (there kind)))
  makes kind at r n k element e =
      subst (λ l. Same kind (counted.same_numbers numbers (make places line r n element s)) (same_numbers numbers (make places line r n l (there kind)))) (sym (layout_is code k element e)) (with_same core code s (code_length kind) (make places line r n element s) (make places line r n element (there kind)) numbers (made_both core code s (last_of kind) (code_length kind) (is_last kind at) (places n) line r n element))

  later : (l : ℕ) → s.running.point < l → place_at core s.running.func (s.running.point + 1) ≤ place_at core s.running.func l
  later l lt = place_later core s.running.func func good.here s.running.point l lt

  ahead : (kind : StmKind) → At kind → LeadsOn s.running.point kind
  ahead kind at = (sound.functions s.running.func func good.here).ahead s.running.point _ at

  -- the instruction that a target is in code
  target : (l : ℕ) → place_of core s.running.func func.body l ≡ place_at core s.running.func l
  target l = sym (place_is core s.running.func func good.here l)

  -- what an instruction does behind the operands of a statement
  abbrev pub Effect : StmKind → Instr → Type 0
  Effect kind i =
      Same kind (counted_meaning.act core pins places line kind numbers s) (code_meaning.act code places line i i.op (Values kind) numbers (there kind))

  by_does : (kind : StmKind) (i k : Instr) → i ≡ k → Effect kind k → Effect kind i
  by_does kind i k e h = subst (Effect kind) (sym e) h

  jumps : (l : ℕ) → At (stm.Jump l) → Effect (stm.Jump l) (instr op.Jump 0 (place_at core s.running.func l) 0 (pos 0))
  jumps l at =
      let kind = stm.Jump l in
      let lt = ahead kind at 0 0 (omega arith) in
      let h = goes_to core code s (last_of kind) (code_length kind) (is_last kind at) l lt (later l lt) in
      (h.0, refl, h.2, refl, (h.1, refl))

  jumps_zero : (a : Atom) (l : ℕ) → At (stm.Zero a l) → Effect (stm.Zero a l) (instr op.Zero 0 (place_at core s.running.func l) 0 (pos 0))
  jumps_zero a l at =
      let kind = stm.Zero a l in
      let lt = ahead kind at 1 0 (omega arith) in
      with_same core code s (code_length kind) _ _ numbers (branches core code s (last_of kind) (code_length kind) (is_last kind at) _ l lt (later l lt))

  jumps_case : (a : Atom) (v : ℤ) (l : ℕ) → At (stm.Case a v l) → Effect (stm.Case a v l) (instr op.Case 0 (place_at core s.running.func l) 0 (pos 0))
  jumps_case a v l at =
      let kind = stm.Case a v l in
      let lt = ahead kind at 1 0 (omega arith) in
      with_same core code s (code_length kind) _ _ numbers (branches core code s (last_of kind) (code_length kind) (is_last kind at) _ l lt (later l lt))

  loops : (l : ℕ) → At (stm.Loop l) → Effect (stm.Loop l) (instr op.Loop 0 (place_at core s.running.func l) 0 (pos 0))
  loops l at =
      let kind = stm.Loop l in
      takes_step core code s (last_of kind) (code_length kind) (is_last kind at) (λ before after. numbers) numbers s.steps _ _ refl (λ m e. let h = goes_back core code s (last_of kind) (code_length kind) (is_last kind at) m l e in (h.0, refl, h.2, refl, (h.1, refl)))

  -- the pins of the statement where it may free, in code
  own : (kind : StmKind) → At kind → may_free kind ≡ true → unwrap_or (site_of code.sites (last_of kind)) [] ≡ pins_of pins s.running.func s.running.point
  own kind at frees =
      pins_there core pins code compiled s.running.func func good.here s.running.point (record { line = line; kind = kind }) at frees (last_of kind) refl

  calls : (g : ℕ) (r : Option ℕ) (args : List Atom) → At (stm.Call g r args) → Same (stm.Call g r args) (counted_meaning.act core pins places line (stm.Call g r args) numbers s) (entering.with_step s.steps numbers (there (stm.Call g r args)) (entering.call code line g (Values (stm.Call g r args)) numbers))
  calls g r args at =
      let kind = stm.Call g r args in
      let typed = (sound.functions s.running.func func good.here).typed s.running.point _ at in
      let callee = called core func args (slice_get core.funcs g) typed.1 in
      takes_step core code s (last_of kind) (code_length kind) (is_last kind at) (λ before after. more numbers (pinned pins before.running)) numbers s.steps _ _ refl (λ m e. call_follows core pins code compiled g callee.0 callee.1 s (last_of kind) (code_length kind) (is_last kind at) (own kind at refl) line (values_of s args) numbers m e)

  libs : (name : LibName) (r : Option ℕ) (args : List Atom) → At (stm.Lib name r args) → Same (stm.Lib name r args) (counted_meaning.act core pins places line (stm.Lib name r args) numbers s) (other_numbers (code_meaning.behind_lib name (Values (stm.Lib name r args)) numbers) numbers (call_lib line name r (Values (stm.Lib name r args)) (there (stm.Lib name r args))))
  libs name r args at =
      let kind = stm.Lib name r args in
      with_others core code s (code_length kind) _ _ _ _ numbers (behind_both name (values_of s args) numbers) (lib_both core code s (last_of kind) (code_length kind) (is_last kind at) line name r (values_of s args))

  prints : (r k : ℕ) (args : List Atom) (n : ℕ) → At (stm.Printf r k args) → slice_get code.formats n ≡ slice_get func.formats k → Effect (stm.Printf r k args) (instr op.Printf r n 0 (pos 0))
  prints r k args n at e =
      let kind = stm.Printf r k args in
      let none : List ℕ = [] in
      let is : format_in (slice_get core.funcs s.running.func) k ≡ slice_index_or code.formats n none = ap (λ o. format_in o k) good.here ∙ sym (unwrap_or-slice_get func.formats k none) ∙ ap (λ o. unwrap_or o none) (sym e) ∙ unwrap_or-slice_get code.formats n none in
      subst (λ format. Same kind (counted.same_numbers numbers (print_format line r format (values_of s args) s)) (same_numbers numbers (print_format line r (slice_index_or code.formats n none) (values_of s args) (there kind)))) (sym is) (with_same core code s (code_length kind) _ _ numbers (prints_both core code s (last_of kind) (code_length kind) (is_last kind at) line r (slice_index_or code.formats n none) (values_of s args)))

  grows : (r : ℕ) (p n : Atom) (element : Layout) → At (stm.Realloc r p n element) → (k : ℕ) → slice_get code.layouts k ≡ Some element → Effect (stm.Realloc r p n element) (instr op.Realloc r k 0 (pos 0))
  grows r p n element at k e =
      let kind = stm.Realloc r p n element in
      let typed = (sound.functions s.running.func func good.here).typed s.running.point _ at in
      subst (λ l. Same kind (counted_meaning.act core pins places line kind numbers s) (freeing.grow code places line r (pointer_of s p) (size_in (number_of s n)) l numbers (there kind))) (sym (layout_is code k element e)) (grow_follows core pins code compiled listed s func good.here order _ at (λ q. refl) (last_of kind) (code_length kind) (is_last kind at) (own kind at refl) line numbers r (gives_pointer func r typed.0) (size_in (number_of s n)) element places (pointer_of s p))

  gives : (a : Option Atom) → At (stm.Return a) → (v : Value) → v ≡ returned s a → Same (stm.Return a) (counted_meaning.act core pins places line (stm.Return a) numbers s) (returning.give_back code line v numbers (there (stm.Return a)))
  gives a at v e =
      let kind = stm.Return a in
      subst (λ w. Same kind (counted_returning.give_back core pins line w numbers s) (returning.give_back code line v numbers (there kind))) e (give_follows core pins code compiled listed s (last_of kind) (code_length kind) (is_last kind at) func good.here line a at numbers v s.running.first_local good.others good.waits)

  -- Each statement in turn

  pub act_follows : (kind : StmKind) → At kind → (i : Instr) → Does core code s.running.func func kind i → Effect kind i
  act_follows (stm.Set r a) at i d = by_does (stm.Set r a) i (to r op.Set) d (writes_one (stm.Set r a) at r (value_of s.running a))
  act_follows (stm.Conv k r a) at i d = by_does (stm.Conv k r a) i (to r (op.Conv k)) d (writes_one (stm.Conv k r a) at r _)
  act_follows (stm.Un o k r a) at i d = by_does (stm.Un o k r a) i (to r (op.Un o k)) d (writes_one (stm.Un o k r a) at r _)
  act_follows (stm.Bin o k r a b) at i d = by_does (stm.Bin o k r a b) i (to r (op.Bin o k)) d (answers_one (stm.Bin o k r a b) at r _)
  act_follows (stm.Cmp o r a b) at i d = by_does (stm.Cmp o r a b) i (to r (op.Cmp o)) d (writes_one (stm.Cmp o r a b) at r _)
  act_follows (stm.Add r p a n) at i d = by_does (stm.Add r p a n) i (instr op.Add r 0 0 n) d (answers_one (stm.Add r p a n) at r _)
  act_follows (stm.Sub r p a n) at i d = by_does (stm.Sub r p a n) i (instr op.Sub r 0 0 n) d (answers_one (stm.Sub r p a n) at r _)
  act_follows (stm.Off r p c) at i d =
      let kind = stm.Off r p c in
      by_does kind i (instr op.Add r 0 0 (pos 1)) d (subst (λ n. Same kind (counted.same_numbers numbers (answers line s (Some r) (moved_by s.objects (pointer_of s p) c))) (same_numbers numbers (answers line (there kind) (Some r) (moved_by s.objects (pointer_of s p) n)))) (sym (times_one c)) (answers_one kind at r (moved_by s.objects (pointer_of s p) c)))
  act_follows (stm.Diff r p q n) at i d = by_does (stm.Diff r p q n) i (instr op.Diff r 0 0 n) d (answers_one (stm.Diff r p q n) at r _)
  act_follows (stm.Pcmp o r p q) at i d = by_does (stm.Pcmp o r p q) i (to r (op.Pcmp o)) d (answers_one (stm.Pcmp o r p q) at r _)
  act_follows (stm.Test r p) at i d = by_does (stm.Test r p) i (to r op.Test) d (writes_one (stm.Test r p) at r _)
  act_follows (stm.Load k r p) at i d = by_does (stm.Load k r p) i (to r (op.Load k)) d (answers_one (stm.Load k r p) at r _)
  act_follows (stm.Loadp r p) at i d = by_does (stm.Loadp r p) i (to r op.Loadp) d (answers_one (stm.Loadp r p) at r _)
  act_follows (stm.Store k p a) at i d = by_does (stm.Store k p a) i (to 0 (op.Store k)) d (changes_same (stm.Store k p a) at _)
  act_follows (stm.Storep p q) at i d =
      by_does (stm.Storep p q) i (to 0 op.Storep) d (changes_one (stm.Storep p q) at (birth_in (pointer_of s p)) _)
  act_follows (stm.Copy p q n) at i d =
      by_does (stm.Copy p q n) i (to 0 op.Copy) d (changes_one (stm.Copy p q n) at (birth_in (pointer_of s p)) _)
  act_follows (stm.Clear p n) at i d =
      by_does (stm.Clear p n) i (to 0 op.Clear) d (changes_one (stm.Clear p n) at (birth_in (pointer_of s p)) _)
  act_follows (stm.Jump l) at i d =
      by_does (stm.Jump l) i _ (d ∙ ap (λ p. instr op.Jump 0 p 0 (pos 0)) (target l)) (jumps l at)
  act_follows (stm.Zero a l) at i d =
      by_does (stm.Zero a l) i _ (d ∙ ap (λ p. instr op.Zero 0 p 0 (pos 0)) (target l)) (jumps_zero a l at)
  act_follows (stm.Case a v l) at i d =
      by_does (stm.Case a v l) i _ (d ∙ ap (λ p. instr op.Case 0 p 0 (pos 0)) (target l)) (jumps_case a v l at)
  act_follows (stm.Loop l) at i d =
      by_does (stm.Loop l) i _ (d ∙ ap (λ p. instr op.Loop 0 p 0 (pos 0)) (target l)) (loops l at)
  act_follows (stm.Call g None args) at i d =
      by_does (stm.Call g None args) i (to_chosen None op.Call g) d (calls g None args at)
  act_follows (stm.Call g (Some r) args) at i d =
      by_does (stm.Call g (Some r) args) i (to_chosen (Some r) op.Call g) d (calls g (Some r) args at)
  act_follows (stm.Malloc r n element) at i d =
      by_does (stm.Malloc r n element) i (instr op.Malloc r d.0 0 (pos 0)) d.1 (makes (stm.Malloc r n element) at r (size_in (number_of s n)) d.0 element d.2)
  act_follows (stm.Calloc r m n element) at i d =
      by_does (stm.Calloc r m n element) i (instr op.Calloc r d.0 0 (pos 0)) d.1 (makes (stm.Calloc r m n element) at r (size_in (number_of s m) * size_in (number_of s n)) d.0 element d.2)
  act_follows (stm.Realloc r p n element) at i d =
      by_does (stm.Realloc r p n element) i (instr op.Realloc r d.0 0 (pos 0)) d.1 (grows r p n element at d.0 d.2)
  act_follows (stm.Free p) at i d =
      let kind = stm.Free p in
      by_does kind i (to 0 op.Free) d (free_follows core pins code compiled listed s func good.here order _ at (λ q. refl) (last_of kind) (code_length kind) (is_last kind at) (own kind at refl) line numbers (pointer_of s p))
  act_follows (stm.Lib name None args) at i d =
      by_does (stm.Lib name None args) i (to_chosen None (op.Lib name) 0) d (libs name None args at)
  act_follows (stm.Lib name (Some r) args) at i d =
      by_does (stm.Lib name (Some r) args) i (to_chosen (Some r) (op.Lib name) 0) d (libs name (Some r) args at)
  act_follows (stm.Printf r k args) at i d =
      by_does (stm.Printf r k args) i (instr op.Printf r d.0 0 (pos 0)) d.1 (prints r k args d.0 at d.2)
  act_follows stm.Enter at i d =
      by_does stm.Enter i (to 0 op.Enter) d (enter_follows core code s (last_of stm.Enter) (code_length stm.Enter) (is_last stm.Enter at) numbers)
  act_follows stm.Leave at i d =
      by_does stm.Leave i (to 0 op.Leave) d (leave_follows core pins code compiled listed s func good.here order _ at (λ q. refl) (last_of stm.Leave) (code_length stm.Leave) (is_last stm.Leave at) (own stm.Leave at refl) numbers s.scopes)
  act_follows (stm.Return None) at i d =
      by_does (stm.Return None) i (to 0 op.Return) d (gives None at (number (pos 0)) refl)
  act_follows (stm.Return (Some a)) at i d =
      by_does (stm.Return (Some a)) i (to 0 op.Give) d (gives (Some a) at (value_of s.running a) refl)

-- The instructions of a statement together do what the statement does.

-- the points of a frame do not matter to its operands
same_values : (frame : Frame) (point : ℕ) (atoms : List Atom) → map (value_of (record frame { point = point })) atoms ≡ map (value_of frame) atoms
same_values frame point [] = refl
same_values frame point (a ∷ atoms) =
    ap (λ v. v ∷ map (value_of (record frame { point = point })) atoms) (same_value frame point a)
    ∙ ap (λ vs. value_of frame a ∷ vs) (same_values frame point atoms)

-- the numbers beside operands are no pointers
handed_fresh : (objects : List Object) (frame : Frame) (kind : StmKind) → list_any (holds_stale objects) (map (value_of frame) (operands kind)) ≡ false → list_any (holds_stale objects) (map (value_of frame) (handed_atoms kind)) ≡ false
handed_fresh objects frame (stm.Off r p c) h = h
handed_fresh objects frame (stm.Case a v l) h = h
handed_fresh objects frame (stm.Copy p q n) h = h
handed_fresh objects frame (stm.Clear p n) h = h
handed_fresh objects frame kind h = h

-- the last instruction of a statement hands nothing over
takes : (core : Core) (code : Code) (f : ℕ) (func : Func) (frame : Frame) (kind : StmKind) (i : Instr) → Does core code f func kind i → handed_value frame i i.op ≡ None
takes core code f func frame (stm.Call g None args) i d = ap (λ (k : Instr). handed_value frame k k.op) d
takes core code f func frame (stm.Call g (Some r) args) i d = ap (λ (k : Instr). handed_value frame k k.op) d
takes core code f func frame (stm.Lib name None args) i d = ap (λ (k : Instr). handed_value frame k k.op) d
takes core code f func frame (stm.Lib name (Some r) args) i d = ap (λ (k : Instr). handed_value frame k k.op) d
takes core code f func frame (stm.Malloc r n t) i d = ap (λ (k : Instr). handed_value frame k k.op) d.1
takes core code f func frame (stm.Calloc r m n t) i d = ap (λ (k : Instr). handed_value frame k k.op) d.1
takes core code f func frame (stm.Realloc r p n t) i d = ap (λ (k : Instr). handed_value frame k k.op) d.1
takes core code f func frame (stm.Printf r k args) i d = ap (λ (k : Instr). handed_value frame k k.op) d.1
takes core code f func frame (stm.Return None) i d = ap (λ (k : Instr). handed_value frame k k.op) d
takes core code f func frame (stm.Return (Some a)) i d = ap (λ (k : Instr). handed_value frame k k.op) d
takes core code f func frame kind i d = ap (λ (k : Instr). handed_value frame k k.op) d

-- Good states

module _ (core : Core) (pins : Pins) where
  -- a good state of the core, in order, with numbers that count
  abbrev pub Counts : CountedState → Type 0
  Counts a = Good core a.state × InOrder core a.state × AreCounts pins a

  -- what a statement leads to
  abbrev pub Keeps : counted.Next → Type 0
  Keeps (runs.Goes b es t) = Counts t
  Keeps (runs.Stops b es t e) = Unit {0}

  pub keeps_from : (n : going.Next) (m : counted.Next) → StaysGood core n → Agrees core pins n m → Keeps m
  keeps_from (runs.Goes b es t) (runs.Goes c fs u) stays h =
      (subst (Good core) (sym h.2.state) stays, subst (InOrder core) (sym h.2.state) h.3, h.2.counts)
  keeps_from (runs.Stops b es t e) (runs.Stops c fs u d) stays h = tt
  keeps_from (runs.Goes b es t) (runs.Stops c fs u d) stays h = absurd h
  keeps_from (runs.Stops b es t e) (runs.Goes c fs u) stays h = absurd h

module _ (core : Core) (pins : Pins) (code : Code) where
  -- the code is where a core is in a good state, with its numbers
  abbrev pub Stands : CountedState → CodeState → Type 0
  Stands a c =
      Counts core pins a × (c.state ≡ moved core a.state) × (c.handed ≡ []) × (c.numbers ≡ a.numbers)

  abbrev pub left : CodeState → ℕ
  left c = enough code c.state

  -- the same, with so many instructions made of a total
  abbrev pub Within : ℕ → ℕ → CountedState → CodeState → Type 0
  Within total j a c = Stands a c × (left c + j ≤ total)

  -- what a statement and the last of its instructions lead to
  agree : (s : State) (j : ℕ) (m : counted.Next) (n : Next) → Keeps core pins m → Follows core code s j m n → Agree (Within (enough code (moved core s)) j) Matches m n
  agree s j (runs.Goes b es t) (runs.Goes c fs u) good f =
      (f.4, f.0, ((good, f.2.same, f.1, f.3), omega (arith, ap (enough code) f.2.same, f.2.left)))
  agree s j (runs.Stops b es t e) (runs.Stops c fs u d) good f = (f.4, f.0, (f.2, f.3), f.1)
  agree s j (runs.Goes b es t) (runs.Stops c fs u d) good f = absurd f
  agree s j (runs.Stops b es t e) (runs.Goes c fs u) good f = absurd f

  module _ (fits : List Event → Event → Bool) (refused : Event → Ending) where
    -- the same where each event is tested
    pub tied : (total j : ℕ) (trace : List Event) (m : counted.Next) (n : Next) → j ≤ total → Agree (Within total j) Matches m n → Tied Stands Matches left total j (runs.led trace (runs.tested fits refused trace m)) (runs.led trace (runs.tested fits refused trace n))
    tied total j trace m n le h =
        let tests = tested_agree (Within total j) Matches fits refused trace m n h in
        let both = led_agree (Within total j) Matches trace _ _ tests in
        let r = runs.led trace (runs.tested fits refused trace m) in
        let q = runs.led trace (runs.tested fits refused trace n) in
        (both.0, tied_at Stands Matches left total j le r.ended r q both.1 both.2)

module _ (core : Core) (pins : Pins) (code : Code) (sound : IsSound core) (exact : AreExact core pins) (listed : AreListed core pins) (compiled : IsCompiled core pins code) (fits : List Event → Event → Bool) (refused : Event → Ending) (heap : ℕ) (s : State) (func : Func) (good : Holds core func needed s.scopes s) (order : InOrder core s) (numbers : ℕ → ℕ) (counts : AreCounts pins (counted.kept numbers s)) (line : ℕ) (kind : StmKind) (at : slice_get func.body s.running.point ≡ Some (record { line = line; kind = kind })) where
  abbrev stm_at : Stm
  stm_at = record { line = line; kind = kind }

  abbrev atoms : List Atom
  atoms = handed_atoms kind

  abbrev place : ℕ
  place = place_at core s.running.func s.running.point

  same_place : place_of core s.running.func func.body s.running.point ≡ place
  same_place = sym (place_is core s.running.func func good.here s.running.point)

  is_statement : IsStatement core code s.running.func func place stm_at
  is_statement =
      subst (λ p. IsStatement core code s.running.func func p stm_at) same_place (compiled.statements s.running.func s.running.point func stm_at good.here at)

  fresh : list_any (holds_stale s.objects) (map (value_of s.running) (operands kind)) ≡ false
  fresh =
      operands_fresh core func s.scopes s good stm_at at ((sound.functions s.running.func func good.here).typed s.running.point stm_at at)

  handed : (trace : List Event) → runs.after (testing fits refused (code_meaning.step code heap)) (following.going trace (holding (moved core s) numbers place [])) (length atoms) ≡ following.going trace (holding (moved core s) numbers (place + length atoms) (map (value_of s.running) atoms))
  handed trace =
      let values = same_values s.running place atoms in
      all_handed code fits refused heap (moved core s) numbers trace place [] atoms is_statement.hands (handed_in_range kind ((sound.functions s.running.func func good.here).numbers s.running.point stm_at at)) (ap (list_any (holds_stale s.objects)) values ∙ handed_fresh s.objects s.running kind fresh)
      ∙ ap (λ vs. following.going trace (holding (moved core s) numbers (place + length atoms) vs)) values

  line_is : slice_index code.lines (place + length atoms) ≡ line
  line_is = get_or_from_slice_get code.lines _ line 0 (is_statement.lines (length atoms) (omega arith))

  acted : (trace : List Event) → code_meaning.step code heap trace (holding (moved core s) numbers (place + length atoms) (map (value_of s.running) atoms)) ≡ code_meaning.act code (has_place heap trace) line is_statement.does.0 is_statement.does.0.op (map (value_of s.running) atoms) numbers (at_point (moved core s) (place + length atoms))
  acted trace =
      let c = holding (moved core s) numbers (place + length atoms) (map (value_of s.running) atoms) in
      let i = is_statement.does.0 in
      ap (λ o. code_meaning.act_at code (has_place heap trace) o c) is_statement.does.1
      ∙ ap (λ l. hand_or_act code (has_place heap trace) l i (handed_value c.state.running i i.op) c) line_is
      ∙ ap (λ o. hand_or_act code (has_place heap trace) line i o c) (takes core code s.running.func func c.state.running kind i is_statement.does.2)

  -- all instructions of the statement
  made : (trace : List Event) → runs.after (testing fits refused (code_meaning.step code heap)) (following.going trace (holding (moved core s) numbers place [])) (code_length kind) ≡ runs.led trace (runs.tested fits refused trace (code_meaning.act code (has_place heap trace) line is_statement.does.0 is_statement.does.0.op (map (value_of s.running) atoms) numbers (at_point (moved core s) (place + length atoms))))
  made trace =
      let r = following.going trace (holding (moved core s) numbers place []) in
      after_more (testing fits refused (code_meaning.step code heap)) r (length atoms)
      ∙ ap (λ q. runs.moved (testing fits refused (code_meaning.step code heap)) q q.ended) (handed trace)
      ∙ ap (λ n. runs.led trace (runs.tested fits refused trace n)) (acted trace)

  core_acts : (trace : List Event) → counted_meaning.step core pins heap trace (counted.kept numbers s) ≡ counted_meaning.act core pins (has_place heap trace) line kind numbers s
  core_acts trace =
      let there : statement_at core s.running ≡ Some stm_at = ap (λ o. statement_in o s.running.point) good.here ∙ at in
      ap (λ o. counted_meaning.act_at core pins (has_place heap trace) o (counted.kept numbers s)) there
      ∙ ap (λ b. counted_meaning.unless_reads_stale b core pins (has_place heap trace) stm_at (counted.kept numbers s)) fresh

  pub statement_follows : (trace : List Event) → Tied (Stands core pins code) Matches (left core pins code) (enough code (moved core s)) (code_length kind) (runs.led trace (testing fits refused (counted_meaning.step core pins heap) trace (counted.kept numbers s))) (runs.after (testing fits refused (code_meaning.step code heap)) (following.going trace (holding (moved core s) numbers place [])) (code_length kind))
  statement_follows trace =
      let agrees = step_agrees core sound pins exact heap trace s (func, good) order numbers counts in
      let keeps = subst (Keeps core pins) (core_acts trace) (keeps_from core pins (meaning.step core heap trace s) (counted_meaning.step core pins heap trace (counted.kept numbers s)) (step_stays_at core sound heap trace s (func, good)) agrees) in
      let last = is_last core pins code sound listed compiled s func good order (has_place heap trace) line numbers kind at in
      let follows = act_follows core pins code sound listed compiled s func good order (has_place heap trace) line numbers kind at is_statement.does.0 is_statement.does.2 in
      let both = tied core pins code fits refused (enough code (moved core s)) (code_length kind) trace _ _ (omega (arith, last.here, last.within)) (agree core pins code s (code_length kind) _ _ keeps follows) in
      subst (λ n. Tied (Stands core pins code) Matches (left core pins code) (enough code (moved core s)) (code_length kind) (runs.led trace (runs.tested fits refused trace n)) (runs.after (testing fits refused (code_meaning.step code heap)) (following.going trace (holding (moved core s) numbers place [])) (code_length kind))) (sym (core_acts trace)) (subst (λ (r : code_meaning.Run). Tied (Stands core pins code) Matches (left core pins code) (enough code (moved core s)) (code_length kind) (runs.led trace (runs.tested fits refused trace (counted_meaning.act core pins (has_place heap trace) line kind numbers s))) r) (sym (made trace)) both)

module _ (core : Core) (pins : Pins) (code : Code) (sound : IsSound core) (exact : AreExact core pins) (listed : AreListed core pins) (compiled : IsCompiled core pins code) (fits : List Event → Event → Bool) (refused : Event → Ending) (heap : ℕ) where
  -- each statement is followed by its instructions
  pub one_follows : (trace : List Event) (a : CountedState) (c : CodeState) → Stands core pins code a c → (j : ℕ) × Tied (Stands core pins code) Matches (left core pins code) (enough code c.state) j (runs.led trace (testing fits refused (counted_meaning.step core pins heap) trace a)) (runs.after (testing fits refused (code_meaning.step code heap)) (following.going trace c) j)
  one_follows trace a c h =
      let s = a.state in
      let func = h.0.0.0 in
      let good = h.0.0.1 in
      let at = found func.body s.running.point good.inside in
      let begun : CodeState = record { state = moved core s; handed = []; numbers = a.numbers } in
      let same : c ≡ begun = ap (λ (t : State). let d : CodeState = record { state = t; handed = c.handed; numbers = c.numbers } in d) h.1 ∙ ap (λ (vs : List Value). let d : CodeState = record { state = moved core s; handed = vs; numbers = c.numbers } in d) h.2 ∙ ap (λ (n : ℕ → ℕ). let d : CodeState = record { state = moved core s; handed = []; numbers = n } in d) h.3 in
      let follows = statement_follows core pins code sound exact listed compiled fits refused heap s func good h.0.1 a.numbers h.0.2 at.0.line at.0.kind at.1 trace in
      (code_length at.0.kind, subst (λ (d : CodeState). Tied (Stands core pins code) Matches (left core pins code) (enough code d.state) (code_length at.0.kind) (runs.led trace (testing fits refused (counted_meaning.step core pins heap) trace a)) (runs.after (testing fits refused (code_meaning.step code heap)) (following.going trace d) (code_length at.0.kind))) (sym same) follows)
