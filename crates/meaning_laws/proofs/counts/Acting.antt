-- Each statement of a sound core in turn does the same in both meanings.
use Rattle.meaning_laws.proofs.Words.Core.{Core, Event, Func, GivesResult, I32, In, IsSound, IsTyped, Layout, LibName, Object, Out, Pointer, Refusal, State, Stm, StmKind, Value, and_then, has_place, lib_gives, wrapped}
use Rattle.meaning_laws.proofs.Words.Meaning.{AreCounts, AreExact, Changes, Good, Holds, IsPlain, OnDone, Pins, address, answers, any_done, any_said, at_point, birth_in, byte_in, bytes_in, call_lib, compared, compared_plain, copied_changes, difference_plain, filled, get_byte, goes, if_done, is_null, kept, loaded_plain, made, needed, number, number_at, number_of, on_one, on_two_plain, order_of, pointer_at, pointer_of, print, put_line, renumbered, set_changes, size_in, statement_at, statement_in, stored_pointer_changes, stored_same, string_at, then_done, truth, truth_plain, value_of, values_of, with_objects, write}
use Rattle.meaning_laws.proofs.Words.Std.{Bool, Err, List, None, Ok, Option, Result, Some, [], ap, length, map, negsuc, not, pos, refl, slice_get, subst, sym, ℕ, ◌*◌, ◌++◌, ◌+◌, ◌∙◌, ◌∷◌, ◌≡◌}
use Rattle.core_tree.specs.declared.statements.LibName.TheVariants as lib
use Rattle.core_tree.specs.declared.statements.StmKind.TheVariants as stm
use Rattle.object_meaning.specs.objects.Going as object_going
use Rattle.object_meaning.specs.objects.Meaning as object
use Rattle.meaning_laws.proofs.dangling.Returning.{operands_fresh}
use Rattle.meaning_laws.proofs.dangling.Standing.{found}
use Rattle.object_meaning.specs.counted.CountedState.{same_numbers}
use Rattle.object_meaning.specs.counted.CountedMeaning as counted
use Rattle.object_meaning.specs.counted.CountedMeaning.{behind_lib}
use Rattle.meaning_laws.proofs.counts.Sorting.{HasSorts, FitsIn, InOrder, gives_pointer, gives_pointer_result, plain_fits, value_fits, Agrees, Alters, alters_agree, Plain, write_order, on_order, write_plain, answers_plain, changes_plain, renumbered_counts, changes_alter, step_plain, branch_plain, made_plain}
use Rattle.meaning_laws.specs.counted.TouchedEquations.{Any}
use Rattle.meaning_laws.proofs.counts.Freed.{leave_agrees, free_agrees, grow_agrees}
use Rattle.meaning_laws.proofs.counts.Calling.{call_agrees, return_agrees}

done_fits : (func : Func) (r : Option ℕ) (result : Result Value Refusal) → OnDone IsPlain result → OnDone (FitsIn func r) result
done_fits func r (Ok v) h = plain_fits func r v h
done_fits func r (Err e) h = tt

module _ (core : Core) (sound : IsSound core) (pins : Pins) (exact : AreExact core pins) (s : State) (func : Func) (good : Holds core func needed s.scopes s) (order : InOrder core s) (numbers : ℕ → ℕ) (counts : AreCounts pins (kept numbers s)) (line : ℕ) where
  sorts : HasSorts func s.running.regs
  sorts = order.sorts func good.here

  plain : (n : object_going.Next) → Plain core pins s func good.here order numbers counts n → Agrees core pins n (same_numbers numbers n)
  plain n h = alters_agree core pins numbers (λ before after. numbers) numbers n h

  writes : (events : List Event) (r : Option ℕ) (v : Value) → FitsIn func r v → Plain core pins s func good.here order numbers counts (goes s events (write s r v))
  writes events r v fits = write_plain core pins s func good.here order numbers counts s.input events r v fits

  -- Built-in functions

  filled_alters : (b : ℕ) (r : Option ℕ) (p : Pointer) → FitsIn func r (address p) → (result : Result (List Object) Refusal) → OnDone (Changes s.objects b) result → Alters core pins numbers (renumbered b numbers) numbers (filled line r p result s)
  filled_alters b r p fits (Ok objects) h =
      (counts, renumbered_counts core pins s func good.here order numbers counts b (write (with_objects s objects) r (address p)) h refl, write_order core pins s func good.here order numbers counts objects s.input r (address p) fits)
  filled_alters b r p fits (Err e) h = (counts, counts)

  get_plain : (r : Option ℕ) (input : List ℕ) → Plain core pins s func good.here order numbers counts (get_byte r input s)
  get_plain r [] = writes (In None ∷ []) r (number (negsuc 0)) (plain_fits func r (number (negsuc 0)) refl)
  get_plain r (byte ∷ rest) =
      write_plain core pins s func good.here order numbers counts rest (In (Some byte) ∷ []) r (number (pos byte)) (plain_fits func r (number (pos byte)) refl)

  puts_plain : (r : Option ℕ) (result : Result (List ℕ) Refusal) → Plain core pins s func good.here order numbers counts (if_done line s result (λ text. put_line r text s))
  puts_plain r (Ok text) = writes (map Out (text ++ 10 ∷ [])) r (number (pos 0)) (plain_fits func r (number (pos 0)) refl)
  puts_plain r (Err e) = (counts, counts)

  answers_alter : (r : Option ℕ) (result : Result Value Refusal) → OnDone IsPlain result → Plain core pins s func good.here order numbers counts (answers line s r result)
  answers_alter r result h =
      answers_plain core pins s func good.here order numbers counts line r result (done_fits func r result h)

  lib_alters : (name : LibName) (r : Option ℕ) (values : List Value) → GivesResult func (lib_gives name) r → Alters core pins numbers (behind_lib name values numbers) numbers (call_lib line name r values s)
  lib_alters lib.Exit r values h = (counts, counts)
  lib_alters lib.Abort r values h = (counts, counts)
  lib_alters lib.Memcpy r values h =
      filled_alters (birth_in (pointer_at values 0)) r (pointer_at values 0) (gives_pointer_result func r h (address (pointer_at values 0))) _ (copied_changes s.objects (pointer_at values 0) (pointer_at values 1) (size_in (number_at values 2)))
  lib_alters lib.Memmove r values h =
      filled_alters (birth_in (pointer_at values 0)) r (pointer_at values 0) (gives_pointer_result func r h (address (pointer_at values 0))) _ (copied_changes s.objects (pointer_at values 0) (pointer_at values 1) (size_in (number_at values 2)))
  lib_alters lib.Memset r values h =
      filled_alters (birth_in (pointer_at values 0)) r (pointer_at values 0) (gives_pointer_result func r h (address (pointer_at values 0))) _ (set_changes s.objects (pointer_at values 0) (byte_in (number_at values 1)) (size_in (number_at values 2)))
  lib_alters lib.Strlen r values h =
      answers_alter r (and_then (string_at s.objects (pointer_at values 0)) (λ text. Ok (number (pos (length text))))) (then_done Any IsPlain (string_at s.objects (pointer_at values 0)) _ (any_said (string_at s.objects (pointer_at values 0))) (λ text _. refl))
  lib_alters lib.Strcmp r values h =
      answers_alter r (and_then (order_of s.objects (pointer_at values 0) (pointer_at values 1)) (λ order. Ok (number order))) (then_done Any IsPlain (order_of s.objects (pointer_at values 0) (pointer_at values 1)) _ (any_said (order_of s.objects (pointer_at values 0) (pointer_at values 1))) (λ order _. refl))
  lib_alters lib.Getchar r values h = get_plain r s.input
  lib_alters lib.Putchar r values h =
      writes (Out (byte_in (number_at values 0)) ∷ []) r (number (pos (byte_in (number_at values 0)))) (plain_fits func r (number (pos (byte_in (number_at values 0)))) refl)
  lib_alters lib.Puts r values h = puts_plain r (string_at s.objects (pointer_at values 0))

  print_plain : (r : ℕ) (bytes : List ℕ) (why : Option Refusal) → Plain core pins s func good.here order numbers counts (print line r bytes why s)
  print_plain r bytes None = writes (map Out bytes) (Some r) (number (wrapped I32 (pos (length bytes)))) (λ n. refl)
  print_plain r bytes (Some e) = (counts, counts)

  abbrev At : StmKind → Type 0
  At kind = slice_get func.body s.running.point ≡ Some (record { line = line; kind = kind })

  abbrev Acts : StmKind → Type 0
  Acts kind = (places : ℕ → Bool) → Agrees core pins (object.act core places line kind s) (counted.act core pins places line kind numbers s)

  answered : (r : ℕ) (result : Result Value Refusal) → OnDone (FitsIn func (Some r)) result → Agrees core pins (answers line s (Some r) result) (same_numbers numbers (answers line s (Some r) result))
  answered r result h = plain _ (answers_plain core pins s func good.here order numbers counts line (Some r) result h)

  wrote : (r : ℕ) (v : Value) → FitsIn func (Some r) v → Agrees core pins (goes s [] (write s (Some r) v)) (same_numbers numbers (goes s [] (write s (Some r) v)))
  wrote r v fits = plain (goes s [] (write s (Some r) v)) (writes [] (Some r) v fits)

  makes : (b : Bool) (r n : ℕ) (element : Layout) → ((v : Value) → FitsIn func (Some r) v) → Agrees core pins (made b line r n element s) (same_numbers numbers (made b line r n element s))
  makes b r n element fits =
      plain (made b line r n element s) (made_plain core pins s func good.here order numbers counts b line r n element fits)

  pub act_agrees : (kind : StmKind) → At kind → IsTyped core func kind → Acts kind
  act_agrees (stm.Set r a) at h places =
      wrote r (value_of s.running a) (value_fits core func s.running sorts func r a h.0 h.1 h.2)
  act_agrees (stm.Conv k r a) at h places = wrote r (number (wrapped k (number_of s a))) (λ n. refl)
  act_agrees (stm.Un op k r a) at h places = wrote r (number (on_one op k (number_of s a))) (λ n. refl)
  act_agrees (stm.Bin op k r a b) at h places = answered r _ (done_fits func (Some r) _ (on_two_plain op k (number_of s a) (number_of s b)))
  act_agrees (stm.Cmp op r a b) at h places =
      let holds = compared op (number_of s a) (number_of s b) in wrote r (truth holds) (λ n. truth_plain holds)
  act_agrees (stm.Add r p a size) at h places = answered r _ (any_done (FitsIn func (Some r)) _ (gives_pointer func r h.0))
  act_agrees (stm.Sub r p a size) at h places = answered r _ (any_done (FitsIn func (Some r)) _ (gives_pointer func r h.0))
  act_agrees (stm.Off r p distance) at h places = answered r _ (any_done (FitsIn func (Some r)) _ (gives_pointer func r h.0))
  act_agrees (stm.Diff r p q size) at h places =
      answered r _ (done_fits func (Some r) _ (difference_plain (pointer_of s p) (pointer_of s q) size))
  act_agrees (stm.Pcmp op r p q) at h places =
      answered r _ (done_fits func (Some r) _ (compared_plain op (pointer_of s p) (pointer_of s q)))
  act_agrees (stm.Test r p) at h places =
      let some = not (is_null (pointer_of s p)) in wrote r (truth some) (λ n. truth_plain some)
  act_agrees (stm.Load k r p) at h places = answered r _ (done_fits func (Some r) _ (loaded_plain s.objects k (pointer_of s p)))
  act_agrees (stm.Loadp r p) at h places = answered r _ (any_done (FitsIn func (Some r)) _ (gives_pointer func r h.0))
  act_agrees (stm.Store k p a) at h places =
      plain _ (changes_plain core pins s func good.here order numbers counts line _ (stored_same s.objects k (pointer_of s p) (number_of s a)))
  act_agrees (stm.Storep p q) at h places =
      alters_agree core pins numbers (renumbered (birth_in (pointer_of s p)) numbers) numbers _ (changes_alter core pins s func good.here order numbers counts line (birth_in (pointer_of s p)) _ (stored_pointer_changes s.objects (pointer_of s p) (pointer_of s q)))
  act_agrees (stm.Copy p q n) at h places =
      alters_agree core pins numbers (renumbered (birth_in (pointer_of s p)) numbers) numbers _ (changes_alter core pins s func good.here order numbers counts line (birth_in (pointer_of s p)) _ (copied_changes s.objects (pointer_of s p) (pointer_of s q) (bytes_in n)))
  act_agrees (stm.Clear p n) at h places =
      alters_agree core pins numbers (renumbered (birth_in (pointer_of s p)) numbers) numbers _ (changes_alter core pins s func good.here order numbers counts line (birth_in (pointer_of s p)) _ (set_changes s.objects (pointer_of s p) 0 (bytes_in n)))
  act_agrees (stm.Jump l) at h places = plain (object.act core places line (stm.Jump l) s) (counts, counts, on_order core pins s func good.here order numbers counts l)
  act_agrees (stm.Zero a l) at h places = plain _ (branch_plain core pins s func good.here order numbers counts _ l)
  act_agrees (stm.Case a v l) at h places = plain _ (branch_plain core pins s func good.here order numbers counts _ l)
  act_agrees (stm.Loop l) at h places =
      plain (object.act core places line (stm.Loop l) s) (step_plain core pins s func good.here order numbers counts (λ before after. numbers) s.steps (λ t. goes t [] (at_point t l)) (λ m. (counts, counts, on_order core pins s func good.here order numbers counts l)))
  act_agrees (stm.Call f r args) at h places =
      call_agrees core sound pins exact s func good.here order numbers counts line f r args at h.1 places
  act_agrees (stm.Malloc r n element) at h places = makes _ r (size_in (number_of s n)) element (gives_pointer func r h.0)
  act_agrees (stm.Calloc r m n element) at h places =
      makes _ r (size_in (number_of s m) * size_in (number_of s n)) element (gives_pointer func r h.0)
  act_agrees (stm.Realloc r p n element) at h places =
      grow_agrees core pins exact s func good.here _ at (λ q. refl) order good.sane numbers counts line r (gives_pointer func r h.0) _ element places (pointer_of s p)
  act_agrees (stm.Free p) at h places =
      free_agrees core pins exact s func good.here _ at (λ q. refl) order good.sane numbers counts line (pointer_of s p)
  act_agrees (stm.Lib name r args) at h places =
      alters_agree core pins numbers (behind_lib name (values_of s args) numbers) numbers _ (lib_alters name r (values_of s args) h.0)
  act_agrees (stm.Printf r k args) at h places = plain _ (print_plain r _ _)
  act_agrees stm.Enter at h places = plain (object.act core places line stm.Enter s) (counts, counts, on_order core pins s func good.here order numbers counts (s.running.point + 1))
  act_agrees stm.Leave at h places =
      leave_agrees core pins exact s func good.here _ at (λ q. refl) order good.sane numbers counts s.scopes
  act_agrees (stm.Return a) at h places =
      return_agrees core sound pins exact s func good.here order numbers counts line a at good.locals places

-- the statement that a good state is at
pub step_agrees : (core : Core) → IsSound core → (pins : Pins) → AreExact core pins → (heap : ℕ) (trace : List Event) (s : State) → Good core s → InOrder core s → (numbers : ℕ → ℕ) → AreCounts pins (kept numbers s) → Agrees core pins (object.step core heap trace s) (counted.step core pins heap trace (kept numbers s))
step_agrees core sound pins exact heap trace s good order numbers counts =
    let func = good.0 in
    let h = good.1 in
    let at = found func.body s.running.point h.inside in
    let stm = at.0 in
    let there : statement_at core s.running ≡ Some stm = ap (λ o. statement_in o s.running.point) h.here ∙ at.1 in
    let typed = (sound.functions s.running.func func h.here).typed s.running.point stm at.1 in
    let alive = operands_fresh core func s.scopes s h stm at.1 typed in
    let acts = act_agrees core sound pins exact s func h order numbers counts stm.line stm.kind at.1 typed (has_place heap trace) in
    subst (λ (o : Option Stm). Agrees core pins (object.act_at core (has_place heap trace) o s) (counted.act_at core pins (has_place heap trace) o (kept numbers s))) (sym there) (subst (λ b. Agrees core pins (object.unless_reads_stale b core (has_place heap trace) stm s) (counted.unless_reads_stale b core pins (has_place heap trace) stm (kept numbers s))) (sym alive) acts)
