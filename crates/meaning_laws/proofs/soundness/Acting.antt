-- Each instruction in turn, from a good state.
use Rattle.meaning_laws.proofs.Words.Core.{Code, EachAnswer, GivesTo, I32, Instr, Integer, IsAt, IsNumber, IsWellFormed, LibName, OfAnswer, Op, Refusal, Sort, State, Value, chosen, edges, handed_before, hands, low_bits_lt, pieces_of, register_sort, scopes_after, wrapped, written}
use Rattle.meaning_laws.proofs.Words.Meaning.{AreOperands, CodeState, IsGood, IsOfSort, IsOperand, IsPointer, StaysGood, act, answers, behind_lib, birth_in, byte_in, bytes_in, call_lib, copied_changes, layout_in, number, number_at, order_of, other_numbers, pointer_at, printed, same_numbers, set_changes, size_in, stored_pointer_changes, stored_same, string_at, write}
use Rattle.meaning_laws.proofs.Words.Std.{Bool, Contains, List, None, Option, Result, Some, [], arith, false, get_or, length, pos, refl, slice_index_or, subst, ℕ, ◌+◌, ◌<◌, ◌^◌, ◌∷◌, ◌≡◌}
use Rattle.core_tree.specs.declared.statements.LibName.TheVariants as lib
use Rattle.core_tree.specs.Sorts.{Pointer as Address}
use Rattle.meaning_laws.proofs.dangling.Touching.{Done, then_done}
use Rattle.flat_code.specs.declared.instructions.Op.TheVariants as op
use Rattle.object_meaning.specs.code.CodeState.{kept}
use Rattle.meaning_laws.proofs.soundness.Touching.{IsInteger, integer_is, done_weaker, natural_number, wrapped_number, one_number, two_done, truth_is, all_point, moved_done, difference_done, compared_done, loaded_done, loaded_pointer_done, stored_done, stored_pointer_done, copied_done, set_done, string_done, order_done, printed_lives}
use Rattle.meaning_laws.proofs.soundness.Made.{layout_sound, size_small, product_small}
use Rattle.meaning_laws.proofs.soundness.Standing.{IsReady, IsPlain, writes, puts_number, answers_stays, stores_stays, changes_stays, goes_to, branch_stays, step_stays, enter_stays, made_stays, filled_stays, gives_stays, get_stays, puts_stays, print_stays}
use Rattle.meaning_laws.proofs.soundness.Freeing.{leave_stays, free_stays, grow_stays}
use Rattle.meaning_laws.proofs.soundness.Calling.{call_stays}
use Rattle.meaning_laws.proofs.soundness.Returning.{give_stays}

module _ (code : Code) (wf : IsWellFormed code) (c : CodeState) (good : IsGood code c) (i : Instr) (at : IsAt code c.state.running.func good.entry c.state.running.point i) where
  abbrev s : State
  s = c.state

  abbrev Does : Op → Type 0
  Does = IsReady code wf c good i at

  -- a plain operation: its own next edge, and no scope
  abbrev Plain : Op → Option ℕ → Type 0
  Plain = IsPlain code wf c good i at

  plain : (o : Op) (r : Option ℕ) → hands o ≡ false → Contains (edges i o s.running.point) (s.running.point + 1) → scopes_after o good.scopes ≡ good.scopes → written i o ≡ r → Plain o r
  plain o r takes edge same writes = record { takes = takes; edge = edge; same = same; writes = writes }

  next : Contains ((s.running.point + 1) ∷ []) (s.running.point + 1)
  next = (0, omega arith, refl)

  -- what is handed over is no stale pointer
  point : (k : ℕ) → IsPointer s.objects (pointer_at c.handed k)
  point = all_point s.objects (handed_before code good.entry s.running.point) c.handed good.handed

  first_is : (sort : Option Sort) (values : List Value) → AreOperands s.objects (sort ∷ []) values → IsOperand s.objects sort (get_or values 0 (number (pos 0)))
  first_is sort [] h = absurd h
  first_is sort (v ∷ values) h = h.0

  -- Built-in functions

  lib_plain : (name : LibName) → Contains (edges i (op.Lib name) s.running.point) (s.running.point + 1) → Plain (op.Lib name) (chosen i)
  lib_plain name edge = plain (op.Lib name) (chosen i) refl edge refl refl

  lib_stays : (line : ℕ) (name : LibName) → Does (op.Lib name) → StaysGood code (other_numbers (behind_lib name c.handed c.numbers) c.numbers (call_lib line name (chosen i) c.handed s))
  lib_stays line lib.Exit ready = λ e. cc
  lib_stays line lib.Abort ready = λ e. cc
  lib_stays line lib.Memcpy ready =
      let n = size_in (number_at c.handed 2) in
      filled_stays code wf c good i at (op.Lib lib.Memcpy) ready (chosen i) (lib_plain lib.Memcpy next) ready.result line (birth_in (pointer_at c.handed 0)) (pointer_at c.handed 0) (point 0) _ (copied_done s.objects good.objects _ _ n (point 0) (point 1)) (copied_changes s.objects (pointer_at c.handed 0) (pointer_at c.handed 1) n)
  lib_stays line lib.Memmove ready =
      let n = size_in (number_at c.handed 2) in
      filled_stays code wf c good i at (op.Lib lib.Memmove) ready (chosen i) (lib_plain lib.Memmove next) ready.result line (birth_in (pointer_at c.handed 0)) (pointer_at c.handed 0) (point 0) _ (copied_done s.objects good.objects _ _ n (point 0) (point 1)) (copied_changes s.objects (pointer_at c.handed 0) (pointer_at c.handed 1) n)
  lib_stays line lib.Memset ready =
      let byte = byte_in (number_at c.handed 1) in
      let n = size_in (number_at c.handed 2) in
      filled_stays code wf c good i at (op.Lib lib.Memset) ready (chosen i) (lib_plain lib.Memset next) ready.result line (birth_in (pointer_at c.handed 0)) (pointer_at c.handed 0) (point 0) _ (set_done s.objects good.objects _ byte n (low_bits_lt 8 _) (point 0)) (set_changes s.objects (pointer_at c.handed 0) byte n)
  lib_stays line lib.Strlen ready =
      gives_stays code wf c good i at (op.Lib lib.Strlen) ready (chosen i) (lib_plain lib.Strlen next) ready.result line _ (then_done (λ (t : List ℕ). length t < 2 ^ 64) IsInteger (string_at s.objects (pointer_at c.handed 0)) _ (string_done s.objects good.objects (pointer_at c.handed 0) (point 0)) (λ text small. natural_number (length text) small))
  lib_stays line lib.Strcmp ready =
      gives_stays code wf c good i at (op.Lib lib.Strcmp) ready (chosen i) (lib_plain lib.Strcmp next) ready.result line _ (then_done IsNumber IsInteger (order_of s.objects (pointer_at c.handed 0) (pointer_at c.handed 1)) _ (order_done s.objects good.objects (pointer_at c.handed 0) (pointer_at c.handed 1) (point 0) (point 1)) (λ order is. is))
  lib_stays line lib.Getchar ready =
      get_stays code wf c good i at (op.Lib lib.Getchar) ready (chosen i) (lib_plain lib.Getchar next) ready.result s.input good.input
  lib_stays line lib.Putchar ready =
      let byte = byte_in (number_at c.handed 0) in
      let small : byte < 256 = low_bits_lt 8 (wrapped I32 (number_at c.handed 0)) in
      puts_number code wf c good i at (op.Lib lib.Putchar) ready (chosen i) (lib_plain lib.Putchar next) ready.result (number (pos byte)) (natural_number byte (omega arith))
  lib_stays line lib.Puts ready =
      puts_stays code wf c good i at (op.Lib lib.Puts) ready (chosen i) (lib_plain lib.Puts next) ready.result line _ (string_done s.objects good.objects (pointer_at c.handed 0) (point 0))

  -- Returns: what each return of the function gives is what this one gives

  answered : (o : Op) → Does o → (P : Option Sort → Type 0) → EachAnswer code s.running.func P → OfAnswer P o (handed_before code good.entry s.running.point)
  answered o ready P each =
      subst (λ (x : Op). OfAnswer P x (handed_before code good.entry s.running.point)) ready.is (each s.running.func good.entry s.running.point i at refl)

  return_stays : (line : ℕ) (fits : ℕ → Bool) → Does op.Return → StaysGood code (act code fits line i op.Return c.handed c.numbers s)
  return_stays line fits ready =
      give_stays code wf c good (number (pos 0)) tt (ready.closes good.scopes good.running.opens) None (λ P each. answered op.Return ready P each) (λ sort e. absurd (cc)) line

  giving_stays : (line : ℕ) (fits : ℕ → Bool) → Does op.Give → StaysGood code (act code fits line i op.Give c.handed c.numbers s)
  giving_stays line fits ready =
      let sort = ready.takes refl in
      let are = subst (λ (x : List (Option Sort)). AreOperands s.objects x c.handed) sort.1 good.handed in
      let is = first_is (Some sort.0) c.handed are in
      give_stays code wf c good (get_or c.handed 0 (number (pos 0))) is.1 (ready.closes good.scopes good.running.opens) (Some sort.0) (λ P each. subst (λ (x : List (Option Sort)). OfAnswer P op.Give x) sort.1 (answered op.Give ready P each)) (λ other e. subst (λ (x : Option Sort). IsOfSort x (get_or c.handed 0 (number (pos 0)))) e is.0) line

  -- Operations that write a register

  puts_integer : (o : Op) → Does o → hands o ≡ false → Contains (edges i o s.running.point) (s.running.point + 1) → scopes_after o good.scopes ≡ good.scopes → written i o ≡ Some i.a → GivesTo good.entry (Some Integer) (Some i.a) → (v : Value) → IsInteger v → IsGood code (kept c.numbers (write s (Some i.a) v))
  puts_integer o ready takes edge same writes gives =
      puts_number code wf c good i at o ready (Some i.a) (plain o (Some i.a) takes edge same writes) gives

  answers_of : (o : Op) → Does o → hands o ≡ false → Contains (edges i o s.running.point) (s.running.point + 1) → scopes_after o good.scopes ≡ good.scopes → written i o ≡ Some i.a → (result : Option Sort) → GivesTo good.entry result (Some i.a) → (line : ℕ) (answer : Result Value Refusal) → Done (IsOperand s.objects result) answer → StaysGood code (same_numbers c.numbers (answers line s (Some i.a) answer))
  answers_of o ready takes edge same writes result gives =
      answers_stays code wf c good i at o ready result (Some i.a) (plain o (Some i.a) takes edge same writes) gives

  operand : (answer : Result Value Refusal) → Done IsInteger answer → Done (IsOperand s.objects (Some Integer)) answer
  operand answer = done_weaker IsInteger (IsOperand s.objects (Some Integer)) (integer_is s.objects) answer

  pub act_stays : (line : ℕ) (fits : ℕ → Bool) (o : Op) → Does o → hands o ≡ false → StaysGood code (act code fits line i o c.handed c.numbers s)
  act_stays line fits op.Start ready h = absurd ready.names
  act_stays line fits op.HandReg ready h = absurd (cc)
  act_stays line fits op.HandInt ready h = absurd (cc)
  act_stays line fits op.HandUnsigned ready h = absurd (cc)
  act_stays line fits op.HandNull ready h = absurd (cc)
  act_stays line fits op.HandStatic ready h = absurd (cc)
  act_stays line fits op.HandLocal ready h = absurd (cc)
  act_stays line fits op.Set ready h =
      let are = subst (λ (x : List (Option Sort)). AreOperands s.objects x c.handed) (ready.takes refl) good.handed in
      writes code wf c good i at op.Set ready (register_sort good.entry i.a) (Some i.a) (plain op.Set (Some i.a) refl next refl refl) ready.result _ (first_is (register_sort good.entry i.a) c.handed are)
  act_stays line fits (op.Conv k) ready h =
      puts_integer (op.Conv k) ready refl next refl refl ready.result _ (wrapped_number k _)
  act_stays line fits (op.Un o k) ready h = puts_integer (op.Un o k) ready refl next refl refl ready.result _ (one_number o k _)
  act_stays line fits (op.Bin o k) ready h =
      answers_of (op.Bin o k) ready refl next refl refl (Some Integer) ready.result line _ (operand _ (two_done o k (number_at c.handed 0) (number_at c.handed 1)))
  act_stays line fits (op.Cmp o) ready h = puts_integer (op.Cmp o) ready refl next refl refl ready.result _ (truth_is _)
  act_stays line fits op.Add ready h =
      answers_of op.Add ready refl next refl refl (Some Address) ready.result line _ (moved_done s.objects _ _ (point 0))
  act_stays line fits op.Sub ready h =
      answers_of op.Sub ready refl next refl refl (Some Address) ready.result line _ (moved_done s.objects _ _ (point 0))
  act_stays line fits op.Diff ready h =
      answers_of op.Diff ready refl next refl refl (Some Integer) ready.result line _ (operand _ (difference_done s.objects (pointer_at c.handed 0) (pointer_at c.handed 1) i.imm))
  act_stays line fits (op.Pcmp o) ready h =
      answers_of (op.Pcmp o) ready refl next refl refl (Some Integer) ready.result line _ (operand _ (compared_done s.objects o (pointer_at c.handed 0) (pointer_at c.handed 1)))
  act_stays line fits op.Test ready h = puts_integer op.Test ready refl next refl refl ready.result _ (truth_is _)
  act_stays line fits (op.Load k) ready h =
      answers_of (op.Load k) ready refl next refl refl (Some Integer) ready.result line _ (operand _ (loaded_done s.objects good.objects k (pointer_at c.handed 0) (point 0)))
  act_stays line fits op.Loadp ready h =
      answers_of op.Loadp ready refl next refl refl (Some Address) ready.result line _ (loaded_pointer_done s.objects good.objects _ (point 0))
  act_stays line fits (op.Store k) ready h =
      stores_stays code wf c good i at (op.Store k) ready (plain (op.Store k) None refl next refl refl) line _ (stored_done s.objects good.objects k _ _ (point 0)) (stored_same s.objects k (pointer_at c.handed 0) (number_at c.handed 1))
  act_stays line fits op.Storep ready h =
      changes_stays code wf c good i at op.Storep ready (plain op.Storep None refl next refl refl) line (birth_in (pointer_at c.handed 0)) _ (stored_pointer_done s.objects good.objects _ _ (point 0) (point 1)) (stored_pointer_changes s.objects (pointer_at c.handed 0) (pointer_at c.handed 1))
  act_stays line fits op.Copy ready h =
      let n = bytes_in (number_at c.handed 2) in
      changes_stays code wf c good i at op.Copy ready (plain op.Copy None refl next refl refl) line (birth_in (pointer_at c.handed 0)) _ (copied_done s.objects good.objects _ _ n (point 0) (point 1)) (copied_changes s.objects (pointer_at c.handed 0) (pointer_at c.handed 1) n)
  act_stays line fits op.Clear ready h =
      let n = bytes_in (number_at c.handed 1) in
      changes_stays code wf c good i at op.Clear ready (plain op.Clear None refl next refl refl) line (birth_in (pointer_at c.handed 0)) _ (set_done s.objects good.objects _ 0 n (omega arith) (point 0)) (set_changes s.objects (pointer_at c.handed 0) 0 n)
  act_stays line fits op.Jump ready h = goes_to code wf c good i at op.Jump ready refl refl refl i.b (0, omega arith, refl) s.steps
  act_stays line fits op.Zero ready h =
      branch_stays code wf c good i at op.Zero ready refl refl refl _ i.b (1, omega arith, refl) (0, omega arith, refl)
  act_stays line fits op.Case ready h =
      branch_stays code wf c good i at op.Case ready refl refl refl _ i.b (1, omega arith, refl) (0, omega arith, refl)
  act_stays line fits op.Loop ready h =
      step_stays code wf c good i at s.steps _ (λ m. goes_to code wf c good i at op.Loop ready refl refl refl i.b (0, omega arith, refl) m)
  act_stays line fits op.Call ready h =
      step_stays code wf c good i at s.steps _ (λ m. call_stays code wf c good i at.here ready line m)
  act_stays line fits op.Malloc ready h =
      made_stays code wf c good i at _ op.Malloc ready i.a (plain op.Malloc (Some i.a) refl next refl refl) ready.result line _ (size_small (number_at c.handed 0)) (layout_in code i.b) (layout_sound code wf i.b)
  act_stays line fits op.Calloc ready h =
      made_stays code wf c good i at _ op.Calloc ready i.a (plain op.Calloc (Some i.a) refl next refl refl) ready.result line _ (product_small (number_at c.handed 0) (number_at c.handed 1)) (layout_in code i.b) (layout_sound code wf i.b)
  act_stays line fits op.Realloc ready h =
      grow_stays code wf c good i at ready line (size_in (number_at c.handed 1)) (size_small (number_at c.handed 1)) (layout_in code i.b) (layout_sound code wf i.b) fits (pointer_at c.handed 0)
  act_stays line fits op.Free ready h = free_stays code wf c good i at ready line (pointer_at c.handed 0)
  act_stays line fits (op.Lib name) ready h = lib_stays line name ready
  act_stays line fits op.Printf ready h =
      let pieces = pieces_of (slice_index_or code.formats i.b []) in
      print_stays code wf c good i at op.Printf ready i.a (plain op.Printf (Some i.a) refl next refl refl) ready.result line (printed s.objects pieces c.handed).bytes (printed s.objects pieces c.handed).refused (printed_lives s.objects good.objects pieces c.handed point)
  act_stays line fits op.Enter ready h = enter_stays code wf c good i at ready
  act_stays line fits op.Leave ready h = leave_stays code wf c good i at ready s.scopes refl
  act_stays line fits op.Return ready h = return_stays line fits ready
  act_stays line fits op.Give ready h = giving_stays line fits ready
