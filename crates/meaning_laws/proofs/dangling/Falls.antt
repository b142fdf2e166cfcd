-- Each statement that does not end the run makes `enough` smaller, so every run ends.
use Rattle.meaning_laws.proofs.Words.Core.{Core, Ending, Event, Frame, Func, IsSound, Layout, LibName, Object, Pointer, Reason, Refusal, State, Stm, StmKind, Value, ended, first_held, freed_at, has_place, one_end}
use Rattle.meaning_laws.proofs.Words.Meaning.{LeavesLess, Run, address, answer_register, answers, at_point, begun, birth_of, branch, bury, byte_in, call, call_lib, changes, decided, end_locals, enqueue, escapes, filled, free, free_named, get_byte, go_back, goes, grow, grow_named, grow_old, grown, if_done, in_scope, is_held, leave, made, meaning, number, number_at, number_of, onward, print, put, put_line, resumed, returned, running_locals, size, size_in, start_of, statement_at, statement_in, step, unless_reads_stale, values_of, with_new, with_objects, with_register, with_step, write}
use Rattle.meaning_laws.proofs.Words.Std.{Bool, Err, List, None, Ok, Option, Result, Some, [], ap, arith, false, get_or-le-sum_by, get_or_from_slice_get, length, negsuc, pos, refl, slice_get, slice_get_within, subst, suc, sum_by, sum_by-cons, sym, true, zero, ℕ, ◌*◌, ◌+◌, ◌<◌, ◌∷◌, ◌≡◌, ◌≤◌}
use Rattle.object_meaning.specs.objects.Going.{Next}
use Rattle.object_meaning.specs.objects.Meaning.{act, act_at, body_length, code_left, enough, step_by}
use Rattle.core_tree.specs.Sound.{LeadsOn}
use Rattle.hs_base.specs.declared.values.Pointer.TheVariants as pointer
use Rattle.hs_base.specs.Runs as runs
use Rattle.core_tree.specs.declared.statements.LibName.TheVariants as lib
use Rattle.core_tree.specs.declared.statements.StmKind.TheVariants as stm

-- a statement's targets lie ahead of it, but for that of a loop
abbrev pub IsForward : ℕ → StmKind → Type 0
IsForward point (stm.Jump l) = point < l
IsForward point (stm.Zero a l) = point < l
IsForward point (stm.Case a v l) = point < l
IsForward point _ = Unit {0}

pub within : (o : Option Func) (point : ℕ) (stm : Stm) → statement_in o point ≡ Some stm → point < body_length o
within None point stm h = absurd (cc)
within (Some func) point stm h = slice_get_within func.body point stm h

body_below_at : (core : Core) (f : ℕ) (o : Option Func) → slice_get core.funcs f ≡ o → body_length o < size core
body_below_at core f None h = omega arith
body_below_at core f (Some func) h =
    let lengths : Func → ℕ = λ g. length g.body in
    let le = get_or-le-sum_by lengths core.funcs f func (slice_get_within _ _ _ h) in
    let is = get_or_from_slice_get core.funcs f func func h in
    omega (arith, le, ap lengths is)

pub body_below : (core : Core) (f : ℕ) → body_length (slice_get core.funcs f) < size core
body_below core f = body_below_at core f (slice_get core.funcs f) refl

-- the same frames at the same points, and the same steps left
record Alike (s t : State) : Type 0 where
  func : t.running.func ≡ s.running.func
  point : t.running.point ≡ s.running.point
  waiting : t.waiting ≡ s.waiting
  steps : t.steps ≡ s.steps

alike_put : (s t : State) → Alike s t → (r : Option ℕ) (v : Value) → Alike s (put t r v)
alike_put s t h None v = record { func = h.func; point = h.point; waiting = h.waiting; steps = h.steps }
alike_put s t h (Some r) v = record { func = h.func; point = h.point; waiting = h.waiting; steps = h.steps }

same_func : (answer : Value) (r : Option ℕ) (frame : Frame) → (with_register r answer frame).func ≡ frame.func
same_func answer None frame = refl
same_func answer (Some r) frame = refl

code_resumed : (core : Core) (answer : Value) (frame : Frame) → code_left core (resumed core answer frame) ≤ code_left core frame
code_resumed core answer frame =
    let same = same_func answer (answer_register (statement_at core frame)) frame in
    let code : ℕ → ℕ = λ f. body_length (slice_get core.funcs f) in
    omega (arith, ap code same)

module _ (core : Core) (s : State) (inside : s.running.point < body_length (slice_get core.funcs s.running.func)) where
  alike : Alike s s
  alike = record { func = refl; point = refl; waiting = refl; steps = refl }

  onward_less : (t : State) → Alike s t → enough core (onward t) < enough core s
  onward_less t h =
      omega (arith, ap (λ f. body_length (slice_get core.funcs f)) h.func, h.point, ap (sum_by (code_left core)) h.waiting, ap (λ k. k * size core) h.steps)

  write_less : (t : State) (r : Option ℕ) (v : Value) → Alike s t → enough core (write t r v) < enough core s
  write_less t r v h = onward_less (put t r v) (alike_put s t h r v)

  answers_falls : (line : ℕ) (r : Option ℕ) (result : Result Value Refusal) → LeavesLess core s (answers line s r result)
  answers_falls line r (Ok v) = write_less s r v alike
  answers_falls line r (Err e) = tt

  changes_falls : (line : ℕ) (result : Result (List Object) Refusal) → LeavesLess core s (changes line s result)
  changes_falls line (Ok objects) = onward_less (with_objects s objects) (record { func = refl; point = refl; waiting = refl; steps = refl })
  changes_falls line (Err e) = tt

  branch_falls : (b : Bool) (l : ℕ) → s.running.point < l → LeavesLess core s (branch b l s)
  branch_falls true l h = omega arith
  branch_falls false l h = omega arith

  step_falls : (n : ℕ) (next : State → Next) → n ≡ s.steps → ((m : ℕ) → m + 1 ≡ s.steps → LeavesLess core s (next (record s { steps = m }))) → LeavesLess core s (with_step n s next)
  step_falls zero next e h = tt
  step_falls (suc n) next e h = h n (omega arith)

  back_falls : (m l : ℕ) → m + 1 ≡ s.steps → LeavesLess core s (goes (record s { steps = m }) [] (at_point (record s { steps = m }) l))
  back_falls m l e = omega (arith, body_below core s.running.func, ap (λ k. k * size core) e)

  call_falls : (line f : ℕ) (values : List Value) (m : ℕ) → m + 1 ≡ s.steps → LeavesLess core s (call core line f values (record s { steps = m }))
  call_falls line f values m e =
      omega (arith, body_below core f, ap (λ k. k * size core) e, sum_by-cons (code_left core) s.running s.waiting)

  decided_falls : (held : Option ℕ) (before t : State) (events : List Event) → Alike s t → LeavesLess core s (decided core held before events t)
  decided_falls None before t events h =
      onward_less (bury t) (record { func = h.func; point = h.point; waiting = h.waiting; steps = h.steps })
  decided_falls (Some birth) before t events h = tt

  leave_falls : (n : ℕ) → LeavesLess core s (leave core n s)
  leave_falls zero = tt
  leave_falls (suc zero) = decided_falls (first_held (is_held core s) s.queue) s s [] alike
  leave_falls (suc (suc n)) = omega arith

  in_scope_falls : (n : ℕ) (before t : State) (events : List Event) → Alike s t → LeavesLess core s (in_scope core n before events t)
  in_scope_falls zero before t events h =
      let u : State = record t { scopes = 1 } in
      decided_falls (first_held (is_held core u) u.queue) before u events (record { func = h.func; point = h.point; waiting = h.waiting; steps = h.steps })
  in_scope_falls (suc n) before t events h = onward_less t h

  free_named_falls : (line : ℕ) (named : Result ℕ Reason) → LeavesLess core s (free_named core line named s)
  free_named_falls line (Ok birth) =
      in_scope_falls s.scopes s (enqueue line birth s) [] (record { func = refl; point = refl; waiting = refl; steps = refl })
  free_named_falls line (Err reason) = tt

  free_falls : (line : ℕ) (p : Pointer) → LeavesLess core s (free core line p s)
  free_falls line pointer.Null = omega arith
  free_falls line (pointer.At birth offset) = free_named_falls line (freed_at s.objects birth offset)

  made_falls : (b : Bool) (line r n : ℕ) (element : Layout) → LeavesLess core s (made b line r n element s)
  made_falls true line r n element = omega arith
  made_falls false line r n element = omega arith

  grown_falls : (line r n old : ℕ) (t : State) → Alike s t → (result : Result (List Object) Refusal) → LeavesLess core s (grown core line r n old s t result)
  grown_falls line r n old t h (Ok objects) =
      in_scope_falls t.scopes s (put (enqueue line old (with_objects t objects)) (Some r) (address (start_of (length s.objects)))) (birth_of line n s) (record { func = h.func; point = h.point; waiting = h.waiting; steps = h.steps })
  grown_falls line r n old t h (Err e) = tt

  grow_old_falls : (b : Bool) (line r old n : ℕ) (element : Layout) → LeavesLess core s (grow_old b core line r old n element s)
  grow_old_falls true line r old n element =
      grown_falls line r n old (with_new line n element s) (record { func = refl; point = refl; waiting = refl; steps = refl }) _
  grow_old_falls false line r old n element = omega arith

  grow_named_falls : (fits : ℕ → Bool) (line r : ℕ) (named : Result ℕ Reason) (n : ℕ) (element : Layout) → LeavesLess core s (grow_named core fits line r named n element s)
  grow_named_falls fits line r (Ok old) n element = grow_old_falls (fits n) line r old n element
  grow_named_falls fits line r (Err reason) n element = tt

  grow_falls : (fits : ℕ → Bool) (line r : ℕ) (p : Pointer) (n : ℕ) (element : Layout) → LeavesLess core s (grow core fits line r p n element s)
  grow_falls fits line r pointer.Null n element = made_falls (fits n) line r n element
  grow_falls fits line r (pointer.At birth offset) n element =
      grow_named_falls fits line r (freed_at s.objects birth offset) n element

  get_falls : (r : Option ℕ) (input : List ℕ) → LeavesLess core s (get_byte r input s)
  get_falls r [] = write_less s r (number (negsuc 0)) alike
  get_falls r (byte ∷ rest) =
      write_less (record s { input = rest }) r (number (pos byte)) (record { func = refl; point = refl; waiting = refl; steps = refl })

  filled_falls : (line : ℕ) (r : Option ℕ) (p : Pointer) (result : Result (List Object) Refusal) → LeavesLess core s (filled line r p result s)
  filled_falls line r p (Ok objects) =
      write_less (with_objects s objects) r (address p) (record { func = refl; point = refl; waiting = refl; steps = refl })
  filled_falls line r p (Err e) = tt

  puts_falls : (line : ℕ) (r : Option ℕ) (result : Result (List ℕ) Refusal) → LeavesLess core s (if_done line s result (λ text. put_line r text s))
  puts_falls line r (Ok text) = write_less s r (number (pos 0)) alike
  puts_falls line r (Err e) = tt

  print_falls : (line r : ℕ) (bytes : List ℕ) (refused : Option Refusal) → LeavesLess core s (print line r bytes refused s)
  print_falls line r bytes None = omega arith
  print_falls line r bytes (Some e) = tt

  lib_falls : (line : ℕ) (name : LibName) (r : Option ℕ) (values : List Value) → LeavesLess core s (call_lib line name r values s)
  lib_falls line lib.Exit r values = tt
  lib_falls line lib.Abort r values = tt
  lib_falls line lib.Memcpy r values = filled_falls line r _ _
  lib_falls line lib.Memmove r values = filled_falls line r _ _
  lib_falls line lib.Memset r values = filled_falls line r _ _
  lib_falls line lib.Strlen r values = answers_falls line r _
  lib_falls line lib.Strcmp r values = answers_falls line r _
  lib_falls line lib.Getchar r values = get_falls r s.input
  lib_falls line lib.Putchar r values = write_less s r (number (pos (byte_in (number_at values 0)))) alike
  lib_falls line lib.Puts r values = puts_falls line r _

  back_in_falls : (answer : Value) (waiting : List Frame) (objects : List Object) → waiting ≡ s.waiting → LeavesLess core s (go_back core answer waiting (with_objects s objects))
  back_in_falls answer [] objects e = tt
  back_in_falls answer (caller ∷ rest) objects e =
      omega (arith, code_resumed core answer caller, ap (sum_by (code_left core)) e, sum_by-cons (code_left core) caller rest)

  end_falls : (line : ℕ) (answer : Value) (held : Option ℕ) → LeavesLess core s (end_locals core line answer held s)
  end_falls line answer None = back_in_falls answer s.waiting (ended s.objects (running_locals core s)) refl
  end_falls line answer (Some birth) = tt

  act_falls : (fits : ℕ → Bool) (line : ℕ) (kind : StmKind) → IsForward s.running.point kind → LeavesLess core s (act core fits line kind s)
  act_falls fits line (stm.Bin op k r a b) h = answers_falls line (Some r) _
  act_falls fits line (stm.Add r p a n) h = answers_falls line (Some r) _
  act_falls fits line (stm.Sub r p a n) h = answers_falls line (Some r) _
  act_falls fits line (stm.Off r p c) h = answers_falls line (Some r) _
  act_falls fits line (stm.Diff r p q n) h = answers_falls line (Some r) _
  act_falls fits line (stm.Pcmp op r p q) h = answers_falls line (Some r) _
  act_falls fits line (stm.Load k r p) h = answers_falls line (Some r) _
  act_falls fits line (stm.Loadp r p) h = answers_falls line (Some r) _
  act_falls fits line (stm.Store k p a) h = changes_falls line _
  act_falls fits line (stm.Storep p q) h = changes_falls line _
  act_falls fits line (stm.Copy p q n) h = changes_falls line _
  act_falls fits line (stm.Clear p n) h = changes_falls line _
  act_falls fits line (stm.Jump l) h = omega (arith, h)
  act_falls fits line (stm.Zero a l) h = branch_falls _ l h
  act_falls fits line (stm.Case a v l) h = branch_falls _ l h
  act_falls fits line (stm.Loop l) h = step_falls s.steps _ refl (λ m e. back_falls m l e)
  act_falls fits line (stm.Call f r args) h = step_falls s.steps _ refl (λ m e. call_falls line f (values_of s args) m e)
  act_falls fits line (stm.Malloc r n element) h = made_falls _ line r (size_in (number_of s n)) element
  act_falls fits line (stm.Calloc r m n element) h = made_falls _ line r (size_in (number_of s m) * size_in (number_of s n)) element
  act_falls fits line (stm.Realloc r p n element) h = grow_falls fits line r _ _ element
  act_falls fits line (stm.Free p) h = free_falls line _
  act_falls fits line (stm.Lib name r args) h = lib_falls line name r _
  act_falls fits line (stm.Printf r k args) h = print_falls line r _ _
  act_falls fits line stm.Leave h = leave_falls s.scopes
  act_falls fits line (stm.Return a) h =
      let answer = returned s a in
      let locals = running_locals core s in end_falls line answer (first_held (escapes core answer s locals) locals)
  act_falls fits line kind h = omega arith

  checked_falls : (b : Bool) (fits : ℕ → Bool) (stm : Stm) → IsForward s.running.point stm.kind → LeavesLess core s (unless_reads_stale b core fits stm s)
  checked_falls true fits stm h = tt
  checked_falls false fits stm h = act_falls fits stm.line stm.kind h

-- each statement of a core goes forward, but for the loops
abbrev pub AllForward : Core → Type 0
AllForward core =
    (f : ℕ) (func : Func) → slice_get core.funcs f ≡ Some func → (point : ℕ) (stm : Stm) → slice_get func.body point ≡ Some stm → IsForward point stm.kind

forward_in : (core : Core) → AllForward core → (f point : ℕ) (o : Option Func) (stm : Stm) → slice_get core.funcs f ≡ o → statement_in o point ≡ Some stm → IsForward point stm.kind
forward_in core all f point None stm e h = absurd (cc)
forward_in core all f point (Some func) stm e h = all f func e point stm h

module _ (core : Core) (all : AllForward core) where
  at_falls : (fits : ℕ → Bool) (s : State) (o : Option Stm) → statement_at core s.running ≡ o → LeavesLess core s (act_at core fits o s)
  at_falls fits s None h = tt
  at_falls fits s (Some stm) h =
      checked_falls core s (within (slice_get core.funcs s.running.func) s.running.point stm h) _ fits stm (forward_in core all s.running.func s.running.point (slice_get core.funcs s.running.func) stm refl h)

  pub step_by_falls : (fits : ℕ → Bool) (s : State) → LeavesLess core s (step_by core fits s)
  step_by_falls fits s = at_falls fits s (statement_at core s.running) refl

  pub step_falls_at : (heap : ℕ) (trace : List Event) (s : State) → LeavesLess core s (step core heap trace s)
  step_falls_at heap trace s = step_by_falls (has_place heap trace) s

  -- what is left of a run that has not ended
  abbrev Left : ℕ → ℕ → Option Ending → State → Type 0
  Left total k (Some e) s = Unit {0}
  Left total k None s = enough core s + k ≤ total

  left_next : (total k : ℕ) (trace : List Event) (s : State) (n : Next) → enough core s + k ≤ total → LeavesLess core s n → Left total (suc k) (runs.led trace n).ended (runs.led trace n).state
  left_next total k trace s (runs.Goes before events t) h f = omega arith
  left_next total k trace s (runs.Stops before events after e) h f = tt

  left_moved : (heap total k : ℕ) (r : Run) (o : Option Ending) → r.ended ≡ o → Left total k o r.state → Left total (suc k) (runs.moved (step core heap) r o).ended (runs.moved (step core heap) r o).state
  left_moved heap total k r (Some e) i h = subst (λ (o : Option Ending). Left total (suc k) o r.state) (sym i) tt
  left_moved heap total k r None i h =
      left_next total k r.trace r.state (step core heap r.trace r.state) h (step_falls_at heap r.trace r.state)

  left_first : (r : Run) (o : Option Ending) → r.ended ≡ o → Left (enough core r.state) 0 r.ended r.state
  left_first r (Some e) h = subst (λ (o : Option Ending). Left (enough core r.state) 0 o r.state) (sym h) tt
  left_first r None h = subst (λ (o : Option Ending). Left (enough core r.state) 0 o r.state) (sym h) (omega arith)

  left_after : (heap : ℕ) (r : Run) (k : ℕ) → Left (enough core r.state) k (runs.after (step core heap) r k).ended (runs.after (step core heap) r k).state
  unfolding runs.after
  left_after heap r zero = left_first r r.ended refl
  left_after heap r (suc k) =
      left_moved heap (enough core r.state) k (runs.after (step core heap) r k) (runs.after (step core heap) r k).ended refl (left_after heap r k)

  ends_at : (s : State) (r : Run) (o : Option Ending) → r.ended ≡ o → Left (enough core s) (enough core s) o r.state → (e : Ending) × (r.ended ≡ Some e)
  ends_at s r (Some e) i h = (e, i)
  ends_at s r None i h = absurd (omega arith)

  -- the meaning is a run that has ended
  pub ends : (input : List ℕ) (n heap : ℕ) → (e : Ending) × ((meaning core input n heap).ended ≡ Some e)
  ends input n heap =
      let r = begun core input n in
      ends_at r.state (meaning core input n heap) (meaning core input n heap).ended refl (left_after heap r (enough core r.state))

  -- so each run that has ended is the meaning
  pub meaning_is : (input : List ℕ) (n heap k : ℕ) (e : Ending) → (runs.after (step core heap) (begun core input n) k).ended ≡ Some e → meaning core input n heap ≡ runs.after (step core heap) (begun core input n) k
  meaning_is input n heap k e h =
      let m = ends input n heap in
      one_end (step core heap) (begun core input n) m.0 e (enough core (begun core input n).state) k m.1 h

-- The statements of a sound core go forward, but for the loops.

is_forward : (point : ℕ) (kind : StmKind) → LeadsOn point kind → IsForward point kind
is_forward point (stm.Jump l) h = h 0 0 (omega arith)
is_forward point (stm.Zero a l) h = h 1 0 (omega arith)
is_forward point (stm.Case a v l) h = h 1 0 (omega arith)
is_forward point _ h = tt

pub all_forward : (core : Core) → IsSound core → AllForward core
all_forward core sound f func e point stm h = is_forward point stm.kind ((sound.functions f func e).ahead point stm h)
