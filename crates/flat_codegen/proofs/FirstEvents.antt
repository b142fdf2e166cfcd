-- No event of a statement needs room on the stack but its first.
use Rattle.std.proofs.Common.{ℕ, zero, suc, Bool, true, false, List, [], ◌∷◌, ◌++◌, map, Option, Some, None, Result, Ok, Err}
use Rattle.hs_base.specs.declared.ends.Reason.{Reason}
use Rattle.hs_base.specs.declared.values.Pointer.{Pointer}
use Rattle.hs_base.specs.declared.values.Pointer.TheVariants as pointer
use Rattle.hs_base.specs.declared.values.Value.{Value}
use Rattle.hs_base.specs.Access.{Refusal}
use Rattle.hs_base.specs.Freeing.{freed_at, first_held, ended}
use Rattle.hs_base.specs.Object.{Object}
use Rattle.hs_base.specs.Place.{has_place}
use Rattle.hs_base.specs.State.{State, Frame}
use Rattle.hs_base.specs.Trace.{Event, Out, Gone, Enter}
use Rattle.hs_base.specs.Runs as runs
use Rattle.c_types.specs.declared.layouts.Layout.{Layout}
use Rattle.core_tree.specs.declared.program.Core.{Core}
use Rattle.core_tree.specs.declared.statements.LibName.{LibName}
use Rattle.core_tree.specs.declared.statements.LibName.TheVariants as lib
use Rattle.core_tree.specs.declared.statements.Stm.{Stm}
use Rattle.core_tree.specs.declared.statements.StmKind.{StmKind}
use Rattle.core_tree.specs.declared.statements.StmKind.TheVariants as stm
use Rattle.object_meaning.specs.objects.Going.{Next, with_step, with_objects, answers, changes, if_done}
use Rattle.object_meaning.specs.objects.Making.{with_new}
use Rattle.object_meaning.specs.objects.Holding.{statement_at}
use Rattle.object_meaning.specs.objects.Scoping.{is_held, decided, leave, in_scope}
use Rattle.object_meaning.specs.objects.Heap.{birth_of, made, enqueue, free_named, free, grown, grow_old, grow_named, grow}
use Rattle.object_meaning.specs.objects.Printing.{print}
use Rattle.object_meaning.specs.objects.Builtins.{get_byte, put_line, filled, call_lib}
use Rattle.object_meaning.specs.objects.Calls.{go_back, end_locals, escapes, running_locals}
use Rattle.object_meaning.specs.objects.Meaning.{branch, returned, act, unless_reads_stale, act_at, first_call, step}

-- an event that has room behind every trace
abbrev pub NeedsNoRoom : Event → Type 0
NeedsNoRoom (Enter cost line) = ⊥
NeedsNoRoom e = Unit {0}

abbrev pub NeedNoRoom : List Event → Type 0
NeedNoRoom [] = Unit {0}
NeedNoRoom (e ∷ events) = NeedsNoRoom e × NeedNoRoom events

-- none behind the first needs room
abbrev pub OnlyFirst : List Event → Type 0
OnlyFirst [] = Unit {0}
OnlyFirst (e ∷ events) = NeedNoRoom events

abbrev pub FirstNeeds : Next → Type 0
FirstNeeds (runs.Goes b events t) = OnlyFirst events
FirstNeeds (runs.Stops b events t x) = OnlyFirst events

-- Lists of events

only_first : (events : List Event) → NeedNoRoom events → OnlyFirst events
only_first [] h = tt
only_first (e ∷ events) h = h.1

outs : (bytes : List ℕ) → NeedNoRoom (map Out bytes)
outs [] = tt
outs (byte ∷ bytes) = (tt, outs bytes)

gones : (births : List ℕ) → NeedNoRoom (map Gone births)
gones [] = tt
gones (birth ∷ births) = (tt, gones births)

need_append : (events more : List Event) → NeedNoRoom events → NeedNoRoom more → NeedNoRoom (events ++ more)
need_append [] more h i = i
need_append (e ∷ events) more h i = (h.0, need_append events more h.1 i)

first_append : (events more : List Event) → OnlyFirst events → NeedNoRoom more → OnlyFirst (events ++ more)
first_append [] more h i = only_first more i
first_append (e ∷ events) more h i = need_append events more h i

-- Statements

module _ (core : Core) (sizes : ℕ → Bool) (s : State) where
  answers_first : (line : ℕ) (r : Option ℕ) (result : Result Value Refusal) → FirstNeeds (answers line s r result)
  answers_first line r (Ok v) = tt
  answers_first line r (Err e) = tt

  changes_first : (line : ℕ) (result : Result (List Object) Refusal) → FirstNeeds (changes line s result)
  changes_first line (Ok objects) = tt
  changes_first line (Err e) = tt

  branch_first : (b : Bool) (l : ℕ) → FirstNeeds (branch b l s)
  branch_first true l = tt
  branch_first false l = tt

  with_step_first : (n : ℕ) (next : State → Next) → ((m : ℕ) → FirstNeeds (next (record s { steps = m }))) → FirstNeeds (with_step n s next)
  with_step_first zero next h = tt
  with_step_first (suc n) next h = h n

  decided_first : (held : Option ℕ) (before t : State) (events : List Event) → OnlyFirst events → FirstNeeds (decided core held before events t)
  decided_first None before t events h = first_append events (map Gone t.queue) h (gones t.queue)
  decided_first (Some birth) before t events h = h

  leave_first : (n : ℕ) → FirstNeeds (leave core n s)
  leave_first zero = tt
  leave_first (suc zero) = decided_first (first_held (is_held core s) s.queue) s s [] tt
  leave_first (suc (suc n)) = tt

  in_scope_first : (n : ℕ) (before t : State) (events : List Event) → OnlyFirst events → FirstNeeds (in_scope core n before events t)
  in_scope_first zero before t events h =
      let u : State = record t { scopes = 1 } in
      decided_first (first_held (is_held core u) u.queue) before u events h
  in_scope_first (suc n) before t events h = h

  free_named_first : (line : ℕ) (named : Result ℕ Reason) → FirstNeeds (free_named core line named s)
  free_named_first line (Ok birth) = in_scope_first s.scopes s (enqueue line birth s) [] tt
  free_named_first line (Err reason) = tt

  free_first : (line : ℕ) (p : Pointer) → FirstNeeds (free core line p s)
  free_first line pointer.Null = tt
  free_first line (pointer.At birth offset) = free_named_first line (freed_at s.objects birth offset)

  grown_first : (line r n old : ℕ) (t : State) (result : Result (List Object) Refusal) → FirstNeeds (grown core line r n old s t result)
  grown_first line r n old t (Ok objects) = in_scope_first t.scopes s _ (birth_of line n s) tt
  grown_first line r n old t (Err e) = tt

  made_first : (b : Bool) (line r n : ℕ) (element : Layout) → FirstNeeds (made b line r n element s)
  made_first true line r n element = tt
  made_first false line r n element = tt

  grow_old_first : (b : Bool) (line r old n : ℕ) (element : Layout) → FirstNeeds (grow_old b core line r old n element s)
  grow_old_first true line r old n element = grown_first line r n old (with_new line n element s) _
  grow_old_first false line r old n element = tt

  grow_named_first : (line r : ℕ) (named : Result ℕ Reason) (n : ℕ) (element : Layout) → FirstNeeds (grow_named core sizes line r named n element s)
  grow_named_first line r (Ok old) n element = grow_old_first (sizes n) line r old n element
  grow_named_first line r (Err reason) n element = tt

  grow_first : (line r : ℕ) (p : Pointer) (n : ℕ) (element : Layout) → FirstNeeds (grow core sizes line r p n element s)
  grow_first line r pointer.Null n element = made_first (sizes n) line r n element
  grow_first line r (pointer.At birth offset) n element =
      grow_named_first line r (freed_at s.objects birth offset) n element

  get_first : (r : Option ℕ) (input : List ℕ) → FirstNeeds (get_byte r input s)
  get_first r [] = tt
  get_first r (byte ∷ rest) = tt

  filled_first : (line : ℕ) (r : Option ℕ) (p : Pointer) (result : Result (List Object) Refusal) → FirstNeeds (filled line r p result s)
  filled_first line r p (Ok objects) = tt
  filled_first line r p (Err e) = tt

  puts_first : (line : ℕ) (r : Option ℕ) (result : Result (List ℕ) Refusal) → FirstNeeds (if_done line s result (λ text. put_line r text s))
  puts_first line r (Ok text) = only_first (map Out (text ++ 10 ∷ [])) (outs (text ++ 10 ∷ []))
  puts_first line r (Err e) = tt

  print_first : (line r : ℕ) (bytes : List ℕ) (refused : Option Refusal) → FirstNeeds (print line r bytes refused s)
  print_first line r bytes None = only_first (map Out bytes) (outs bytes)
  print_first line r bytes (Some e) = only_first (map Out bytes) (outs bytes)

  lib_first : (line : ℕ) (name : LibName) (r : Option ℕ) (values : List Value) → FirstNeeds (call_lib line name r values s)
  lib_first line lib.Exit r values = tt
  lib_first line lib.Abort r values = tt
  lib_first line lib.Memcpy r values = filled_first line r _ _
  lib_first line lib.Memmove r values = filled_first line r _ _
  lib_first line lib.Memset r values = filled_first line r _ _
  lib_first line lib.Strlen r values = answers_first line r _
  lib_first line lib.Strcmp r values = answers_first line r _
  lib_first line lib.Getchar r values = get_first r s.input
  lib_first line lib.Putchar r values = tt
  lib_first line lib.Puts r values = puts_first line r _

  back_first : (answer : Value) (waiting : List Frame) (objects : List Object) → FirstNeeds (go_back core answer waiting (with_objects s objects))
  back_first answer [] objects = tt
  back_first answer (caller ∷ rest) objects = tt

  end_first : (line : ℕ) (answer : Value) (held : Option ℕ) → FirstNeeds (end_locals core line answer held s)
  end_first line answer None = back_first answer s.waiting (ended s.objects (running_locals core s))
  end_first line answer (Some birth) = tt

  act_first : (line : ℕ) (kind : StmKind) → FirstNeeds (act core sizes line kind s)
  act_first line (stm.Set r a) = tt
  act_first line (stm.Conv k r a) = tt
  act_first line (stm.Un op k r a) = tt
  act_first line (stm.Bin op k r a b) = answers_first line (Some r) _
  act_first line (stm.Cmp op r a b) = tt
  act_first line (stm.Add r p a n) = answers_first line (Some r) _
  act_first line (stm.Sub r p a n) = answers_first line (Some r) _
  act_first line (stm.Off r p c) = answers_first line (Some r) _
  act_first line (stm.Diff r p q n) = answers_first line (Some r) _
  act_first line (stm.Pcmp op r p q) = answers_first line (Some r) _
  act_first line (stm.Test r p) = tt
  act_first line (stm.Load k r p) = answers_first line (Some r) _
  act_first line (stm.Loadp r p) = answers_first line (Some r) _
  act_first line (stm.Store k p a) = changes_first line _
  act_first line (stm.Storep p q) = changes_first line _
  act_first line (stm.Copy p q n) = changes_first line _
  act_first line (stm.Clear p n) = changes_first line _
  act_first line (stm.Jump l) = tt
  act_first line (stm.Zero a l) = branch_first _ l
  act_first line (stm.Case a v l) = branch_first _ l
  act_first line (stm.Loop l) = with_step_first s.steps _ (λ m. tt)
  act_first line (stm.Call f r args) = with_step_first s.steps _ (λ m. tt)
  act_first line (stm.Malloc r n element) = made_first _ line r _ element
  act_first line (stm.Calloc r m n element) = made_first _ line r _ element
  act_first line (stm.Realloc r p n element) = grow_first line r _ _ element
  act_first line (stm.Free p) = free_first line _
  act_first line (stm.Lib name r args) = lib_first line name r _
  act_first line (stm.Printf r k args) = print_first line r _ _
  act_first line stm.Enter = tt
  act_first line stm.Leave = leave_first s.scopes
  act_first line (stm.Return a) =
      let answer = returned s a in
      let locals = running_locals core s in end_first line answer (first_held (escapes core answer s locals) locals)

  checked_first : (b : Bool) (stm : Stm) → FirstNeeds (unless_reads_stale b core sizes stm s)
  checked_first true stm = tt
  checked_first false stm = act_first stm.line stm.kind

  at_first : (o : Option Stm) → FirstNeeds (act_at core sizes o s)
  at_first None = tt
  at_first (Some stm) = checked_first _ stm

pub step_first : (core : Core) (heap : ℕ) (trace : List Event) (s : State) → FirstNeeds (step core heap trace s)
step_first core heap trace s = at_first core (has_place heap trace) s (statement_at core s.running)

pub main_first : (core : Core) (input : List ℕ) (n : ℕ) → FirstNeeds (first_call core input n)
main_first core input zero = tt
main_first core input (suc n) = tt
