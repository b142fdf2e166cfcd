-- What a core means: its trace, its end and its last state.
use Rattle.std.specs.Prelude.{ℕ, pos, ◌+◌, ◌-◌, ◌*◌, ◌*ℤ◌, neg_ℤ, Bool, true, false, not, List, [], ◌∷◌, map, length, Option, Some, None, slice_get, slice_index_or}
use Rattle.std.specs.List.{sum_by, list_any}
use Rattle.hs_base.specs.declared.values.Pointer.{Pointer}
use Rattle.hs_base.specs.declared.values.Pointer.TheVariants as pointer
use Rattle.hs_base.specs.declared.values.Value.{Value}
use Rattle.hs_base.specs.Access.{set_bytes}
use Rattle.hs_base.specs.Numbers.{wrapped}
use Rattle.hs_base.specs.Place.{has_place}
use Rattle.hs_base.specs.State.{Frame, State}
use Rattle.hs_base.specs.Trace.{Event, Enter, Ending, Dangling}
use Rattle.hs_base.specs.Runs as runs
use Rattle.c_print.specs.Pieces.{pieces_of}
use Rattle.core_tree.specs.declared.statements.Atom.{Atom}
use Rattle.core_tree.specs.declared.statements.CmpOp.TheVariants as cmp
use Rattle.core_tree.specs.declared.statements.Stm.{Stm}
use Rattle.core_tree.specs.declared.statements.StmKind.{StmKind}
use Rattle.core_tree.specs.declared.statements.StmKind.TheVariants as stm
use Rattle.core_tree.specs.declared.program.Func.{Func}
use Rattle.core_tree.specs.declared.program.Core.{Core}
use Rattle.core_tree.specs.Statements.{operands}
use Rattle.core_tree.specs.Sound.{main_of}
use Rattle.object_meaning.specs.objects.Values.{number, value_of, number_of, pointer_of, size_in, bytes_in, holds_stale}
use Rattle.object_meaning.specs.objects.Going.{Next, goes, stops, at_point, onward, write, with_step, answers, changes}
use Rattle.object_meaning.specs.objects.Arithmetic.{on_one, on_two, truth, is_zero, compared, moved_by, difference, pointers_compared}
use Rattle.object_meaning.specs.objects.Memory.{loaded, loaded_pointer, stored, stored_pointer, copied}
use Rattle.object_meaning.specs.objects.Making.{static_objects}
use Rattle.object_meaning.specs.objects.Holding.{statement_at}
use Rattle.object_meaning.specs.objects.Scoping.{enter, leave}
use Rattle.object_meaning.specs.objects.Heap.{make, grow, free}
use Rattle.object_meaning.specs.objects.Printing.{printed, print}
use Rattle.object_meaning.specs.objects.Builtins.{call_lib}
use Rattle.object_meaning.specs.objects.Calls.{call, give_back, new_frame, with_locals, cost_of}

-- a run so far
abbrev pub Run : Type 0
Run = runs.Ran State Event Ending

-- to a point where a test holds, and else on
abbrev pub branch : Bool → ℕ → State → Next
branch true l s = goes s [] (at_point s l)
branch false l s = goes s [] (onward s)

-- is it the null pointer?
abbrev pub is_null : Pointer → Bool
is_null pointer.Null = true
is_null (pointer.At birth offset) = false

-- the values of operands
abbrev pub values_of : State → List Atom → List Value
values_of s atoms = map (value_of s.running) atoms

-- the answer of a return; where it has none no register of a sound core takes it
abbrev pub returned : State → Option Atom → Value
returned s None = number (pos 0)
returned s (Some a) = value_of s.running a

-- a format of the function that a frame is in
abbrev pub format_in : Option Func → ℕ → List ℕ
format_in None k = []
format_in (Some func) k = slice_index_or func.formats k []

-- the pieces of a format are written with their arguments
abbrev pub print_format : ℕ → ℕ → List ℕ → List Value → State → Next
print_format line r format values s =
    let text = printed s.objects (pieces_of format) values in print line r text.bytes text.refused s

-- what a statement of each kind does; a test of sizes says which new objects have a place
abbrev pub act : Core → (ℕ → Bool) → ℕ → StmKind → State → Next
act core fits line (stm.Set r a) s = goes s [] (write s (Some r) (value_of s.running a))
act core fits line (stm.Conv k r a) s = goes s [] (write s (Some r) (number (wrapped k (number_of s a))))
act core fits line (stm.Un op k r a) s = goes s [] (write s (Some r) (number (on_one op k (number_of s a))))
act core fits line (stm.Bin op k r a b) s = answers line s (Some r) (on_two op k (number_of s a) (number_of s b))
act core fits line (stm.Cmp op r a b) s = goes s [] (write s (Some r) (truth (compared op (number_of s a) (number_of s b))))
act core fits line (stm.Add r p a size) s =
    answers line s (Some r) (moved_by s.objects (pointer_of s p) (number_of s a *ℤ size))
act core fits line (stm.Sub r p a size) s =
    answers line s (Some r) (moved_by s.objects (pointer_of s p) (neg_ℤ (number_of s a *ℤ size)))
act core fits line (stm.Off r p distance) s = answers line s (Some r) (moved_by s.objects (pointer_of s p) distance)
act core fits line (stm.Diff r p q size) s = answers line s (Some r) (difference (pointer_of s p) (pointer_of s q) size)
act core fits line (stm.Pcmp op r p q) s = answers line s (Some r) (pointers_compared op (pointer_of s p) (pointer_of s q))
act core fits line (stm.Test r p) s = goes s [] (write s (Some r) (truth (not (is_null (pointer_of s p)))))
act core fits line (stm.Load k r p) s = answers line s (Some r) (loaded s.objects k (pointer_of s p))
act core fits line (stm.Loadp r p) s = answers line s (Some r) (loaded_pointer s.objects (pointer_of s p))
act core fits line (stm.Store k p a) s = changes line s (stored s.objects k (pointer_of s p) (number_of s a))
act core fits line (stm.Storep p q) s = changes line s (stored_pointer s.objects (pointer_of s p) (pointer_of s q))
act core fits line (stm.Copy p q n) s = changes line s (copied s.objects (pointer_of s p) (pointer_of s q) (bytes_in n))
act core fits line (stm.Clear p n) s = changes line s (set_bytes s.objects (pointer_of s p) 0 (bytes_in n))
act core fits line (stm.Jump l) s = goes s [] (at_point s l)
act core fits line (stm.Zero a l) s = branch (is_zero (number_of s a)) l s
act core fits line (stm.Case a v l) s = branch (compared cmp.Eq (number_of s a) v) l s
act core fits line (stm.Loop l) s = with_step s.steps s (λ t. goes t [] (at_point t l))
act core fits line (stm.Call f r args) s = with_step s.steps s (call core line f (values_of s args))
act core fits line (stm.Malloc r n element) s = make fits line r (size_in (number_of s n)) element s
act core fits line (stm.Calloc r m n element) s = make fits line r (size_in (number_of s m) * size_in (number_of s n)) element s
act core fits line (stm.Realloc r p n element) s = grow core fits line r (pointer_of s p) (size_in (number_of s n)) element s
act core fits line (stm.Free p) s = free core line (pointer_of s p) s
act core fits line (stm.Lib name r args) s = call_lib line name r (values_of s args) s
act core fits line (stm.Printf r k args) s =
    print_format line r (format_in (slice_get core.funcs s.running.func) k) (values_of s args) s
act core fits line stm.Enter s = enter s
act core fits line stm.Leave s = leave core s.scopes s
act core fits line (stm.Return a) s = give_back core line (returned s a) s

-- a statement that reads a pointer to a dead object from a register does nothing else
abbrev pub unless_reads_stale : Bool → Core → (ℕ → Bool) → Stm → State → Next
unless_reads_stale true core fits stm s = stops s Dangling
unless_reads_stale false core fits stm s = act core fits stm.line stm.kind s

-- there is a statement at each point that a run of a sound core comes to
abbrev pub act_at : Core → (ℕ → Bool) → Option Stm → State → Next
act_at core fits None s = stops s Dangling
act_at core fits (Some stm) s =
    unless_reads_stale (list_any (holds_stale s.objects) (values_of s (operands stm.kind))) core fits stm s

-- the statement that the running frame is at, by a test of which sizes have a place
abbrev pub step_by : Core → (ℕ → Bool) → State → Next
step_by core fits s = act_at core fits (statement_at core s.running) s

-- the same by first fit over the trace so far, in a heap of so many bytes
abbrev pub step : Core → ℕ → List Event → State → Next
step core heap trace s = step_by core (has_place heap trace) s

-- Runs

-- before the first call of main: the statics are there, and main's memory locals are not
abbrev pub start : Core → List ℕ → ℕ → State
start core input n =
    let statics = static_objects core.statics in
    record { objects = statics; running = new_frame core (main_of core) [] (length statics); waiting = []; queue = []; scopes = 0; input = input; steps = n }

-- the line of the definition of a function that may not be there
abbrev pub line_of : Option Func → ℕ
line_of None = 0
line_of (Some func) = func.line

-- the first call of main takes a step, and has the line of main's definition
abbrev pub first_call : Core → List ℕ → ℕ → Next
first_call core input n =
    let main = slice_get core.funcs (main_of core) in
    with_step n (start core input n) (λ t. goes t (Enter (cost_of main) (line_of main) ∷ []) (with_locals core t))

-- the run once main was called, or where there is no step for that
abbrev pub begun : Core → List ℕ → ℕ → Run
begun core input n = runs.led [] (first_call core input n)

-- how many statements a function has
abbrev pub body_length : Option Func → ℕ
body_length None = 0
body_length (Some func) = length func.body

-- the statements from a frame's point on
abbrev pub code_left : Core → Frame → ℕ
code_left core frame = body_length (slice_get core.funcs frame.func) - frame.point

-- more than the statements of any function
abbrev pub size : Core → ℕ
size core = sum_by (λ (func : Func). length func.body) core.funcs + 1

-- no run makes as many statements as this: each step is worth the longest body, and each frame has its code left
abbrev pub enough : Core → State → ℕ
enough core s = s.steps * size core + code_left core s.running + sum_by (code_left core) s.waiting + 1

-- the meaning, with so many steps and in a heap of so many bytes: the run after all its statements
abbrev pub meaning : Core → List ℕ → ℕ → ℕ → Run
meaning core input n heap = let r = begun core input n in runs.after (step core heap) r (enough core r.state)
