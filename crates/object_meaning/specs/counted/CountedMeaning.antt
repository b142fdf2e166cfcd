-- What a core means, with a number for each object in place of its holders.
use Rattle.std.specs.Prelude.{ℕ, Bool, true, false, List, [], Option, Some, None}
use Rattle.std.specs.List.{list_any}
use Rattle.hs_base.specs.declared.values.Value.{Value}
use Rattle.hs_base.specs.Freeing.{pointers_inside}
use Rattle.hs_base.specs.Object.{Object}
use Rattle.hs_base.specs.Place.{has_place}
use Rattle.hs_base.specs.State.{State}
use Rattle.hs_base.specs.Trace.{Event, Ending, Dangling}
use Rattle.hs_base.specs.Runs as runs
use Rattle.core_tree.specs.declared.statements.LibName.{LibName}
use Rattle.core_tree.specs.declared.statements.LibName.TheVariants as lib
use Rattle.core_tree.specs.declared.statements.Stm.{Stm}
use Rattle.core_tree.specs.declared.statements.StmKind.{StmKind}
use Rattle.core_tree.specs.declared.statements.StmKind.TheVariants as stm
use Rattle.core_tree.specs.declared.program.Core.{Core}
use Rattle.core_tree.specs.Statements.{operands}
use Rattle.object_meaning.specs.objects.Values.{number_of, pointer_of, pointer_at, size_in, holds_stale}
use Rattle.object_meaning.specs.objects.Making.{static_objects}
use Rattle.object_meaning.specs.objects.Holding.{statement_at}
use Rattle.object_meaning.specs.objects.Meaning as object
use Rattle.object_meaning.specs.objects.Meaning.{values_of, returned, enough}
use Rattle.object_meaning.specs.counted.Pinning.{Pins, pinned}
use Rattle.object_meaning.specs.counted.CountedState.{CountedState, Next, same_numbers, other_numbers}
use Rattle.object_meaning.specs.counted.Counting.{more, birth_in, renumbered}
use Rattle.object_meaning.specs.counted.Checking.{leave}
use Rattle.object_meaning.specs.counted.Freeing.{free, grow}
use Rattle.object_meaning.specs.counted.Returning.{give_back}

-- a run so far
abbrev pub Run : Type 0
Run = runs.Ran CountedState Event Ending

-- the numbers behind a built-in function: of those that write, the object at the first argument changed
abbrev pub behind_lib : LibName → List Value → (ℕ → ℕ) → State → State → ℕ → ℕ
behind_lib lib.Memcpy values numbers before after = renumbered (birth_in (pointer_at values 0)) numbers before after
behind_lib lib.Memmove values numbers before after = renumbered (birth_in (pointer_at values 0)) numbers before after
behind_lib lib.Memset values numbers before after = renumbered (birth_in (pointer_at values 0)) numbers before after
behind_lib name values numbers before after = numbers

-- what a statement of each kind does: what it does in the object meaning, and to the numbers. A store and a copy change one
-- object, a frame that calls waits with its pins, and a free, the end of a scope and a return ask the numbers; with every other
-- kind they stay
abbrev pub act : Core → Pins → (ℕ → Bool) → ℕ → StmKind → (ℕ → ℕ) → State → Next
act core pins fits line (stm.Storep p q) n s =
    other_numbers (renumbered (birth_in (pointer_of s p)) n) n (object.act core fits line (stm.Storep p q) s)
act core pins fits line (stm.Copy p q size) n s =
    other_numbers (renumbered (birth_in (pointer_of s p)) n) n (object.act core fits line (stm.Copy p q size) s)
act core pins fits line (stm.Clear p size) n s =
    other_numbers (renumbered (birth_in (pointer_of s p)) n) n (object.act core fits line (stm.Clear p size) s)
act core pins fits line (stm.Lib name r args) n s =
    other_numbers (behind_lib name (values_of s args) n) n (object.act core fits line (stm.Lib name r args) s)
act core pins fits line (stm.Call f r args) n s =
    other_numbers (λ before _. more n (pinned pins before.running)) n (object.act core fits line (stm.Call f r args) s)
act core pins fits line (stm.Realloc r p size element) n s =
    grow core pins fits line r (pointer_of s p) (size_in (number_of s size)) element n s
act core pins fits line (stm.Free p) n s = free core pins line (pointer_of s p) n s
act core pins fits line stm.Leave n s = leave core pins s.scopes n s
act core pins fits line (stm.Return a) n s = give_back core pins line (returned s a) n s
act core pins fits line kind n s = same_numbers n (object.act core fits line kind s)

-- a statement that reads a pointer to a dead object from a register does nothing else
abbrev pub unless_reads_stale : Bool → Core → Pins → (ℕ → Bool) → Stm → CountedState → Next
unless_reads_stale true core pins fits stm c = runs.Stops c [] c Dangling
unless_reads_stale false core pins fits stm c = act core pins fits stm.line stm.kind c.numbers c.state

-- there is a statement at each point that a run of a sound core comes to
abbrev pub act_at : Core → Pins → (ℕ → Bool) → Option Stm → CountedState → Next
act_at core pins fits None c = runs.Stops c [] c Dangling
act_at core pins fits (Some stm) c =
    unless_reads_stale (list_any (holds_stale c.state.objects) (values_of c.state (operands stm.kind))) core pins fits stm c

-- the statement that the running frame is at; a new object is placed by first fit over the trace so far, in a heap of so many
-- bytes
abbrev pub step : Core → Pins → ℕ → List Event → CountedState → Next
step core pins heap trace c = act_at core pins (has_place heap trace) (statement_at core c.state.running) c

-- Runs

-- the numbers before a run: the pointers inside the statics count
abbrev pub first_numbers : List Object → ℕ → ℕ
first_numbers statics birth = pointers_inside birth statics

-- the first call of main: no frame waits for it
abbrev pub first_call : Core → List ℕ → ℕ → Next
first_call core input n = same_numbers (first_numbers (static_objects core.statics)) (object.first_call core input n)

-- the run once main was called, or where there is no step for that
abbrev pub begun : Core → List ℕ → ℕ → Run
begun core input n = runs.led [] (first_call core input n)

-- the meaning, with so many steps and in a heap of so many bytes: the run after all its statements
abbrev pub meaning : Core → Pins → List ℕ → ℕ → ℕ → Run
meaning core pins input n heap =
    let r = begun core input n in runs.after (step core pins heap) r (enough core r.state.state)
