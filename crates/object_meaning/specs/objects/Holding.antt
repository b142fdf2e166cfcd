-- The holders of an object: the pointers to it that count, read anew.
use Rattle.std.specs.Prelude.{ℕ, Bool, true, false, cond, not, ◌&&◌, ◌||◌, nat_eq, List, [], ◌∷◌, ◌++◌, map, filter, reverse, Option, Some, None, slice_get, slice_index}
use Rattle.std.specs.List.{flat_map, list_any, enumerate_from}
use Rattle.hs_base.specs.declared.ends.Holder.{Holder}
use Rattle.hs_base.specs.declared.ends.Holder.TheVariants as holder
use Rattle.hs_base.specs.Freeing.{is_pointer_to}
use Rattle.hs_base.specs.Object.{Object, Sort, Static, Local, Heap, is_dead}
use Rattle.hs_base.specs.State.{Frame, State}
use Rattle.core_tree.specs.declared.statements.Stm.{Stm}
use Rattle.core_tree.specs.declared.program.Func.{Func}
use Rattle.core_tree.specs.declared.program.Core.{Core}
use Rattle.core_tree.specs.Statements.{written}
use Rattle.object_meaning.specs.objects.Values.{pointer_in}
use Rattle.core_tree.specs.Lives.{is_live}

-- is it one of these births?
abbrev pub is_among : List ℕ → ℕ → Bool
is_among births birth = list_any (λ b. nat_eq b birth) births

-- Pointers inside objects

-- a pointer at an offset of an object
abbrev pub inside : Sort → ℕ → Holder
inside (Static index) offset = holder.Global index offset
inside (Local func index) offset = holder.Memory func index offset
inside (Heap line) offset = holder.Block line offset

-- the pointers to an object inside one object, each at its slot
abbrev pub inside_one : ℕ → Object → List Holder
inside_one birth o =
    map (λ at. inside o.sort (slice_index o.slots at.0)) (filter (λ at. is_pointer_to birth at.1) (enumerate_from 0 o.pointers))

-- those that count: none inside an object that is dead or left out
abbrev pub counted_inside : List ℕ → ℕ → ℕ × Object → List Holder
counted_inside left birth o = cond (is_dead o.1.standing || is_among left o.0) [] (inside_one birth o.1)

-- those of all objects, by birth
abbrev pub inside_objects : List ℕ → ℕ → List Object → List Holder
inside_objects left birth objects = flat_map (counted_inside left birth) (enumerate_from 0 objects)

-- Pointers in registers

-- the statement that a frame is at
abbrev pub statement_in : Option Func → ℕ → Option Stm
statement_in None point = None
statement_in (Some func) point = slice_get func.body point

-- the same by the number of its function
abbrev pub statement_at : Core → Frame → Option Stm
statement_at core frame = statement_in (slice_get core.funcs frame.func) frame.point

-- the register that takes the answer of the call that a frame waits for
abbrev pub answer_register : Option Stm → Option ℕ
answer_register None = None
answer_register (Some stm) = written stm.kind

-- is a register the one that takes the answer?
abbrev pub takes_answer : Option ℕ → ℕ → Bool
takes_answer None r = false
takes_answer (Some answer) r = nat_eq answer r

-- a register that is live after the point that a frame is at
abbrev pub is_live_in : Option Func → ℕ → ℕ → Bool
is_live_in None point r = false
is_live_in (Some func) point r = is_live func.body point r

-- the same by the number of its function
abbrev pub is_live_at : Core → Frame → ℕ → Bool
is_live_at core frame r = is_live_in (slice_get core.funcs frame.func) frame.point r

-- the registers of a frame that pass a test and point to an object, by their numbers
abbrev pub in_registers : (ℕ → Bool) → ℕ → Frame → List Holder
in_registers counts birth frame =
    map (λ at. holder.Register frame.func at.0) (filter (λ at. counts at.0 && is_pointer_to birth (pointer_in at.1)) (enumerate_from 0 frame.regs))

-- those that count in the running frame: where they are live
abbrev pub in_running : Core → ℕ → Frame → List Holder
in_running core birth frame = in_registers (is_live_at core frame) birth frame

-- those that count in a waiting frame: where they are live, and the answer of its call is not to come there
abbrev pub in_waiting : Core → ℕ → Frame → List Holder
in_waiting core birth frame =
    let answer = answer_register (statement_at core frame) in
    in_registers (λ r. is_live_at core frame r && not (takes_answer answer r)) birth frame

-- the waiting frames stand from newest to oldest in a state
abbrev pub in_all_waiting : Core → ℕ → List Frame → List Holder
in_all_waiting core birth waiting = flat_map (in_waiting core birth) (reverse waiting)

-- the holders of an object, without those inside the objects that are left out: first objects by birth, then frames from
-- the oldest to the running one
abbrev pub holders : Core → State → ℕ → List ℕ → List Holder
holders core s birth left =
    inside_objects left birth s.objects ++ in_all_waiting core birth s.waiting ++ in_running core birth s.running

-- is there a holder?
abbrev pub is_some_held : List Holder → Bool
is_some_held [] = false
is_some_held (first ∷ rest) = true

-- the first holder
abbrev pub first_of : List Holder → Option Holder
first_of [] = None
first_of (first ∷ rest) = Some first
