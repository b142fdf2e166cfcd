-- Calls, returns and the end of memory locals (C99 6.5.2.2, 6.8.6.4).
use Rattle.std.specs.Prelude.{ℕ, ◌+◌, ◌-◌, Bool, ◌||◌, List, [], ◌∷◌, ◌++◌, map, length, drop, Option, Some, None, slice_get}
use Rattle.std.specs.List.{range_with_len}
use Rattle.hs_base.specs.declared.ends.IntKind.TheVariants.{I32}
use Rattle.hs_base.specs.declared.values.Value.{Value}
use Rattle.hs_base.specs.Cost.{call_cost}
use Rattle.hs_base.specs.Freeing.{first_held, is_pointer_to, ended}
use Rattle.hs_base.specs.Numbers.{low_bits, wrapped}
use Rattle.hs_base.specs.State.{Frame, State}
use Rattle.hs_base.specs.Trace.{Enter, Leave, Exit, Escape}
use Rattle.core_tree.specs.declared.program.Mem.{Mem}
use Rattle.core_tree.specs.declared.program.Reg.{Reg}
use Rattle.core_tree.specs.declared.program.Func.{Func}
use Rattle.core_tree.specs.declared.program.Core.{Core}
use Rattle.object_meaning.specs.objects.Values.{first_value, number_in, pointer_in}
use Rattle.object_meaning.specs.objects.Going.{Next, goes, stops, with_register, with_objects}
use Rattle.object_meaning.specs.objects.Making.{local_objects}
use Rattle.object_meaning.specs.objects.Holding.{statement_at, answer_register, inside_objects, in_all_waiting, is_some_held}

-- Calls

-- the registers of a function that may not be there
abbrev pub registers_of : Option Func → List Reg
registers_of None = []
registers_of (Some func) = func.regs

-- its memory locals
abbrev pub locals_of : Option Func → List Mem
locals_of None = []
locals_of (Some func) = func.mems

-- the frame of a call: the arguments, and the other registers at their first values
abbrev pub new_frame : Core → ℕ → List Value → ℕ → Frame
new_frame core f arguments first_local = record {
  func = f;
  point = 0;
  regs = arguments ++ map first_value (drop (length arguments) (registers_of (slice_get core.funcs f)));
  first_local = first_local;
}

-- what a call costs on the stack
abbrev pub cost_of : Option Func → ℕ
cost_of func = call_cost (length (registers_of func)) (map (λ (m : Mem). m.layout.size) (locals_of func))

-- the memory locals of the running frame are made
abbrev pub with_locals : Core → State → State
with_locals core s =
    let f = s.running.func in with_objects s (s.objects ++ local_objects f (locals_of (slice_get core.funcs f)))

-- a call: its Enter, and then its memory locals; the frame that calls waits at its call
abbrev pub call : Core → ℕ → ℕ → List Value → State → Next
call core line f arguments s =
    let t : State = record s { running = new_frame core f arguments (length s.objects); waiting = s.running ∷ s.waiting } in
    goes s (Enter (cost_of (slice_get core.funcs f)) line ∷ []) (with_locals core t)

-- Returns

-- the births of the running frame's memory locals, in the order of their declarations
abbrev pub running_locals : Core → State → List ℕ
running_locals core s =
    range_with_len s.running.first_local (length (locals_of (slice_get core.funcs s.running.func)))

-- is a pointer to an ending local left: the answer, in an object that does not end, or in a waiting frame?
abbrev pub escapes : Core → Value → State → List ℕ → ℕ → Bool
escapes core answer s locals birth =
    is_pointer_to birth (pointer_in answer) || is_some_held (inside_objects locals birth s.objects ++ in_all_waiting core birth s.waiting)

-- a waiting frame goes on behind its call, with the answer in its register
abbrev pub resumed : Core → Value → Frame → Frame
resumed core answer frame =
    let f = with_register (answer_register (statement_at core frame)) answer frame in record f { point = frame.point + 1 }

-- the newest of the waiting frames runs again; a return from the first call of main ends the run with its answer modulo 256
-- (C99 5.1.2.2.3)
abbrev pub go_back : Core → Value → List Frame → State → Next
go_back core answer [] s = stops s (Exit (low_bits 8 (wrapped I32 (number_in answer))))
go_back core answer (caller ∷ waiting) s =
    goes s (Leave ∷ []) (record s { running = resumed core answer caller; waiting = waiting })

-- the memory locals of the call end, or the first that escapes stops the run
abbrev pub end_locals : Core → ℕ → Value → Option ℕ → State → Next
end_locals core line answer (Some birth) s =
    stops s (Escape s.running.func (birth - s.running.first_local) line)
end_locals core line answer None s =
    go_back core answer s.waiting (with_objects s (ended s.objects (running_locals core s)))

-- a return
abbrev pub give_back : Core → ℕ → Value → State → Next
give_back core line answer s =
    let locals = running_locals core s in end_locals core line answer (first_held (escapes core answer s locals) locals) s
