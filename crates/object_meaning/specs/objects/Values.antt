-- What registers hold, and what operands stand for.
use Rattle.std.specs.Prelude.{ℕ, ◌+◌, ℤ, pos, negsuc, Bool, false, cond, List, slice_index_or}
use Rattle.hs_base.specs.declared.values.Pointer.{Pointer}
use Rattle.hs_base.specs.declared.values.Pointer.TheVariants as pointer
use Rattle.hs_base.specs.declared.values.Value.{Value}
use Rattle.hs_base.specs.declared.values.Value.TheVariants as value
use Rattle.hs_base.specs.Numbers.{low_bits}
use Rattle.hs_base.specs.Object.{Object, is_dead, object_at}
use Rattle.hs_base.specs.State.{Frame, State}
use Rattle.core_tree.specs.declared.program.Reg.{Reg}
use Rattle.core_tree.specs.declared.statements.Atom.{Atom}
use Rattle.core_tree.specs.declared.statements.Atom.TheVariants as atom

-- an integer as a value
abbrev pub number : ℤ → Value
number n = value.Number n

-- a pointer as a value
abbrev pub address : Pointer → Value
address p = value.Pointer p

-- what a register holds at the start of a call
abbrev pub first_value : Reg → Value
first_value r = cond r.pointer (address pointer.Null) (number (pos 0))

-- the start of an object
abbrev pub start_of : ℕ → Pointer
start_of birth = pointer.At birth 0

-- what an operand stands for: statics are the first objects, and the memory locals of a call are born one after another
abbrev pub value_of : Frame → Atom → Value
value_of frame (atom.Reg r) = slice_index_or frame.regs r (number (pos 0))
value_of frame (atom.Int n) = number n
value_of frame atom.Null = address pointer.Null
value_of frame (atom.Static k) = address (start_of k)
value_of frame (atom.Mem k) = address (start_of (frame.first_local + k))

-- an integer; no sound core asks for that of a pointer
abbrev pub number_in : Value → ℤ
number_in (value.Number n) = n
number_in (value.Pointer p) = pos 0

-- a pointer; no sound core asks for that of an integer
abbrev pub pointer_in : Value → Pointer
pointer_in (value.Number n) = pointer.Null
pointer_in (value.Pointer p) = p

-- the integer that an operand stands for
abbrev pub number_of : State → Atom → ℤ
number_of s a = number_in (value_of s.running a)

-- the pointer that an operand stands for
abbrev pub pointer_of : State → Atom → Pointer
pointer_of s a = pointer_in (value_of s.running a)

-- an integer among the arguments of a built-in function; no sound core leaves an argument out
abbrev pub number_at : List Value → ℕ → ℤ
number_at values k = number_in (slice_index_or values k (number (pos 0)))

-- a pointer among them
abbrev pub pointer_at : List Value → ℕ → Pointer
pointer_at values k = pointer_in (slice_index_or values k (number (pos 0)))

-- an integer converted to `size_t`
abbrev pub size_in : ℤ → ℕ
size_in n = low_bits 32 n

-- an integer as a number of bytes; there are none below 0
abbrev pub bytes_in : ℤ → ℕ
bytes_in (pos n) = n
bytes_in (negsuc n) = 0

-- does it point to a dead object?
abbrev pub is_stale : List Object → Pointer → Bool
is_stale objects pointer.Null = false
is_stale objects (pointer.At birth offset) = is_dead (object_at objects birth).standing

-- is it a pointer to a dead object?
abbrev pub holds_stale : List Object → Value → Bool
holds_stale objects v = is_stale objects (pointer_in v)
