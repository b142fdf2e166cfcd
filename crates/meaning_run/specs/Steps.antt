-- What the steps of the evaluator lead to, whatever bytes are left of the input.
use Rattle.std.specs.Prelude.{◌≡◌, ◌+◌, ◌++◌, ◌&&◌, not, ℕ, ℤ, pos, Bool, List, length, map, Option, Some, None, Result, Ok, MatchOption, slice_get, slice_index}
use Rattle.hs_base.specs.declared.ends.IntKind.{IntKind}
use Rattle.hs_base.specs.Access.{Refusal, and_then, set_bytes}
use Rattle.hs_base.specs.Freeing.{ended, first_held}
use Rattle.hs_base.specs.State.{State}
use Rattle.hs_base.specs.Object.{Object}
use Rattle.hs_base.specs.Trace.{Event, Out}
use Rattle.hs_base.specs.declared.ends.End.{End}
use Rattle.hs_base.specs.declared.ends.Holder.{Holder}
use Rattle.hs_base.specs.declared.items.NoMemory.{NoMemory}
use Rattle.hs_base.specs.declared.values.Pointer.{Pointer}
use Rattle.hs_base.specs.declared.values.Value.{Value}
use Rattle.c_print.specs.Format.{IsFormat}
use Rattle.c_print.specs.Pieces.{pieces_of}
use Rattle.core_tree.specs.declared.program.Core.{Core}
use Rattle.c_types.specs.declared.layouts.Layout.{Layout}
use Rattle.core_tree.specs.declared.statements.Atom.{Atom}
use Rattle.core_tree.specs.declared.statements.BinOp.{BinOp}
use Rattle.core_tree.specs.declared.statements.CmpOp.{CmpOp}
use Rattle.core_tree.specs.declared.statements.LibName.{LibName}
use Rattle.core_tree.specs.declared.statements.StmKind.{StmKind}
use Rattle.object_meaning.specs.objects.Arithmetic.{difference, moved_by, on_two, pointers_compared}
use Rattle.object_meaning.specs.objects.Builtins.{call_lib, put_line}
use Rattle.object_meaning.specs.objects.Calls.{call, escapes, locals_of, new_frame, running_locals}
use Rattle.object_meaning.specs.objects.Going.{Next, answers, changes, ended_by, goes, if_done, stops_after, with_objects, with_step, write}
use Rattle.object_meaning.specs.objects.Heap.{grow, make}
use Rattle.object_meaning.specs.objects.Holding.{first_of, holders, is_live_in, takes_answer}
use Rattle.object_meaning.specs.objects.Making.{local_objects}
use Rattle.object_meaning.specs.objects.Meaning.{act, format_in, print_format, values_of}
use Rattle.object_meaning.specs.objects.Memory.{copied, stored, stored_pointer}
use Rattle.object_meaning.specs.objects.Printing.{Printed, print}
use Rattle.object_meaning.specs.objects.Scoping.{is_held}
use Rattle.object_meaning.specs.objects.Strings.{order_of, string_at}
use Rattle.object_meaning.specs.objects.Values.{bytes_in, number, number_of, pointer_of, size_in}
use Rattle.meaning_state.specs.declared.printing.Printed.{Printed as CodePrinted}
use Rattle.meaning_state.specs.declared.refusal.Refusal.{Refusal as CodeRefusal}
use Rattle.meaning_state.specs.Fitting.{Held, fits_in, held_after}
use Rattle.meaning_state.specs.Printing.{IsRefused, Prints}
use Rattle.meaning_run.specs.declared.halt.Halt.{Halt}
use Rattle.meaning_run.specs.Leading.{Alone, AlonePlaced, Counted, IsSilent, Moves, Placed, Seen, with_input}
use Rattle.meaning_run.specs.Meant.{Begins, MeanAnswers, MeanCounts}

-- Steps that neither write nor read a byte

-- the step leads to this state, or ends the run
abbrev pub Leads : (State → Next) → State → State → Result Unit Halt → Type 0
Leads step old new result = (left : List ℕ) → Alone left (step (with_input left old)) new result

-- and to these blocks
abbrev pub Places : (State → Next) → State → State → Held → Held → Result Unit Halt → Type 0
Places step old new held held' result =
    (left : List ℕ) → AlonePlaced left (step (with_input left old)) new held held' result

-- blocks alone
abbrev pub Holds : (State → Next) → State → Held → Held → Result Unit Halt → Type 0
Holds step old held held' result = (left : List ℕ) → Placed (step (with_input left old)) held held' result

-- a statement acts in a heap, makes an object, and makes one greater
abbrev pub Acts : Core → ℕ → StmKind → State → State → Held → Held → Result Unit Halt → Type 0
Acts core line kind old new held held' result = Places (act core (fits_in held) line kind) old new held held' result

abbrev pub Makes : ℕ → ℕ → ℕ → Layout → State → State → Held → Held → Result Unit Halt → Type 0
Makes line r size element old new held held' result =
    Places (make (fits_in held) line r size element) old new held held' result

abbrev pub Grows : Core → ℕ → ℕ → Pointer → ℕ → Layout → State → State → Held → Held → Result Unit Halt → Type 0
Grows core line r p size element old new held held' result =
    Places (grow core (fits_in held) line r p size element) old new held held' result

-- the size that an operand of a statement gives
abbrev pub size_of : State → Atom → ℕ
size_of s n = size_in (number_of s n)

-- what operands of a statement give: a pointer moved by a distance, the difference and the comparison of two, an operator on
-- two numbers, and objects in which something was stored, copied or cleared
abbrev pub moved : State → Atom → ℤ → Result Value Refusal
moved s p distance = moved_by s.objects (pointer_of s p) distance

abbrev pub difference_in : State → Atom → Atom → ℤ → Result Value Refusal
difference_in s p q size = difference (pointer_of s p) (pointer_of s q) size

abbrev pub compared_in : State → CmpOp → Atom → Atom → Result Value Refusal
compared_in s op p q = pointers_compared op (pointer_of s p) (pointer_of s q)

abbrev pub worked_in : State → BinOp → IntKind → Atom → Atom → Result Value Refusal
worked_in s op kind a b = on_two op kind (number_of s a) (number_of s b)

abbrev pub stored_in : State → IntKind → Atom → Atom → Result (List Object) Refusal
stored_in s kind p a = stored s.objects kind (pointer_of s p) (number_of s a)

abbrev pub pointer_stored : State → Atom → Atom → Result (List Object) Refusal
pointer_stored s p q = stored_pointer s.objects (pointer_of s p) (pointer_of s q)

abbrev pub copied_in : State → Atom → Atom → ℤ → Result (List Object) Refusal
copied_in s p q n = copied s.objects (pointer_of s p) (pointer_of s q) (bytes_in n)

abbrev pub cleared_in : State → Atom → ℤ → Result (List Object) Refusal
cleared_in s p n = set_bytes s.objects (pointer_of s p) 0 (bytes_in n)

-- the length of a string, and the order of two
abbrev pub length_at : State → Pointer → Result Value Refusal
length_at s p = and_then (string_at s.objects p) (λ text. Ok (number (pos (length text))))

abbrev pub order_at : State → Pointer → Pointer → Result Value Refusal
order_at s p q = and_then (order_of s.objects p q) (λ order. Ok (number order))

-- a statement at a line gives this value of the state to a register, or changes its objects so
abbrev pub Sets : ℕ → ℕ → (State → Result Value Refusal) → State → State → Result Unit Halt → Type 0
Sets line r value old new result = (left : List ℕ) → Alone left (answers line (with_input left old) (Some r) (value old)) new result

abbrev pub Gives : ℕ → Option ℕ → (State → Result Value Refusal) → State → State → Result Unit Halt → Type 0
Gives line r value old new result = (left : List ℕ) → Alone left (answers line (with_input left old) r (value old)) new result

abbrev pub Alters : ℕ → (State → Result (List Object) Refusal) → State → State → Result Unit Halt → Type 0
Alters line objects old new result = (left : List ℕ) → Alone left (changes line (with_input left old) (objects old)) new result

-- a statement does what it does in every program and every heap
abbrev pub ActsAnywhere : ℕ → StmKind → State → State → Result Unit Halt → Type 0
ActsAnywhere line kind old new result =
    (core : Core) (fits : ℕ → Bool) (left : List ℕ) → Alone left (act core fits line kind (with_input left old)) new result

-- a call of a function, and one of a built-in function
abbrev pub calls : Core → ℕ → ℕ → List Value → State → Next
calls core line func values s = with_step s.steps s (call core line func values)

abbrev pub CallsLib : ℕ → LibName → Option ℕ → List Atom → State → State → Result Unit Halt → Type 0
CallsLib line name r args old new result =
    (left : List ℕ) → Alone left (call_lib line name r (values_of old args) (with_input left old)) new result

-- a step behind a state and events that neither write nor read, to these blocks behind those before the events
abbrev pub PlacesBehind : (State → List Event → State → Next) → State → State → Held → Held → Result Unit Halt → Type 0
PlacesBehind step old new held held' result =
    (left : List ℕ) (before : State) (events : List Event) (base : Held) → IsSilent events →
    held ≡ held_after base events → AlonePlaced left (step before events (with_input left old)) new base held' result

abbrev pub PlacesBorn : List Event → (State → Next) → State → State → Held → Held → Result Unit Halt → Type 0
PlacesBorn events step old new held held' result =
    (left : List ℕ) (base : Held) → held ≡ held_after base events →
    AlonePlaced left (step (with_input left old)) new base held' result

-- Steps that write or read bytes

-- the step leads to this state, or ends the run; nothing is said of bytes
abbrev pub MovesBy : (State → Next) → State → State → Result Unit Halt → Type 0
MovesBy step old new result = (left : List ℕ) → Moves (step (with_input left old)) new result

-- so it is for some input
abbrev pub MovesSomehow : (List ℕ → State → Next) → State → State → Result Unit Halt → Type 0
MovesSomehow step old new result = (left : List ℕ) × Moves (step left (with_input left old)) new result

-- what the step writes is taken, behind what was taken before
abbrev pub Writes : {O : Type 0} → (State → Next) → State → State → (O → Option (List ℕ)) → O → O → Result Unit Halt → Type 0
Writes step old new written out out' result =
    (left taken : List ℕ) → written out ≡ Some taken →
    Seen (step (with_input left old)) left taken result new (Some left) (written out')

-- what it reads is lost by the input
abbrev pub Reads : {I : Type 0} → (List ℕ → State → Next) → State → State → (I → Option (List ℕ)) → I → I → Result Unit Halt → Type 0
Reads step old new unread input input' result =
    (left taken : List ℕ) → unread input ≡ Some left →
    Seen (step left (with_input left old)) left taken result new (unread input') (Some taken)

-- both
abbrev pub Tells : {I O : Type 0} → (State → Next) → State → State → (I → Option (List ℕ)) → I → I → (O → Option (List ℕ)) → O → O → Result Unit Halt → Type 0
Tells step old new unread input input' written out out' result =
    (left taken : List ℕ) → unread input ≡ Some left → written out ≡ Some taken →
    Seen (step (with_input left old)) left taken result new (unread input') (written out')

-- the counts of faults rise where the input or the output failed: in a step, and in a whole run
abbrev pub Counts : {I O : Type 0} → Result Unit Halt → (I → ℕ) → I → I → (O → ℕ) → O → O → Type 0
Counts result in_faults input input' out_faults out out' =
    Counted result (in_faults input) (in_faults input') (out_faults out) (out_faults out')

abbrev pub CountsRun : {I O : Type 0} → Result End NoMemory → (I → ℕ) → I → I → (O → ℕ) → O → O → Type 0
CountsRun result in_faults input input' out_faults out out' =
    MeanCounts result (in_faults input) (in_faults input') (out_faults out) (out_faults out')

-- a call of a built-in function
abbrev pub WritesLib : {O : Type 0} → ℕ → LibName → Option ℕ → List Atom → State → State → (O → Option (List ℕ)) → O → O → Result Unit Halt → Type 0
WritesLib line name r args old new written out out' result =
    Writes (call_lib line name r (values_of old args)) old new written out out' result

abbrev pub MovesLib : ℕ → LibName → Option ℕ → List Atom → State → State → Result Unit Halt → Type 0
MovesLib line name r args old new result = MovesBy (call_lib line name r (values_of old args)) old new result

-- what is printed is written and then answered, or the refusal that comes behind it ends the run
abbrev pub puts_bytes : List ℕ → Option ℕ → Value → State → Next
puts_bytes bytes r value s = goes s (map Out bytes) (write s r value)

abbrev pub WritesRefused : {O : Type 0} → List ℕ → ℕ → CodeRefusal → State → (O → Option (List ℕ)) → O → O → Result Unit Halt → Type 0
WritesRefused bytes line refusal now written out out' result =
    (left taken : List ℕ) (e : Refusal) → IsRefused (Some refusal) (Some e) → written out ≡ Some taken →
    Seen (stops_after (with_input left now) (map Out bytes) (with_input left now) (ended_by line e)) left taken result now
    (Some left) (written out')

abbrev pub MovesRefused : List ℕ → ℕ → CodeRefusal → State → Result Unit Halt → Type 0
MovesRefused bytes line refusal now result =
    (left : List ℕ) (e : Refusal) → IsRefused (Some refusal) (Some e) →
    Moves (stops_after (with_input left now) (map Out bytes) (with_input left now) (ended_by line e)) now result

-- a string in an object is put with a line's end
abbrev pub puts_string : ℕ → Option ℕ → Pointer → List Object → State → Next
puts_string line r p objects s = if_done line s (string_at objects p) (λ text. put_line r text s)

-- what the code has made of a format and its arguments is printed
abbrev pub WritesPrinted : {O : Type 0} → ℕ → ℕ → CodePrinted → State → State → (O → Option (List ℕ)) → O → O → Result Unit Halt → Type 0
WritesPrinted line r printed old new written out out' result =
    (left taken : List ℕ) (text : Printed) → Prints printed text → written out ≡ Some taken →
    Seen (print line r text.bytes text.refused (with_input left old)) left taken result new (Some left) (written out')

abbrev pub MovesPrinted : ℕ → ℕ → CodePrinted → State → State → Result Unit Halt → Type 0
MovesPrinted line r printed old new result =
    (left : List ℕ) (text : Printed) → Prints printed text →
    Moves (print line r text.bytes text.refused (with_input left old)) new result

-- the format of that number of the running function
abbrev pub format_of : Core → State → ℕ → List ℕ
format_of core s k = format_in (slice_get core.funcs s.running.func) k

-- a call of printf with this format and these arguments of a state
abbrev pub prints : Core → State → ℕ → ℕ → ℕ → List Atom → State → Next
prints core s line r k args now = print_format line r (format_of core s k) (values_of s args) now

abbrev pub HasFormat : Core → State → ℕ → Type 0
HasFormat core s k = let format = format_of core s k in IsFormat format (pieces_of format)

-- Whole runs

-- what a run from a state does, where its first call of main was made; and what a run from its start does
abbrev pub AnswersFrom : {I O : Type 0} → Core → State → ℕ → (I → Option (List ℕ)) → I → I → (O → Option (List ℕ)) → O → O → Result End NoMemory → Type 0
AnswersFrom core old heap unread input input' written out out' result =
    (left taken : List ℕ) (n : ℕ) → unread input ≡ Some left → written out ≡ Some taken → Begins core left n old →
    MeanAnswers core left n heap taken result (unread input') (written out')

abbrev pub AnswersRun : {I O : Type 0} → Core → ℕ → ℕ → (I → Option (List ℕ)) → I → I → (O → Option (List ℕ)) → O → O → Result End NoMemory → Type 0
AnswersRun core budget heap unread input input' written out out' result =
    (left taken : List ℕ) → unread input ≡ Some left → written out ≡ Some taken →
    MeanAnswers core left budget heap taken result (unread input') (written out')

-- one step of those that are left is taken
abbrev pub TakesStep : State → State → Type 0
TakesStep old new = (new.steps + 1 ≡ old.steps) × (new ≡ record old { steps = new.steps })

-- Holders

-- a register is counted behind a point of a function: it is live there, and does not take the answer of a call
abbrev pub is_counted : Core → ℕ → ℕ → Option ℕ → ℕ → Bool
is_counted core func point answer r = is_live_in (slice_get core.funcs func) point r && not (takes_answer answer r)

-- the first queued object that is held, with its first holder, if there is one
abbrev pub IsFirstHeld : Core → State → Option (ℕ × Holder) → Type 0
IsFirstHeld core s found =
    MatchOption found (first_held (is_held core s) s.queue ≡ None)
    (λ h. (first_held (is_held core s) s.queue ≡ Some h.0) × (first_of (holders core s h.0 s.queue) ≡ Some h.1))

-- the place of the first local that escapes, if there is one
abbrev pub IsFirstEscaping : Core → Value → State → List ℕ → Option ℕ → Type 0
IsFirstEscaping core answer s locals place =
    MatchOption place (first_held (escapes core answer s locals) locals ≡ None)
    (λ k. first_held (escapes core answer s locals) locals ≡ Some (slice_index locals k))

-- the memory locals of a function are made, and those of the running one end
abbrev pub with_objects_of : Core → ℕ → State → State
with_objects_of core func s = record s { objects = s.objects ++ local_objects func (locals_of (slice_get core.funcs func)) }

abbrev pub without_locals : Core → State → State
without_locals core s = with_objects s (ended s.objects (running_locals core s))

-- the registers of a function that is called with these values
abbrev pub new_registers : Core → ℕ → List Value → List Value
new_registers core func values = (new_frame core func values 0).regs
