-- The blocks that are held behind a statement.
use Rattle.std.proofs.Common.{◌≡◌, ℕ, zero, suc, Bool, true, false, List, [], ◌∷◌, ◌++◌, map, Option, Some, None, Result, Ok, Err, refl, sym, ap}
use Rattle.hs_base.specs.PlaceEquations.{blocks_append}
use Rattle.hs_base.specs.declared.values.Pointer.{Pointer}
use Rattle.hs_base.specs.declared.values.Value.{Value}
use Rattle.hs_base.specs.Access.{Refusal}
use Rattle.hs_base.specs.Freeing.{first_held, ended}
use Rattle.hs_base.specs.Object.{Object}
use Rattle.hs_base.specs.Place.{Block, blocks_after}
use Rattle.hs_base.specs.State.{State, Frame}
use Rattle.hs_base.specs.Trace.{Event, Out}
use Rattle.c_print.specs.Pieces.{pieces_of}
use Rattle.core_tree.specs.declared.statements.LibName.{LibName}
use Rattle.core_tree.specs.declared.statements.LibName.TheVariants as lib
use Rattle.core_tree.specs.declared.statements.StmKind.{StmKind}
use Rattle.core_tree.specs.declared.statements.StmKind.TheVariants as stm
use Rattle.core_tree.specs.declared.program.Core.{Core}
use Rattle.object_meaning.specs.objects.Going.{Next, with_step, if_done, answers, changes, with_objects}
use Rattle.object_meaning.specs.objects.Values.{pointer_at}
use Rattle.object_meaning.specs.objects.Strings.{string_at}
use Rattle.object_meaning.specs.objects.Printing.{printed, print}
use Rattle.object_meaning.specs.objects.Builtins.{get_byte, put_line, filled, call_lib}
use Rattle.object_meaning.specs.objects.Calls.{running_locals, escapes, go_back, end_locals}
use Rattle.object_meaning.specs.objects.Meaning.{branch, returned, print_format, act}
use Rattle.meaning_state.specs.Fitting.{Held, held_after}
use Rattle.meaning_run.specs.declared.halt.Halt.{Halt}
use Rattle.meaning_run.specs.Leading.{IsValues, IsMemory, IsJump, events_of, Placed}

-- Blocks behind two lists of events

pub held_append : (held : Held) (a b : List Event) → held_after (held_after held a) b ≡ held_after held (a ++ b)
held_append held a b =
    ap (λ (bs : List Block). let h : Held = record { heap = held.heap; blocks = bs } in h) (sym (blocks_append held.heap held.blocks a b))

-- Statements that make no object and give none back

abbrev pub Quiet : Next → Type 0
Quiet next = (heap : ℕ) (held : List Block) → blocks_after heap held (events_of next) ≡ held

pub placed_quiet : (next : Next) (held : Held) (result : Result Unit Halt) → Quiet next → Placed next held held result
placed_quiet next held (Err h) q = tt
placed_quiet next held (Ok u) q =
    ap (λ (bs : List Block). let h : Held = record { heap = held.heap; blocks = bs } in h) (sym (q held.heap held.blocks))

pub placed_none : (next : Next) (held : Held) (result : Result Unit Halt) → events_of next ≡ [] → Placed next held held result
placed_none next held result e =
    placed_quiet next held result (λ heap blocks. ap (blocks_after heap blocks) e)

quiet_out : (bytes : List ℕ) (heap : ℕ) (held : List Block) → blocks_after heap held (map Out bytes) ≡ held
quiet_out [] heap held = refl
quiet_out (byte ∷ bytes) heap held = quiet_out bytes heap held

quiet_answers : (line : ℕ) (s : State) (r : Option ℕ) (result : Result Value Refusal) → Quiet (answers line s r result)
quiet_answers line s r (Ok v) heap held = refl
quiet_answers line s r (Err e) heap held = refl

quiet_changes : (line : ℕ) (s : State) (result : Result (List Object) Refusal) → Quiet (changes line s result)
quiet_changes line s (Ok objects) heap held = refl
quiet_changes line s (Err e) heap held = refl

quiet_branch : (b : Bool) (l : ℕ) (s : State) → Quiet (branch b l s)
quiet_branch true l s heap held = refl
quiet_branch false l s heap held = refl

quiet_step : (n : ℕ) (s : State) (next : State → Next) → ((t : State) → Quiet (next t)) → Quiet (with_step n s next)
quiet_step zero s next q = λ heap held. refl
quiet_step (suc n) s next q = q (record s { steps = n })

quiet_back : (core : Core) (answer : Value) (waiting : List Frame) (s : State) → Quiet (go_back core answer waiting s)
quiet_back core answer [] s heap held = refl
quiet_back core answer (caller ∷ waiting) s heap held = refl

quiet_end : (core : Core) (line : ℕ) (answer : Value) (o : Option ℕ) (s : State) → Quiet (end_locals core line answer o s)
quiet_end core line answer (Some birth) s = λ heap held. refl
quiet_end core line answer None s =
    quiet_back core answer s.waiting (with_objects s (ended s.objects (running_locals core s)))

pub quiet_values : (core : Core) (fits : ℕ → Bool) (line : ℕ) (kind : StmKind) (s : State) → IsValues kind → Quiet (act core fits line kind s)
quiet_values core fits line (stm.Set r a) s h = λ heap held. refl
quiet_values core fits line (stm.Conv k r a) s h = λ heap held. refl
quiet_values core fits line (stm.Un op k r a) s h = λ heap held. refl
quiet_values core fits line (stm.Bin op k r a b) s h = quiet_answers line s (Some r) _
quiet_values core fits line (stm.Cmp op r a b) s h = λ heap held. refl
quiet_values core fits line (stm.Add r p a n) s h = quiet_answers line s (Some r) _
quiet_values core fits line (stm.Sub r p a n) s h = quiet_answers line s (Some r) _
quiet_values core fits line (stm.Off r p c) s h = quiet_answers line s (Some r) _
quiet_values core fits line (stm.Diff r p q n) s h = quiet_answers line s (Some r) _
quiet_values core fits line (stm.Pcmp op r p q) s h = quiet_answers line s (Some r) _
quiet_values core fits line (stm.Test r p) s h = λ heap held. refl
quiet_values core fits line kind s h = absurd h

pub quiet_memory : (core : Core) (fits : ℕ → Bool) (line : ℕ) (kind : StmKind) (s : State) → IsMemory kind → Quiet (act core fits line kind s)
quiet_memory core fits line (stm.Load k r p) s h = quiet_answers line s (Some r) _
quiet_memory core fits line (stm.Loadp r p) s h = quiet_answers line s (Some r) _
quiet_memory core fits line (stm.Store k p a) s h = quiet_changes line s _
quiet_memory core fits line (stm.Storep p q) s h = quiet_changes line s _
quiet_memory core fits line (stm.Copy p q n) s h = quiet_changes line s _
quiet_memory core fits line (stm.Clear p n) s h = quiet_changes line s _
quiet_memory core fits line kind s h = absurd h

pub quiet_jump : (core : Core) (fits : ℕ → Bool) (line : ℕ) (kind : StmKind) (s : State) → IsJump kind → Quiet (act core fits line kind s)
quiet_jump core fits line (stm.Jump l) s h = λ heap held. refl
quiet_jump core fits line (stm.Zero a l) s h = quiet_branch _ l s
quiet_jump core fits line (stm.Case a v l) s h = quiet_branch _ l s
quiet_jump core fits line (stm.Loop l) s h = quiet_step s.steps s _ (λ t heap held. refl)
quiet_jump core fits line (stm.Call f r args) s h = quiet_step s.steps s _ (λ t heap held. refl)
quiet_jump core fits line (stm.Return a) s h =
    let locals = running_locals core s in
    quiet_end core line (returned s a) (first_held (escapes core (returned s a) s locals) locals) s
quiet_jump core fits line kind s h = absurd h

quiet_filled : (line : ℕ) (r : Option ℕ) (p : Pointer) (done : Result (List Object) Refusal) (s : State) → Quiet (filled line r p done s)
quiet_filled line r p (Ok objects) s heap held = refl
quiet_filled line r p (Err e) s heap held = refl

quiet_get : (r : Option ℕ) (input : List ℕ) (s : State) → Quiet (get_byte r input s)
quiet_get r [] s heap held = refl
quiet_get r (byte ∷ rest) s heap held = refl

quiet_puts : (line : ℕ) (r : Option ℕ) (s : State) (result : Result (List ℕ) Refusal) → Quiet (if_done line s result (λ text. put_line r text s))
quiet_puts line r s (Ok text) = quiet_out (text ++ 10 ∷ [])
quiet_puts line r s (Err e) = λ heap held. refl

pub quiet_lib : (line : ℕ) (name : LibName) (r : Option ℕ) (values : List Value) (s : State) → Quiet (call_lib line name r values s)
quiet_lib line lib.Exit r values s = λ heap held. refl
quiet_lib line lib.Abort r values s = λ heap held. refl
quiet_lib line lib.Memcpy r values s = quiet_filled line r _ _ s
quiet_lib line lib.Memmove r values s = quiet_filled line r _ _ s
quiet_lib line lib.Memset r values s = quiet_filled line r _ _ s
quiet_lib line lib.Strlen r values s = quiet_answers line s r _
quiet_lib line lib.Strcmp r values s = quiet_answers line s r _
quiet_lib line lib.Getchar r values s = quiet_get r s.input s
quiet_lib line lib.Putchar r values s = λ heap held. refl
quiet_lib line lib.Puts r values s = quiet_puts line r s (string_at s.objects (pointer_at values 0))

quiet_print : (line r : ℕ) (bytes : List ℕ) (why : Option Refusal) (s : State) → Quiet (print line r bytes why s)
quiet_print line r bytes None s = quiet_out bytes
quiet_print line r bytes (Some e) s = quiet_out bytes

pub quiet_printf : (line r : ℕ) (format : List ℕ) (values : List Value) (s : State) → Quiet (print_format line r format values s)
quiet_printf line r format values s =
    let text = printed s.objects (pieces_of format) values in quiet_print line r text.bytes text.refused s
