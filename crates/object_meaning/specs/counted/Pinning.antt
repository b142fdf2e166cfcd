-- Pins: the registers that count at a point.
use Rattle.std.specs.Prelude.{◌≡◌, ◌↔◌, ℕ, pos, Bool, false, not, ◌&&◌, nat_eq, List, [], map, filter, Some, slice_get, slice_index_or, IsTrue, Contains}
use Rattle.std.specs.List.{IsDistinct}
use Rattle.std.specs.Option.{option_map_or}
use Rattle.hs_base.specs.declared.values.Pointer.{Pointer}
use Rattle.hs_base.specs.State.{Frame}
use Rattle.core_tree.specs.declared.program.Core.{Core}
use Rattle.core_tree.specs.declared.program.Func.{Func}
use Rattle.core_tree.specs.declared.program.Reg.{Reg as Register}
use Rattle.core_tree.specs.declared.statements.StmKind.{StmKind}
use Rattle.core_tree.specs.declared.statements.StmKind.TheVariants.{Call, Realloc, Free, Leave}
use Rattle.core_tree.specs.Lives.{is_live}
use Rattle.core_tree.specs.Sound.{EachStatement}
use Rattle.object_meaning.specs.objects.Values.{number, pointer_in}
use Rattle.object_meaning.specs.objects.Holding.{takes_answer}
use Rattle.object_meaning.specs.declared.pins.Pin.{Pin}

-- the pins of each function
abbrev pub Pins : Type 0
Pins = List (List Pin)

-- the pinned registers of a point
abbrev pub pins_in : List Pin → ℕ → List ℕ
pins_in pins point = map (λ (pin : Pin). pin.reg) (filter (λ (pin : Pin). nat_eq pin.point point) pins)

-- the same for a point of a function
abbrev pub pins_of : Pins → ℕ → ℕ → List ℕ
pins_of pins f point = pins_in (slice_index_or pins f []) point

-- the pointer in a register of a frame
abbrev pub pointer_of_register : Frame → ℕ → Pointer
pointer_of_register frame r = pointer_in (slice_index_or frame.regs r (number (pos 0)))

-- the pointers that are pinned in a frame, at its point
abbrev pub pinned : Pins → Frame → List Pointer
pinned pins frame = map (pointer_of_register frame) (pins_of pins frame.func frame.point)

-- Exact pins

-- is a register one for pointers?
abbrev pub holds_pointer : Func → ℕ → Bool
holds_pointer func r = option_map_or (λ (reg : Register). reg.pointer) (slice_get func.regs r) false

-- is it one that is live after a point?
abbrev pub holds_on : Func → ℕ → ℕ → Bool
holds_on func point r = holds_pointer func r && is_live func.body point r

-- does a register count at a statement? where an object may be freed, and at a call, whose answer is not there yet
abbrev pub counts_at : Func → ℕ → StmKind → ℕ → Bool
counts_at func point (Call f answer args) r = holds_on func point r && not (takes_answer answer r)
counts_at func point (Realloc q p n t) r = holds_on func point r
counts_at func point (Free p) r = holds_on func point r
counts_at func point Leave r = holds_on func point r
counts_at func point kind r = false

-- the registers that pass a test, each once
pub record AreThose (test : ℕ → Bool) (registers : List ℕ) : Type 0 where
  pub once : IsDistinct nat_eq registers
  pub exact : (r : ℕ) → IsTrue (test r) ↔ Contains registers r

-- the pins of each point are the registers that count there
abbrev pub AreExact : Core → Pins → Type 0
AreExact core pins =
    (f : ℕ) (func : Func) → slice_get core.funcs f ≡ Some func → EachStatement func.body (λ point stm. AreThose (counts_at func point stm.kind) (pins_of pins f point))
