-- That the code answers what a definition says.
use Rattle.std.specs.Prelude.{◌≡◌, ℕ, ℤ, List, length, Result, Ok, Err}
use Rattle.hs_base.specs.declared.ends.TrapKind.{TrapKind}
use Rattle.hs_base.specs.declared.values.Pointer.{Pointer}
use Rattle.hs_base.specs.declared.values.Value.{Value}
use Rattle.hs_base.specs.Access.{Refusal, Trapped, Place}
use Rattle.hs_base.specs.Object.{Object}
use Rattle.object_meaning.specs.objects.Values.{number, address}
use Rattle.flat_objects.specs.Memory.{Memory, Range}
use Rattle.flat_objects.specs.Standing.{IsAddressOf}
use Rattle.flat_objects.specs.Keeping.{ForPointer, ForPointers, Keeps, blocks_of}

-- the code traps as the definition does
abbrev pub Traps : {A : Type 0} → TrapKind → Result A Refusal → Type 0
Traps kind meant = meant ≡ Err (Trapped kind)

-- the code answers what the definition does
abbrev pub Answers : {A : Type 0} → Result A TrapKind → Result A Refusal → Type 0
Answers (Ok a) meant = meant ≡ Ok a
Answers (Err kind) meant = Traps kind meant

-- the code answers a number as the definition does
abbrev pub AnswersNumber : Result ℤ TrapKind → Result Value Refusal → Type 0
AnswersNumber (Ok n) meant = meant ≡ Ok (number n)
AnswersNumber (Err kind) meant = Traps kind meant

-- the code answers an address that stands for the pointer of the definition
abbrev pub AnswersAddress : (ℕ → ℕ) → List Object → Result ℕ TrapKind → Result Value Refusal → Type 0
AnswersAddress places objects (Ok addr) meant = (p : Pointer) × (meant ≡ Ok (address p)) × IsAddressOf places objects p addr
AnswersAddress places objects (Err kind) meant = Traps kind meant

-- the code answers the length of the definition's list
abbrev pub AnswersLength : Result ℕ TrapKind → Result (List ℕ) Refusal → Type 0
AnswersLength (Ok n) meant = (bytes : List ℕ) × (meant ≡ Ok bytes) × (n ≡ length bytes)
AnswersLength (Err kind) meant = Traps kind meant

-- the code lets an access through where the definition does
abbrev pub Allows : Result Unit TrapKind → Result Place Refusal → Type 0
Allows (Ok u) meant = (at : Place) × (meant ≡ Ok at)
Allows (Err kind) meant = Traps kind meant

-- a memory keeps other objects than before, as many at the same places and in the same blocks, and each address that stood for a
-- pointer still does
pub record IsChanged (memory : Memory) (places : ℕ → ℕ) (before after : List Object) : Type 0 where
  pub keeps : Keeps memory places after
  pub many : length after ≡ length before
  pub blocks : (any : Memory) (range : Range) → blocks_of any places after range ≡ blocks_of any places before range
  pub stand : (p : Pointer) (addr : ℕ) → IsAddressOf places before p addr → IsAddressOf places after p addr

-- the memory became one that keeps the objects of the definition, or it traps as the definition does and is the same
abbrev pub Changes : (ℕ → ℕ) → List Object → Result Unit TrapKind → Memory → Memory → Result (List Object) Refusal → Type 0
Changes places objects (Ok u) old new meant = (after : List Object) × (meant ≡ Ok after) × IsChanged new places objects after
Changes places objects (Err kind) old new meant = Traps kind meant × (new ≡ old)

-- At addresses: whatever pointers they stand for, in whatever objects the memory keeps

-- the code lets an access at an address through where the definition does
abbrev pub AllowsAt : Memory → ℕ → Result Unit TrapKind → (List Object → Pointer → Result Place Refusal) → Type 0
AllowsAt memory addr result meant = ForPointer memory addr (λ places objects p. Allows result (meant objects p))

-- the code answers at an address the number that the definition does
abbrev pub AnswersNumberAt : Memory → ℕ → Result ℤ TrapKind → (List Object → Pointer → Result Value Refusal) → Type 0
AnswersNumberAt memory addr result meant = ForPointer memory addr (λ places objects p. AnswersNumber result (meant objects p))

-- it answers the address of the pointer that the definition does
abbrev pub AnswersAddressAt : Memory → ℕ → Result ℕ TrapKind → (List Object → Pointer → Result Value Refusal) → Type 0
AnswersAddressAt memory addr result meant =
    ForPointer memory addr (λ places objects p. AnswersAddress places objects result (meant objects p))

-- it answers the length of the list that the definition does
abbrev pub AnswersLengthAt : Memory → ℕ → Result ℕ TrapKind → (List Object → Pointer → Result (List ℕ) Refusal) → Type 0
AnswersLengthAt memory addr result meant = ForPointer memory addr (λ places objects p. AnswersLength result (meant objects p))

-- the code answers of two addresses what the definition does of their pointers
abbrev pub AnswersOfBoth : {A : Type 0} → Memory → ℕ → ℕ → Result A TrapKind → (List Object → Pointer → Pointer → Result A Refusal) → Type 0
AnswersOfBoth memory one other result meant = ForPointers memory one other (λ places objects p q. Answers result (meant objects p q))

-- it answers the number that the definition does
abbrev pub AnswersNumberOfBoth : Memory → ℕ → ℕ → Result ℤ TrapKind → (Pointer → Pointer → Result Value Refusal) → Type 0
AnswersNumberOfBoth memory one other result meant =
    ForPointers memory one other (λ places objects p q. AnswersNumber result (meant p q))

-- the memory became one with the objects of the definition at an address, or it traps as the definition does and is the same
abbrev pub ChangesAt : Memory → Memory → ℕ → Result Unit TrapKind → (List Object → Pointer → Result (List Object) Refusal) → Type 0
ChangesAt old new addr result meant =
    ForPointer old addr (λ places objects p. Changes places objects result old new (meant objects p))

-- the same with a pointer that another address stands for
abbrev pub ChangesWith : Memory → Memory → ℕ → ℕ → Result Unit TrapKind → (List Object → Pointer → Pointer → Result (List Object) Refusal) → Type 0
ChangesWith old new addr other result meant =
    ForPointers old addr other (λ places objects p q. Changes places objects result old new (meant objects p q))
