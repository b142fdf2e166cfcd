-- What a run does that others see, and how it ends.
use Rattle.std.specs.Prelude.{ℕ, List, [], ◌∷◌, Option, Some, None}
use Rattle.hs_base.specs.declared.ends.TrapKind.{TrapKind}
use Rattle.hs_base.specs.declared.ends.Reason.{Reason}
use Rattle.hs_base.specs.declared.ends.Holder.{Holder}
use Rattle.hs_base.specs.declared.ends.End.{End}
use Rattle.hs_base.specs.declared.ends.End.TheVariants as end

-- a byte is written; a byte of input is read, or its end; a heap object is made, or given back; a call begins, or returns
pub data Event : Type 0 where
  Out : (byte : ℕ) → Event
  In : (byte : Option ℕ) → Event
  New : (birth size line : ℕ) → Event
  Gone : (birth : ℕ) → Event
  Enter : (cost line : ℕ) → Event
  Leave : Event

-- how the object meaning ends, Dangling where a pointer to a dead object is read; and how a cut of it ends
pub data Ending : Type 0 where
  Exit : (code : ℕ) → Ending
  Trap : (kind : TrapKind) (line : ℕ) → Ending
  BadFree : (reason : Reason) (line : ℕ) (holder : Option Holder) → Ending
  Escape : (func local line : ℕ) → Ending
  Spent : Ending
  Dangling : Ending
  OutOfStack : (line : ℕ) → Ending

-- the bytes that a trace writes
abbrev pub bytes_out : List Event → List ℕ
bytes_out [] = []
bytes_out (Out byte ∷ events) = byte ∷ bytes_out events
bytes_out (In byte ∷ events) = bytes_out events
bytes_out (New birth size line ∷ events) = bytes_out events
bytes_out (Gone birth ∷ events) = bytes_out events
bytes_out (Enter cost line ∷ events) = bytes_out events
bytes_out (Leave ∷ events) = bytes_out events

-- the bytes of input that a trace takes
abbrev pub bytes_in : List Event → List ℕ
bytes_in [] = []
bytes_in (Out byte ∷ events) = bytes_in events
bytes_in (In (Some byte) ∷ events) = byte ∷ bytes_in events
bytes_in (In None ∷ events) = bytes_in events
bytes_in (New birth size line ∷ events) = bytes_in events
bytes_in (Gone birth ∷ events) = bytes_in events
bytes_in (Enter cost line ∷ events) = bytes_in events
bytes_in (Leave ∷ events) = bytes_in events

-- how the code calls an ending; it has no word for Dangling
abbrev pub end_of : Ending → Option End
end_of (Exit code) = Some (end.Exit code)
end_of (Trap kind line) = Some (end.Trap kind line)
end_of (BadFree reason line holder) = Some (end.BadFree (record { reason = reason; line = line }) holder)
end_of (Escape func local line) = Some (end.Escape func local line)
end_of Spent = Some end.Spent
end_of Dangling = None
end_of (OutOfStack line) = Some (end.OutOfStack line)
