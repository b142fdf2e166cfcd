-- What the code prints of a format.
use Rattle.std.specs.Prelude.{◌≡◌, ◌≢◌, ◌++◌, ℕ, ℤ, List, Option, Some, None, Result, Ok, Err}
use Rattle.hs_base.specs.Access as access
use Rattle.hs_base.specs.Numbers.{wrapped}
use Rattle.c_print.specs.declared.piece.Piece.{Piece}
use Rattle.c_print.specs.declared.piece.Piece.TheVariants.{Plain, Item}
use Rattle.c_print.specs.Print.{item_bytes}
use Rattle.object_meaning.specs.objects.Printing as meant
use Rattle.meaning_state.specs.declared.refusal.Refusal.{Refusal}
use Rattle.meaning_state.specs.declared.refusal.Refusal.TheVariants.{Trapped, ReadsDead, NoMemory}
use Rattle.meaning_state.specs.declared.printing.Printed.{Printed}

-- the bytes of plain text, or of an item with a number that is converted to its kind
abbrev pub piece_text : Piece → ℤ → List ℕ
piece_text (Plain text) n = text
piece_text (Item left zeros width conv kind) n = item_bytes (Item left zeros width conv kind) (wrapped kind n)

-- it prints no string, whose conversion is `s` (115)
abbrev pub PrintsNoString : Piece → Type 0
PrintsNoString (Plain text) = Unit {0}
PrintsNoString (Item left zeros width conv kind) = conv ≢ 115

-- the text of the definition was added to the bytes, or none where it refuses
abbrev pub Adds : List ℕ → Result Unit Refusal → List ℕ → Result (List ℕ) access.Refusal → Type 0
Adds before (Ok u) after meant = (text : List ℕ) × (meant ≡ Ok text) × (after ≡ before ++ text)
Adds before (Err (Trapped kind)) after meant = (meant ≡ Err (access.Trapped kind)) × (after ≡ before)
Adds before (Err ReadsDead) after meant = (meant ≡ Err access.ReadsDead) × (after ≡ before)
Adds before (Err NoMemory) after meant = Unit {0}

-- the rest is not printed for the cause of the definition
abbrev pub IsRefused : Option Refusal → Option access.Refusal → Type 0
IsRefused None meant = meant ≡ None
IsRefused (Some (Trapped kind)) meant = meant ≡ Some (access.Trapped kind)
IsRefused (Some ReadsDead) meant = meant ≡ Some access.ReadsDead
IsRefused (Some NoMemory) meant = ⊥

-- the code prints what the definition does
pub record Prints (code : Printed) (definition : meant.Printed) : Type 0 where
  pub bytes : definition.bytes ≡ code.bytes
  pub refused : IsRefused code.refused definition.refused
