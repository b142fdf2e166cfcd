-- What is written into the width of an item.
use Rattle.std.specs.Prelude.{◌≡◌, ◌+◌, ℕ, ℤ, Bool, List, length, unsigned_abs}
use Rattle.std.specs.Int.{is_negative}
use Rattle.std.specs.Fmt.{sign_text}
use Rattle.c_print.specs.Filled.{filled}
use Rattle.c_print.specs.Print.{field, numeral}
use Rattle.c_print.specs.declared.print.Field.{Field}
use Rattle.c_print.specs.declared.print.Fills.{Fills}

-- a sign and what follows it
abbrev pub padded : Field → List ℕ → List ℕ → List ℕ
padded f sign text = field f.left f.zeros f.width sign text

-- a number in a base
abbrev pub shown : Field → ℕ → Bool → ℤ → List ℕ
shown f base capital value = padded f (sign_text (is_negative value)) (numeral base capital (unsigned_abs value))

-- a sign and a text of so many bytes together are filled to the width by these spaces and zeros
abbrev pub FillsWidth : Field → ℕ → Fills → Type 0
FillsWidth f len fills =
    (sign text : List ℕ) → length sign + length text ≡ len →
    padded f sign text ≡ filled fills.before fills.zeros fills.after sign text
