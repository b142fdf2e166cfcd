-- Lengths of an item, and the kinds of integers that they give with a conversion (C99 7.19.6.1 paragraphs 7 and 8).
use Rattle.std.specs.Prelude.{◌≡◌, ◌≢◌, ◌∷◌, ◌++◌, ℕ, Bool, cond, List, [], Option, Some, None, nat_eq, codes}
use Rattle.std.specs.List.{list_any}
use Rattle.hs_base.specs.declared.ends.IntKind.{IntKind}
use Rattle.hs_base.specs.declared.ends.IntKind.TheVariants.{I8, U8, I16, U16, I32, U32, I64, U64}
use Rattle.c_print.specs.declared.length.Length.{Length}
use Rattle.c_print.specs.declared.length.Length.TheVariants.{Absent, Hh, H, L, Ll, Z}

-- how a length is written
abbrev pub length_bytes : Length → List ℕ
length_bytes Absent = []
length_bytes Hh = codes "hh"
length_bytes H = codes "h"
length_bytes L = codes "l"
length_bytes Ll = codes "ll"
length_bytes Z = codes "z"

-- the kind of the number of `d` and `i`; they take no `z`
abbrev pub signed_kind : Length → Option IntKind
signed_kind Absent = Some I32
signed_kind Hh = Some I8
signed_kind H = Some I16
signed_kind L = Some I32
signed_kind Ll = Some I64
signed_kind Z = None

-- the kind of the number of `o`, `u`, `x` and `X`
abbrev pub unsigned_kind : Length → Option IntKind
unsigned_kind Absent = Some U32
unsigned_kind Hh = Some U8
unsigned_kind H = Some U16
unsigned_kind L = Some U32
unsigned_kind Ll = Some U64
unsigned_kind Z = Some U32

-- `c` prints a byte and `s` bytes; they take no length
abbrev pub byte_kind : Length → Option IntKind
byte_kind Absent = Some U8
byte_kind _ = None

abbrev pub is_one_of : List ℕ → ℕ → Bool
is_one_of bytes b = list_any (λ c. nat_eq c b) bytes

-- the kind of a conversion with a length, where they go together
abbrev pub kind_of : Length → ℕ → Option IntKind
kind_of length conv =
    cond (is_one_of (codes "di") conv) (signed_kind length) (cond (is_one_of (codes "ouxX") conv) (unsigned_kind length) (cond (is_one_of (codes "cs") conv) (byte_kind length) None))

-- a conversion has this kind with one of its lengths
abbrev pub HasKind : ℕ → IntKind → Type 0
HasKind conv kind = (length : Length) × (kind_of length conv ≡ Some kind)

-- every length that a conversion can follow at the front of the bytes is this one, and this stands behind it
abbrev pub IsOnlyLength : List ℕ → Length → List ℕ → Type 0
IsOnlyLength bytes front behind =
    (length : Length) (conv : ℕ) (rest : List ℕ) → kind_of length conv ≢ None →
    bytes ≡ length_bytes length ++ conv ∷ rest → (length ≡ front) × (behind ≡ conv ∷ rest)
