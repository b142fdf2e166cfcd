-- Words in a list of bytes.
use Rattle.std.specs.Prelude.{ℕ, List, take, drop}
use Rattle.hs_base.specs.Access.{little_endian, bytes_of, overlaid}

-- n bytes from an address on
unfoldable pub part : List ℕ → ℕ → ℕ → List ℕ
part bytes addr n = take n (drop addr bytes)

-- the number of so many bytes at an address, the lowest first
unfoldable pub word : List ℕ → ℕ → ℕ → ℕ
word bytes addr width = little_endian (part bytes addr width)

-- the bytes with a number of so many bytes written at an address
unfoldable pub put_word : List ℕ → ℕ → ℕ → ℕ → List ℕ
put_word bytes addr width value = overlaid bytes addr (bytes_of width value)
