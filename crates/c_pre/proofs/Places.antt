-- Where the first line of the rest of a text ends.
use Rattle.std.proofs.Common.{◌≡◌, ℕ, ◌+◌, ◌-◌, ◌<◌, ◌≤◌, List, length, take, drop, ap, arith, length-take, length-drop}

pub line_within : (plain whole line : List ℕ) (at : ℕ) → whole ≡ plain → at < length plain → length line ≤ length (take (length whole - at) (drop at whole)) → at + length line ≤ length plain
line_within plain whole line at is within bound =
    omega (arith, ap length is, length-take (length whole - at) (drop at whole), length-drop at whole)

pub line_some : (plain whole line : List ℕ) (at : ℕ) → whole ≡ plain → at < length plain → (0 < length (take (length whole - at) (drop at whole)) → 0 < length line) → 0 < length line
line_some plain whole line at is within some =
    some (omega (arith, ap length is, length-take (length whole - at) (drop at whole), length-drop at whole))
