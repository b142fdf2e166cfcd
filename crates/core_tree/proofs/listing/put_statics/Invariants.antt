use Rattle.std.proofs.Common.{◌≡◌, ◌++◌, take}
use Rattle.core_tree.specs.Listing.{numbered, static_line}
use Rattle.core_tree.proofs.listing.put_statics.Given as goal

-- what the items so far are written as
abbrev pub invariant-loop-place : goal.invariant-loop-place
invariant-loop-place l = l.text ≡ l.fn.text ++ numbered static_line 0 (take l.place l.statics)
