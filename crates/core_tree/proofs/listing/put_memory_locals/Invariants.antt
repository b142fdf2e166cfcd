use Rattle.std.proofs.Common.{◌≡◌, ◌++◌, take}
use Rattle.core_tree.specs.Listing.{numbered, memory_line}
use Rattle.core_tree.proofs.listing.put_memory_locals.Given as goal

-- what the items so far are written as
abbrev pub invariant-loop-place : goal.invariant-loop-place
invariant-loop-place l = l.text ≡ l.fn.text ++ numbered memory_line 0 (take l.place l.mems)
