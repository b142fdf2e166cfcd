use Rattle.std.proofs.Common.{◌≡◌, ◌++◌, take}
use Rattle.core_tree.specs.Listing.{numbered, statement_line}
use Rattle.core_tree.proofs.listing.put_body.Given as goal

-- what the items so far are written as
abbrev pub invariant-loop-point : goal.invariant-loop-point
invariant-loop-point l = l.text ≡ l.fn.text ++ numbered (statement_line l.core) 0 (take l.point l.body)
