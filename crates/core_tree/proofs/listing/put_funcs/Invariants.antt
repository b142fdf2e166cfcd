use Rattle.std.proofs.Common.{◌≡◌, ◌++◌, take}
use Rattle.core_tree.specs.Listing.{func_lines}
use Rattle.std.specs.List.{flat_map}
use Rattle.core_tree.proofs.listing.put_funcs.Given as goal

-- what the items so far are written as
abbrev pub invariant-loop-func : goal.invariant-loop-func
invariant-loop-func l = l.text ≡ l.fn.text ++ flat_map (func_lines l.core) (take l.func-index l.core.funcs)
