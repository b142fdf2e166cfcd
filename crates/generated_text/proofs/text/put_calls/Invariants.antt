use Rattle.std.proofs.Common.{◌≡◌, ◌++◌}
use Rattle.std.specs.List.{flat_map, range_with_len}
use Rattle.generated_text.specs.Text.{call}
use Rattle.generated_text.proofs.text.put_calls.Given as goal

-- what stands for the numbers so far is written
abbrev pub invariant-loop-number : goal.invariant-loop-number
invariant-loop-number l = l.text.items ≡ l.fn.text.items ++ flat_map call (range_with_len 0 l.number)
