use Rattle.std.proofs.Common.{◌≡◌, ◌++◌}
use Rattle.live_list.proofs.Growing.{words_below}
use Rattle.live_list.proofs.lines.put_registers.Given as goal

-- the registers so far are written where they are live
abbrev pub invariant-loop-register : goal.invariant-loop-register
invariant-loop-register l = l.text.items ≡ l.fn.text.items ++ words_below l.func.body l.point l.register
