use Rattle.std.proofs.Common.{arith, ◌≡◌, ◌-◌, refl}
use Rattle.c_types.proofs.SlotLemmas.{repeat_more, none_repeated}
use Rattle.c_types.proofs.slots.repeat_slots.Goals as goal

pub returns-then-start-end : goal.returns-then-start-end
returns-then-start-end c = none_repeated c.args.slots.now.items c.args.start c.args.size 1 (c.args.count - 1) (omega arith)

pub loop-k-preserved : goal.loop-k-preserved
loop-k-preserved c =
    repeat_more c.args.slots.now.items c.loop-k.slots.items _ _ c.args.start c.len-end.result c.args.size c.loop-k.k
    c.requires.start (omega arith) (omega arith) c.loop-k.invariant refl c.in_ok-copy_slots.ensures

pub returns : goal.returns
returns c =
    let turns : c.loop-k.k - 1 ≡ c.args.count - 1 = omega arith in
    rw (← turns) c.loop-k.invariant
