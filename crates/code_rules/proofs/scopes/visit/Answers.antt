use Rattle.std.proofs.Common.{◌+◌, Some, None, cond, length, sym, arith}
use Rattle.code_rules.proofs.Depths.{next_inside, puts_long, target_if, target_inside, visited}
use Rattle.code_rules.proofs.scopes.visit.Goals as goal

pub put_next-on-requires : goal.put_next-on-requires
put_next-on-requires c =
    next_inside c.args.code.now c.args.function c.args.entry.now c.args.place c.in-Some-get.instr.now c.edges-edges.result c.args.depths.now
    c.requires.inside c.requires.length c.requires.place (sym c.in-Some-get.ensures.item) (c.edges-edges.ensures _)

pub put_target-requires : goal.put_target-requires
put_target-requires c =
    let long = puts_long c.args.depths.now (cond c.edges-edges.result.next (Some (c.args.place + 1)) None) c.scopes_after-after.result c.put_next-on.new.depths c.put_next-on.result c.put_next-on.ensures in
    target_if c.args.entry.now.first (length c.put_next-on.new.depths) c.edges-edges.result.target
    (λ next there.
    let t = target_inside c.args.code.now c.args.function c.args.entry.now c.args.place c.in-Some-get.instr.now c.edges-edges.result c.args.depths.now
    c.requires.inside c.requires.length c.requires.place (sym c.in-Some-get.ensures.item) (c.edges-edges.ensures _) next there in
    (t.0, let q = t.1 in omega arith))

pub returns : goal.returns
returns c =
    visited c.args.code.now c.args.function c.args.entry.now c.args.place c.in-Some.scopes c.scopes_after-after.result c.in-Some-get.instr.now c.edges-edges.result
    c.args.depths.now c.put_next-on.new.depths c.put_target.new.depths c.put_next-on.result c.put_target.result c.join.result
    c.requires.here c.requires.inside c.requires.length c.requires.place c.requires.small c.in-Some.is (sym c.in-Some-get.ensures.item) c.scopes_after-after.ensures
    (c.edges-edges.ensures _) c.put_next-on.ensures c.put_target.ensures c.join.ensures
