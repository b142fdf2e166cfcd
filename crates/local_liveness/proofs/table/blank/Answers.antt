use Rattle.std.proofs.Common.{◌+◌, List, ℕ, arith, subst, sym}
use Rattle.std.specs.Int.{div_ceil}
use Rattle.std.proofs.lemmas.List.{take_at}
use Rattle.local_liveness.specs.Sweeps.{GivesRoom}
use Rattle.local_liveness.proofs.Blanks.{Blanked, blanked_none, blanked_more, blanked_all}
use Rattle.local_liveness.proofs.table.blank.Goals as goal

pub loop-stm-init : goal.loop-stm-init
loop-stm-init c = blanked_none c.args.body.now (div_ceil c.args.registers 64) c.in_ok-sets.sets.items c.in_ok-sets.ensures

pub loop-stm-preserved : goal.loop-stm-preserved
loop-stm-preserved c =
    let words = div_ceil c.args.registers 64 in
    subst (λ (sets : List (List ℕ)). Blanked c.args.body.now words (c.loop-stm.stm-index + 1) sets) (sym (take_at c.give_room.new.sets _ c.loop-stm.sets.len (omega arith)))
    (blanked_more c.args.body.now words c.loop-stm.stm-index c.loop-stm.sets.items c.give_room.new.sets c.stm-item.result c.edges.result (omega arith) c.stm-item.is c.edges.ensures
    c.loop-stm.invariant
    (subst (λ (sets : List (List ℕ)). GivesRoom c.edges.result.target words sets c.give_room.new.sets) c.deref_mut.ensures.value c.in_ok-give_room.ensures))

pub returns : goal.returns
returns c = blanked_all c.args.body.now (div_ceil c.args.registers 64) c.loop-stm.stm-index c.loop-stm.sets.items (omega arith) c.loop-stm.invariant
