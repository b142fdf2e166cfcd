use Rattle.std.proofs.Common.{◌<◌, length, sym, ap, arith, ◌∙◌}
use Rattle.std.proofs.lemmas.Result.{IfOk-weaker}
use Rattle.core_tree.specs.declared.statements.Stm.{Stm}
use Rattle.count_insertion.specs.Counting.{is_there}
use Rattle.count_insertion.specs.Inserted.{may_count, registers_at}
use Rattle.count_insertion.proofs.Collecting.{stm_at}
use Rattle.count_insertion.proofs.Listing.{no_registers}
use Rattle.count_insertion.proofs.Runs.{counting_is}
use Rattle.count_insertion.proofs.pinning.registers_at.Goals as goal

pub returns-then-not-may_count : goal.returns-then-not-may_count
returns-then-not-may_count c =
    let func = c.args.func.now in let point = c.args.point in let stm = c.index-as_slice-point.result in
    let inside : point < length c.as_slice.result.now = omega (arith, ap length c.as_slice.ensures, c.requires.point) in
    let there = stm_at func c.as_slice.result.now point stm c.as_slice.ensures inside c.index-as_slice-point.is in
    c.new.ensures ∙ no_registers func point (length func.regs) stm.kind (ap (λ (s : Stm). may_count s.kind) c.index-as_slice-point.is ∙ sym c.may_count.ensures ∙ c.if-not-may_count.true) ∙ sym (ap (registers_at func point) there)

pub returns : goal.returns
returns c =
    let func = c.args.func.now in let point = c.args.point in let stm = c.index-as_slice-point.result in
    let inside : point < length c.as_slice.result.now = omega (arith, ap length c.as_slice.ensures, c.requires.point) in
    let there = stm_at func c.as_slice.result.now point stm c.as_slice.ensures inside c.index-as_slice-point.is in
    let all =
    counting_is c.live_by_paths.ensures func point stm.kind c.answer_of.result c.args.pointers.now c.args.live.now c.in_ok-fit.field-0
    (ap (λ (s : Stm). may_count s.kind) c.index-as_slice-point.is ∙ sym c.may_count.ensures ∙ c.if-not-may_count.false) c.requires.pointers c.requires.live (c.in_ok-fit.ensures ∙ c.len.ensures)
    (λ r. ap (λ (s : Stm). is_there s.kind r) c.index-as_slice-point.is ∙ c.answer_of.ensures r) in
    IfOk-weaker c.common_without.result _ _ (λ registers is. is ∙ all ∙ sym (ap (registers_at func point) there)) c.common_without.ensures
