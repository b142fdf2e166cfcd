use Rattle.std.proofs.Common.{Some, ap, arith, get_or, length, rules, sym, ◌∙◌}
use Rattle.hs_base.specs.Freeing.{is_pointer_to}
use Rattle.object_meaning.specs.counted.Pinning.{pointer_of_register}
use Rattle.flat_machine.specs.Kept.{call_number}
use Rattle.flat_machine.specs.Words.{address_at, address_in}
use Rattle.flat_machine.proofs.Holders.{find_first, find_none, more_none, pointer_kept, start_kept}
use Rattle.flat_machine.proofs.Yielded.{all_done, one_done, one_inside, one_is, one_more}
use Rattle.flat_machine.proofs.holding.first_register.Goals as goal

pub loop-register-init : goal.loop-register-init
loop-register-init g c = record {
  split = search rules;
  none = λ places all frame birth holds j lt. absurd (omega (arith, lt));
}

pub leads_to-requires-clause-one : goal.leads_to-requires-clause-one
leads_to-requires-clause-one g c =
    let registers = c.args.registers in let done = c.loop-register.yielded in let left = c.loop-register.register-iterator in
    let split = c.loop-register.invariant.split in
    let first = c.in-Some.ensures.steps in
    let call = call_number c.args.calls.now c.args.k in
    let is = one_is registers done left split c.in-Some.register c.next.new.self first in
    let inside = one_inside registers done left split c.in-Some.register c.next.new.self first in
    let addr = c.address_in-addr.ensures ∙ ap address_in c.word_of.ensures ∙ ap (address_at call.words) is in
    let q = c.requires in
    let r = get_or registers (length done) 0 in
    (q.0, q.1, pointer_of_register q.2 r, pointer_kept c.args.objects.now q.0 q.1 q.2 call registers q.3 c.args.start q.4 (length done) inside c.address_in-addr.result addr)

pub leads_to-requires-clause-other : goal.leads_to-requires-clause-other
leads_to-requires-clause-other g c =
    let q = c.requires in
    (q.0, q.1, _, start_kept c.args.objects.now q.0 q.1 q.2 (call_number c.args.calls.now c.args.k) c.args.registers q.3 c.args.start q.4)

pub returns-then-leads_to : goal.returns-then-leads_to
returns-then-leads_to g c = λ places all frame birth holds.
    let registers = c.args.registers in let done = c.loop-register.yielded in let left = c.loop-register.register-iterator in
    let split = c.loop-register.invariant.split in
    let first = c.in-Some.ensures.steps in
    let call = call_number c.args.calls.now c.args.k in
    let is = one_is registers done left split c.in-Some.register c.next.new.self first in
    let inside = one_inside registers done left split c.in-Some.register c.next.new.self first in
    let addr = c.address_in-addr.ensures ∙ ap address_in c.word_of.ensures ∙ ap (address_at call.words) is in
    let p = pointer_of_register frame (get_or registers (length done) 0) in
    let kept = pointer_kept c.args.objects.now places all frame call registers birth c.args.start holds (length done) inside c.address_in-addr.result addr in
    let leads = sym (c.leads_to.ensures places all p birth kept holds.there holds.starts) ∙ c.if-leads_to.true in
    ap Some is ∙ sym (find_first (λ r. is_pointer_to birth (pointer_of_register frame r)) registers (length done) inside (c.loop-register.invariant.none places all frame birth holds) leads)

pub loop-register-preserved : goal.loop-register-preserved
loop-register-preserved g c =
    let registers = c.args.registers in let done = c.loop-register.yielded in let left = c.loop-register.register-iterator in
    let split = c.loop-register.invariant.split in
    let first = c.in-Some.ensures.steps in
    let call = call_number c.args.calls.now c.args.k in
    let is = one_is registers done left split c.in-Some.register c.next.new.self first in
    let inside = one_inside registers done left split c.in-Some.register c.next.new.self first in
    let more = one_more registers done left split c.in-Some.register c.next.new.self first in
    let addr = c.address_in-addr.ensures ∙ ap address_in c.word_of.ensures ∙ ap (address_at call.words) is in
    record {
      split = one_done registers done left split c.in-Some.register c.next.new.self first;
      none = λ places all frame birth holds j lt.
          let p = pointer_of_register frame (get_or registers (length done) 0) in
          let kept = pointer_kept c.args.objects.now places all frame call registers birth c.args.start holds (length done) inside c.address_in-addr.result addr in
          let other = sym (c.leads_to.ensures places all p birth kept holds.there holds.starts) ∙ c.if-leads_to.false in
          more_none (λ r. is_pointer_to birth (pointer_of_register frame r)) registers (length done) (c.loop-register.invariant.none places all frame birth holds) other j (omega (arith, lt, more));
    }

pub returns : goal.returns
returns g c = λ places all frame birth holds.
    let end = all_done c.args.registers c.loop-register.yielded c.loop-register.register-iterator c.loop-register.invariant.split c.in-None.ensures.steps.0 in
    sym (find_none (λ r. is_pointer_to birth (pointer_of_register frame r)) c.args.registers (λ j lt. c.loop-register.invariant.none places all frame birth holds j (omega (arith, lt, ap length end))))
