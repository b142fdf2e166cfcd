use Rattle.std.proofs.Common.{◌++◌, ap, get_or, length, refl, subst, sym, take, arith, rules, ◌∙◌}
use Rattle.hs_base.specs.declared.values.Pointer.TheVariants.{Null}
use Rattle.flat_objects.specs.Counting.{Frees, Tracks}
use Rattle.flat_machine.specs.Words.{address_at, address_in}
use Rattle.flat_machine.proofs.Placing.{frame_none, frame_more}
use Rattle.flat_machine.proofs.Pins.{pins_next, pinned_next, pinned_all}
use Rattle.flat_machine.proofs.Yielded.{all_done, one_done, one_inside, one_is, one_more}
use Rattle.flat_machine.proofs.pinning.pin_registers.Goals as goal

pub loop-register-init : goal.loop-register-init
loop-register-init g c = record {
  split = search rules;
  keeps = λ places all h. h;
  tracks = λ places all frees pointers h. h.tracks;
  frame = frame_none c.args.objects.now;
}

pub pin-requires : goal.pin-requires
pin-requires g c =
    let known = c.loop-register.invariant in
    let registers = c.args.registers in let done = c.loop-register.yielded in let left = c.loop-register.register-iterator in
    let words = c.args.calls.now.running.words in
    let first = c.in-Some.ensures.steps in
    let is = one_is registers done left known.split c.in-Some.register c.next.new.self first in
    let addr = c.address_in.ensures ∙ ap address_in c.word.ensures ∙ ap (address_at words) is in
    let q = c.requires in
    let may = q.4 in
    (q.0, q.1, record q.2 { pins = take (length done) q.3 ++ q.2.pins }, get_or q.3 (length done) Null, pins_next c.args.objects.now c.loop-register.objects q.0 q.1 q.2 words registers q.3 (known.keeps q.0 q.1 may.keeps) known.frame (length done) (one_inside registers done left known.split c.in-Some.register c.next.new.self first) c.address_in.result addr may (known.tracks q.0 q.1 q.2 q.3 may))

pub loop-register-preserved : goal.loop-register-preserved
loop-register-preserved g c =
    let known = c.loop-register.invariant in
    let registers = c.args.registers in let done = c.loop-register.yielded in let left = c.loop-register.register-iterator in
    let words = c.args.calls.now.running.words in
    let first = c.in-Some.ensures.steps in
    let is = one_is registers done left known.split c.in-Some.register c.next.new.self first in
    let inside = one_inside registers done left known.split c.in-Some.register c.next.new.self first in
    let more = one_more registers done left known.split c.in-Some.register c.next.new.self first in
    let addr = c.address_in.ensures ∙ ap address_in c.word.ensures ∙ ap (address_at words) is in
    record {
      split = one_done registers done left known.split c.in-Some.register c.next.new.self first;
      keeps = λ places all h. c.pin.ensures.keeps places all (known.keeps places all h);
      tracks = λ places all frees pointers may.
          let tracks = known.tracks places all frees pointers may in
          let now : Frees = record frees { pins = take (length done) pointers ++ frees.pins } in
          let at = pins_next c.args.objects.now c.loop-register.objects places all frees words registers pointers (known.keeps places all may.keeps) known.frame (length done) inside c.address_in.result addr may tracks in
          subst (λ n. Tracks c.pin.new.self places all (record frees { pins = take n pointers ++ frees.pins })) (sym more)
          (pinned_next c.args.objects.now c.loop-register.objects places all frees words registers pointers (known.keeps places all may.keeps) known.frame (length done) inside c.address_in.result addr may tracks c.pin.new.self (c.pin.ensures.tracks places all now (take (length done) pointers) frees.pins (get_or pointers (length done) Null) at refl));
      frame = frame_more c.args.objects.now c.loop-register.objects c.pin.new.self known.frame c.pin.ensures.frame;
    }

pub returns-clause-tracks : goal.returns-clause-tracks
returns-clause-tracks g c = λ places all frees pointers may.
    let known = c.loop-register.invariant in
    let end = all_done c.args.registers c.loop-register.yielded c.loop-register.register-iterator known.split c.in-None.ensures.steps.0 in
    pinned_all c.args.objects.now c.loop-register.objects places all frees c.args.calls.now.running.words c.args.registers pointers may (length c.loop-register.yielded) (omega (arith, ap length end)) (known.tracks places all frees pointers may)
