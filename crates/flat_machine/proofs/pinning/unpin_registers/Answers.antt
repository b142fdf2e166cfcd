use Rattle.std.proofs.Common.{◌++◌, [], ap, drop, get_or, length, subst, suc, sym, arith, rules, ◌∙◌}
use Rattle.hs_base.specs.declared.values.Pointer.TheVariants.{Null}
use Rattle.flat_objects.specs.Counting.{Frees, Tracks}
use Rattle.flat_machine.specs.Words.{address_at, address_in}
use Rattle.flat_machine.proofs.Placing.{frame_none, frame_more}
use Rattle.flat_machine.proofs.Pins.{none_unpinned, unpins_next, unpinned_next, unpinned_all}
use Rattle.flat_machine.proofs.Yielded.{all_done, one_done, one_inside, one_is, one_more}
use Rattle.flat_machine.proofs.pinning.unpin_registers.Goals as goal

pub loop-register-init : goal.loop-register-init
loop-register-init g c = record {
  split = search rules;
  keeps = λ places all h. h;
  tracks = λ places all frees pointers others does. none_unpinned c.args.objects.now places all frees c.args.calls.now.running.words c.args.registers pointers others does;
  frame = frame_none c.args.objects.now;
}

pub unpin-requires : goal.unpin-requires
unpin-requires g c =
    let known = c.loop-register.invariant in
    let registers = c.args.registers in let done = c.loop-register.yielded in let left = c.loop-register.register-iterator in
    let words = c.args.calls.now.running.words in
    let first = c.in-Some.ensures.steps in
    let is = one_is registers done left known.split c.in-Some.register c.next.new.self first in
    let inside = one_inside registers done left known.split c.in-Some.register c.next.new.self first in
    let addr = c.address_in.ensures ∙ ap address_in c.word.ensures ∙ ap (address_at words) is in
    let q = c.requires in
    let does = q.5 in
    (q.0, q.1, record q.2 { pins = drop (length done) q.3 ++ q.4 }, [], drop (suc (length done)) q.3 ++ q.4, get_or q.3 (length done) Null, unpins_next c.args.objects.now c.loop-register.objects q.0 q.1 q.2 words registers q.3 (known.keeps q.0 q.1 does.keeps) known.frame (length done) inside c.address_in.result addr q.4 does (known.tracks q.0 q.1 q.2 q.3 q.4 does))

pub loop-register-preserved : goal.loop-register-preserved
loop-register-preserved g c =
    let known = c.loop-register.invariant in
    let registers = c.args.registers in let done = c.loop-register.yielded in let left = c.loop-register.register-iterator in
    let words = c.args.calls.now.running.words in
    let first = c.in-Some.ensures.steps in
    let is = one_is registers done left known.split c.in-Some.register c.next.new.self first in
    let inside = one_inside registers done left known.split c.in-Some.register c.next.new.self first in
    let more = one_more registers done left known.split c.in-Some.register c.next.new.self first in
    let addr = c.address_in.ensures ∙ ap address_in c.word.ensures ∙ ap (address_at words) is in
    record {
      split = one_done registers done left known.split c.in-Some.register c.next.new.self first;
      keeps = λ places all h. c.unpin.ensures.keeps places all (known.keeps places all h);
      tracks = λ places all frees pointers others does.
          let tracks = known.tracks places all frees pointers others does in
          let now : Frees = record frees { pins = drop (length done) pointers ++ others } in
          let at = unpins_next c.args.objects.now c.loop-register.objects places all frees words registers pointers (known.keeps places all does.keeps) known.frame (length done) inside c.address_in.result addr others does tracks in
          subst (λ n. Tracks c.unpin.new.self places all (record frees { pins = drop n pointers ++ others })) (sym more)
          (unpinned_next c.args.objects.now c.loop-register.objects places all frees words registers pointers (known.keeps places all does.keeps) known.frame (length done) inside c.address_in.result addr others does tracks c.unpin.new.self (c.unpin.ensures.tracks places all now [] (drop (suc (length done)) pointers ++ others) (get_or pointers (length done) Null) at));
      frame = frame_more c.args.objects.now c.loop-register.objects c.unpin.new.self known.frame c.unpin.ensures.frame;
    }

pub returns-clause-tracks : goal.returns-clause-tracks
returns-clause-tracks g c = λ places all frees pointers others does.
    let known = c.loop-register.invariant in
    let end = all_done c.args.registers c.loop-register.yielded c.loop-register.register-iterator known.split c.in-None.ensures.steps.0 in
    unpinned_all c.args.objects.now c.loop-register.objects places all frees c.args.calls.now.running.words c.args.registers pointers others does (length c.loop-register.yielded) (omega (arith, ap length end)) (known.tracks places all frees pointers others does)
