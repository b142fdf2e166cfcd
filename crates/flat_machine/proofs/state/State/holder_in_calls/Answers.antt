use Rattle.std.proofs.Common.{arith, ap, sym, ◌∙◌}
use Rattle.object_meaning.specs.objects.Holding.{first_of}
use Rattle.flat_machine.specs.Holding.{in_frame}
use Rattle.flat_machine.proofs.Holders.{found_at, found_last, frame_number, holds_at, none_before}
use Rattle.flat_machine.proofs.state.State.holder_in_calls.Goals as goal

pub loop-k-init : goal.loop-k-init
loop-k-init g c = λ places s birth names j lt. absurd (omega (arith, lt))

pub holder_in-requires : goal.holder_in-requires
holder_in-requires g c =
    let q = c.requires.named in
    let m = c.args.self.now in
    (q.0, q.1.state.objects, frame_number q.0 q.1 q.2 m q.3 c.args.start c.requires.start c.loop-k.k, q.2, holds_at q.0 q.1 q.2 m q.3 c.args.start c.requires.start c.loop-k.k)

pub returns-in-Some : goal.returns-in-Some
returns-in-Some g c = λ places s birth names.
    let m = c.args.self.now in
    let found = c.in-Some.ensures places s.state.objects (frame_number places s birth m names c.args.start c.requires.start c.loop-k.k) birth (holds_at places s birth m names c.args.start c.requires.start c.loop-k.k) in
    found_at places s birth m names c.args.start c.requires.start c.loop-k.k c.in-Some.holder (omega (arith, c.loop-k-test.true, c.waiting-waiting.ensures)) (c.loop-k.invariant places s birth names) (sym found)

pub loop-k-preserved : goal.loop-k-preserved
loop-k-preserved g c = λ places s birth names.
    let m = c.args.self.now in
    let none = c.in_default.ensures places s.state.objects (frame_number places s birth m names c.args.start c.requires.start c.loop-k.k) birth (holds_at places s birth m names c.args.start c.requires.start c.loop-k.k) in
    none_before places s birth m names c.args.start c.requires.start c.loop-k.k (c.loop-k.invariant places s birth names) (sym none)

pub holder_in-requires-2 : goal.holder_in-requires-2
holder_in-requires-2 g c =
    let q = c.requires.named in
    let m = c.args.self.now in
    let k = c.waiting-waiting.result in
    (q.0, q.1.state.objects, frame_number q.0 q.1 q.2 m q.3 c.args.start c.requires.start k, q.2, holds_at q.0 q.1 q.2 m q.3 c.args.start c.requires.start k)

pub returns : goal.returns
returns g c = λ places s birth names.
    let m = c.args.self.now in
    let k = c.waiting-waiting.result in
    let found = c.holder_in-2.ensures places s.state.objects (frame_number places s birth m names c.args.start c.requires.start k) birth (holds_at places s birth m names c.args.start c.requires.start k) in
    found_last places s birth m names c.args.start c.requires.start c.holder_in-2.result (λ j lt. c.loop-k.invariant places s birth names j (omega (arith, lt, c.loop-k-test.false, c.waiting-waiting.ensures))) (found ∙ ap (λ n. first_of (in_frame m.pins birth (frame_number places s birth m names c.args.start c.requires.start n))) c.waiting-waiting.ensures)
