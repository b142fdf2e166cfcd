use Rattle.std.proofs.Common.{◌≡◌, ◌+◌, ◌∙◌, false, sym, ap, length, replicate, rules, arith}
use Rattle.std.specs.Prelude.{slice_index_or}
use Rattle.meaning_state.specs.Living.{found_next}
use Rattle.meaning_state.proofs.Tables.{table, none_yet, next_is, stable, live_at}
use Rattle.meaning_state.proofs.liveness.live_points.Goals as goal

pub loop-init : goal.loop-init
loop-init c =
    let e : c.in_ok-found.found.items ≡ replicate (length c.args.body.now) false = search rules in
    e ∙ none_yet c.args.body.now c.args.r

pub loop-preserved : goal.loop-preserved
loop-preserved c =
    let body = c.args.body.now in
    let r = c.args.r in
    c.in_ok-more.ensures ∙ ap (found_next body r) (c.deref.ensures.value ∙ c.loop.invariant) ∙ next_is body r c.loop.counter

pub returns-then-is_same : goal.returns-then-is_same
returns-then-is_same c = λ point.
    let body = c.args.body.now in
    let r = c.args.r in
    let next : c.in_ok-more.more.items ≡ table body r (c.loop.counter + 1) = c.in_ok-more.ensures ∙ ap (found_next body r) (c.deref.ensures.value ∙ c.loop.invariant) ∙ next_is body r c.loop.counter in
    let same : c.in_ok-more.more.items ≡ c.loop.found.items = sym c.deref-in-loop.ensures.value ∙ c.is_same.ensures c.if-is_same.true ∙ c.deref-in-loop-2.ensures.value in
    let all = stable body r c.loop.counter (omega arith) (sym next ∙ same ∙ c.loop.invariant) in
    ap (λ found. slice_index_or found point false) (c.loop.invariant ∙ all) ∙ live_at body r point

pub returns : goal.returns
returns c = λ point.
    let body = c.args.body.now in
    let r = c.args.r in
    let all : c.loop.counter ≡ length body = omega arith in
    ap (λ found. slice_index_or found point false) (c.loop.invariant ∙ ap (table body r) all) ∙ live_at body r point
