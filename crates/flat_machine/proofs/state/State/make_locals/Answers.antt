use Rattle.std.proofs.Common.{ℕ, List, ◌<◌, length, ◌≡◌, arith, get_or, ap, subst, sym, ◌∙◌}
use Rattle.std.specs.Prelude.{IsSome, slice_get}
use Rattle.adjusters.specs.ObjectSlots.{Element}
use Rattle.flat_machine.specs.Locals.{HasMade}
use Rattle.flat_machine.proofs.Costs.{form_at}
use Rattle.flat_machine.proofs.MadeLocals.{made_none, next_birth, next_made, next_placeable, next_taken}
use Rattle.flat_machine.proofs.state.State.make_locals.Goals as goal

pub loop-k-init : goal.loop-k-init
loop-k-init g c = λ places s h. made_none c.args.code.now c.args.entry.now places s c.args.self.now h c.requires.may

pub size_of-size-requires : goal.size_of-size-requires
size_of-size-requires g c =
    let here = ap (λ (xs : List ℕ). get_or xs c.loop-k.k 0) c.as_slice.ensures in
    subst (λ n. IsSome (slice_get c.args.code.now.layouts n)) (sym here) (c.requires.there c.loop-k.k 0 (omega (arith, c.loop-k-test.true, c.len-k-end.ensures)))

pub new_local-addr-requires-clause-births : goal.new_local-addr-requires-clause-births
new_local-addr-requires-clause-births g c =
    let q = c.requires.standing in
    let layout = ap (λ (xs : List ℕ). get_or xs c.loop-k.k 0) c.as_slice.ensures in
    let less : c.loop-k.k < length c.args.entry.now.mems = omega (arith, c.loop-k-test.true, c.len-k-end.ensures) in
    next_birth c.args.code.now c.args.entry.now q.0 q.1 c.args.self.now q.2 c.requires.may c.loop-k.k less c.loop-k.self (c.loop-k.invariant q.0 q.1 q.2) _ layout c.size_of-size.result c.size_of-size.ensures

pub new_local-addr-requires-clause-taken : goal.new_local-addr-requires-clause-taken
new_local-addr-requires-clause-taken g c =
    let q = c.requires.standing in
    let layout = ap (λ (xs : List ℕ). get_or xs c.loop-k.k 0) c.as_slice.ensures in
    let less : c.loop-k.k < length c.args.entry.now.mems = omega (arith, c.loop-k-test.true, c.len-k-end.ensures) in
    next_taken c.args.code.now c.args.entry.now q.0 q.1 c.args.self.now q.2 c.requires.may c.loop-k.k less c.loop-k.self (c.loop-k.invariant q.0 q.1 q.2) _ layout c.size_of-size.result c.size_of-size.ensures

pub new_local-addr-requires-clause-place : goal.new_local-addr-requires-clause-place
new_local-addr-requires-clause-place g c =
    let q = c.requires.standing in
    let layout = ap (λ (xs : List ℕ). get_or xs c.loop-k.k 0) c.as_slice.ensures in
    let less : c.loop-k.k < length c.args.entry.now.mems = omega (arith, c.loop-k-test.true, c.len-k-end.ensures) in
    next_placeable c.args.code.now c.args.entry.now q.0 q.1 c.args.self.now q.2 c.requires.may c.loop-k.k less c.loop-k.self (c.loop-k.invariant q.0 q.1 q.2) _ layout c.size_of-size.result c.size_of-size.ensures

pub loop-k-preserved : goal.loop-k-preserved
loop-k-preserved g c = λ places s h.
    let n = get_or c.as_slice.result.now c.loop-k.k 0 in
    let layout = ap (λ (xs : List ℕ). get_or xs c.loop-k.k 0) c.as_slice.ensures in
    let less : c.loop-k.k < length c.args.entry.now.mems = omega (arith, c.loop-k-test.true, c.len-k-end.ensures) in
    let mid = c.loop-k.self in
    let made = c.loop-k.invariant places s h in
    let there = subst (λ n. IsSome (slice_get c.args.code.now.layouts n)) (sym layout) (c.requires.there c.loop-k.k 0 less) in
    let form = ap (λ (fs : List Element). slice_get fs n) (made.frame.forms ∙ c.requires.may.forms) ∙ form_at c.args.code.now.layouts n there in
    next_made c.args.code.now c.args.entry.now places s c.args.self.now h c.requires.may c.loop-k.k less mid made n layout c.size_of-size.result c.size_of-size.ensures c.new_local-addr.new.self c.new_local-addr.result c.new_local-addr.ensures.frame c.new_local-addr.ensures.others c.new_local-addr.ensures.place c.new_local-addr.ensures.added c.new_local-addr.ensures.tracks form

pub returns : goal.returns
returns g c = λ places s h.
    let all : c.loop-k.k ≡ length c.args.entry.now.mems = omega (arith, c.loop-k-test.false, c.loop-k.auto.k-end, c.len-k-end.ensures) in
    subst (λ n. HasMade c.args.code.now c.args.entry.now places s n c.args.self.now c.loop-k.self) all (c.loop-k.invariant places s h)
