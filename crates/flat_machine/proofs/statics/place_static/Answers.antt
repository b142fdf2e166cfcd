use Rattle.std.proofs.Common.{◌+◌, List, ℕ, ap, refl, subst, sym}
use Rattle.c_types.specs.declared.layouts.Layout.{Layout}
use Rattle.flat_machine.specs.Loading.{HasPlaced}
use Rattle.flat_machine.proofs.Placing.{next_placed, no_none}
use Rattle.flat_machine.proofs.statics.place_static.Goals as goal

pub unreachable-requires-in_default-new_static : goal.unreachable-requires-in_default-new_static
unreachable-requires-in_default-new_static g c =
    no_none c.args.code.now c.requires.formed c.args.objects.now c.requires.room c.args.addrs.now.items c.args.k c.requires.placed c.in-Some.start.now (sym c.in-Some.ensures.item)
    c.layout_of.result.now.size (ap (λ (l : Layout). l.size) c.layout_of.ensures) c.new_static.result c.new_static.ensures.place c.in_default-new_static.is

pub returns-clause-placed : goal.returns-clause-placed
returns-clause-placed g c =
    subst (λ (l : List ℕ). HasPlaced c.args.code.now c.new_static.new.self l (c.args.k + 1)) (sym c.in_ok-push.ensures.items)
    (next_placed c.args.code.now c.requires.formed c.args.objects.now c.requires.room c.args.addrs.now.items c.args.k c.requires.placed c.in-Some.start.now (sym c.in-Some.ensures.item)
    c.layout_of.result.now.size (ap (λ (l : Layout). l.size) c.layout_of.ensures) c.new_static.result c.new_static.ensures.place
    c.in-Some-new_static.addr c.in-Some-new_static.is c.args.k refl c.new_static.new.self c.in-Some-new_static.ensures.added c.in-Some-new_static.ensures.tracks)
