use Rattle.std.proofs.Common.{◌↔◌, IsTrue, sym, subst, Bool}
use Rattle.std.specs.List.{Contains}
use Rattle.std.proofs.lemmas.List.Sorted.{searched}
use Rattle.adjusters.proofs.Repeats.{found_in, not_falling}
use Rattle.adjusters.proofs.is_in.Goals as goal

pub returns : goal.returns
returns c =
    let found =
    found_in c.args.slots.now c.args.offset c.binary_search.result
    (searched c.args.slots.now c.args.offset c.binary_search.result c.binary_search.ensures.position (not_falling c.args.slots.now c.requires)) in
    subst (λ (b : Bool). IsTrue b ↔ Contains c.args.slots.now c.args.offset) (sym c.is_ok.ensures.value) found
