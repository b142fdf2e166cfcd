use Rattle.std.proofs.Common.{◌/◌, ◌∙◌, ℕ, List, length, get_or, sym, ap, subst, arith}
use Rattle.byte_marks.specs.Ends.{IsKnown}
use Rattle.byte_marks.proofs.Ending.{known_there}
use Rattle.byte_marks.proofs.Padded.{mark_there}
use Rattle.byte_marks.proofs.ends.Ends.get.Goals as goal

pub bounds-ends-addr : goal.bounds-ends-addr
bounds-ends-addr c =
    let same = c.as_slice-ends.ensures.value in
    let there = known_there c.self.inside.list.items c.self.inside.count c.args.addr c.self.invariant.0 c.self.invariant.1 (subst (λ (l : List ℕ). IsKnown l c.args.addr) (sym c.self.view_is) c.requires) in
    omega (arith, ap length same)

pub returns : goal.returns
returns c =
    let same = c.as_slice-ends.ensures.value in
    let there = known_there c.self.inside.list.items c.self.inside.count c.args.addr c.self.invariant.0 c.self.invariant.1 (subst (λ (l : List ℕ). IsKnown l c.args.addr) (sym c.self.view_is) c.requires) in
    ap (λ (l : List ℕ). get_or l (c.args.addr / 16) 0) same ∙ sym (mark_there c.self.inside.list.items c.self.inside.count (c.args.addr / 16) there) ∙ ap (λ (l : List ℕ). get_or l (c.args.addr / 16) 0) c.self.view_is
