use Rattle.std.proofs.Common.{◌≡◌, ◌+◌, ◌/◌, ◌∙◌, ◌*ℤ◌, ℤ, Ok, pos, sym, ap, subst, arith, rules}
use Rattle.std.proofs.lemmas.Int.{to_z-of_z}
use mir.Syntax.{w128}
use mir.Val.{SFits}
use Rattle.std.specs.Prelude.{slice_index}
use Rattle.byte_marks.specs.Ends.{IsKnown}
use Rattle.byte_marks.specs.Marks.{MarksModel}
use Rattle.flat_objects.specs.Memory.{Memory, IsMemory}
use Rattle.flat_objects.specs.Moving.{IsMovedBy}
use Rattle.flat_objects.proofs.Distances.{end_known, moved_to_end}
use Rattle.flat_objects.proofs.memory.FlatObjects.moved_up.Goals as goal

pub end-requires : goal.end-requires
end-requires g c =
    let shape = subst (IsMemory c.self.inside.locals_from c.self.inside.heap_from) c.self.view_is c.self.invariant in
    subst (λ (m : MarksModel). IsKnown m.ends c.args.addr) (ap (λ (m : Memory). m.marks) (sym c.self.view_is)) (end_known c.self.inside.locals_from c.self.inside.heap_from c.args.self.now shape c.args.addr c.requires)

pub returns-then-target-from : goal.returns-then-target-from
returns-then-target-from g c =
    let shape = subst (IsMemory c.self.inside.locals_from c.self.inside.heap_from) c.self.view_is c.self.invariant in
    let end : c.end.result ≡ slice_index c.args.self.now.marks.ends (c.args.addr / 16) = c.end.ensures ∙ ap (λ (m : Memory). slice_index m.marks.ends (c.args.addr / 16)) c.self.view_is in
    let target = c.from.result + c.in-Some.bytes in
    let fits_count : SFits w128 c.args.count = search rules in
    let fits_size : SFits w128 c.args.size = search rules in
    let distance : pos c.in-Some.bytes ≡ c.args.count *ℤ c.args.size = rw (to_z-of_z w128 c.args.count fits_count, to_z-of_z w128 c.args.size fits_size) at c.in-Some.ensures.value in
    subst (λ (d : ℤ). IsMovedBy c.args.self.now c.args.addr d (Ok target)) distance
    (λ places objects p at. moved_to_end c.self.inside.locals_from c.self.inside.heap_from c.args.self.now shape places objects p c.args.addr c.in-Some.bytes target at (ap (λ n. n + c.in-Some.bytes) c.from.ensures) (omega arith))
