use Rattle.std.proofs.Common.{rules, pos, sym, subst}
use Rattle.std.specs.Prelude.{◌<ℤ◌}
use Rattle.std.proofs.lemmas.Int.{to_z-of_z}
use mir.Syntax.{w64, w128}
use mir.Val.{SFits}
use Rattle.object_meaning.specs.objects.Values.{pointer_at}
use Rattle.flat_objects.specs.Keeping.{IsKept}
use Rattle.flat_machine.proofs.Accesses.{kept_here}
use Rattle.flat_machine.proofs.Movements.{add_alone, add_traps, sub_alone, sub_traps, diff_alone, diff_traps, pcmp_alone, pcmp_traps}
use Rattle.flat_machine.proofs.state.State.act_pointers.Goals as goal

-- What the calls require

pub moved_up-requires : goal.moved_up-requires
moved_up-requires g c = subst (λ addr. IsKept c.args.self.now.memory addr) (sym c.address-p.ensures) (c.requires.kept 0)

pub moved_down-requires : goal.moved_down-requires
moved_down-requires g c = subst (λ addr. IsKept c.args.self.now.memory addr) (sym c.address-p.ensures) (c.requires.kept 0)

pub difference-requires-clause-one : goal.difference-requires-clause-one
difference-requires-clause-one g c = subst (λ addr. IsKept c.args.self.now.memory addr) (sym c.address-p.ensures) (c.requires.kept 0)

pub difference-requires-clause-other : goal.difference-requires-clause-other
difference-requires-clause-other g c = subst (λ addr. IsKept c.args.self.now.memory addr) (sym c.address.ensures) (c.requires.kept 1)

pub difference-requires-clause-element : goal.difference-requires-clause-element
difference-requires-clause-element g c =
    let fits : SFits w64 c.args.instr.imm = search rules in
    let value = rw (to_z-of_z w64 c.args.instr.imm fits) at c.from-in-Diff.ensures in
    let fits_n : SFits w128 c.from-in-Diff.result = search rules in
    rw (to_z-of_z w128 c.from-in-Diff.result fits_n) (subst (λ n. pos 0 <ℤ n) (sym value) (c.requires.element c.in-Diff.is))

pub compare-requires-clause-one : goal.compare-requires-clause-one
compare-requires-clause-one g c = subst (λ addr. IsKept c.args.self.now.memory addr) (sym c.address-p.ensures) (c.requires.kept 0)

pub compare-requires-clause-other : goal.compare-requires-clause-other
compare-requires-clause-other g c = subst (λ addr. IsKept c.args.self.now.memory addr) (sym c.address-in-Pcmp.ensures) (c.requires.kept 1)

-- What they lead to

pub returns-in-Ok-clause-alone : goal.returns-in-Ok-clause-alone
returns-in-Ok-clause-alone g c = λ code sizes places s h.
    let fits : SFits w64 c.args.instr.imm = search rules in
    let size = rw (to_z-of_z w64 c.args.instr.imm fits) at c.from.ensures in
    let fits_n : SFits w128 c.integer.result = search rules in
    let fits_size : SFits w128 c.from.result = search rules in
    let at = kept_here code sizes c.args.line c.args.instr places s c.args.self.now h 0 c.address-p.result c.address-p.ensures in
    let answers = rw (to_z-of_z w128 c.integer.result fits_n, to_z-of_z w128 c.from.result fits_size) at (c.in-Ok.ensures places s.state.objects (pointer_at s.handed 0) at) in
    rw c.in-Add.is (add_alone code sizes c.args.line c.args.instr places s c.args.self.now h c.give_address.new.self c.integer.result c.from.result c.in-Ok.addr c.integer.ensures size answers c.give_address.ensures)

pub returns-in-Err-clause-alone : goal.returns-in-Err-clause-alone
returns-in-Err-clause-alone g c = λ code sizes places s h.
    let fits : SFits w64 c.args.instr.imm = search rules in
    let size = rw (to_z-of_z w64 c.args.instr.imm fits) at c.from.ensures in
    let fits_n : SFits w128 c.integer.result = search rules in
    let fits_size : SFits w128 c.from.result = search rules in
    let at = kept_here code sizes c.args.line c.args.instr places s c.args.self.now h 0 c.address-p.result c.address-p.ensures in
    let answers = rw (to_z-of_z w128 c.integer.result fits_n, to_z-of_z w128 c.from.result fits_size) at (c.in-Err.ensures places s.state.objects (pointer_at s.handed 0) at) in
    rw c.in-Add.is (add_traps code sizes c.args.line c.args.instr places s c.args.self.now h c.args.self.now c.integer.result c.from.result c.in-Err.kind c.integer.ensures size answers)

pub returns-in-Ok-moved_down-clause-alone : goal.returns-in-Ok-moved_down-clause-alone
returns-in-Ok-moved_down-clause-alone g c = λ code sizes places s h.
    let fits : SFits w64 c.args.instr.imm = search rules in
    let size = rw (to_z-of_z w64 c.args.instr.imm fits) at c.from-in-Sub.ensures in
    let fits_n : SFits w128 c.integer-in-Sub.result = search rules in
    let fits_size : SFits w128 c.from-in-Sub.result = search rules in
    let at = kept_here code sizes c.args.line c.args.instr places s c.args.self.now h 0 c.address-p.result c.address-p.ensures in
    let answers = rw (to_z-of_z w128 c.integer-in-Sub.result fits_n, to_z-of_z w128 c.from-in-Sub.result fits_size) at (c.in-Ok-moved_down.ensures places s.state.objects (pointer_at s.handed 0) at) in
    rw c.in-Sub.is (sub_alone code sizes c.args.line c.args.instr places s c.args.self.now h c.give_address-in-Ok-moved_down.new.self c.integer-in-Sub.result c.from-in-Sub.result c.in-Ok-moved_down.addr c.integer-in-Sub.ensures size answers c.give_address-in-Ok-moved_down.ensures)

pub returns-in-Err-moved_down-clause-alone : goal.returns-in-Err-moved_down-clause-alone
returns-in-Err-moved_down-clause-alone g c = λ code sizes places s h.
    let fits : SFits w64 c.args.instr.imm = search rules in
    let size = rw (to_z-of_z w64 c.args.instr.imm fits) at c.from-in-Sub.ensures in
    let fits_n : SFits w128 c.integer-in-Sub.result = search rules in
    let fits_size : SFits w128 c.from-in-Sub.result = search rules in
    let at = kept_here code sizes c.args.line c.args.instr places s c.args.self.now h 0 c.address-p.result c.address-p.ensures in
    let answers = rw (to_z-of_z w128 c.integer-in-Sub.result fits_n, to_z-of_z w128 c.from-in-Sub.result fits_size) at (c.in-Err-moved_down.ensures places s.state.objects (pointer_at s.handed 0) at) in
    rw c.in-Sub.is (sub_traps code sizes c.args.line c.args.instr places s c.args.self.now h c.args.self.now c.integer-in-Sub.result c.from-in-Sub.result c.in-Err-moved_down.kind c.integer-in-Sub.ensures size answers)

pub returns-in-Ok-difference-clause-alone : goal.returns-in-Ok-difference-clause-alone
returns-in-Ok-difference-clause-alone g c = λ code sizes places s h.
    let fits : SFits w64 c.args.instr.imm = search rules in
    let size = rw (to_z-of_z w64 c.args.instr.imm fits) at c.from-in-Diff.ensures in
    let fits_size : SFits w128 c.from-in-Diff.result = search rules in
    let fits_n : SFits w128 c.in-Ok-difference.n = search rules in
    let gives = rw (to_z-of_z w128 c.in-Ok-difference.n fits_n) at c.give_number.ensures in
    let at = kept_here code sizes c.args.line c.args.instr places s c.args.self.now h 0 c.address-p.result c.address-p.ensures in
    let other = (kept_here code sizes c.args.line c.args.instr places s c.args.self.now h 1 c.address.result c.address.ensures).stands in
    let answers = rw (to_z-of_z w128 c.from-in-Diff.result fits_size) at (c.in-Ok-difference.ensures.differs places s.state.objects (pointer_at s.handed 0) (pointer_at s.handed 1) at other) in
    rw c.in-Diff.is (diff_alone code sizes c.args.line c.args.instr places s c.args.self.now h c.give_number.new.self c.from-in-Diff.result c.in-Ok-difference.n size answers gives)

pub returns-in-Err-difference-clause-alone : goal.returns-in-Err-difference-clause-alone
returns-in-Err-difference-clause-alone g c = λ code sizes places s h.
    let fits : SFits w64 c.args.instr.imm = search rules in
    let size = rw (to_z-of_z w64 c.args.instr.imm fits) at c.from-in-Diff.ensures in
    let fits_size : SFits w128 c.from-in-Diff.result = search rules in
    let at = kept_here code sizes c.args.line c.args.instr places s c.args.self.now h 0 c.address-p.result c.address-p.ensures in
    let other = (kept_here code sizes c.args.line c.args.instr places s c.args.self.now h 1 c.address.result c.address.ensures).stands in
    let answers = rw (to_z-of_z w128 c.from-in-Diff.result fits_size) at (c.in-Err-difference.ensures.differs places s.state.objects (pointer_at s.handed 0) (pointer_at s.handed 1) at other) in
    rw c.in-Diff.is (diff_traps code sizes c.args.line c.args.instr places s c.args.self.now h c.args.self.now c.from-in-Diff.result c.in-Err-difference.kind size answers)

pub returns-in-Ok-compare-clause-alone : goal.returns-in-Ok-compare-clause-alone
returns-in-Ok-compare-clause-alone g c = λ code sizes places s h.
    let fits_n : SFits w128 c.in-Ok-compare.n = search rules in
    let gives = rw (to_z-of_z w128 c.in-Ok-compare.n fits_n) at c.give_number-in-Ok-compare.ensures in
    let at = kept_here code sizes c.args.line c.args.instr places s c.args.self.now h 0 c.address-p.result c.address-p.ensures in
    let other = (kept_here code sizes c.args.line c.args.instr places s c.args.self.now h 1 c.address-in-Pcmp.result c.address-in-Pcmp.ensures).stands in
    rw c.in-Pcmp.is (pcmp_alone code sizes c.args.line c.args.instr places s c.args.self.now h c.give_number-in-Ok-compare.new.self c.in-Pcmp.op c.in-Ok-compare.n (c.in-Ok-compare.ensures.compares places s.state.objects (pointer_at s.handed 0) (pointer_at s.handed 1) at other) gives)

pub returns-in-Err-compare-clause-alone : goal.returns-in-Err-compare-clause-alone
returns-in-Err-compare-clause-alone g c = λ code sizes places s h.
    let at = kept_here code sizes c.args.line c.args.instr places s c.args.self.now h 0 c.address-p.result c.address-p.ensures in
    let other = (kept_here code sizes c.args.line c.args.instr places s c.args.self.now h 1 c.address-in-Pcmp.result c.address-in-Pcmp.ensures).stands in
    rw c.in-Pcmp.is (pcmp_traps code sizes c.args.line c.args.instr places s c.args.self.now h c.args.self.now c.in-Pcmp.op c.in-Err-compare.kind (c.in-Err-compare.ensures.compares places s.state.objects (pointer_at s.handed 0) (pointer_at s.handed 1) at other))
