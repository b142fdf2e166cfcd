use Rattle.std.proofs.Common.{rules}
use Rattle.std.proofs.lemmas.Int.{to_z-of_z}
use mir.Syntax.{w128}
use mir.Val.{SFits}
use Rattle.object_meaning.specs.code.Entering.{layout_in}
use Rattle.flat_machine.specs.Standing.{fits_now}
use Rattle.flat_machine.proofs.Makings.{malloc_alone, calloc_alone}
use Rattle.flat_machine.proofs.state.State.act_making.Goals as goal

pub returns-in-Malloc : goal.returns-in-Malloc
returns-in-Malloc g c = λ code places s h form.
    let fits : SFits w128 c.integer.result = search rules in
    let size = rw (to_z-of_z w128 c.integer.result fits) at c.size_in-size.ensures.value in
    rw c.in-Malloc.is (malloc_alone code (fits_now places s c.args.self.now) c.args.line c.args.instr places s c.args.self.now c.make.new.self h c.integer.result c.size_in-size.result c.integer.ensures size (c.make.ensures (layout_in code c.args.instr.b) places s h form))

pub returns-in-Calloc : goal.returns-in-Calloc
returns-in-Calloc g c = λ code places s h form.
    let fits : SFits w128 c.integer.result = search rules in
    let count = rw (to_z-of_z w128 c.integer.result fits) at c.size_in-size.ensures.value in
    let fits_other : SFits w128 c.integer-in-Calloc.result = search rules in
    let size = rw (to_z-of_z w128 c.integer-in-Calloc.result fits_other) at c.size_in-element.ensures.value in
    rw c.in-Calloc.is (calloc_alone code (fits_now places s c.args.self.now) c.args.line c.args.instr places s c.args.self.now c.make-in-Calloc.new.self h c.integer.result c.integer-in-Calloc.result c.size_in-size.result c.size_in-element.result c.integer.ensures c.integer-in-Calloc.ensures count size (c.make-in-Calloc.ensures (layout_in code c.args.instr.b) places s h form))
