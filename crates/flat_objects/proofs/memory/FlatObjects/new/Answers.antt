use Rattle.flat_objects.specs.Memory.{Memory}
use Rattle.flat_objects.proofs.Made.{new_memory}
use Rattle.flat_objects.proofs.memory.FlatObjects.new.Goals as goal

pub invariant_of-result : goal.invariant_of-result
invariant_of-result c =
    let memory : Memory = record { bytes = c.in_ok-new.field-0; statics = c.in_ok-new-2.field-0; locals = c.in_ok-new-3.field-0; heap = c.in_ok-new-4.field-0; counts = c.in_ok-new-5.field-0; scopes = c.new-6.result; forms = c.in_ok-forms_of.field-0; marks = c.in_ok-new-6.field-0 } in
    new_memory c.args.statics c.args.locals memory c.args.layouts.now c.args.heap c.args.pins c.in_ok-new-2.ensures.bounds c.in_ok-new-3.ensures.bounds c.in_ok-new-4.ensures.bounds c.in_ok-new.ensures c.in_ok-new-5.ensures
    c.requires.statics c.requires.locals c.requires.fits c.in_ok-forms_of.ensures c.requires.layouts c.in_ok-new-6.ensures
