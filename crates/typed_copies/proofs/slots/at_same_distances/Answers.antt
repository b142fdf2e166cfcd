use Rattle.std.proofs.Common.{arith}
use Rattle.typed_copies.proofs.Ascending.{few_slots}
use Rattle.typed_copies.proofs.slots.at_same_distances.Goals as goal

pub overflow_add-into : goal.overflow_add-into
overflow_add-into c =
    let are = c.requires.into.1 in
    let few = few_slots c.args.d_form.now c.args.dst.size c.requires.d_form in
    omega (arith, are.inside)

pub overflow_add-out : goal.overflow_add-out
overflow_add-out c =
    let are = c.requires.out.1 in
    let few = few_slots c.args.s_form.now c.args.src.size c.requires.s_form in
    omega (arith, are.inside)
