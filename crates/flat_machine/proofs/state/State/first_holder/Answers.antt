use Rattle.flat_machine.proofs.Holders.{holder_inside_is, holder_behind_is}
use Rattle.flat_machine.proofs.state.State.first_holder.Goals as goal

pub returns-in-Some-holder_inside : goal.returns-in-Some-holder_inside
returns-in-Some-holder_inside g c = λ code places s birth has names.
    holder_inside_is places s birth c.args.self.now names (places birth) names.named code has c.in-Some-holder_inside.holder (c.in-Some-holder_inside.ensures places s birth names)

pub returns : goal.returns
returns g c = λ code places s birth has names.
    holder_behind_is places s birth c.args.self.now names (places birth) names.named code has c.holder_in_calls.result (c.in_default-holder_inside.ensures places s birth names) (c.holder_in_calls.ensures places s birth names)
