use Rattle.std.proofs.Common.{◌-ℤ◌, neg_ℤ, pos, refl}
use Rattle.flat_objects.proofs.Distances.{moved_answer}
use Rattle.flat_objects.proofs.memory.FlatObjects.moved_back.Goals as goal

pub returns : goal.returns
returns g c = λ places objects p at.
    moved_answer c.args.self.now places objects c.args.addr (neg_ℤ (pos c.args.bytes)) c.spot-found.result c.if-addr-eq0.false c.spot-found.ensures.spot p (pos c.spot-found.result.offset -ℤ pos c.args.bytes) c.address_before.result at refl c.address_before.ensures
