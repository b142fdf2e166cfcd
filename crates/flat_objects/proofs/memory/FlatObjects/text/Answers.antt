use Rattle.flat_objects.proofs.Behind.{text_of}
use Rattle.flat_objects.proofs.memory.FlatObjects.text.Goals as goal

pub returns : goal.returns
returns g c = λ places objects p at.
    text_of c.args.self.now places objects c.args.addr c.find.result p c.if-addr-eq0.false c.find.ensures.found at
