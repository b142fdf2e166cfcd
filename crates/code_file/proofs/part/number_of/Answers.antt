use Rattle.code_file.proofs.Numbers.{number_of_bytes}
use Rattle.code_file.proofs.part.number_of.Goals as goal

pub returns : goal.returns
returns c = number_of_bytes c.args.bytes.now c.from_le_bytes.result c.requires (λ i. (c.type_inv.bytes i).fits) c.from_le_bytes.ensures
