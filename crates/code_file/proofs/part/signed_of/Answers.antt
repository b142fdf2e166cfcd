use Rattle.std.proofs.Common.{◌≡◌, ℤ, sym, subst}
use Rattle.code_file.specs.Spelling.{signed}
use Rattle.code_file.proofs.Numbers.{passed, signed_of_bytes}
use Rattle.code_file.proofs.part.signed_of.Goals as goal

pub returns : goal.returns
returns c =
    let n = c.from_le_bytes.result in
    subst (λ (m : ℤ). signed m ≡ c.args.bytes.now) (sym (passed n (record { sfits = c.from_le_bytes.type_inv })))
    (signed_of_bytes c.args.bytes.now n c.requires (λ i. (c.type_inv.bytes i).fits) c.from_le_bytes.ensures)
