use Rattle.std.proofs.Common.{ap, arith}
use Rattle.std.specs.Prelude.{not, nat_eq}
use Rattle.delay_scopes.proofs.Granules.{block_total, length-granules}
use Rattle.delay_scopes.proofs.checking.is_held.Goals as goal

pub returns-clause-held : goal.returns-clause-held
returns-clause-held g c =
    ap (λ n. not (nat_eq n 0)) (block_total c.args.bytes.now c.args.addr c.read_size-size.result c.read_size-size.ensures.size c.args.counts.now.counts c.total.result c.requires.inside c.requires.granules c.total.ensures.total)

pub returns-clause-work : goal.returns-clause-work
returns-clause-work g c =
    omega (arith, length-granules c.args.bytes.now c.args.addr c.read_size-size.result c.read_size-size.ensures.size, c.total.ensures.steps, c.read_size-size.ensures.steps)
