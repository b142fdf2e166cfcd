use Rattle.std.proofs.Common.{◌++◌, ap, sym}
use Rattle.c_pre.proofs.Rows.{segment_none}
use Rattle.c_pre.proofs.rest.Rest.put.Goals as goal

pub returns-else-from-to : goal.returns-else-from-to
returns-else-from-to c =
    ap (λ ts. ts ++ c.args.self.now) (sym (segment_none c.args.row.value.tokens.items c.args.from c.args.to c.if-from-to.false))
