use Rattle.c_pre.proofs.Rows.{pieces_empty}
use Rattle.c_pre.proofs.rest.Rest.is_empty.Goals as goal

pub returns : goal.returns
returns c = pieces_empty c.args.self.now c.self.inside.pieces c.is_empty.result c.self.view_is c.is_empty.ensures
