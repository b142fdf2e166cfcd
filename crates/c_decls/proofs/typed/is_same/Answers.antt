use Rattle.c_decls.proofs.SameTypes.{is_same}
use Rattle.c_decls.proofs.typed.is_same.Goals as goal

pub returns : goal.returns
returns c = is_same _ _ _ c.same_type.ensures
