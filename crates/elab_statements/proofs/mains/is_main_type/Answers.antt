use Rattle.std.proofs.Common.{refl}
use Rattle.elab_statements.proofs.MainTypes.{main_then}
use Rattle.elab_statements.proofs.mains.is_main_type.Goals as goal

pub returns-then-is_same : goal.returns-then-is_same
returns-then-is_same c =
    main_then c.args.ty.now c.in-Function.signature c.in-Function.signature.now c.in-Function.signature.now c.is_same.result c.is_empty.result
    c.in-Function.is refl refl c.is_same.ensures c.if-is_same.true c.is_empty.ensures
