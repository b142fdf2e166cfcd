use Rattle.c_pre.proofs.Paths.{path_is_utf8}
use Rattle.c_pre.proofs.text_name.TextName.from_path.Goals as goal

pub unreachable-requires : goal.unreachable-requires
unreachable-requires c = c.in-Err.ensures.cases.0 (path_is_utf8 c.args.path.now c.requires)
