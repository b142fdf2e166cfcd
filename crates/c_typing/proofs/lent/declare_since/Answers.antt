use Rattle.std.proofs.Common.{◌≡◌, ◌∙◌, sym, ap, rules}
use Rattle.c_decls.specs.Named.{plain_named}
use Rattle.c_typing.proofs.Lents.{declares_beside}
use Rattle.c_typing.proofs.lent.declare_since.Goals as goal

pub returns-else-is_file_scope : goal.returns-else-is_file_scope
returns-else-is_file_scope c =
    declares_beside c.declare.result c.args.line c.args.name.now (plain_named c.args.named) c.args.lent.now c.args.since.now c.declare.new.scopes
    (λ beside. absurd (search rules)) c.declare.ensures
