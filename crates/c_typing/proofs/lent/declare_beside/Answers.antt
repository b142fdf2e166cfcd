use Rattle.std.proofs.Common.{◌≡◌, ◌∙◌, sym, ap}
use Rattle.std.specs.Prelude.{is_some, option_map}
use Rattle.c_decls.specs.Named.{plain_named}
use Rattle.c_typing.proofs.Lents.{declared_twice, declares_beside}
use Rattle.c_typing.proofs.lent.declare_beside.Goals as goal

pub returns-in-Some : goal.returns-in-Some
returns-in-Some c =
    rw c.refused.ensures
    (declared_twice c.args.line c.args.name.now (plain_named c.args.named) c.args.lent.now c.args.since.now c.requires.beside
    (ap is_some (sym c.in-Some.ensures)))

pub returns-in-None : goal.returns-in-None
returns-in-None c =
    declares_beside c.declare.result c.args.line c.args.name.now (plain_named c.args.named) c.args.lent.now c.args.since.now c.declare.new.scopes
    (λ beside. sym c.find_innermost.ensures ∙ ap (option_map (λ named. plain_named named.now)) c.in-None.is) c.declare.ensures
