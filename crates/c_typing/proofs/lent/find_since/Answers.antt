use Rattle.std.proofs.Common.{◌≡◌, ◌∙◌, sym, ap}
use Rattle.std.specs.Prelude.{option_map}
use Rattle.c_decls.specs.Named.{plain_named}
use Rattle.c_typing.proofs.Lents.{found_inner, found_first, found_later}
use Rattle.c_typing.proofs.lent.find_since.Goals as goal

pub returns-then-is_inner : goal.returns-then-is_inner
returns-then-is_inner c =
    c.find.ensures ∙ found_inner c.args.name.now c.args.lent.now c.args.since.now (sym c.is_inner.ensures ∙ c.if-is_inner.true)

pub returns-in-Some : goal.returns-in-Some
returns-in-Some c =
    sym (found_first c.args.name.now c.args.lent.now c.args.since.now (plain_named c.in-Some.named.now)
    (sym c.is_inner.ensures ∙ c.if-is_inner.false) (sym c.in-Some.ensures))

pub returns-in-None : goal.returns-in-None
returns-in-None c =
    c.find_last.ensures
    ∙ sym (found_later c.args.name.now c.args.lent.now c.args.since.now (sym c.is_inner.ensures ∙ c.if-is_inner.false)
    (sym c.find_innermost.ensures ∙ ap (option_map (λ named. plain_named named.now)) c.in-None.is))
