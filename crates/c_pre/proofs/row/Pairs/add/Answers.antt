use Rattle.std.proofs.Common.{get_or, sym, ◌∙◌}
use Rattle.std.proofs.lemmas.Option.{slice_get-get_or}
use Rattle.c_pre.proofs.Rows.{added_plain, added_open, added_close, added_close_none}
use Rattle.c_pre.proofs.row.Pairs.add.Goals as goal

pub returns-in_ok-push_front : goal.returns-in_ok-push_front
returns-in_ok-push_front c =
    let t = get_or c.args.tokens.now c.args.at c.index-tokens-at.result in
    let read = slice_get-get_or c.args.tokens.now c.args.at c.index-tokens-at.result c.requires.within in
    rw (c.in_ok-push.ensures.items, c.in_ok-push_front.ensures)
    (added_open c.args.tokens.now c.args.at t _ _ c.requires.pairs read (sym c.is_sign.ensures ∙ c.if-is_sign.true))

pub returns-in-Some : goal.returns-in-Some
returns-in-Some c =
    let t = get_or c.args.tokens.now c.args.at c.index-tokens-at.result in
    let read = slice_get-get_or c.args.tokens.now c.args.at c.index-tokens-at.result c.requires.within in
    rw c.in_ok-push.ensures.items
    (added_close c.args.tokens.now c.args.at c.in-Some.from t _ _ (rw c.in-Some.ensures at c.requires.pairs) c.requires.within read (sym c.is_sign-else-is_sign.ensures ∙ c.if-is_sign-2.true))

pub returns-in_default : goal.returns-in_default
returns-in_default c =
    rw (c.in_ok-push.ensures.items, c.in_default.ensures.1)
    (added_close_none c.args.tokens.now c.args.at _ (rw c.in_default.ensures.0 at c.requires.pairs))

pub returns-else-is_sign-2 : goal.returns-else-is_sign-2
returns-else-is_sign-2 c =
    let t = get_or c.args.tokens.now c.args.at c.index-tokens-at.result in
    let read = slice_get-get_or c.args.tokens.now c.args.at c.index-tokens-at.result c.requires.within in
    rw c.in_ok-push.ensures.items
    (added_plain c.args.tokens.now c.args.at t _ _ c.requires.pairs read (sym c.is_sign.ensures ∙ c.if-is_sign.false) (sym c.is_sign-else-is_sign.ensures ∙ c.if-is_sign-2.false))
