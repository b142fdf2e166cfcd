use Rattle.std.proofs.Common.{◌≡◌, ◌+◌, take, drop, sym, subst, ap, ◌∙◌, arith}
use Rattle.std.proofs.lemmas.Result.{err_from_is_err_and}
use Rattle.c_lexer.specs.Tokens.{behind}
use Rattle.c_lexer.specs.declared.place.Place.{Place}
use Rattle.c_lexer.proofs.Cuts.{ok_only, err_only}
use Rattle.c_lexer.proofs.Loop.{AtText, goes_on, ends, refuses, forms_of, here}
use Rattle.c_lexer.proofs.lexer.lex.Goals as goal

pub slice_bounds-bytes-end : goal.slice_bounds-bytes-end
slice_bounds-bytes-end c = sym (here c.args.text.now c.loop-at.place.fresh c.loop-at.at c.piece_at-piece.result (omega arith) c.piece_at-piece.ensures).long

pub returns-in_err-take_piece-clause-refused : goal.returns-in_err-take_piece-clause-refused
returns-in_err-take_piece-clause-refused c =
    let p = err_from_is_err_and c.from_residual.result c.from_residual.ensures.1 in
    let h = here c.args.text.now c.loop-at.place.fresh c.loop-at.at c.piece_at-piece.result (omega arith) c.piece_at-piece.ensures in
    rw (p.1, p.2) (refuses c.args.text.now c.loop-at.place c.loop-at.at c.loop-at.tokens c.piece_at-piece.result _ c.loop-at.invariant.reached (omega arith) h.is c.in_err-take_piece.ensures.refused)

pub behind-place-requires : goal.behind-place-requires
behind-place-requires c =
    let h = here c.args.text.now c.loop-at.place.fresh c.loop-at.at c.piece_at-piece.result (omega arith) c.piece_at-piece.ensures in
    omega (arith, h.long, h.within)

pub overflow_add-at : goal.overflow_add-at
overflow_add-at c =
    let h = here c.args.text.now c.loop-at.place.fresh c.loop-at.at c.piece_at-piece.result (omega arith) c.piece_at-piece.ensures in
    omega (arith, h.within)

pub loop-at-smaller : goal.loop-at-smaller
loop-at-smaller c =
    let h = here c.args.text.now c.loop-at.place.fresh c.loop-at.at c.piece_at-piece.result (omega arith) c.piece_at-piece.ensures in
    omega (arith, h.some, h.within)

pub loop-at-preserved : goal.loop-at-preserved
loop-at-preserved c =
    let h = here c.args.text.now c.loop-at.place.fresh c.loop-at.at c.piece_at-piece.result (omega arith) c.piece_at-piece.ensures in
    let takes = rw h.bytes at c.in_ok-take_piece.ensures.ok in
    let place : behind c.loop-at.place (take c.piece_at-piece.result.len (drop c.loop-at.at c.args.text.now)) ≡ c.behind-place.result = sym (c.behind-place.ensures.place ∙ ap (behind c.loop-at.place) h.bytes) in
    let P : Place → Type 0 = λ p. AtText c.args.text.now p (c.loop-at.at + c.piece_at-piece.result.len) c.take_piece.new.tokens in
    record {
      reached = subst P place (goes_on c.args.text.now c.loop-at.place c.loop-at.at c.loop-at.tokens c.take_piece.new.tokens c.piece_at-piece.result c.loop-at.invariant.reached (omega arith) h.is takes);
      within = h.within;
      line = omega (arith, c.behind-place.ensures.high, h.long);
    }

pub returns-clause-tokens : goal.returns-clause-tokens
returns-clause-tokens c = ends c.args.text.now c.loop-at.place c.loop-at.at c.loop-at.tokens c.loop-at.invariant.reached c.loop-at-test.false

pub returns-clause-forms : goal.returns-clause-forms
returns-clause-forms c = forms_of c.args.text.now c.loop-at.tokens (ends c.args.text.now c.loop-at.place c.loop-at.at c.loop-at.tokens c.loop-at.invariant.reached c.loop-at-test.false)

pub returns-in_err-take_piece-clause-exact : goal.returns-in_err-take_piece-clause-exact
returns-in_err-take_piece-clause-exact c =
    let p = err_from_is_err_and c.from_residual.result c.from_residual.ensures.1 in
    let h = here c.args.text.now c.loop-at.place.fresh c.loop-at.at c.piece_at-piece.result (omega arith) c.piece_at-piece.ensures in
    rw (p.1, p.2) (err_only c.args.text.now _ (refuses c.args.text.now c.loop-at.place c.loop-at.at c.loop-at.tokens c.piece_at-piece.result _ c.loop-at.invariant.reached (omega arith) h.is c.in_err-take_piece.ensures.refused))

pub returns-clause-exact : goal.returns-clause-exact
returns-clause-exact c = ok_only c.args.text.now c.loop-at.tokens (ends c.args.text.now c.loop-at.place c.loop-at.at c.loop-at.tokens c.loop-at.invariant.reached c.loop-at-test.false)
