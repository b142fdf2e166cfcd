use Rattle.std.proofs.Common.{◌∙◌, List, ap, map, sym}
use Rattle.c_lexer.specs.declared.token.Token.{Token}
use Rattle.c_pre.specs.Reading.{moved}
use Rattle.c_pre.proofs.Unreplaced.{progressed, run_unreplaced}
use Rattle.c_pre.proofs.progress.Progress.take_tokens.Goals as goal

pub returns-clause-run : goal.returns-clause-run
returns-clause-run c =
    let p = c.args.self.now in
    run_unreplaced c.args.base p (map (moved c.args.lines) c.args.tokens) c.requires.none
    ∙ ap (λ (ts : List Token). progressed (record p { tokens = ts })) (sym c.in_ok-append.ensures)
