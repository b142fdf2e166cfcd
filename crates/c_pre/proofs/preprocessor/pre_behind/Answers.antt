use Rattle.std.proofs.Common.{All, sym, subst}
use Rattle.std.proofs.lemmas.List.Elements.{All-nil}
use Rattle.c_pre.specs.Formed.{IsFormed, IsFormedEntry}
use Rattle.c_pre.proofs.Plain.{tokens_formed}
use Rattle.c_pre.proofs.preprocessor.pre_behind.Goals as goal

pub returns-clause-forms : goal.returns-clause-forms
returns-clause-forms g c =
    let read = c.in_ok-read_text.ensures.formed (record {
      tokens = subst (All IsFormed) (sym c.new-2.ensures) (All-nil IsFormed);
      macros = subst (λ macros. All IsFormedEntry macros.names) (sym c.new-3.ensures) (All-nil IsFormedEntry);
    }) in
    subst (All IsFormed) (sym c.in_ok-plain_tokens.ensures) (tokens_formed _ read.tokens)
