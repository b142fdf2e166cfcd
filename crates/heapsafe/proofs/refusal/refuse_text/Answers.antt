use Rattle.std.proofs.Common.{◌∙◌, sym, subst}
use Rattle.std.specs.Prelude.{codes}
use Rattle.c_lexer.specs.Words.{word_of}
use Rattle.c_pre.specs.Words as lines
use Rattle.c_pre.specs.declared.answer.PreError.{PreError}
use Rattle.heapsafe.specs.Saying.{SaysOnly}
use Rattle.heapsafe.specs.Shown.{untokened}
use Rattle.heapsafe.proofs.Reported.{refused_at}
use Rattle.heapsafe.proofs.Told.{said_as}
use Rattle.heapsafe.proofs.refusal.refuse_text.Goals as goal

pub returns-in-Bad : goal.returns-in-Bad
returns-in-Bad g c =
    subst (λ (e : PreError). SaysOnly (untokened e) c.args.io.now c.refuse_at.new.io c.refuse_at.result) (sym c.in-Bad.is)
    (said_as _ _ _ _ _ (refused_at c.as_slice.result.now c.in-Bad.at.name c.as_slice-in-Bad.result.now c.in-Bad.at.text (codes "preprocess") c.as_bytes.result.now (lines.word_of c.in-Bad.kind) c.in-Bad.at.line 138 c.as_slice.ensures c.as_slice-in-Bad.ensures (c.as_bytes.ensures.value ∙ c.word.ensures)) c.refuse_at.ensures)

pub returns-in-Lex : goal.returns-in-Lex
returns-in-Lex g c =
    subst (λ (e : PreError). SaysOnly (untokened e) c.args.io.now c.refuse_at-in-Lex.new.io c.refuse_at-in-Lex.result) (sym c.in-Lex.is)
    (said_as _ _ _ _ _ (refused_at c.as_slice-in-Lex.result.now c.in-Lex.at.name c.as_slice-in-Lex-2.result.now c.in-Lex.at.text (codes "lex") c.as_bytes-in-Lex.result.now (word_of c.in-Lex.kind) c.in-Lex.at.line 123 c.as_slice-in-Lex.ensures c.as_slice-in-Lex-2.ensures (c.as_bytes-in-Lex.ensures.value ∙ c.word-in-Lex.ensures)) c.refuse_at-in-Lex.ensures)

pub returns-in-NoMemory : goal.returns-in-NoMemory
returns-in-NoMemory g c =
    subst (λ (e : PreError). SaysOnly (untokened e) c.args.io.now c.refuse-in-NoMemory.new.io c.refuse-in-NoMemory.result) (sym c.in-NoMemory.is) c.refuse-in-NoMemory.ensures
