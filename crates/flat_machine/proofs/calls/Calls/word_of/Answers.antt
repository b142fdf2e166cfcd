use Rattle.std.proofs.Common.{◌+◌, List, ap, arith, drop, get_or, take, ◌∙◌}
use Rattle.flat_objects.specs.declared.words.Word.{Word}
use Rattle.flat_machine.specs.declared.call.Call.{Call}
use Rattle.flat_machine.specs.Words.{no_word}
use Rattle.flat_machine.proofs.Numbered.{word_is, last_word}
use Rattle.flat_machine.proofs.calls.Calls.word_of.Goals as goal

pub returns-then-k-len : goal.returns-then-k-len
returns-then-k-len c =
    c.word.ensures ∙ last_word c.self.inside.words.items c.self.inside.locals.items c.self.inside.waiting.items c.self.inside.running c.self.inside.room c.args.self.now c.self.view_is c.args.k (omega (arith, c.len.ensures)) c.args.r

pub returns : goal.returns
returns c =
    let base = ap (λ (x : Call). x.base) (c.call_in-base.ensures ∙ ap (λ (calls : List Call). get_or calls c.args.k c.self.inside.running) c.as_slice.ensures.value) in
    let end = ap (λ (x : Call). x.base) (c.call_in-end.ensures ∙ ap (λ (calls : List Call). get_or calls (c.args.k + 1) c.self.inside.running) c.as_slice-2.ensures.value) in
    c.word_in.ensures ∙ ap (λ b. get_or (drop b (take c.call_in-end.result.base c.as_slice-3.result.now)) c.args.r no_word) base
    ∙ ap (λ e. get_or (drop (get_or c.self.inside.waiting.items c.args.k c.self.inside.running).base (take e c.as_slice-3.result.now)) c.args.r no_word) end
    ∙ ap (λ (ws : List Word). get_or (drop (get_or c.self.inside.waiting.items c.args.k c.self.inside.running).base (take (get_or c.self.inside.waiting.items (c.args.k + 1) c.self.inside.running).base ws)) c.args.r no_word) c.as_slice-3.ensures.value
    ∙ word_is c.self.inside.words.items c.self.inside.locals.items c.self.inside.waiting.items c.self.inside.running c.self.inside.room c.args.self.now c.self.view_is c.args.k (omega (arith, c.len.ensures)) c.args.r
