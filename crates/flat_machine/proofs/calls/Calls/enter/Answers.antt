use Rattle.std.proofs.Common.{◌++◌, map, drop, length, refl, ap, ◌∙◌, arith}
use Rattle.flat_machine.specs.Words.{first_word}
use Rattle.flat_machine.proofs.Stacks.{enter_at}
use Rattle.flat_machine.proofs.calls.Calls.enter.Goals as goal

pub returns : goal.returns
returns c =
    let words = c.self.inside.words.items in
    let firsts = ap (λ kinds. c.push_all.new.words.items ++ map first_word kinds) c.behind.ensures in
    enter_at words c.self.inside.locals.items c.self.inside.waiting.items c.self.inside.running c.self.inside.room c.self.invariant.0 c.args.self.now c.self.view_is c.args.args.now (map first_word (drop (length c.args.args.now) c.args.kinds.now)) c.push_first_words.new.words.items c.push_reserved.new.self.items _ c.args.cost (omega arith) (omega arith) refl (c.push_first_words.ensures.items ∙ firsts ∙ ap (λ ws. ws ++ map first_word (drop (length c.args.args.now) c.args.kinds.now)) c.push_all.ensures.items) c.push_reserved.ensures.items
