use Rattle.std.proofs.Common.{◌+◌, List, ap, arith, get_or, ◌∙◌}
use Rattle.flat_machine.specs.declared.call.Call.{Call}
use Rattle.flat_machine.proofs.Numbered.{made_is, last_made}
use Rattle.flat_machine.proofs.calls.Calls.made_of.Goals as goal

pub returns-then-k-len : goal.returns-then-k-len
returns-then-k-len c =
    let from = ap (λ (x : Call). x.from) (c.call_in-from.ensures ∙ ap (λ (calls : List Call). get_or calls c.args.k c.self.inside.running) c.as_slice.ensures.value) in
    omega (arith, from, c.len.ensures, c.len-then-k-len.ensures, c.saturating_sub.ensures, last_made c.self.inside.words.items c.self.inside.locals.items c.self.inside.waiting.items c.self.inside.running c.self.inside.room c.args.self.now c.self.view_is c.args.k (omega (arith, c.len.ensures, c.if-k-len.true)))

pub returns : goal.returns
returns c =
    let from = ap (λ (x : Call). x.from) (c.call_in-from.ensures ∙ ap (λ (calls : List Call). get_or calls c.args.k c.self.inside.running) c.as_slice.ensures.value) in
    let next = ap (λ (x : Call). x.from) (c.call_in-next.ensures ∙ ap (λ (calls : List Call). get_or calls (c.args.k + 1) c.self.inside.running) c.as_slice-2.ensures.value) in
    omega (arith, from, next, c.min.ensures, c.len-2.ensures, c.saturating_sub-2.ensures, made_is c.self.inside.words.items c.self.inside.locals.items c.self.inside.waiting.items c.self.inside.running c.self.inside.room c.args.self.now c.self.view_is c.args.k (omega (arith, c.len.ensures, c.if-k-len.false)))
