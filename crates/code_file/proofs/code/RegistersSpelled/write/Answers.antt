use Rattle.std.proofs.Common.{◌++◌, List, ℕ, length, ap, sym, ◌∙◌, subst}
use Rattle.std.specs.List.{All, flat_map}
use Rattle.std.proofs.lemmas.List.Elements.{All-push}
use Rattle.code_file.specs.Spelling.{IsNumber, list_of, number}
use Rattle.code_file.proofs.Lists.{all_done, one_done, written_more}
use Rattle.code_file.proofs.code.RegistersSpelled.write.Goals as goal

pub loop-register-preserved : goal.loop-register-preserved
loop-register-preserved c =
    let done = c.loop-register.yielded in let left = c.loop-register.register-iterator in let r = c.in-Some.register in
    record {
      split = one_done c.args.self.now done left r c.next.new.self c.loop-register.invariant.split c.in-Some.ensures.steps;
      bytes = written_more c.args.text.now.items (number (length c.args.self.now)) done r c.loop-register.text.items c.write-in-loop-register.new.text.items c.loop-register.invariant.bytes c.in_ok-write-2.ensures.bytes;
      ranged = All-push IsNumber done r c.loop-register.invariant.ranged c.in_ok-write-2.ensures.ranged;
    }

pub returns-clause-bytes : goal.returns-clause-bytes
unfolding list_of
returns-clause-bytes c =
    let end = all_done c.args.self.now c.loop-register.yielded c.loop-register.register-iterator c.loop-register.invariant.split c.in-None.ensures.steps.0 in
    c.loop-register.invariant.bytes ∙ ap (λ (rs : List ℕ). c.args.text.now.items ++ (number (length c.args.self.now) ++ flat_map number rs)) (sym end)

pub returns-clause-ranged : goal.returns-clause-ranged
returns-clause-ranged c =
    let end = all_done c.args.self.now c.loop-register.yielded c.loop-register.register-iterator c.loop-register.invariant.split c.in-None.ensures.steps.0 in
    subst (λ (rs : List ℕ). All IsNumber rs) (sym end) c.loop-register.invariant.ranged
