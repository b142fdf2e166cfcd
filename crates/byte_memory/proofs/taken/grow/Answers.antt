use Rattle.std.proofs.Common.{◌≡◌, ◌≤◌, ◌+◌, ◌-◌, ◌∙◌, ◌++◌, ap, length, replicate, take, arith}
use Rattle.std.specs.Bool.{if◌then◌else◌}
use Rattle.std.specs.Prelude.{vec_len}
use Rattle.std.proofs.lemmas.List.{take_all}
use Rattle.byte_memory.specs.Filled.{filled_up}
use Rattle.byte_memory.proofs.Filling.{filled_more}
use Rattle.byte_memory.proofs.taken.grow.Goals as goal

pub returns-clause-same : goal.returns-clause-same
returns-clause-same g c =
    let old = c.args.list.now.items in
    let n = c.args.len + c.min-more.result in
    let fits : length old ≤ n = omega arith in
    let counted : vec_len c.args.list.now ≡ length old = omega arith in
    let less : n ≤ c.args.most = omega (arith, c.min-more.ensures) in
    let added : c.resize.new.self.items ≡ old ++ replicate (n - length old) c.args.item =
    c.resize.ensures.items
    ∙ ap (λ b. if b then take n old ++ replicate (n - vec_len c.args.list.now) c.args.item else old) c.if-is_err.ensures.negation
    ∙ ap (λ k. take n old ++ replicate (n - k) c.args.item) counted
    ∙ ap (λ l. l ++ replicate (n - length old) c.args.item) (take_all n old fits) in
    ap (λ l. filled_up l c.args.most c.args.item) added ∙ filled_more old c.args.most n c.args.item fits less
