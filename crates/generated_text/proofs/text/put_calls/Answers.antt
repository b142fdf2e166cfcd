use Rattle.std.proofs.Common.{◌≡◌, ◌++◌, ap, ◌∙◌, arith}
use Rattle.std.specs.List.{flat_map, range_with_len}
use Rattle.generated_text.specs.Text.{call}
use Rattle.generated_text.proofs.Texts.{part_more}
use Rattle.generated_text.proofs.text.put_calls.Goals as goal

pub loop-number-preserved : goal.loop-number-preserved
loop-number-preserved c =
    part_more call c.loop-number.number c.args.text.now.items c.loop-number.text.items c.put_call.new.text.items
    c.loop-number.invariant c.in_ok-put_call.ensures

pub returns : goal.returns
returns c =
    let all : c.loop-number.number ≡ c.args.functions = omega arith in
    c.loop-number.invariant ∙ ap (λ n. c.args.text.now.items ++ flat_map call (range_with_len 0 n)) all
