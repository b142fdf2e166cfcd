use Rattle.std.proofs.Common.{◌≡◌, ◌++◌, ap, ◌∙◌, arith}
use Rattle.std.specs.List.{flat_map, range_with_len}
use Rattle.generated_text.proofs.Texts.{function_part, part_more}
use Rattle.generated_text.proofs.text.put_functions.Goals as goal

pub loop-number-preserved : goal.loop-number-preserved
loop-number-preserved c =
    part_more function_part c.loop-number.number c.args.text.now.items c.loop-number.text.items c.put_function.new.text.items
    c.loop-number.invariant c.in_ok-put_function.ensures

pub returns : goal.returns
returns c =
    let all : c.loop-number.number ≡ c.args.functions = omega arith in
    c.loop-number.invariant ∙ ap (λ n. c.args.text.now.items ++ flat_map function_part (range_with_len 0 n)) all
