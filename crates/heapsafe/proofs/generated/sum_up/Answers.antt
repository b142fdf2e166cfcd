use Rattle.std.proofs.Common.{◌∙◌}
use Rattle.heapsafe.proofs.Alone.{sums_up}
use Rattle.heapsafe.proofs.generated.sum_up.Goals as goal

pub returns : goal.returns
returns c =
    sums_up c.args.number c.as_slice-text.result.now c.in_ok-ran.ran (c.as_slice-text.ensures ∙ c.in_ok-text.ensures.text)
    c.in_ok-ran.ensures.answers c.in_ok-ran.ensures.makes
