use Rattle.std.proofs.Common.{◌≡◌, ◌-◌, ◌∙◌, ◌++◌, length, replicate, sym, ap, arith}
use Rattle.byte_memory.specs.Bytes.{word}
use Rattle.byte_memory.specs.FilledEquations.{length-filled_up}
use Rattle.byte_memory.proofs.Filling.{filled_is, word_first}
use Rattle.byte_memory.proofs.flat_bytes.FlatBytes.read.Goals as goal

pub returns-then-at-width-clause-value : goal.returns-then-at-width-clause-value
returns-then-at-width-clause-value g c =
    let items = c.self.inside.bytes.items in
    let same : c.as_slice-bytes.result.now ≡ items = c.as_slice-bytes.ensures.value in
    c.load.ensures.value ∙ ap (λ l. word l c.args.addr c.args.width) same
    ∙ sym (word_first items c.self.inside.size c.args.addr c.args.width (omega (arith, c.if-at-width.true, ap length same)))
    ∙ ap (λ l. word l c.args.addr c.args.width) c.self.view_is

pub returns-else-at-width-clause-value : goal.returns-else-at-width-clause-value
returns-else-at-width-clause-value g c =
    let items = c.self.inside.bytes.items in
    let size = c.self.inside.size in
    let more = size - length items in
    let same : c.as_slice-bytes.result.now ≡ items = c.as_slice-bytes.ensures.value in
    let long = length-filled_up items size 0 c.self.invariant.0 in
    c.load_past.ensures.value more (omega (arith, ap length same, long, ap length c.self.view_is, c.self.invariant.0))
    ∙ ap (λ l. word (l ++ replicate more 0) c.args.addr c.args.width) same
    ∙ ap (λ l. word l c.args.addr c.args.width) (sym (filled_is items size 0) ∙ c.self.view_is)
