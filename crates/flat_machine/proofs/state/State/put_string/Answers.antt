use Rattle.std.proofs.Common.{◌≡◌, ◌∙◌, ◌++◌, Some, length, take, drop, sym, ap, arith}
use Rattle.std.proofs.Math.Seq.{take-add, take-length}
use Rattle.c_print.specs.PutsEquations.{took_then, broke}
use Rattle.flat_machine.proofs.Texts.{parts}
use Rattle.flat_machine.proofs.state.State.put_string.Goals as goal

pub chunk-chunk-requires-clause-string : goal.chunk-chunk-requires-clause-string
chunk-chunk-requires-clause-string g c =
    let least = c.min-count.ensures in (c.args.len, c.requires.string, omega arith)

pub returns-in_err-put_all-clause-bytes : goal.returns-in_err-put_all-clause-bytes
returns-in_err-put_all-clause-bytes g c = λ places objects p text string long.
    let least = c.min-count.ensures in
    let done = c.loop-done.done in
    let count = c.min-count.result in
    let read = c.chunk-chunk.ensures places objects p text string (omega arith) in
    broke Unit Unit _ _ _ (take done text) _ (drop count (drop done text)) text c.in_err-put_all.field-0.0 c.from_residual.result c.from_residual.ensures.0 (c.loop-done.invariant.begun places objects p text string long) c.in_err-put_all.ensures.bytes (ap (λ piece. take done text ++ (piece ++ drop count (drop done text))) read ∙ parts text done count)

pub loop-done-preserved : goal.loop-done-preserved
loop-done-preserved g c =
    let least = c.min-count.ensures in
    let done = c.loop-done.done in
    let count = c.min-count.result in record {
      within = omega arith;
      faults = c.in_ok-put_all.ensures.cause ∙ c.loop-done.invariant.faults;
      begun = λ places objects p text string long taken told.
          let read = c.chunk-chunk.ensures places objects p text string (omega arith) in
          took_then _ _ _ _ _ (c.loop-done.invariant.begun places objects p text string long) c.in_ok-put_all.ensures.bytes taken told ∙ ap (λ bytes. Some (taken ++ bytes)) (ap (λ piece. take done text ++ piece) read ∙ sym (take-add done count text));
    }

pub returns-clause-bytes : goal.returns-clause-bytes
returns-clause-bytes g c = λ places objects p text string long taken told.
    let all : c.loop-done.done ≡ length text = omega (arith, c.loop-done.invariant.within, c.loop-done-test.false, long) in
    c.loop-done.invariant.begun places objects p text string long taken told ∙ ap (λ bytes. Some (taken ++ bytes)) (ap (λ n. take n text) all ∙ take-length text)
