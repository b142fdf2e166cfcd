use Rattle.std.proofs.Common.{◌∙◌, ◌-◌, ◌++◌, [], Some, append-nil, replicate, sym, ap, arith}
use Rattle.c_print.specs.PutsEquations.{took_none, took_then, broke}
use Rattle.flat_machine.specs.Writing.{padded}
use Rattle.flat_machine.proofs.Texts.{padded_left, padded_right, padded_length}
use Rattle.flat_machine.proofs.state.State.put_padded.Goals.{then-field+in_ok-put_string+in_ok-put_repeated, else-field+in_ok-put_repeated-2+in_ok-put_string-2}
use Rattle.flat_machine.proofs.state.State.put_padded.Goals as goal

pub returns-in_err-put_string-clause-bytes : goal.returns-in_err-put_string-clause-bytes
returns-in_err-put_string-clause-bytes g c = λ places objects p text string long.
    let f = c.args.field in
    let fill = c.saturating_sub-fill.result in
    let is = c.saturating_sub-fill.ensures ∙ ap (λ n. f.width - n) long in
    broke Unit _ _ _ _ [] text (replicate fill 32) (padded f text) c.in_err-put_string.field-0.0 c.from_residual.result c.from_residual.ensures.0 (took_none _) (c.in_err-put_string.ensures.bytes places objects p text string long) (sym (padded_right f text fill is c.if-field.true))

pub returns-in_err-put_repeated-clause-bytes : goal.returns-in_err-put_repeated-clause-bytes
returns-in_err-put_repeated-clause-bytes g c = λ places objects p text string long.
    let f = c.args.field in
    let fill = c.saturating_sub-fill.result in
    let is = c.saturating_sub-fill.ensures ∙ ap (λ n. f.width - n) long in
    broke Unit _ _ _ _ text (replicate fill 32) [] (padded f text) c.in_err-put_repeated.field-0.0 c.from_residual-in_err-put_repeated.result c.from_residual-in_err-put_repeated.ensures.0 (c.in_ok-put_string.ensures.bytes places objects p text string long) c.in_err-put_repeated.ensures.bytes (ap (λ l. text ++ l) (append-nil (replicate fill 32)) ∙ sym (padded_right f text fill is c.if-field.true))

pub returns-in_err-put_repeated-2-clause-bytes : goal.returns-in_err-put_repeated-2-clause-bytes
returns-in_err-put_repeated-2-clause-bytes g c = λ places objects p text string long.
    let f = c.args.field in
    let fill = c.saturating_sub-fill.result in
    let is = c.saturating_sub-fill.ensures ∙ ap (λ n. f.width - n) long in
    broke Unit _ _ _ _ [] (replicate fill 32) text (padded f text) c.in_err-put_repeated-2.field-0.0 c.from_residual-in_err-put_repeated-2.result c.from_residual-in_err-put_repeated-2.ensures.0 (took_none _) c.in_err-put_repeated-2.ensures.bytes (sym (padded_left f text fill is c.if-field.false))

pub returns-in_err-put_string-2-clause-bytes : goal.returns-in_err-put_string-2-clause-bytes
returns-in_err-put_string-2-clause-bytes g c = λ places objects p text string long.
    let f = c.args.field in
    let fill = c.saturating_sub-fill.result in
    let is = c.saturating_sub-fill.ensures ∙ ap (λ n. f.width - n) long in
    broke Unit _ _ _ _ (replicate fill 32) text [] (padded f text) c.in_err-put_string-2.field-0.0 c.from_residual-in_err-put_string-2.result c.from_residual-in_err-put_string-2.ensures.0 c.in_ok-put_repeated-2.ensures.bytes (c.in_err-put_string-2.ensures.bytes places objects p text string long) (ap (λ l. replicate fill 32 ++ l) (append-nil text) ∙ sym (padded_left f text fill is c.if-field.false))

pub returns-clause-bytes : goal.returns-clause-bytes
returns-clause-bytes g c = λ places objects p text string long.
    let f = c.args.field in
    let fill = c.saturating_sub-fill.result in
    let is = c.saturating_sub-fill.ensures ∙ ap (λ n. f.width - n) long in
    elim c.if-field.branch [ then-field+in_ok-put_string+in_ok-put_repeated w ↦ λ taken told. ap g.O.Sink.taken w.out-is ∙ took_then _ _ _ _ _ (w.in_ok-put_string.ensures.bytes places objects p text string long) w.in_ok-put_repeated.ensures.bytes taken told ∙ ap (λ l. Some (taken ++ l)) (sym (padded_right f text fill is w.if-field.true)) | else-field+in_ok-put_repeated-2+in_ok-put_string-2 w ↦ λ taken told. ap g.O.Sink.taken w.out-is ∙ took_then _ _ _ _ _ w.in_ok-put_repeated-2.ensures.bytes (w.in_ok-put_string-2.ensures.bytes places objects p text string long) taken told ∙ ap (λ l. Some (taken ++ l)) (sym (padded_left f text fill is w.if-field.false)) ]

pub returns-clause-len : goal.returns-clause-len
returns-clause-len g c = λ text long.
    let f = c.args.field in
    let fill = c.saturating_sub-fill.result in
    let is = c.saturating_sub-fill.ensures ∙ ap (λ n. f.width - n) long in
    omega (arith, padded_length f text fill is, c.from.ensures, c.from-2.ensures, long)
