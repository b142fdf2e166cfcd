use Rattle.std.proofs.Common.{◌≡◌, ◌*◌, ◌<◌, ◌^◌, subst, sym, ap, ◌∙◌, arith}
use Rattle.byte_memory.specs.Bytes.{put_word}
use Rattle.hs_base.specs.AccessEquations.{bytes_are}
use Rattle.byte_memory.specs.BytesEquations.{stored_byte}
use Rattle.byte_memory.proofs.Words.{stored}
use Rattle.byte_memory.proofs.flat_bytes.store.Goals as goal

pub returns-in-1 : goal.returns-in-1
returns-in-1 c =
    stored_byte c.args.bytes.now c.args.at c.args.value (omega arith) (subst (λ width. c.args.value < 2 ^ (8 * width)) c.in-1.is c.requires.fits)
    ∙ ap (λ width. put_word c.args.bytes.now c.args.at width c.args.value) (sym c.in-1.is)

pub returns-in-2 : goal.returns-in-2
returns-in-2 c =
    stored c.args.bytes.now c.args.at _ c.copy_from_slice.new.self 2 c.args.value (omega arith)
    (c.copy_from_slice.ensures.after ∙ c.to_le_bytes.ensures ∙ bytes_are 2 c.args.value)
    ∙ ap (λ width. put_word c.args.bytes.now c.args.at width c.args.value) (sym c.in-2.is)

pub returns-in-4 : goal.returns-in-4
returns-in-4 c =
    stored c.args.bytes.now c.args.at _ c.copy_from_slice-in-4.new.self 4 c.args.value (omega arith)
    (c.copy_from_slice-in-4.ensures.after ∙ c.to_le_bytes-in-4.ensures ∙ bytes_are 4 c.args.value)
    ∙ ap (λ width. put_word c.args.bytes.now c.args.at width c.args.value) (sym c.in-4.is)

pub returns-in_default : goal.returns-in_default
returns-in_default c =
    let wide : c.args.width ≡ 8 = omega arith in
    stored c.args.bytes.now c.args.at _ c.copy_from_slice-in_default.new.self 8 c.args.value (omega arith)
    (c.copy_from_slice-in_default.ensures.after ∙ c.to_le_bytes-in_default.ensures ∙ bytes_are 8 c.args.value)
    ∙ ap (λ width. put_word c.args.bytes.now c.args.at width c.args.value) (sym wide)
