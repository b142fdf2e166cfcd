use Rattle.std.proofs.Common.{◌≡◌, ◌-◌, ◌≤◌, ℕ, ◌++◌, Some, replicate, take, append_assoc, sym, ap, ◌∙◌, arith, rules}
use Rattle.std.proofs.lemmas.List.{take-replicate, replicate-append-replicate}
use Rattle.c_print.specs.PutsEquations.{took_then, broke}
use Rattle.c_print.proofs.print.put_repeated.Goals as goal

-- all but `left` bytes, and the next of them
further : (byte count left len : ℕ) → len ≤ 64 → len ≤ left → left ≤ count →
    replicate (count - left) byte ++ take len (replicate 64 byte) ≡ replicate (count - (left - len)) byte
further byte count left len short fits within =
    ap (λ run. replicate (count - left) byte ++ run) (take-replicate len 64 byte short)
    ∙ replicate-append-replicate (count - left) len byte ∙ ap (λ n. replicate n byte) (omega arith)

whole : (byte count left len : ℕ) → len ≤ 64 → len ≤ left → left ≤ count →
    replicate (count - left) byte ++ (take len (replicate 64 byte) ++ replicate (left - len) byte) ≡ replicate count byte
whole byte count left len short fits within =
    sym (append_assoc (replicate (count - left) byte) (take len (replicate 64 byte)) (replicate (left - len) byte))
    ∙ ap (λ front. front ++ replicate (left - len) byte) (further byte count left len short fits within)
    ∙ replicate-append-replicate (count - (left - len)) (left - len) byte ∙ ap (λ n. replicate n byte) (omega arith)

pub returns-in_err-put_all-clause-bytes : goal.returns-in_err-put_all-clause-bytes
returns-in_err-put_all-clause-bytes g c =
    let len = c.min-len.ensures in
    broke (Unit {0}) _ _ _ _ (replicate (c.args.count - c.loop-left.left) c.args.byte) _ (replicate (c.loop-left.left - c.min-len.result) c.args.byte) _
    c.in_err-put_all.field-0.0 c.from_residual.result
    c.from_residual.ensures.0 c.loop-left.invariant.begun c.in_err-put_all.ensures.bytes
    (whole c.args.byte c.args.count c.loop-left.left c.min-len.result (omega arith) (omega arith) c.loop-left.invariant.within)

pub loop-left-preserved : goal.loop-left-preserved
loop-left-preserved g c =
    let len = c.min-len.ensures in
    record {
      within = omega arith;
      none_failed = search rules;
      begun = λ taken told. took_then _ _ _ _ _ c.loop-left.invariant.begun c.in_ok-put_all.ensures.bytes taken told
          ∙ ap (λ bytes. Some (taken ++ bytes)) (further c.args.byte c.args.count c.loop-left.left c.min-len.result (omega arith) (omega arith) c.loop-left.invariant.within);
    }
