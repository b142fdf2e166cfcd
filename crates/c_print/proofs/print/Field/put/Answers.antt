use Rattle.std.proofs.Common.{◌≡◌, ℕ, List, [], ◌++◌, Some, replicate, refl, sym, ap, ◌∙◌, append_assoc, append-nil}
use Rattle.c_print.specs.PutsEquations.{took_none, took_then, broke}
use Rattle.c_print.proofs.print.Field.put.Goals as goal

-- the parts of a field, split behind one of them
split_1 : (a b c d e : List ℕ) → [] ++ (a ++ (b ++ (c ++ (d ++ e)))) ≡ a ++ (b ++ (c ++ (d ++ e)))
split_1 a b c d e = refl

split_3 : (a b c d e : List ℕ) → (a ++ b) ++ (c ++ (d ++ e)) ≡ a ++ (b ++ (c ++ (d ++ e)))
split_3 a b c d e = append_assoc a b (c ++ (d ++ e))

split_4 : (a b c d e : List ℕ) → ((a ++ b) ++ c) ++ (d ++ e) ≡ a ++ (b ++ (c ++ (d ++ e)))
split_4 a b c d e = append_assoc (a ++ b) c (d ++ e) ∙ split_3 a b c d e

split_5 : (a b c d e : List ℕ) → (((a ++ b) ++ c) ++ d) ++ e ≡ a ++ (b ++ (c ++ (d ++ e)))
split_5 a b c d e = append_assoc ((a ++ b) ++ c) d e ∙ split_4 a b c d e

split_last : (a b c d e : List ℕ) → (((a ++ b) ++ c) ++ d) ++ (e ++ []) ≡ a ++ (b ++ (c ++ (d ++ e)))
split_last a b c d e = ap (λ l. (((a ++ b) ++ c) ++ d) ++ l) (append-nil e) ∙ split_5 a b c d e

pub returns-in_err-put_repeated-clause-bytes : goal.returns-in_err-put_repeated-clause-bytes
returns-in_err-put_repeated-clause-bytes g c =
    let f = c.fills-fills.result in
    let whole = sym (c.fills-fills.ensures.filled c.args.sign.now c.args.text.now refl) in
    broke (Unit {0}) _ _ _ _ [] _ (c.args.sign.now ++ (replicate f.zeros 48 ++ (c.args.text.now ++ (replicate f.after 32)))) _ c.in_err-put_repeated.field-0.0 c.from_residual.result c.from_residual.ensures.0
    (took_none _) c.in_err-put_repeated.ensures.bytes (split_1 (replicate f.before 32) c.args.sign.now (replicate f.zeros 48) c.args.text.now (replicate f.after 32) ∙ whole)

pub returns-in_err-put_all-clause-bytes : goal.returns-in_err-put_all-clause-bytes
returns-in_err-put_all-clause-bytes g c =
    let f = c.fills-fills.result in
    let whole = sym (c.fills-fills.ensures.filled c.args.sign.now c.args.text.now refl) in
    broke (Unit {0}) _ _ _ _ (replicate f.before 32) _ (replicate f.zeros 48 ++ (c.args.text.now ++ (replicate f.after 32))) _ c.in_err-put_all.field-0.0 c.from_residual-in_err-put_all.result c.from_residual-in_err-put_all.ensures.0
    (c.in_ok-put_repeated.ensures.bytes) c.in_err-put_all.ensures.bytes (whole)

pub returns-in_err-put_repeated-2-clause-bytes : goal.returns-in_err-put_repeated-2-clause-bytes
returns-in_err-put_repeated-2-clause-bytes g c =
    let f = c.fills-fills.result in
    let whole = sym (c.fills-fills.ensures.filled c.args.sign.now c.args.text.now refl) in
    broke (Unit {0}) _ _ _ _ ((replicate f.before 32) ++ c.args.sign.now) _ (c.args.text.now ++ (replicate f.after 32)) _ c.in_err-put_repeated-2.field-0.0 c.from_residual-in_err-put_repeated-2.result c.from_residual-in_err-put_repeated-2.ensures.0
    (took_then _ _ _ _ _ (c.in_ok-put_repeated.ensures.bytes) c.in_ok-put_all.ensures.bytes) c.in_err-put_repeated-2.ensures.bytes (split_3 (replicate f.before 32) c.args.sign.now (replicate f.zeros 48) c.args.text.now (replicate f.after 32) ∙ whole)

pub returns-in_err-put_all-2-clause-bytes : goal.returns-in_err-put_all-2-clause-bytes
returns-in_err-put_all-2-clause-bytes g c =
    let f = c.fills-fills.result in
    let whole = sym (c.fills-fills.ensures.filled c.args.sign.now c.args.text.now refl) in
    broke (Unit {0}) _ _ _ _ (((replicate f.before 32) ++ c.args.sign.now) ++ replicate f.zeros 48) _ (replicate f.after 32) _ c.in_err-put_all-2.field-0.0 c.from_residual-in_err-put_all-2.result c.from_residual-in_err-put_all-2.ensures.0
    (took_then _ _ _ _ _ (took_then _ _ _ _ _ (c.in_ok-put_repeated.ensures.bytes) c.in_ok-put_all.ensures.bytes) c.in_ok-put_repeated-2.ensures.bytes) c.in_err-put_all-2.ensures.bytes (split_4 (replicate f.before 32) c.args.sign.now (replicate f.zeros 48) c.args.text.now (replicate f.after 32) ∙ whole)

pub returns-in_err-put_repeated-3-clause-bytes : goal.returns-in_err-put_repeated-3-clause-bytes
returns-in_err-put_repeated-3-clause-bytes g c =
    let f = c.fills-fills.result in
    let whole = sym (c.fills-fills.ensures.filled c.args.sign.now c.args.text.now refl) in
    broke (Unit {0}) _ _ _ _ ((((replicate f.before 32) ++ c.args.sign.now) ++ replicate f.zeros 48) ++ c.args.text.now) _ [] _ c.in_err-put_repeated-3.field-0.0 c.from_residual-in_err-put_repeated-3.result c.from_residual-in_err-put_repeated-3.ensures.0
    (took_then _ _ _ _ _ (took_then _ _ _ _ _ (took_then _ _ _ _ _ (c.in_ok-put_repeated.ensures.bytes) c.in_ok-put_all.ensures.bytes) c.in_ok-put_repeated-2.ensures.bytes) c.in_ok-put_all-2.ensures.bytes) c.in_err-put_repeated-3.ensures.bytes (split_last (replicate f.before 32) c.args.sign.now (replicate f.zeros 48) c.args.text.now (replicate f.after 32) ∙ whole)

pub returns-clause-bytes : goal.returns-clause-bytes
returns-clause-bytes g c = λ taken told.
    let f = c.fills-fills.result in
    let whole = sym (c.fills-fills.ensures.filled c.args.sign.now c.args.text.now refl) in
    (took_then _ _ _ _ _ (took_then _ _ _ _ _ (took_then _ _ _ _ _ (took_then _ _ _ _ _ (c.in_ok-put_repeated.ensures.bytes) c.in_ok-put_all.ensures.bytes) c.in_ok-put_repeated-2.ensures.bytes) c.in_ok-put_all-2.ensures.bytes) c.in_ok-put_repeated-3.ensures.bytes) taken told
    ∙ ap (λ bytes. Some (taken ++ bytes)) (split_5 (replicate f.before 32) c.args.sign.now (replicate f.zeros 48) c.args.text.now (replicate f.after 32) ∙ whole)
