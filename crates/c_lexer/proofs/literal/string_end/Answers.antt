use Rattle.std.proofs.Common.{length, ◌+◌, ◌≤◌, sym, ◌∙◌, arith}
use Rattle.std.proofs.lemmas.List.{take_rest, length-drop}
use Rattle.c_lexer.proofs.Ends.{string_closes, string_fails, string_ends, string_goes_on}
use Rattle.c_lexer.proofs.literal.string_end.Goals as goal

pub returns-then-text-at-eq34-clause-end : goal.returns-then-text-at-eq34-clause-end
returns-then-text-at-eq34-clause-end c =
    string_closes c.args.text.now c.loop-at.at c.loop-at.invariant.reached (omega arith) c.if-text-at-eq34.true

pub returns-then-n-eq0-clause-end : goal.returns-then-n-eq0-clause-end
returns-then-n-eq0-clause-end c =
    let found = rw take_rest at c.character_length-n.ensures.length in
    string_fails c.args.text.now c.loop-at.at c.loop-at.invariant.reached (omega arith) c.if-text-at-eq34.false (sym c.if-n-eq0.true ∙ found)

pub loop-at-preserved : goal.loop-at-preserved
loop-at-preserved c =
    let found = rw take_rest at c.character_length-n.ensures.length in
    let bound = simp (take_rest, length-drop) at c.character_length-n.ensures.bound in
    let within : c.loop-at.at + c.character_length-n.result ≤ length c.args.text.now = omega (arith, bound) in
    record {
      reached = string_goes_on c.args.text.now c.loop-at.at c.character_length-n.result c.loop-at.invariant.reached (omega arith) c.if-text-at-eq34.false found c.if-n-eq0.false within;
      within = within;
    }

pub returns-clause-end : goal.returns-clause-end
returns-clause-end c = string_ends c.args.text.now c.loop-at.at c.loop-at.invariant.reached (omega arith)
