use Rattle.std.proofs.Common.{◌≡◌, ℕ, ◌+◌, ◌-◌, ◌≤◌, List, [], ◌∷◌, ◌++◌, length, take, drop, ap, subst, sym, ◌∙◌, arith}
use Rattle.std.proofs.lemmas.List.{take_rest, length-drop}
use Rattle.c_lexer.specs.Literals.{character_value}
use Rattle.c_lexer.proofs.Values.{AtValues, values_end, values_stop, values_on}
use Rattle.c_lexer.proofs.literal.values_from.Goals as goal

pub returns-then-n-eq0 : goal.returns-then-n-eq0
returns-then-n-eq0 c =
    let found = rw take_rest at c.character_length-n.ensures.length in
    values_stop c.args.quote c.args.text.now c.loop-at.at c.loop-at.values.items c.loop-at.invariant.reached (sym found ∙ c.if-n-eq0.true)

pub loop-at-preserved : goal.loop-at-preserved
loop-at-preserved c =
    let found = rw take_rest at c.character_length-n.ensures.length in
    let bound = simp (take_rest, length-drop) at c.character_length-n.ensures.bound in
    let within : c.loop-at.at + c.character_length-n.result ≤ length c.args.text.now = omega (arith, bound) in
    let range : c.loop-at.at + c.character_length-n.result - c.loop-at.at ≡ c.character_length-n.result = omega arith in
    let value : c.character_value.result ≡ character_value (take c.character_length-n.result (drop c.loop-at.at c.args.text.now)) =
    c.character_value.ensures ∙ ap (λ k. character_value (take k (drop c.loop-at.at c.args.text.now))) range in
    let P : List ℕ → Type 0 = AtValues c.args.quote c.args.text.now (c.loop-at.at + c.character_length-n.result) in
    let all = values_on c.args.quote c.args.text.now c.loop-at.at c.character_length-n.result c.loop-at.values.items c.loop-at.invariant.reached (sym found) c.if-n-eq0.false within in
    record {
      reached = subst P (ap (λ v. c.loop-at.values.items ++ v ∷ []) (sym value) ∙ sym c.in_ok-push.ensures.items) all;
      within = within;
    }

pub returns : goal.returns
returns c = values_end c.args.quote c.args.text.now c.loop-at.at c.loop-at.values.items c.loop-at.invariant.reached c.loop-at-test.false
