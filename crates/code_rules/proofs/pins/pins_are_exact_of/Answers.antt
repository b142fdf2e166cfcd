use Rattle.std.proofs.Common.{List, Bool, sym, subst}
use Rattle.std.proofs.lemmas.Result.{IfOk-weaker}
use Rattle.code_rules.specs.Lively.{AreMarked}
use Rattle.code_rules.proofs.PinFacts.{by_marks}
use Rattle.code_rules.proofs.pins.pins_are_exact_of.Goals as goal

pub returns : goal.returns
returns c =
    let code = c.args.code.now in let r = c.args.register in
    let are = subst (λ (m : List Bool). AreMarked code r m) (sym c.deref.ensures.value) c.in_ok-marks.ensures in
    IfOk-weaker c.each_instr.result _ _ (by_marks code c.deref.result.now r are) c.each_instr.ensures
