use Rattle.std.proofs.Common.{◌+◌, ◌∷◌, length, sym, ap, subst, ◌∙◌, arith}
use Rattle.std.proofs.lemmas.List.Elements.{All-head, All-tail}
use Rattle.flat_code.specs.Runs.{AreRuns, IsRun, registers_left}
use Rattle.flat_code.proofs.RunLists.{left_in, left_run}
use Rattle.flat_code.proofs.registers.RegisterIterIterator.next.Goals as goal

pub returns-then-self-clause-steps : goal.returns-then-self-clause-steps
returns-then-self-clause-steps c =
    sym c.self.view_is ∙ left_in c.self.inside.next c.self.inside.end c.self.inside.runs.now c.if-self.true

pub returns-then-self-clause-goes : goal.returns-then-self-clause-goes
returns-then-self-clause-goes c =
    let e = sym c.self.view_is ∙ left_in c.self.inside.next c.self.inside.end c.self.inside.runs.now c.if-self.true in
    record { on = λ finite. (tt, finite, omega (arith, ap length e)); keeps = tt; rests = λ _. tt }

pub invariant_of-self-in-Some : goal.invariant_of-self-in-Some
invariant_of-self-in-Some c =
    let run = c.in-Some.run'.now in let others = c.in-Some.others.now in
    let each : AreRuns (run ∷ others) = subst AreRuns c.in-Some.ensures.cases.0 c.self.invariant.each in
    let first = All-head IsRun run others each in
    record { small = omega (arith, first.small, c.from-in-Some.ensures); each = All-tail IsRun run others each }

pub returns-in-Some-clause-steps : goal.returns-in-Some-clause-steps
returns-in-Some-clause-steps c =
    let run = c.in-Some.run'.now in let others = c.in-Some.others.now in
    let each : AreRuns (run ∷ others) = subst AreRuns c.in-Some.ensures.cases.0 c.self.invariant.each in
    sym c.self.view_is
    ∙ left_run c.self.inside.next c.self.inside.end run others c.self.inside.runs.now c.if-self.false c.in-Some.ensures.cases.0 (All-head IsRun run others each)
    ∙ ap (λ n. run.first ∷ registers_left (n + 1) (run.last + 1) others) (sym c.from.ensures)
    ∙ ap (λ n. run.first ∷ registers_left (c.from.result + 1) (n + 1) others) (sym c.from-in-Some.ensures)

pub returns-in-Some-clause-goes : goal.returns-in-Some-clause-goes
returns-in-Some-clause-goes c =
    let run = c.in-Some.run'.now in let others = c.in-Some.others.now in
    let each : AreRuns (run ∷ others) = subst AreRuns c.in-Some.ensures.cases.0 c.self.invariant.each in
    let e =
    sym c.self.view_is
    ∙ left_run c.self.inside.next c.self.inside.end run others c.self.inside.runs.now c.if-self.false c.in-Some.ensures.cases.0 (All-head IsRun run others each)
    ∙ ap (λ n. run.first ∷ registers_left (n + 1) (run.last + 1) others) (sym c.from.ensures)
    ∙ ap (λ n. run.first ∷ registers_left (c.from.result + 1) (n + 1) others) (sym c.from-in-Some.ensures) in
    record { on = λ finite. (tt, finite, omega (arith, ap length e)); keeps = tt; rests = λ _. tt }
