use Rattle.std.proofs.Common.{◌∙◌}
use Rattle.count_insertion.specs.Points.{count_first}
use Rattle.count_insertion.proofs.Points.{all_left, first_left, first_taken, none_first, none_taken, others_are}
use Rattle.count_insertion.proofs.listed.PinsLeft.take.Goals as goal

pub returns-then-first-point : goal.returns-then-first-point
returns-then-first-point c =
    let old = c.args.self.now in
    let none = none_first old c.self.inside.points.now c.in-Some.others.now c.in-Some.first.now c.self.view_is c.in-Some.ensures.cases.0 c.self.invariant c.args.point c.if-first-point.true in
    record {
      taken = c.new-then-first-point.ensures ∙ none_taken old (count_first c.args.point old) none;
      left = all_left old (count_first c.args.point old) none;
    }

pub invariant_of-self : goal.invariant_of-self
invariant_of-self c =
    others_are c.args.self.now c.self.inside.points.now c.in-Some.others.now c.in-Some.first.now c.self.view_is c.in-Some.ensures.cases.0 c.self.invariant

pub returns : goal.returns
returns c =
    let old = c.args.self.now in let points = c.self.inside.points.now in
    let others = c.in-Some.others.now in let first = c.in-Some.first.now in
    let split = c.in-Some.ensures.cases.0 in
    record {
      taken = c.in_ok-registers.ensures ∙ first_taken old points others first c.self.view_is split c.self.invariant c.args.point c.if-first-point.false;
      left = first_left old points others first c.self.view_is split c.self.invariant c.args.point c.if-first-point.false;
    }
