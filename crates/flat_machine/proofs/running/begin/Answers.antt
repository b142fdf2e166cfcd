use Rattle.std.proofs.Common.{suc, ◌≡◌, ◌^◌, ◌<◌, ◌≤◌, [], arith, ap, subst, sym, ◌∙◌}
use Rattle.std.specs.Prelude.{Some}
use Rattle.flat_code.specs.declared.program.Entry.{Entry}
use Rattle.object_meaning.specs.code.Entering.{cost_of}
use Rattle.flat_machine.specs.Kept.{Kept, taken_by}
use Rattle.flat_objects.specs.Leaks.{KeepsSome}
use Rattle.flat_machine.proofs.Stepped.{cost_is, no_cost}
use Rattle.flat_machine.proofs.Starts.{spent, spent_left, refused, refused_left, called, stands_begins, may_make_main, made_main, reached_all, room_all, good_so_far, less_called, well_called, main_is_there, main_no_none, line_no_none, plain_less, mems_there}
use Rattle.flat_machine.proofs.running.begin.Goals as goal

pub unreachable-requires : goal.unreachable-requires
unreachable-requires g c = line_no_none c.args.code.now c.requires.formed c.in_default.ensures.item

pub unreachable-requires-in_default-get : goal.unreachable-requires-in_default-get
unreachable-requires-in_default-get g c =
    main_no_none c.args.code.now c.args.stack c.args.state.now c.requires.first c.func-func.result c.func-func.ensures c.in_default-get.ensures.item

pub unreachable-requires-in_default-get-2 : goal.unreachable-requires-in_default-get-2
unreachable-requires-in_default-get-2 g c =
    no_cost c.args.loaded.now.costs c.args.code.now c.requires.loaded.costs c.func-func.result c.in-Some-get.main.now (sym c.in-Some-get.ensures.item) c.in_default-get-2.ensures.item

pub returns-then-not-take_step-clause-ends : goal.returns-then-not-take_step-clause-ends
returns-then-not-take_step-clause-ends g c = λ input n room taken same stack.
    spent c.args.code.now c.requires.formed c.args.stack c.args.state.now c.requires.first c.in-Some.line.now c.in-Some.ensures.item input n room taken same (c.take_step.ensures.no c.if-not-take_step.true).1

pub returns-then-cost-from-clause-ends : goal.returns-then-cost-from-clause-ends
returns-then-cost-from-clause-ends g c = λ input n room taken same stack.
    let main = main_is_there c.args.code.now c.args.stack c.args.state.now c.requires.first c.func-func.result c.in-Some-get.main.now c.func-func.ensures c.in-Some-get.ensures.item in
    let cost = cost_is c.args.loaded.now.costs c.args.code.now c.requires.loaded.costs c.func-func.result c.in-Some-get-2.cost.now c.in-Some-get.main.now (sym c.in-Some-get.ensures.item) c.in-Some-get-2.ensures.item ∙ ap (λ (x : Entry). cost_of c.args.code.now (Some x)) main in
    let yes = c.take_step.ensures.yes c.if-not-take_step.false in
    let steps : c.args.state.now.steps ≡ suc c.take_step.new.self.steps = omega (arith, yes.0) in
    let lt : room.stack < c.in-Some-get-2.cost.now = omega (arith, stack, c.if-cost-from.true, c.from.ensures) in
    refused c.args.code.now c.requires.formed c.args.stack c.args.state.now c.requires.first c.in-Some.line.now c.in-Some.ensures.item input c.take_step.new.self.steps steps c.in-Some-get-2.cost.now cost n room taken same lt

pub begin-requires-clause-more : goal.begin-requires-clause-more
begin-requires-clause-more g c =
    let m = c.args.state.now in
    let main = main_is_there c.args.code.now c.args.stack m c.requires.first c.func-func.result c.in-Some-get.main.now c.func-func.ensures c.in-Some-get.ensures.item in
    let cost = cost_is c.args.loaded.now.costs c.args.code.now c.requires.loaded.costs c.func-func.result c.in-Some-get-2.cost.now c.in-Some-get.main.now (sym c.in-Some-get.ensures.item) c.in-Some-get-2.ensures.item ∙ ap (λ (x : Entry). cost_of c.args.code.now (Some x)) main in
    let yes = c.take_step.ensures.yes c.if-not-take_step.false in
    let steps : m.steps ≡ suc c.take_step.new.self.steps = omega (arith, yes.0) in
    plain_less c.args.code.now c.requires.formed c.args.stack m c.requires.first c.in-Some.line.now c.in-Some.ensures.item c.in-Some-get-2.cost.now cost c.take_step.new.self c.take_step.new.self.steps yes.1

pub begin-requires-clause-room : goal.begin-requires-clause-room
begin-requires-clause-room g c =
    let m = c.args.state.now in
    let main = main_is_there c.args.code.now c.args.stack m c.requires.first c.func-func.result c.in-Some-get.main.now c.func-func.ensures c.in-Some-get.ensures.item in
    let cost = cost_is c.args.loaded.now.costs c.args.code.now c.requires.loaded.costs c.func-func.result c.in-Some-get-2.cost.now c.in-Some-get.main.now (sym c.in-Some-get.ensures.item) c.in-Some-get-2.ensures.item ∙ ap (λ (x : Entry). cost_of c.args.code.now (Some x)) main in
    let yes = c.take_step.ensures.yes c.if-not-take_step.false in
    let steps : m.steps ≡ suc c.take_step.new.self.steps = omega (arith, yes.0) in
    let le : c.in-Some-get-2.cost.now ≤ c.args.stack = omega (arith, c.if-cost-from.false, c.from.ensures) in
    omega (arith, le, c.requires.first.room, ap (λ (x : Kept). x.calls.room) yes.1)

pub make_locals-requires-clause-there : goal.make_locals-requires-clause-there
make_locals-requires-clause-there g c = mems_there c.args.code.now c.requires.formed c.func-func.result c.in-Some-get.main.now (sym c.in-Some-get.ensures.item)

pub make_locals-requires-clause-may : goal.make_locals-requires-clause-may
make_locals-requires-clause-may g c =
    let m = c.args.state.now in
    let main = main_is_there c.args.code.now c.args.stack m c.requires.first c.func-func.result c.in-Some-get.main.now c.func-func.ensures c.in-Some-get.ensures.item in
    let cost = cost_is c.args.loaded.now.costs c.args.code.now c.requires.loaded.costs c.func-func.result c.in-Some-get-2.cost.now c.in-Some-get.main.now (sym c.in-Some-get.ensures.item) c.in-Some-get-2.ensures.item ∙ ap (λ (x : Entry). cost_of c.args.code.now (Some x)) main in
    let yes = c.take_step.ensures.yes c.if-not-take_step.false in
    let steps : m.steps ≡ suc c.take_step.new.self.steps = omega (arith, yes.0) in
    let le : c.in-Some-get-2.cost.now ≤ c.args.stack = omega (arith, c.if-cost-from.false, c.from.ensures) in
    may_make_main c.args.code.now c.requires.formed c.args.stack m c.requires.first c.in-Some.line.now c.in-Some.ensures.item [] c.take_step.new.self.steps steps c.in-Some-get-2.cost.now cost c.in-Some-get.main.now main c.take_step.new.self c.begin.new.self yes.1 c.begin.ensures le (subst (λ (k : Kept). taken_by k.calls ≤ k.calls.used) yes.1 c.all_fit.ensures.taken)

pub make_locals-requires-clause-standing : goal.make_locals-requires-clause-standing
make_locals-requires-clause-standing g c =
    let m = c.args.state.now in
    let main = main_is_there c.args.code.now c.args.stack m c.requires.first c.func-func.result c.in-Some-get.main.now c.func-func.ensures c.in-Some-get.ensures.item in
    let cost = cost_is c.args.loaded.now.costs c.args.code.now c.requires.loaded.costs c.func-func.result c.in-Some-get-2.cost.now c.in-Some-get.main.now (sym c.in-Some-get.ensures.item) c.in-Some-get-2.ensures.item ∙ ap (λ (x : Entry). cost_of c.args.code.now (Some x)) main in
    let yes = c.take_step.ensures.yes c.if-not-take_step.false in
    let steps : m.steps ≡ suc c.take_step.new.self.steps = omega (arith, yes.0) in
    (c.requires.first.places, called c.args.code.now c.requires.formed c.args.stack m c.requires.first c.in-Some.line.now c.in-Some.ensures.item [] c.take_step.new.self.steps steps c.in-Some-get-2.cost.now cost _, stands_begins c.args.code.now c.requires.formed c.args.stack m c.requires.first c.in-Some.line.now c.in-Some.ensures.item [] c.take_step.new.self.steps steps c.in-Some-get-2.cost.now cost c.in-Some-get.main.now main c.take_step.new.self c.begin.new.self yes.1 c.begin.ensures)

pub returns-clause-well : goal.returns-clause-well
returns-clause-well g c =
    let m = c.args.state.now in
    let main = main_is_there c.args.code.now c.args.stack m c.requires.first c.func-func.result c.in-Some-get.main.now c.func-func.ensures c.in-Some-get.ensures.item in
    let cost = cost_is c.args.loaded.now.costs c.args.code.now c.requires.loaded.costs c.func-func.result c.in-Some-get-2.cost.now c.in-Some-get.main.now (sym c.in-Some-get.ensures.item) c.in-Some-get-2.ensures.item ∙ ap (λ (x : Entry). cost_of c.args.code.now (Some x)) main in
    let yes = c.take_step.ensures.yes c.if-not-take_step.false in
    let steps : m.steps ≡ suc c.take_step.new.self.steps = omega (arith, yes.0) in
    let le : c.in-Some-get-2.cost.now ≤ c.args.stack = omega (arith, c.if-cost-from.false, c.from.ensures) in
    let made = made_main c.args.code.now c.requires.formed c.args.stack m c.requires.first c.in-Some.line.now c.in-Some.ensures.item [] c.take_step.new.self.steps steps c.in-Some-get-2.cost.now cost c.in-Some-get.main.now main c.take_step.new.self c.begin.new.self yes.1 c.begin.ensures c.make_locals.new.self c.make_locals.ensures in
    let small = subst (λ (k : Kept). k.calls.room < 2 ^ 32) yes.1 c.all_fit.ensures.small in
    well_called c.args.code.now c.requires.formed c.args.stack m c.requires.first c.in-Some.line.now c.in-Some.ensures.item c.run_begins_well.ensures c.requires.bytes c.take_step.new.self.steps steps c.in-Some-get-2.cost.now cost c.requires.budget le small c.make_locals.new.self made

pub returns-clause-room : goal.returns-clause-room
returns-clause-room g c =
    let m = c.args.state.now in
    let main = main_is_there c.args.code.now c.args.stack m c.requires.first c.func-func.result c.in-Some-get.main.now c.func-func.ensures c.in-Some-get.ensures.item in
    let cost = cost_is c.args.loaded.now.costs c.args.code.now c.requires.loaded.costs c.func-func.result c.in-Some-get-2.cost.now c.in-Some-get.main.now (sym c.in-Some-get.ensures.item) c.in-Some-get-2.ensures.item ∙ ap (λ (x : Entry). cost_of c.args.code.now (Some x)) main in
    let yes = c.take_step.ensures.yes c.if-not-take_step.false in
    let steps : m.steps ≡ suc c.take_step.new.self.steps = omega (arith, yes.0) in
    let le : c.in-Some-get-2.cost.now ≤ c.args.stack = omega (arith, c.if-cost-from.false, c.from.ensures) in
    let made = made_main c.args.code.now c.requires.formed c.args.stack m c.requires.first c.in-Some.line.now c.in-Some.ensures.item [] c.take_step.new.self.steps steps c.in-Some-get-2.cost.now cost c.in-Some-get.main.now main c.take_step.new.self c.begin.new.self yes.1 c.begin.ensures c.make_locals.new.self c.make_locals.ensures in
    room_all c.args.code.now c.requires.formed c.args.stack m c.requires.first c.in-Some.line.now c.in-Some.ensures.item [] c.take_step.new.self.steps steps c.in-Some-get-2.cost.now cost le c.make_locals.new.self made

pub returns-clause-reaches : goal.returns-clause-reaches
returns-clause-reaches g c = λ input n room same stack heap.
    let m = c.args.state.now in
    let main = main_is_there c.args.code.now c.args.stack m c.requires.first c.func-func.result c.in-Some-get.main.now c.func-func.ensures c.in-Some-get.ensures.item in
    let cost = cost_is c.args.loaded.now.costs c.args.code.now c.requires.loaded.costs c.func-func.result c.in-Some-get-2.cost.now c.in-Some-get.main.now (sym c.in-Some-get.ensures.item) c.in-Some-get-2.ensures.item ∙ ap (λ (x : Entry). cost_of c.args.code.now (Some x)) main in
    let yes = c.take_step.ensures.yes c.if-not-take_step.false in
    let steps : m.steps ≡ suc c.take_step.new.self.steps = omega (arith, yes.0) in
    let le : c.in-Some-get-2.cost.now ≤ c.args.stack = omega (arith, c.if-cost-from.false, c.from.ensures) in
    let made = made_main c.args.code.now c.requires.formed c.args.stack m c.requires.first c.in-Some.line.now c.in-Some.ensures.item input c.take_step.new.self.steps steps c.in-Some-get-2.cost.now cost c.in-Some-get.main.now main c.take_step.new.self c.begin.new.self yes.1 c.begin.ensures c.make_locals.new.self c.make_locals.ensures in
    let less = less_called c.args.code.now c.requires.formed c.args.stack m c.requires.first c.in-Some.line.now c.in-Some.ensures.item c.run_begins_well.ensures c.requires.bytes c.take_step.new.self.steps steps c.in-Some-get-2.cost.now cost in
    let good = good_so_far c.args.code.now c.requires.formed c.args.stack m c.requires.first c.in-Some.line.now c.in-Some.ensures.item c.run_begins_well.ensures c.requires.bytes c.take_step.new.self.steps steps c.in-Some-get-2.cost.now cost input in
    reached_all c.args.code.now c.requires.formed c.args.stack m c.requires.first c.in-Some.line.now c.in-Some.ensures.item input c.take_step.new.self.steps steps c.in-Some-get-2.cost.now cost le c.make_locals.new.self made n room [] same heap (omega (arith, le, stack)) good less

pub returns-then-not-take_step-clause-left : goal.returns-then-not-take_step-clause-left
returns-then-not-take_step-clause-left g c = λ input n room same stack.
    let no = c.take_step.ensures.no c.if-not-take_step.true in
    spent_left c.args.code.now c.requires.formed c.args.stack c.args.state.now c.requires.first c.in-Some.line.now c.in-Some.ensures.item input n room same no.1 c.take_step.new.self no.0

pub returns-then-not-take_step-clause-kept : goal.returns-then-not-take_step-clause-kept
returns-then-not-take_step-clause-kept g c =
    let no = c.take_step.ensures.no c.if-not-take_step.true in
    subst (λ (k : Kept). KeepsSome k.memory) (sym no.0) (c.requires.first.places, _, c.requires.first.stands.keeps)

pub returns-then-cost-from-clause-left : goal.returns-then-cost-from-clause-left
returns-then-cost-from-clause-left g c = λ input n room same stack.
    let main = main_is_there c.args.code.now c.args.stack c.args.state.now c.requires.first c.func-func.result c.in-Some-get.main.now c.func-func.ensures c.in-Some-get.ensures.item in
    let cost = cost_is c.args.loaded.now.costs c.args.code.now c.requires.loaded.costs c.func-func.result c.in-Some-get-2.cost.now c.in-Some-get.main.now (sym c.in-Some-get.ensures.item) c.in-Some-get-2.ensures.item ∙ ap (λ (x : Entry). cost_of c.args.code.now (Some x)) main in
    let yes = c.take_step.ensures.yes c.if-not-take_step.false in
    let steps : c.args.state.now.steps ≡ suc c.take_step.new.self.steps = omega (arith, yes.0) in
    let lt : room.stack < c.in-Some-get-2.cost.now = omega (arith, stack, c.if-cost-from.true, c.from.ensures) in
    refused_left c.args.code.now c.requires.formed c.args.stack c.args.state.now c.requires.first c.in-Some.line.now c.in-Some.ensures.item input c.take_step.new.self.steps steps c.in-Some-get-2.cost.now cost n room same lt c.take_step.new.self yes.1

pub returns-then-cost-from-clause-kept : goal.returns-then-cost-from-clause-kept
returns-then-cost-from-clause-kept g c =
    let yes = c.take_step.ensures.yes c.if-not-take_step.false in
    subst (λ (k : Kept). KeepsSome k.memory) (sym yes.1) (c.requires.first.places, _, c.requires.first.stands.keeps)
