use Rattle.std.proofs.Common.{rules, sym, subst}
use Rattle.std.proofs.lemmas.Int.{to_z-of_z}
use mir.Syntax.{w128}
use mir.Val.{SFits}
use Rattle.object_meaning.specs.objects.Values.{pointer_at}
use Rattle.flat_objects.specs.Standing.{IsAddressOf}
use Rattle.flat_objects.specs.Keeping.{IsKept}
use Rattle.flat_machine.proofs.WordLists.{address_at_is}
use Rattle.flat_machine.proofs.Movements.{strlen_alone, strlen_traps, strcmp_alone, strcmp_traps}
use Rattle.flat_machine.proofs.state.State.act_string.Goals as goal

pub string_length-requires : goal.string_length-requires
string_length-requires g c = subst (λ addr. IsKept c.args.self.now.memory addr) (sym c.address-p.ensures) (c.requires.kept 0)

pub string_order-requires-clause-one : goal.string_order-requires-clause-one
string_order-requires-clause-one g c = subst (λ addr. IsKept c.args.self.now.memory addr) (sym c.address-p.ensures) (c.requires.kept 0)

pub string_order-requires-clause-other : goal.string_order-requires-clause-other
string_order-requires-clause-other g c = subst (λ addr. IsKept c.args.self.now.memory addr) (sym c.address.ensures) (c.requires.kept 1)

pub returns-in-Ok-clause-leads : goal.returns-in-Ok-clause-leads
returns-in-Ok-clause-leads g c = λ places s h.
    let fits_n : SFits w128 c.from.result = search rules in
    let gives = rw (to_z-of_z w128 c.from.result fits_n) at c.give_number.ensures in
    let stands = subst (λ addr. IsAddressOf places s.state.objects (pointer_at s.handed 0) addr) (sym c.address-p.ensures) (address_at_is places s.state.objects s.handed c.args.self.now.handed 0 h.handed) in
    rw c.in-Strlen.is (strlen_alone c.args.line places s c.args.self.now h c.args.r c.give_number.new.self c.in-Ok.n c.from.result (c.in-Ok.ensures places s.state.objects (pointer_at s.handed 0) (record { keeps = h.keeps; stands = stands })) c.from.ensures gives)

pub returns-in-Err-clause-leads : goal.returns-in-Err-clause-leads
returns-in-Err-clause-leads g c = λ places s h.
    let stands = subst (λ addr. IsAddressOf places s.state.objects (pointer_at s.handed 0) addr) (sym c.address-p.ensures) (address_at_is places s.state.objects s.handed c.args.self.now.handed 0 h.handed) in
    rw c.in-Strlen.is (strlen_traps c.args.line places s c.args.self.now h c.args.r c.args.self.now c.in-Err.kind (c.in-Err.ensures places s.state.objects (pointer_at s.handed 0) (record { keeps = h.keeps; stands = stands })))

pub returns-in-Ok-string_order-clause-leads : goal.returns-in-Ok-string_order-clause-leads
returns-in-Ok-string_order-clause-leads g c = λ places s h.
    let fits_n : SFits w128 c.in-Ok-string_order.n = search rules in
    let gives = rw (to_z-of_z w128 c.in-Ok-string_order.n fits_n) at c.give_number-in-Ok-string_order.ensures in
    let stands = subst (λ addr. IsAddressOf places s.state.objects (pointer_at s.handed 0) addr) (sym c.address-p.ensures) (address_at_is places s.state.objects s.handed c.args.self.now.handed 0 h.handed) in
    let other = subst (λ addr. IsAddressOf places s.state.objects (pointer_at s.handed 1) addr) (sym c.address.ensures) (address_at_is places s.state.objects s.handed c.args.self.now.handed 1 h.handed) in
    rw c.in-Strcmp.is (strcmp_alone c.args.line places s c.args.self.now h c.args.r c.give_number-in-Ok-string_order.new.self c.in-Ok-string_order.n (c.in-Ok-string_order.ensures.orders places s.state.objects (pointer_at s.handed 0) (pointer_at s.handed 1) (record { keeps = h.keeps; stands = stands }) other) gives)

pub returns-in-Err-string_order-clause-leads : goal.returns-in-Err-string_order-clause-leads
returns-in-Err-string_order-clause-leads g c = λ places s h.
    let stands = subst (λ addr. IsAddressOf places s.state.objects (pointer_at s.handed 0) addr) (sym c.address-p.ensures) (address_at_is places s.state.objects s.handed c.args.self.now.handed 0 h.handed) in
    let other = subst (λ addr. IsAddressOf places s.state.objects (pointer_at s.handed 1) addr) (sym c.address.ensures) (address_at_is places s.state.objects s.handed c.args.self.now.handed 1 h.handed) in
    rw c.in-Strcmp.is (strcmp_traps c.args.line places s c.args.self.now h c.args.r c.args.self.now c.in-Err-string_order.kind (c.in-Err-string_order.ensures.orders places s.state.objects (pointer_at s.handed 0) (pointer_at s.handed 1) (record { keeps = h.keeps; stands = stands }) other))
