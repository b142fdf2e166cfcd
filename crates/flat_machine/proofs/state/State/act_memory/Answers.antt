use Rattle.std.proofs.Common.{rules, ◌∙◌, ap, subst, sym}
use Rattle.std.proofs.lemmas.Int.{to_z-of_z}
use mir.Syntax.{w128}
use mir.Val.{SFits}
use Rattle.object_meaning.specs.objects.Values.{pointer_at}
use Rattle.flat_objects.specs.Memory.{Memory}
use Rattle.flat_objects.specs.Standing.{IsAddressOf}
use Rattle.flat_objects.specs.Keeping.{KeepsAt}
use Rattle.flat_objects.specs.Counting.{IsStorable}
use Rattle.flat_machine.specs.Words.{address_at}
use Rattle.flat_machine.specs.Kept.{gone_on}
use Rattle.flat_machine.proofs.Accesses.{kept_here, load_alone, load_traps, loadp_alone, loadp_traps, store_alone, store_traps, storep_alone, storep_traps}
use Rattle.flat_machine.proofs.state.State.act_memory.Goals as goal

pub returns-in-Ok-clause-alone : goal.returns-in-Ok-clause-alone
returns-in-Ok-clause-alone g c = λ code sizes places s h.
    let fits : SFits w128 c.in-Ok.n = search rules in
    let gives = rw (to_z-of_z w128 c.in-Ok.n fits) at c.give_number.ensures in
    let at = kept_here code sizes c.args.line c.args.instr places s c.args.self.now h 0 c.address-addr.result c.address-addr.ensures in
    rw c.in-Load.is (load_alone code sizes c.args.line c.args.instr places s c.args.self.now h c.give_number.new.self c.in-Load.kind c.in-Ok.n (c.in-Ok.ensures.loads places s.state.objects (pointer_at s.handed 0) at) gives)

pub returns-in-Err-clause-alone : goal.returns-in-Err-clause-alone
returns-in-Err-clause-alone g c = λ code sizes places s h.
    let at = kept_here code sizes c.args.line c.args.instr places s c.args.self.now h 0 c.address-addr.result c.address-addr.ensures in
    rw c.in-Load.is (load_traps code sizes c.args.line c.args.instr places s c.args.self.now h c.args.self.now c.in-Load.kind c.in-Err.kind (c.in-Err.ensures.loads places s.state.objects (pointer_at s.handed 0) at))

pub returns-in-Ok-load_pointer-clause-alone : goal.returns-in-Ok-load_pointer-clause-alone
returns-in-Ok-load_pointer-clause-alone g c = λ code sizes places s h.
    let at = kept_here code sizes c.args.line c.args.instr places s c.args.self.now h 0 c.address-addr.result c.address-addr.ensures in
    rw c.in-Loadp.is (loadp_alone code sizes c.args.line c.args.instr places s c.args.self.now h c.give_address.new.self c.in-Ok-load_pointer.target (c.in-Ok-load_pointer.ensures places s.state.objects (pointer_at s.handed 0) at) c.give_address.ensures)

pub returns-in-Err-load_pointer-clause-alone : goal.returns-in-Err-load_pointer-clause-alone
returns-in-Err-load_pointer-clause-alone g c = λ code sizes places s h.
    let at = kept_here code sizes c.args.line c.args.instr places s c.args.self.now h 0 c.address-addr.result c.address-addr.ensures in
    rw c.in-Loadp.is (loadp_traps code sizes c.args.line c.args.instr places s c.args.self.now h c.args.self.now c.in-Err-load_pointer.kind (c.in-Err-load_pointer.ensures places s.state.objects (pointer_at s.handed 0) at))

pub returns-in-Ok-store-clause-alone : goal.returns-in-Ok-store-clause-alone
returns-in-Ok-store-clause-alone g c = λ code sizes places s h.
    let fits : SFits w128 c.integer-n.result = search rules in
    let at = kept_here code sizes c.args.line c.args.instr places s c.args.self.now h 0 c.address-addr.result c.address-addr.ensures in
    let changes = rw (to_z-of_z w128 c.integer-n.result fits) at (c.in-Ok-store.ensures.changes places s.state.objects (pointer_at s.handed 0) at) in
    let tracks = rw (to_z-of_z w128 c.integer-n.result fits) at (c.store.ensures.tracks places s.state.objects (pointer_at s.handed 0) at) in
    rw c.in-Store.is (store_alone code sizes c.args.line c.args.instr places s c.args.self.now h c.store.new.self.memory c.go_on.new.self c.in-Store.kind c.integer-n.result c.integer-n.ensures changes tracks c.store.ensures.frame (c.go_on.ensures ∙ ap gone_on c.store.ensures.others))

pub returns-in-Err-store-clause-alone : goal.returns-in-Err-store-clause-alone
returns-in-Err-store-clause-alone g c = λ code sizes places s h.
    let fits : SFits w128 c.integer-n.result = search rules in
    let at = kept_here code sizes c.args.line c.args.instr places s c.args.self.now h 0 c.address-addr.result c.address-addr.ensures in
    let changes = rw (to_z-of_z w128 c.integer-n.result fits) at (c.in-Err-store.ensures.changes places s.state.objects (pointer_at s.handed 0) at) in
    rw c.in-Store.is (store_traps code sizes c.args.line c.args.instr places s c.args.self.now h c.store.new.self.memory c.store.new.self c.in-Store.kind c.integer-n.result c.in-Err-store.kind c.integer-n.ensures changes)

pub returns-in-Ok-store_pointer-clause-alone : goal.returns-in-Ok-store_pointer-clause-alone
returns-in-Ok-store_pointer-clause-alone g c = λ code sizes places s h.
    let at = kept_here code sizes c.args.line c.args.instr places s c.args.self.now h 0 c.address-addr.result c.address-addr.ensures in
    let target = (kept_here code sizes c.args.line c.args.instr places s c.args.self.now h 1 c.address-target.result c.address-target.ensures).stands in
    rw c.in-Storep.is (storep_alone code sizes c.args.line c.args.instr places s c.args.self.now h c.store_pointer.new.self.memory c.go_on-in-Ok-store_pointer.new.self (c.in-Ok-store_pointer.ensures.changes places s.state.objects (pointer_at s.handed 0) (pointer_at s.handed 1) at target) (c.store_pointer.ensures.tracks places s.state.objects (pointer_at s.handed 0) (pointer_at s.handed 1) at target) c.store_pointer.ensures.frame (c.go_on-in-Ok-store_pointer.ensures ∙ ap gone_on c.store_pointer.ensures.others))

pub returns-in-Err-store_pointer-clause-alone : goal.returns-in-Err-store_pointer-clause-alone
returns-in-Err-store_pointer-clause-alone g c = λ code sizes places s h.
    let at = kept_here code sizes c.args.line c.args.instr places s c.args.self.now h 0 c.address-addr.result c.address-addr.ensures in
    let target = (kept_here code sizes c.args.line c.args.instr places s c.args.self.now h 1 c.address-target.result c.address-target.ensures).stands in
    rw c.in-Storep.is (storep_traps code sizes c.args.line c.args.instr places s c.args.self.now h c.store_pointer.new.self.memory c.store_pointer.new.self c.in-Err-store_pointer.kind (c.in-Err-store_pointer.ensures.changes places s.state.objects (pointer_at s.handed 0) (pointer_at s.handed 1) at target))

pub store_pointer-requires : goal.store_pointer-requires
store_pointer-requires g c =
    let m = c.args.self.now in
    let stores = subst (λ t. IsStorable m.memory (address_at m.handed 0) t) (sym c.address-target.ensures) (c.requires.stores c.in-Storep.is) in
    subst (λ a. IsStorable m.memory a c.address-target.result) (sym c.address-addr.ensures) stores

pub returns-in-Err-store_pointer-clause-unchanged : goal.returns-in-Err-store_pointer-clause-unchanged
returns-in-Err-store_pointer-clause-unchanged g c =
    let q = c.requires.stores c.in-Storep.is in
    let to = subst (KeepsAt c.args.self.now.memory q.0 q.1 q.3) (sym c.address-addr.ensures) q.5.at in
    let target = subst (IsAddressOf q.0 q.1 q.4) (sym c.address-target.ensures) q.5.stands in
    c.store_pointer.ensures.others ∙ ap (λ (memory : Memory). record c.args.self.now { memory = memory }) (c.in-Err-store_pointer.ensures.changes q.0 q.1 q.3 q.4 to target).1
