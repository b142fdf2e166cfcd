use Rattle.std.proofs.Common.{rules}
use Rattle.std.proofs.lemmas.Int.{to_z-of_z}
use mir.Syntax.{w64, w128}
use mir.Val.{SFits}
use Rattle.flat_machine.proofs.Hands.{register_hands, integer_hands, unsigned_hands, null_hands, static_hands, local_hands}
use Rattle.flat_machine.proofs.state.State.act_hand.Goals as goal

pub returns-in-HandReg : goal.returns-in-HandReg
returns-in-HandReg c = λ code sizes line places s h fresh.
    rw c.in-HandReg.is (register_hands code sizes line c.args.instr places s c.args.self.now c.hand.new.self h c.register-word.result (rw c.in-HandReg.is at fresh) c.register-word.ensures c.hand.ensures)

pub returns-in-HandInt : goal.returns-in-HandInt
returns-in-HandInt c = λ code sizes line places s h fresh.
    let fits : SFits w64 c.args.instr.imm = search rules in
    let value = rw (to_z-of_z w64 c.args.instr.imm fits) at c.from.ensures in
    let fits_n : SFits w128 c.from.result = search rules in
    let hands = rw (to_z-of_z w128 c.from.result fits_n) at c.hand_number.ensures in
    rw c.in-HandInt.is (integer_hands code sizes line c.args.instr places s c.args.self.now c.hand_number.new.self h c.from.result value hands)

pub returns-in-HandUnsigned : goal.returns-in-HandUnsigned
returns-in-HandUnsigned c = λ code sizes line places s h fresh.
    let fits : SFits w64 c.args.instr.imm = search rules in
    let value = rw (to_z-of_z w64 c.args.instr.imm fits) at c.unsigned.ensures.value in
    let fits_n : SFits w128 c.unsigned.result = search rules in
    let hands = rw (to_z-of_z w128 c.unsigned.result fits_n) at c.hand_number-in-HandUnsigned.ensures in
    rw c.in-HandUnsigned.is (unsigned_hands code sizes line c.args.instr places s c.args.self.now c.hand_number-in-HandUnsigned.new.self h c.unsigned.result value hands)

pub returns-in-HandNull : goal.returns-in-HandNull
returns-in-HandNull c = λ code sizes line places s h fresh.
    rw c.in-HandNull.is (null_hands code sizes line c.args.instr places s c.args.self.now c.hand_address.new.self h c.hand_address.ensures)

pub returns-in-HandStatic : goal.returns-in-HandStatic
returns-in-HandStatic c = λ code sizes line places s h fresh.
    rw c.in-HandStatic.is (static_hands code sizes line c.args.instr places s c.args.self.now c.hand_address-in-HandStatic.new.self h c.static_address-addr.result (c.requires.here c.in-HandStatic.is) c.static_address-addr.ensures c.hand_address-in-HandStatic.ensures)

pub returns-in-HandLocal : goal.returns-in-HandLocal
returns-in-HandLocal c = λ code sizes line places s h fresh.
    rw c.in-HandLocal.is (local_hands code sizes line c.args.instr places s c.args.self.now c.hand_address-in-HandLocal.new.self h c.local_address-addr.result (c.requires.local c.in-HandLocal.is) c.local_address-addr.ensures c.hand_address-in-HandLocal.ensures)
