use Rattle.std.proofs.Common.{◌≡◌, ◌≤◌, ◌+◌, ◌∙◌, ℕ, List, length, sym, ap, arith}
use Rattle.std.specs.Vec.{with_items}
use Rattle.std.proofs.lemmas.List.{with_items_is}
use Rattle.byte_memory.specs.Bytes.{put_word}
use Rattle.byte_memory.specs.Filled.{filled_up}
use Rattle.byte_memory.specs.FilledEquations.{length-filled_up}
use Rattle.byte_memory.proofs.Filling.{put_first}
use Rattle.byte_memory.specs.BytesEquations.{length-put_word}
use Rattle.byte_memory.proofs.flat_bytes.FlatBytes.write.Goals as goal

pub reach-requires-clause-room : goal.reach-requires-clause-room
reach-requires-clause-room g c =
    omega (arith, c.self.invariant.0, length-filled_up c.self.inside.bytes.items c.self.inside.size 0 c.self.invariant.0, ap length c.self.view_is)

pub returns-clause-value : goal.returns-clause-value
returns-clause-value g c =
    let bytes = c.reach.new.list.items in
    let put = λ (l : List ℕ). put_word l c.args.addr c.args.width c.args.value in
    let inside : c.args.addr + c.args.width ≤ length bytes = c.reach.ensures.there in
    let stored : c.store.new.bytes ≡ put_word bytes c.args.addr c.args.width c.args.value = c.store.ensures ∙ ap put c.as_mut_slice.ensures.value in
    let long = ap length stored ∙ length-put_word bytes c.args.addr c.args.width c.args.value inside ∙ sym (ap length c.as_mut_slice.ensures.value) ∙ c.as_mut_slice.ensures.len in
    let items : (with_items c.reach.new.list c.store.new.bytes).items ≡ put_word bytes c.args.addr c.args.width c.args.value = with_items_is c.reach.new.list c.store.new.bytes long ∙ stored in
    ap (λ l. filled_up l c.self.inside.size 0) items
    ∙ put_first bytes c.self.inside.size c.args.addr c.args.width c.args.value inside
    ∙ ap put (c.reach.ensures.same ∙ c.self.view_is)

pub returns-clause-len : goal.returns-clause-len
returns-clause-len g c = ap length (returns-clause-value g c) ∙ length-put_word c.args.self.now c.args.addr c.args.width c.args.value c.requires.inside
