use Rattle.std.proofs.Common.{◌≡◌, ◌∙◌, ap, sym, subst, rules, pos, to_z, of_z}
use Rattle.std.proofs.lemmas.Int.{to_z-of_z}
use mir.Syntax.{w128}
use mir.Val.{SFits}
use Rattle.hs_base.specs.Access.{access_integer}
use Rattle.byte_memory.specs.Bytes.{word}
use Rattle.hs_base.specs.Numbers.{width, wrapped}
use Rattle.flat_objects.specs.Memory.{Memory, IsMemory}
use Rattle.flat_objects.proofs.Loaded.{loaded_is}
use Rattle.flat_objects.proofs.memory.FlatObjects.load.Goals as goal

pub returns-clause-loads : goal.returns-clause-loads
returns-clause-loads g c = λ places objects p at.
    let shape = subst (IsMemory c.self.inside.locals_from c.self.inside.heap_from) c.self.view_is c.self.invariant in
    let allowed = c.in_ok-access_integer.ensures.allows places objects p at in
    let width_is : c.bytes-width.result ≡ width c.args.kind = c.bytes-width.ensures in
    let read : c.read.result ≡ word c.args.self.now.bytes c.args.addr (width c.args.kind) =
    c.read.ensures.value ∙ ap (λ (m : Memory). word m.bytes c.args.addr c.bytes-width.result) c.self.view_is ∙ ap (word c.args.self.now.bytes c.args.addr) width_is in
    let fits_number : SFits w128 c.from.result = search rules in
    let fits_result : SFits w128 c.wrap.result = search rules in
    let number : c.wrap.result ≡ wrapped c.args.kind (pos c.read.result) =
    c.wrap.ensures.value ∙ ap (wrapped c.args.kind) (to_z-of_z w128 c.from.result fits_number ∙ c.from.ensures) in
    loaded_is c.self.inside.locals_from c.self.inside.heap_from c.args.self.now shape places objects p c.args.addr at c.args.kind allowed.0 c.read.result (to_z w128 (of_z w128 c.wrap.result))
    (ap (access_integer objects p) (sym width_is) ∙ allowed.1) read (to_z-of_z w128 c.wrap.result fits_result ∙ number)
