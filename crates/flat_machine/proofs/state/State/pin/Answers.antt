use Rattle.std.proofs.Common.{[], List, ℕ, ap, get_or, subst, sym, ◌∙◌}
use Rattle.flat_machine.specs.Kept.{Kept, pins_of}
use Rattle.flat_machine.specs.Pinning.{MayCount}
use Rattle.flat_machine.proofs.state.State.pin.Goals as goal

pub returns-clause-tracks : goal.returns-clause-tracks
returns-clause-tracks g c = λ places objects frees pointers may.
    let here = subst (λ (k : Kept). MayCount k.memory places objects frees k.calls.running.words (pins_of k.pins k.calls.running) pointers) (sym c.self.view_is) may in
    let registers = c.pins_at-pins.ensures ∙ ap (λ (ps : List (List ℕ)). get_or ps c.point.result []) c.as_slice.ensures ∙ ap (λ n. get_or c.self.inside.pins n []) c.point.ensures in
    c.pin_registers.ensures.tracks places objects frees pointers (subst (λ (rs : List ℕ). MayCount c.self.inside.objects places objects frees c.self.inside.calls.running.words rs pointers) (sym registers) here)
