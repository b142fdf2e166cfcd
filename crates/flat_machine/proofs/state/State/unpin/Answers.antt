use Rattle.std.proofs.Common.{[], List, ℕ, ap, get_or, subst, sym, ◌∙◌}
use Rattle.flat_objects.specs.Keeping.{Keeps}
use Rattle.flat_machine.specs.Kept.{Kept, pins_of}
use Rattle.flat_machine.specs.Pinning.{DoesCount}
use Rattle.flat_machine.proofs.state.State.unpin.Goals as goal

pub returns-clause-tracks : goal.returns-clause-tracks
returns-clause-tracks g c = λ places objects frees pointers others does.
    let here = subst (λ (k : Kept). DoesCount k.memory places objects frees k.calls.running.words (pins_of k.pins k.calls.running) pointers others) (sym c.self.view_is) does in
    let registers = c.pins_at-pins.ensures ∙ ap (λ (ps : List (List ℕ)). get_or ps c.point.result []) c.as_slice.ensures ∙ ap (λ n. get_or c.self.inside.pins n []) c.point.ensures in
    c.unpin_registers.ensures.tracks places objects frees pointers others (subst (λ (rs : List ℕ). DoesCount c.self.inside.objects places objects frees c.self.inside.calls.running.words rs pointers others) (sym registers) here)

pub returns-clause-keeps : goal.returns-clause-keeps
returns-clause-keeps g c = λ places objects keeps.
    c.unpin_registers.ensures.keeps places objects (subst (λ (k : Kept). Keeps k.memory places objects) (sym c.self.view_is) keeps)
