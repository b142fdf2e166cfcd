use Rattle.std.proofs.Common.{List, ℕ, ◌∙◌, length, ap, arith}
use Rattle.std.proofs.lemmas.List.{take_at}
use Rattle.local_liveness.specs.Sets.{has}
use Rattle.local_liveness.proofs.Bits.{has_cleared}
use Rattle.local_liveness.proofs.Marks.{marks_cleared, marks_same}
use Rattle.local_liveness.proofs.register_set.RegisterSet.clear.Goals as goal

pub invariant_of-self : goal.invariant_of-self
invariant_of-self c =
    marks_same _ _ _ _ _ _ (take_at c.clear.new.words _ c.self.inside.words.len (omega arith)) (take_at c.clear-2.new.words _ c.self.inside.some.len (omega arith))
    (take_at c.clear-3.new.words _ c.self.inside.full.len (omega arith))
    (marks_cleared c.self.inside.words.items c.clear.new.words c.self.inside.some.items c.clear-2.new.words c.self.inside.full.items c.clear-3.new.words c.self.invariant
    (c.clear.ensures.words ∙ ap length c.deref_mut.ensures.value) (c.clear-2.ensures.words ∙ ap length c.deref_mut-2.ensures.value) c.clear.ensures.none
    c.clear-3.ensures.none)

pub returns-clause-none : goal.returns-clause-none
returns-clause-none c r =
    ap (λ (xs : List ℕ). has xs r) (take_at c.clear.new.words _ c.self.inside.words.len (omega arith)) ∙ has_cleared c.clear.new.words (λ k less. c.clear.ensures.none k) r
