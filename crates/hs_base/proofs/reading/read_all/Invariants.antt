use Rattle.std.proofs.Common.{◌≡◌, ℕ, ◌+◌, ◌-◌, List, Some, vec_len}
use Rattle.hs_base.specs.ReadAll.{IsFront}
use Rattle.hs_base.proofs.reading.read_all.Given as goal

abbrev pub invariant-pieces : goal.invariant-pieces
invariant-pieces g l = record {
  told : (told : List ℕ → List ℕ) → g.T.Texts.texts l.fn.texts ≡ Some told → IsFront (told l.name) l.text.items;
  keeps : g.T.Texts.texts l.texts ≡ g.T.Texts.texts l.fn.texts;
  count : g.T.Texts.faults l.texts ≡ g.T.Texts.faults l.fn.texts;
}

abbrev pub decreases-pieces : goal.decreases-pieces
decreases-pieces g l = l.most + 1 - vec_len l.text
