use Rattle.std.proofs.Common.{◌≡◌, drop}
use Rattle.hs_base.specs.Outside.{text_of}
use Rattle.hs_base.proofs.memory.find_text.Given as goal

abbrev pub invariant-loop-held : goal.invariant-loop-held
invariant-loop-held l = text_of l.texts l.name ≡ text_of (drop l.held-index l.texts) l.name
