-- What is written to a sink.
use Rattle.std.specs.Prelude.{ℕ, List, Result}
use Rattle.hs_base.specs.declared.outside.Failed.{Failed}
use Rattle.hs_base.specs.declared.outside.Sink as sink
use Rattle.hs_base.specs.PutAll.{PutsAll}

-- the sink took all of the bytes, or after a failure a prefix of them, where it tells what it took
abbrev pub Puts : {E T : Type 0} → sink.Ghosts E → E → E → List ℕ → Result T Failed → Type 0
Puts of old new bytes result = PutsAll (of.taken old) (of.taken new) bytes result
