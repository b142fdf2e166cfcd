use Rattle.std.proofs.Common.{ℕ, List}
use Rattle.hs_base.specs.Object.{Object}
use Rattle.flat_objects.specs.EndingSteps.{AreGivenBack, ChangesLocals, MayGiveBack}
use Rattle.flat_objects.proofs.memory.FlatObjects.give_back_all.Given as goal

abbrev pub invariant-loop-local : goal.invariant-loop-local
invariant-loop-local g l = record {
  changes : ChangesLocals l.initial.self l.self;
  given : (places : ℕ → ℕ) (objects : List Object) (births : List ℕ) → MayGiveBack l.initial.self places objects births l.locals → AreGivenBack l.self places objects births l.locals l.local-index;
}
