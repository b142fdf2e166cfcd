-- Runs of code and of its core: the same by numbers.
use Rattle.std.specs.Prelude.{ℕ, Bool, List}
use Rattle.hs_base.specs.Trace.{Ending, Event}
use Rattle.core_tree.specs.declared.program.Core.{Core}
use Rattle.flat_code.specs.declared.program.Code.{Code}
use Rattle.object_meaning.specs.counted.Pinning.{Pins}
use Rattle.object_meaning.specs.counted.CountedMeaning.{meaning as core_meaning}
use Rattle.object_meaning.specs.code.CodeMeaning.{meaning as code_meaning}
use Rattle.meaning_laws.specs.compiled.SameRun.{SameRun}
use Rattle.meaning_laws.specs.compiled.Testing.{tested_code, tested_core}

-- code runs as a core with its pins, with any input and any number of steps, in a heap of any size
abbrev pub RunsAs : Core → Pins → Code → Type 0
RunsAs core pins code =
    (input : List ℕ) (n heap : ℕ) → SameRun (core_meaning core pins input n heap) (code_meaning code input n heap)

-- it does where a test of the events cuts both runs off
abbrev pub RunsAsTested : Core → Pins → Code → Type 0
RunsAsTested core pins code =
    (fits : List Event → Event → Bool) (refused : Event → Ending) (input : List ℕ) (n heap : ℕ) → SameRun (tested_core core pins fits refused input n heap) (tested_code code fits refused input n heap)
