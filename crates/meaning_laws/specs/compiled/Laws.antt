-- Laws of compiled code.
use Rattle.std.specs.Prelude.{◌≡◌, ◌≤◌, ◌+◌, ◌*◌, ℕ, Bool, List, length, Some}
use Rattle.std.specs.List.{sum_by}
use Rattle.hs_base.specs.Trace.{Event, Ending}
use Rattle.core_tree.specs.declared.program.Core.{Core}
use Rattle.core_tree.specs.Sound.{IsSound, code_size}
use Rattle.flat_code.specs.WellFormed.{IsShort, IsWellFormed}
use Rattle.flat_code.specs.declared.program.Code.{Code}
use Rattle.object_meaning.specs.compiled.Compiled.{IsCompiled}
use Rattle.object_meaning.specs.compiled.Sites.{AreAscending}
use Rattle.object_meaning.specs.counted.Pinning.{Pins, AreExact}
use Rattle.object_meaning.specs.counted.CountedMeaning.{meaning as core_meaning}
use Rattle.object_meaning.specs.code.CodeMeaning.{meaning as code_meaning}
use Rattle.meaning_laws.specs.compiled.SameRun.{SameRun}
use Rattle.meaning_laws.specs.compiled.Testing.{tested_core, tested_code}

-- the code of a core with exact pins that ascend is well formed, where its numbers of layouts and formats are those of a word
abbrev pub CodesAreWellFormed : Type 0
CodesAreWellFormed =
    (core : Core) (pins : Pins) (code : Code) → IsSound core → AreExact core pins → AreAscending pins → IsCompiled core pins code → IsShort code.layouts → IsShort code.formats → IsWellFormed code

-- it has few instructions: at most 14 for each unit of the size of its core, one for each function and one at the start
abbrev pub CodesAreFew : Type 0
CodesAreFew =
    (core : Core) (pins : Pins) (code : Code) → IsCompiled core pins code → length code.instrs ≤ 14 * sum_by code_size core.funcs + length core.funcs + 1

-- compiled code means what its core means, with the same number for each object
abbrev pub CodeMeansCore : Type 0
CodeMeansCore =
    (core : Core) (pins : Pins) (code : Code) → IsSound core → AreExact core pins → AreAscending pins → IsCompiled core pins code → (input : List ℕ) (n heap : ℕ) → SameRun (core_meaning core pins input n heap) (code_meaning code input n heap)

-- the same for runs that stop before the first event that a test refuses, as a call that the stack has no room for: both have
-- ended
abbrev pub TestedCodeMeansCore : Type 0
TestedCodeMeansCore =
    (core : Core) (pins : Pins) (code : Code) → IsSound core → AreExact core pins → AreAscending pins → IsCompiled core pins code → (fits : List Event → Event → Bool) (refused : Event → Ending) (input : List ℕ) (n heap : ℕ) → (ending : Ending) × ((tested_core core pins fits refused input n heap).ended ≡ Some ending) × SameRun (tested_core core pins fits refused input n heap) (tested_code code fits refused input n heap)
