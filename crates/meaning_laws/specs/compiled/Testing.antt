-- Runs that stop before the first event that a test refuses.
use Rattle.std.specs.Prelude.{ℕ, Bool, List, []}
use Rattle.hs_base.specs.Trace.{Event, Ending}
use Rattle.hs_base.specs.Runs.{fresh, led, after, tested}
use Rattle.core_tree.specs.declared.program.Core.{Core}
use Rattle.flat_code.specs.declared.program.Code.{Code}
use Rattle.object_meaning.specs.objects.Meaning as object
use Rattle.object_meaning.specs.counted.Pinning.{Pins}
use Rattle.object_meaning.specs.counted.CountedMeaning as counted
use Rattle.object_meaning.specs.code.CodeMeaning as code_meaning
use Rattle.meaning_laws.specs.counted.Laws.{testing}

-- that of a core by numbers
abbrev pub tested_core : Core → Pins → (List Event → Event → Bool) → (Event → Ending) → List ℕ → ℕ → ℕ → counted.Run
tested_core core pins fits refused input n heap =
    let r = led [] (tested fits refused [] (counted.first_call core input n)) in
    after (testing fits refused (counted.step core pins heap)) r (object.enough core r.state.state)

-- that of a code
abbrev pub tested_code : Code → (List Event → Event → Bool) → (Event → Ending) → List ℕ → ℕ → ℕ → code_meaning.Run
tested_code code fits refused input n heap =
    let c = code_meaning.start code input n in after (testing fits refused (code_meaning.step code heap)) (fresh c) (code_meaning.enough code c.state)
