-- What a machine does that has loaded the code of a core.
use Rattle.std.specs.Prelude.{◌≡◌, ℕ, List, Option, None, Some}
use Rattle.hs_base.specs.declared.ends.End.{End}
use Rattle.core_tree.specs.declared.program.Core.{Core}
use Rattle.core_tree.specs.Sound.{IsSound}
use Rattle.flat_code.specs.declared.program.Code.{Code}
use Rattle.object_meaning.specs.compiled.Compiled.{IsCompiled}
use Rattle.object_meaning.specs.compiled.Sites.{AreAscending}
use Rattle.object_meaning.specs.counted.Pinning.{AreExact, Pins}
use Rattle.flat_machine.specs.Kept.{Kept}
use Rattle.flat_machine.specs.Machined.{Machined, limits_of}
use Rattle.flat_codegen.specs.Lasting.{LeavesImage, MakesSteps}
use Rattle.flat_codegen.specs.Running.{RunAnswers}

-- a fact of each core whose code this is: it is sound, and its pins are exact and stand in the order of its points
abbrev pub ForCores : Code → (Core → Pins → Type 0) → Type 0
ForCores code P =
    (core : Core) (pins : Pins) → IsSound core → AreExact core pins → AreAscending pins → IsCompiled core pins code → P core pins

-- What it does where it has not ended, by what is left of the input and what the output has taken, before and after

-- it answers what the core does, in so many steps and in its limits
abbrev pub AnswersCore : Code → Machined → ℕ → Option (List ℕ) → Option (List ℕ) → End → Option (List ℕ) → Option (List ℕ) → Type 0
AnswersCore code machine budget input out e input' out' =
    machine.ended ≡ None → ForCores code (λ core pins. (left taken : List ℕ) → input ≡ Some left → out ≡ Some taken → RunAnswers core left budget (limits_of machine) taken e input' out')

-- it makes as many steps
abbrev pub MakesStepsOfCore : Code → Machined → ℕ → Option (List ℕ) → Option (List ℕ) → End → ℕ → Type 0
MakesStepsOfCore code machine budget input out e made =
    machine.ended ≡ None → ForCores code (λ core pins. (left taken : List ℕ) → input ≡ Some left → out ≡ Some taken → MakesSteps core left budget (limits_of machine) e made)

-- it leaves the image of the core's last state
abbrev pub LeavesImageOfCore : Code → Machined → ℕ → Option (List ℕ) → Option (List ℕ) → End → Kept → Type 0
LeavesImageOfCore code machine budget input out e new =
    machine.ended ≡ None → ForCores code (λ core pins. (left taken : List ℕ) → input ≡ Some left → out ≡ Some taken → LeavesImage core pins left budget (limits_of machine) e new)
