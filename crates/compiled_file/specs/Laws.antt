-- Laws of the runs of code files.
use Rattle.std.specs.Prelude.{◌≡◌, ℕ, List, Some, None}
use Rattle.hs_base.specs.declared.ends.Limits.{Limits}
use Rattle.hs_base.specs.Trace.{Ending}
use Rattle.core_tree.specs.declared.program.Core.{Core}
use Rattle.core_tree.specs.Sound.{IsSound}
use Rattle.object_meaning.specs.objects.Meaning.{meaning as core_meaning}
use Rattle.flat_code.specs.declared.program.Code.{Code}
use Rattle.object_meaning.specs.code.CodeState.{CodeState}
use Rattle.object_meaning.specs.code.CodeMeaning.{meaning as code_meaning}
use Rattle.flat_machine.specs.Lasting.{EndsIn}
use Rattle.flat_machine.specs.Running.{cut_of}
use Rattle.code_file.specs.declared.file.CodeFile.{CodeFile}
use Rattle.compiled_file.specs.CompiledFile.{IsFileOfCore}

-- a code has the trace and the end of a core, and leaves the same objects
pub record RunsAs (core : Core) (code : Code) (input : List ℕ) (n heap : ℕ) : Type 0 where
  pub trace : (code_meaning code input n heap).trace ≡ (core_meaning core input n heap).trace
  pub ended : (code_meaning code input n heap).ended ≡ (core_meaning core input n heap).ended
  pub objects : (code_meaning code input n heap).state.state.objects ≡ (core_meaning core input n heap).state.objects

-- so has the code of each sound core's file
abbrev pub FilesRunAsCores : Type 0
FilesRunAsCores =
    (core : Core) (file : CodeFile) → IsSound core → IsFileOfCore core file → (input : List ℕ) (n heap : ℕ) → RunsAs core file.code input n heap

-- where the meaning has ended and the stack cuts nothing off, its last state is the one in which the run ends
abbrev pub WholeRunsAreWhole : Type 0
WholeRunsAreWhole =
    (code : Code) (input : List ℕ) (n : ℕ) (limits : Limits) (last : CodeState) (ending : Ending) → EndsIn code input n limits last → (cut_of code input n limits).refused ≡ None → (code_meaning code input n limits.heap).ended ≡ Some ending → (code_meaning code input n limits.heap).state ≡ last
