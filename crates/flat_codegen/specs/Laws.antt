-- Laws of the runs of cores.
use Rattle.std.specs.Prelude.{◌≡◌, ℕ, List, None}
use Rattle.hs_base.specs.declared.ends.Limits.{Limits}
use Rattle.hs_base.specs.Cut.{ending_of}
use Rattle.core_tree.specs.declared.program.Core.{Core}
use Rattle.core_tree.specs.Sound.{IsSound}
use Rattle.object_meaning.specs.objects.Meaning.{meaning}
use Rattle.flat_codegen.specs.Running.{cut_of}
use Rattle.flat_codegen.specs.Lasting.{cut_run}

-- the cut run has the trace of the meaning, cut, and ends as the cut does; where nothing is cut off it is the meaning
pub record IsCutRun (core : Core) (input : List ℕ) (n : ℕ) (limits : Limits) : Type 0 where
  pub trace : (cut_run core input n limits).trace ≡ (cut_of core input n limits).kept
  pub ended : (cut_run core input n limits).ended ≡ ending_of (cut_of core input n limits).refused (meaning core input n limits.heap).ended
  pub whole : (cut_of core input n limits).refused ≡ None → cut_run core input n limits ≡ meaning core input n limits.heap

-- the cut run of every sound core is the cut of its meaning
abbrev pub CutRunsAreCut : Type 0
CutRunsAreCut =
    (core : Core) → IsSound core → (input : List ℕ) (n : ℕ) (limits : Limits) → IsCutRun core input n limits
