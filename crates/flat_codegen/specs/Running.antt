-- What a whole run of a core answers, writes and takes: what the core means in the heap, cut by the stack.
use Rattle.std.specs.Prelude.{◌≡◌, ℕ, List, ◌++◌, Option, Some}
use Rattle.hs_base.specs.declared.ends.End.{End}
use Rattle.hs_base.specs.declared.ends.End.TheVariants as end
use Rattle.hs_base.specs.Trace.{bytes_out, bytes_in}
use Rattle.hs_base.specs.declared.ends.Limits.{Limits}
use Rattle.hs_base.specs.Cut.{Cut, cut, ending_of}
use Rattle.core_tree.specs.declared.program.Core.{Core}
use Rattle.object_meaning.specs.objects.Meaning.{meaning}
use Rattle.meaning_run.specs.Meant.{end_in, StopsAtIn, Stopped}

-- the meaning's trace in the heap, cut at the first call that the stack has no room for
abbrev pub cut_of : Core → List ℕ → ℕ → Limits → Cut
cut_of core input n limits = cut limits.stack (meaning core input n limits.heap).trace

-- the whole run: its end, all that it writes and all that it reads
pub record Whole (core : Core) (input : List ℕ) (n : ℕ) (limits : Limits) (taken : List ℕ) (e : End) (left' taken' : Option (List ℕ)) : Type 0 where
  pub end : end_in (ending_of (cut_of core input n limits).refused (meaning core input n limits.heap).ended) ≡ Some e
  pub is_taken : taken' ≡ Some (taken ++ bytes_out (cut_of core input n limits).kept)
  pub left : List ℕ
  pub is_left : left' ≡ Some left
  pub is_read : bytes_in (cut_of core input n limits).kept ++ left ≡ input

-- what a run does with this input, where these bytes were taken before
abbrev pub RunAnswers : Core → List ℕ → ℕ → Limits → List ℕ → End → Option (List ℕ) → Option (List ℕ) → Type 0
RunAnswers core input n limits taken end.InputFault left' taken' = StopsAtIn (cut_of core input n limits).kept input taken left' taken'
RunAnswers core input n limits taken end.OutputFault left' taken' = Stopped (cut_of core input n limits).kept input taken left' taken'
RunAnswers core input n limits taken e left' taken' = Whole core input n limits taken e left' taken'
