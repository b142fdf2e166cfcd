-- What the machine answers for the code of a core it answers for the core.
use Rattle.std.proofs.Common.{◌≡◌, ℕ, List, ◌++◌, Option, Some, sym, ◌∙◌, ap, subst}
use Rattle.hs_base.specs.declared.ends.End.{End}
use Rattle.hs_base.specs.declared.ends.End.TheVariants as end
use Rattle.hs_base.specs.declared.ends.Limits.{Limits}
use Rattle.hs_base.specs.Cut.{Cut, cut, ending_of}
use Rattle.hs_base.specs.Trace.{bytes_out, bytes_in}
use Rattle.core_tree.specs.declared.program.Core.{Core}
use Rattle.flat_code.specs.declared.program.Code.{Code}
use Rattle.object_meaning.specs.objects.Meaning.{meaning as core_meaning}
use Rattle.object_meaning.specs.code.CodeMeaning.{meaning as code_meaning}
use Rattle.meaning_run.specs.Meant.{end_in, StopsAtIn, Stopped}
use Rattle.flat_machine.specs.Running as machine
use Rattle.flat_codegen.specs.Running as core_runs

module _ (core : Core) (code : Code) (input : List ℕ) (n : ℕ) (room : Limits) (trace : (core_meaning core input n room.heap).trace ≡ (code_meaning code input n room.heap).trace) (ended : (core_meaning core input n room.heap).ended ≡ (code_meaning code input n room.heap).ended) (taken : List ℕ) (left' taken' : Option (List ℕ)) where
  same_cut : machine.cut_of code input n room ≡ core_runs.cut_of core input n room
  same_cut = ap (cut room.stack) (sym trace)

  same_end : end_in (ending_of (core_runs.cut_of core input n room).refused (core_meaning core input n room.heap).ended) ≡ end_in (ending_of (machine.cut_of code input n room).refused (code_meaning code input n room.heap).ended)
  same_end = λ i. end_in (ending_of (sym same_cut i).refused (ended i))

  whole : (e : End) → machine.Whole code input n room taken e left' taken' → core_runs.Whole core input n room taken e left' taken'
  whole e w = record {
    end = same_end ∙ w.end;
    is_taken = w.is_taken ∙ ap (λ (c : Cut). Some (taken ++ bytes_out c.kept)) same_cut;
    left = w.left;
    is_left = w.is_left;
    is_read = ap (λ (c : Cut). bytes_in c.kept ++ w.left) (sym same_cut) ∙ w.is_read;
  }

  pub answers : (e : End) → machine.RunAnswers code input n room taken e left' taken' → core_runs.RunAnswers core input n room taken e left' taken'
  answers end.InputFault h = subst (λ (c : Cut). StopsAtIn c.kept input taken left' taken') same_cut h
  answers end.OutputFault h = subst (λ (c : Cut). Stopped c.kept input taken left' taken') same_cut h
  answers (end.Exit code) h = whole (end.Exit code) h
  answers (end.Trap kind line) h = whole (end.Trap kind line) h
  answers (end.BadFree why holder) h = whole (end.BadFree why holder) h
  answers (end.Escape func local line) h = whole (end.Escape func local line) h
  answers end.Spent h = whole end.Spent h
  answers (end.OutOfStack line) h = whole (end.OutOfStack line) h
