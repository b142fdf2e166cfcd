-- The execution of a core's code file is like the run of the core.
use Rattle.std.proofs.Common.{◌≡◌, ◌≤◌, ℕ, List, Option, Some, length, sym, ap, ◌∙◌}
use Rattle.hs_base.specs.declared.ends.End.{End}
use Rattle.hs_base.specs.Cut.{cut, ending_of}
use Rattle.hs_base.specs.Trace.{bytes_in, bytes_out}
use Rattle.c_pre.specs.declared.answer.Opened.{Opened}
use Rattle.core_tree.specs.declared.program.Core.{Core}
use Rattle.bad_free_report.specs.declared.explanation.Known.{Known}
use Rattle.object_meaning.specs.code.CodeMeaning.{meaning}
use Rattle.flat_codegen.specs.Lasting.{cut_run}
use Rattle.meaning_run.specs.Meant.{end_in}
use Rattle.compiled_file.specs.Laws.{RunsAs}
use Rattle.heapsafe.specs.declared.executing.Asked.{Asked}
use Rattle.heapsafe.specs.Execution.{AnswersExecution, code_text, code_within, IsCompiledTo, most_bytes}
use Rattle.heapsafe.specs.Laws.{AreAlike}
use Rattle.heapsafe.specs.Program.{Done, Ended, explains_run, run_within, status_of, steady}
use Rattle.heapsafe.specs.Shown.{Shown}
use Rattle.heapsafe.proofs.Bytes.{short_is}

same_how : (x y : End) → Some x ≡ Some y → x ≡ y
same_how x y e = cc

-- two programs with the same events and the same end
ended_alike : (name file : List ℕ) (shown opened : List Opened) (names core : Core) (knows others : End → Option Known) (one other : Done) (a b : Shown) → one.events ≡ other.events → one.ends ≡ other.ends → Ended name shown names knows one a → Ended file opened core others other b → AreAlike a b
ended_alike name file shown opened names core knows others one other a b events ends e h =
    let how = same_how e.how h.how (sym e.ends ∙ ends ∙ h.ends) in
    record {
      read = ap (λ (s : Shown). s.read) e.is ∙ ap bytes_in events ∙ sym (ap (λ (s : Shown). s.read) h.is);
      out = ap (λ (s : Shown). s.out) e.is ∙ ap bytes_out events ∙ sym (ap (λ (s : Shown). s.out) h.is);
      status = ap (λ (s : Shown). s.status) e.is ∙ ap status_of how ∙ sym (ap (λ (s : Shown). s.status) h.is);
    }

pub alike : (core : Core) (bytes : List ℕ) (of : IsCompiledTo core bytes) → length bytes ≤ most_bytes → (name file : List ℕ) (opened : List Opened) (input : List ℕ) (asked : Asked) (executed run : Shown) → RunsAs core of.file.code input asked.steps asked.limits.heap →
    AnswersExecution name bytes (steady input) asked executed → Ended file opened core (explains_run asked.explain asked.steps asked.limits (cut_run core input asked.steps asked.limits).state.objects) (run_within asked.limits core input asked.steps asked.leaks) run → AreAlike executed run
alike core bytes of short name file opened input asked executed run same execution ran =
    let read = (short_is name (steady input) asked executed bytes short execution).read of.file of.has in
    let events = ap (cut asked.limits.stack) same.trace in
    let explains = explains_run asked.explain asked.steps asked.limits in
    let left = (meaning of.file.code input asked.steps asked.limits.heap).state.state.objects in
    let run_left = (cut_run core input asked.steps asked.limits).state.objects in
    ended_alike name file (code_text name) opened of.file.names core (explains left) (explains run_left) (code_within asked.limits of.file.code input asked.steps asked.leaks) (run_within asked.limits core input asked.steps asked.leaks) executed run
    (λ i. (events i).kept) (λ i. end_in (ending_of (events i).refused (same.ended i))) (read.verified of.of.formed) ran
