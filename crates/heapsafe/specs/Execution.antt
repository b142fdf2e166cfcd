-- What `compile` writes, and what `exec` reads, writes and answers for it.
use Rattle.std.specs.Prelude.{◌≡◌, ◌≤◌, ℕ, Bool, cond, nat_lt, List, [], ◌∷◌, length, Option, Some, None, Ok, Err, MatchBool}
use Rattle.hs_base.specs.declared.ends.Limits.{Limits}
use Rattle.hs_base.specs.Cut.{cut, ending_of}
use Rattle.c_decls.specs.Refusals.{Checked}
use Rattle.c_pre.specs.declared.answer.Opened.{Opened}
use Rattle.core_tree.specs.declared.program.Core.{Core}
use Rattle.command_words.specs.Commands.{Command, Execute}
use Rattle.flat_code.specs.declared.program.Code.{Code}
use Rattle.flat_code.specs.WellFormed.{IsWellFormed}
use Rattle.object_meaning.specs.code.CodeMeaning.{meaning}
use Rattle.code_file.specs.declared.file.CodeFile.{CodeFile}
use Rattle.code_file.specs.CodeFile.{HasBytes}
use Rattle.compiled_file.specs.CompiledFile.{IsFileOfCore}
use Rattle.meaning_run.specs.Meant.{end_in}
use Rattle.heapsafe.specs.declared.executing.Asked.{Asked}
use Rattle.heapsafe.specs.Program.{AnswersProgram, Done, Input, explains_run}
use Rattle.heapsafe.specs.Shown.{Shown, bad_code, bad_type, text_too_long, unverified, written}

-- the command to execute a file so
abbrev pub asked_of : List ℕ → Asked → Option Command
asked_of file asked = Some (Execute file asked.limits.heap asked.limits.stack asked.steps asked.leaks asked.explain)

-- the most bytes that a code file may have
abbrev pub most_bytes : ℕ
most_bytes = 134217728

-- bytes are those of a core's code file
pub record IsCompiledTo (core : Core) (bytes : List ℕ) : Type 0 where
  pub file : CodeFile
  pub of : IsFileOfCore core file
  pub has : HasBytes bytes file

-- `compile` writes such bytes; a text whose types are refused has no core
abbrev pub AnswersCompiled : List Opened → Checked Core → Shown → Type 0
AnswersCompiled opened (Ok core) a = (bytes : List ℕ) × IsCompiledTo core bytes × (a ≡ written bytes)
AnswersCompiled opened (Err refusal) a = a ≡ bad_type opened refusal

-- a code file as a text that stands alone: it has no line to show
abbrev pub code_text : List ℕ → List Opened
code_text name = record { name = name; base = 0; text = [] } ∷ []

-- what code does in a heap of so many bytes, up to the first call for which the stack has no room
abbrev pub code_within : Limits → Code → List ℕ → ℕ → Bool → Done
code_within limits code input steps leaks =
    let m = meaning code input steps limits.heap in
    let kept = cut limits.stack m.trace in
    record {
      events = kept.kept;
      ends = end_in (ending_of kept.refused m.ended);
      left = cond leaks (Some m.state.state.objects) None;
    }

-- heap, stack and steps are within the bounds that the machine takes
abbrev pub IsWithin : Asked → Type 0
IsWithin asked = (asked.limits.heap ≤ 268435456) × (asked.limits.stack ≤ 67108864) × (asked.steps ≤ 1000000000)

-- code that is well formed is run, and what is said of it has the names of its file
abbrev pub AnswersCode : List ℕ → CodeFile → Input → Asked → Shown → Type 0
AnswersCode name file input asked a =
    let objects = (meaning file.code input.bytes asked.steps asked.limits.heap).state.state.objects in
    AnswersProgram name (code_text name) file.names (explains_run asked.explain asked.steps asked.limits objects) input.fails (code_within asked.limits file.code input.bytes asked.steps asked.leaks) a

-- other code is not
pub record AnswersVerified (name : List ℕ) (file : CodeFile) (input : Input) (asked : Asked) (a : Shown) : Type 0 where
  pub refused : (IsWellFormed file.code → ⊥) → a ≡ unverified name
  pub verified : IsWellFormed file.code → AnswersCode name file input asked a

-- bytes that no code file has are refused
pub record AnswersBytes (name bytes : List ℕ) (input : Input) (asked : Asked) (a : Shown) : Type 0 where
  pub refused : ((file : CodeFile) → HasBytes bytes file → ⊥) → a ≡ bad_code name
  pub read : (file : CodeFile) → HasBytes bytes file → AnswersVerified name file input asked a

-- so are too many bytes
abbrev pub AnswersExecution : List ℕ → List ℕ → Input → Asked → Shown → Type 0
AnswersExecution name bytes input asked a =
    MatchBool (nat_lt most_bytes (length bytes)) (a ≡ text_too_long name) (AnswersBytes name bytes input asked a)
