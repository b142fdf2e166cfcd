-- What the program reads, writes and answers for its words.
use Rattle.std.specs.Prelude.{◌≡◌, ◌-◌, ⊤, ℕ, Bool, cond, false, List, [], ◌∷◌, length, map, Option, Some, None, Ok, Err, codes}
use Rattle.std.specs.Borrow.{Bor}
use Rattle.std.specs.List.{list_any}
use Rattle.std.specs.Str.{bytes_eq}
use Rattle.bad_free_report.specs.declared.form.Form.{Form}
use Rattle.bad_free_report.specs.declared.form.Form.TheVariants.{Lines, Json}
use Rattle.hs_base.specs.declared.ends.Limits.{Limits}
use Rattle.c_lexer.specs.declared.token.Token.{Token}
use Rattle.c_lexer.specs.declared.token.LexKind.{LexKind}
use Rattle.c_lexer.specs.Tokens.{HasTokens, HasBadPlace}
use Rattle.c_pre.specs.declared.answer.Opened.{Opened}
use Rattle.c_tree.specs.Tree.{Trees}
use Rattle.c_tree.specs.HasTree.{HasTree}
use Rattle.c_decls.specs.Refusals.{Checked}
use Rattle.elaboration.specs.Elaboration.{tags_of}
use Rattle.c_elab.specs.Core.{core_in}
use Rattle.core_tree.specs.declared.program.Core.{Core}
use Rattle.flat_codegen.specs.Lasting.{cut_run}
use Rattle.generated_text.specs.Summary.{summary_line}
use Rattle.generated_text.specs.Text.{generated}
use Rattle.command_words.specs.Commands.{Command, OnFiles, Execute, Generated, Task, Run, Mean, Print, Layout, List as ListCore, Live, Compile, command_of, task_shown}
use Rattle.command_words.specs.declared.command.Task.{Task as Given}
use Rattle.heapsafe.specs.declared.program.Way.{Way}
use Rattle.heapsafe.specs.declared.program.Way.TheVariants as way
use Rattle.heapsafe.specs.Shown.{Shown, usage, bad_place, bad_type, written, printed, layouts_shown, core_shown, live_shown}
use Rattle.heapsafe.specs.Program.{Input, AnswersWay}
use Rattle.heapsafe.specs.Units.{AnswersRest, AnswersTokens, nothing_read}
use Rattle.heapsafe.specs.Execution.{AnswersCompiled, AnswersExecution}

-- a text whose types are refused has no core
abbrev pub AnswersTypes : List ℕ → List Opened → Checked Core → Input → Way → Shown → Type 0
AnswersTypes file opened (Ok core) input way a = AnswersWay file opened core input way a
AnswersTypes file opened (Err refusal) input way a = a ≡ bad_type opened refusal

-- what is answered for a text with this tree
abbrev pub Does : List ℕ → List Opened → Trees → Input → Task → Shown → Type 0
Does file opened externals input (Run heap stack steps leaks explain) a =
    AnswersTypes file opened (core_in externals) input (way.Run (record { heap = heap; stack = stack }) steps leaks explain) a
Does file opened externals input (Mean heap steps explain) a =
    AnswersTypes file opened (core_in externals) input (way.Mean heap steps explain) a
Does file opened externals input Print a = a ≡ printed externals
Does file opened externals input Layout a = a ≡ layouts_shown opened (tags_of externals)
Does file opened externals input ListCore a = a ≡ core_shown opened (core_in externals)
Does file opened externals input Live a = a ≡ live_shown opened (core_in externals)
Does file opened externals input Compile a = AnswersCompiled opened (core_in externals) a

-- the first of some files
abbrev pub first_of : List (List ℕ) → List ℕ
first_of [] = []
first_of (file ∷ files) = file

-- what is answered for the program that these files make, where each name has this text. What is said of it without a line names
-- the first
abbrev pub AnswersFiles : List (List ℕ) → (List ℕ → List ℕ) → Input → Task → Shown → Type 0
AnswersFiles files told input task a =
    AnswersRest told files (λ opened unit b. Does (first_of files) opened unit input task b) nothing_read a

-- a text that stands alone
abbrev pub alone : List ℕ → List ℕ → List Opened
alone file text = record { name = file; base = 0; text = text } ∷ []

-- what is answered for a text that is not preprocessed; one without tokens is refused, by its first bad place
pub record AnswersText (file text : List ℕ) (input : Input) (task : Task) (a : Shown) : Type 0 where
  pub refused : (kind : LexKind) (line : ℕ) → HasBadPlace text kind line → a ≡ bad_place kind (record { name = file; line = line; text = text })
  pub lexed : (tokens : List Token) → HasTokens text tokens →
      AnswersTokens (alone file text) tokens (λ unit b. Does file (alone file text) unit input task b) a

-- the text has this core
pub record HasCore (text : List ℕ) (core : Core) : Type 0 where
  pub tokens : List Token
  pub lexed : HasTokens text tokens
  pub externals : Trees
  pub parsed : HasTree tokens externals
  pub typed : core_in externals ≡ Ok core

-- how many steps a run of the text without input makes, of n that it may: none where the text has no core
pub record RunMakes (text : List ℕ) (room : Limits) (n made : ℕ) : Type 0 where
  pub run : (core : Core) → HasCore text core → made ≡ n - (cut_run core [] n room).state.steps
  pub refused : ((core : Core) → HasCore text core → ⊥) → made ≡ 0

-- an input of no bytes that does not fail
abbrev pub no_input : Input
no_input = record { bytes = []; fails = false }

-- how the text with so many functions, which has no directive to obey, is run by `self`: what `run` answers for it without input,
-- with the heap, the stack and the steps that it has where no option is given, and how many steps it makes
pub record RunsGenerated (number : ℕ) (run : Shown) (made : ℕ) : Type 0 where
  pub is_run : AnswersText [] (generated number) no_input (Run 16777216 1048576 100000000 false false) run
  pub makes : RunMakes (generated number) (record { heap = 16777216; stack = 1048576 }) 100000000 made

-- `self` writes the line of that run
pub record AnswersGenerated (number : ℕ) (a : Shown) : Type 0 where
  pub run : Shown
  pub made : ℕ
  pub runs : RunsGenerated number run made
  pub shows : a ≡ written (summary_line (record { number = number; text = length (generated number); output = length run.out; steps = made; status = run.status }))

abbrev pub AnswersCommand : Option Command → (List ℕ → List ℕ) → Input → Shown → Type 0
AnswersCommand None texts input a = a ≡ usage
AnswersCommand (Some (OnFiles files task)) texts input a = AnswersFiles files texts input task a
AnswersCommand (Some (Execute file heap stack steps leaks explain)) texts input a =
    AnswersExecution file (texts file) input (record { limits = record { heap = heap; stack = stack }; steps = steps; leaks = leaks; explain = explain }) a
AnswersCommand (Some (Generated number)) texts input a = AnswersGenerated number a

-- the bytes of some words
abbrev pub spelt : List (Bor (List ℕ)) → List (List ℕ)
spelt words = map (λ word. word.now) words

-- what they ask for
abbrev pub asked_by : List (Bor (List ℕ)) → Option Command
asked_by words = command_of (spelt words)

-- in which form things are said: by an object of JSON where one of the words asks for it, whatever else they say
abbrev pub is_json : List ℕ → Bool
is_json word = bytes_eq word (codes "--json")

abbrev pub form_by : List (Bor (List ℕ)) → Form
form_by words = cond (list_any (λ word. is_json word.now) words) Json Lines

-- a task with these files
abbrev pub asked_for : List (Bor (List ℕ)) → Given → Option Command
asked_for files task = Some (OnFiles (spelt files) (task_shown task))

-- the answer for these words, where each name has this text and the input is this one
abbrev pub Answers : List (List ℕ) → (List ℕ → List ℕ) → Input → Shown → Type 0
Answers words texts input a = AnswersCommand (command_of words) texts input a

-- a task that runs no program
abbrev pub RunsNone : Task → Type 0
RunsNone (Run heap stack steps leaks explain) = ⊥
RunsNone (Mean heap steps explain) = ⊥
RunsNone _ = ⊤

-- a task that evaluates no program
abbrev pub MeansNone : Task → Type 0
MeansNone (Mean heap steps explain) = ⊥
MeansNone _ = ⊤

-- words that ask for no program of a file
abbrev pub AsksNone : Option Command → Type 0
AsksNone (Some (OnFiles files task)) = RunsNone task
AsksNone (Some (Execute file heap stack steps leaks explain)) = ⊥
AsksNone _ = ⊤

-- words that ask for no evaluation
abbrev pub AsksNoMeaning : Option Command → Type 0
AsksNoMeaning (Some (OnFiles files task)) = MeansNone task
AsksNoMeaning _ = ⊤

-- the files that words name
abbrev pub files_asked : Option Command → List (List ℕ)
files_asked (Some (OnFiles files task)) = files
files_asked (Some (Execute file heap stack steps leaks explain)) = file ∷ []
files_asked _ = []

-- words that name no file
abbrev pub AsksNoFile : Option Command → Type 0
AsksNoFile (Some (OnFiles files task)) = ⊥
AsksNoFile (Some (Execute file heap stack steps leaks explain)) = ⊥
AsksNoFile _ = ⊤

-- a task that has one answer for each text and input; those of `compile` differ in the numbers of layouts
abbrev pub HasOne : Task → Type 0
HasOne Compile = ⊥
HasOne _ = ⊤

-- words that have one answer
abbrev pub AsksOne : Option Command → Type 0
AsksOne (Some (OnFiles files task)) = HasOne task
AsksOne _ = ⊤
