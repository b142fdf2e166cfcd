-- A text before it is run, and how a run without input went.
use Rattle.std.specs.Prelude.{◌≡◌, ◌⊎◌, ◌-◌, ℕ, false, List, [], length, Ok, Err}
use Rattle.hs_base.specs.declared.ends.Limits.{Limits}
use Rattle.c_lexer.specs.declared.token.Token.{Token}
use Rattle.c_tree.specs.Tree.{Trees}
use Rattle.c_tree.specs.HasTree.{GoesWrong}
use Rattle.c_parser.specs.Parses.{IsOnlyTree}
use Rattle.c_decls.specs.Refusals.{Checked, Refusal}
use Rattle.c_elab.specs.Core.{core_in}
use Rattle.core_tree.specs.Sound.{IsSound}
use Rattle.core_tree.specs.declared.program.Core.{Core as Program}
use Rattle.flat_codegen.specs.Lasting.{cut_run}
use Rattle.command_words.specs.Commands.{Run}
use Rattle.generated_text.specs.Summary.{summary_line}
use Rattle.generated_text.specs.Text.{generated}
use Rattle.generated_text.specs.declared.summary.Summary.{Summary}
use Rattle.heapsafe.specs.declared.generated.Prepared.{Prepared}
use Rattle.heapsafe.specs.declared.generated.Prepared.TheVariants.{Core, Refused}
use Rattle.heapsafe.specs.declared.generated.Ran.{Ran}
use Rattle.heapsafe.specs.declared.program.Way.TheVariants as way
use Rattle.heapsafe.specs.Shown.{Shown, written}
use Rattle.heapsafe.specs.Program.{Input, AnswersWay}
use Rattle.heapsafe.specs.Answer.{AnswersGenerated, AnswersText, HasCore, RunMakes, RunsGenerated, alone, no_input}

-- a tree is prepared by its core, or refused for its types
abbrev pub IsPreparedUnit : Checked Program → Prepared → Type 0
IsPreparedUnit typed (Core core) = (typed ≡ Ok core) × IsSound core
IsPreparedUnit typed (Refused status) = (refusal : Refusal) × (typed ≡ Err refusal) × (status ≡ 125)

-- tokens are prepared by the core of their tree, or refused for their tree or for its types
abbrev pub IsPreparedTokens : List Token → Prepared → Type 0
IsPreparedTokens tokens (Core core) =
    (externals : Trees) × IsOnlyTree tokens externals × (core_in externals ≡ Ok core) × IsSound core
IsPreparedTokens tokens (Refused status) =
    ((line : ℕ) × GoesWrong tokens line × (status ≡ 124))
    ⊎ ((externals : Trees) × IsOnlyTree tokens externals × (refusal : Refusal) × (core_in externals ≡ Err refusal) × (status ≡ 125))

-- a text has this core alone, and its run answers what that of the core does
pub record HasOnly (text : List ℕ) (core : Program) : Type 0 where
  pub has : HasCore text core
  pub only : (other : Program) → HasCore text other → other ≡ core
  pub answers : (file : List ℕ) (input : Input) (heap stack steps : ℕ) (a : Shown) →
      AnswersWay file (alone file text) core input (way.Run (record { heap = heap; stack = stack }) steps false false) a →
      AnswersText file text input (Run heap stack steps false false) a
  pub answered : (file : List ℕ) (input : Input) (heap stack steps : ℕ) (a : Shown) →
      AnswersText file text input (Run heap stack steps false false) a →
      AnswersWay file (alone file text) core input (way.Run (record { heap = heap; stack = stack }) steps false false) a

-- a text has no core, and is refused with this status before it writes a byte
pub record IsWithout (text : List ℕ) (status : ℕ) : Type 0 where
  pub none : (core : Program) → HasCore text core → ⊥
  pub answers : (file : List ℕ) (input : Input) (heap stack steps : ℕ) →
      (a : Shown) × AnswersText file text input (Run heap stack steps false false) a × (a.out ≡ []) × (a.status ≡ status)
  pub only : (file : List ℕ) (input : Input) (heap stack steps : ℕ) (a : Shown) →
      AnswersText file text input (Run heap stack steps false false) a → (a.out ≡ []) × (a.status ≡ status)

abbrev pub IsPrepared : List ℕ → Prepared → Type 0
IsPrepared text (Core core) = HasOnly text core × IsSound core
IsPrepared text (Refused status) = IsWithout text status

-- a run went as all go that answer so, of which there is one: as many bytes were written, and the status is the same
pub record Went (Is : Shown → Type 0) (ran : Ran) : Type 0 where
  pub shown : Shown
  pub is : Is shown
  pub output : ran.output ≡ length shown.out
  pub status : ran.status ≡ shown.status
  pub only : (other : Shown) → Is other → (length other.out ≡ ran.output) × (other.status ≡ ran.status)

-- so goes the run of a core without input, whatever text it has
abbrev pub WentCore : Program → Limits → ℕ → Ran → Type 0
WentCore core room n ran = (text : List ℕ) → Went (AnswersWay [] (alone [] text) core no_input (way.Run room n false false)) ran

-- and that of a text
abbrev pub WentText : List ℕ → Limits → ℕ → Ran → Type 0
WentText text room n ran = Went (AnswersText [] text no_input (Run room.heap room.stack n false false)) ran

-- the run of a text without input makes so many steps, and no other number of them
pub record MakesOnly (text : List ℕ) (room : Limits) (n made : ℕ) : Type 0 where
  pub is : RunMakes text room n made
  pub only : (other : ℕ) → RunMakes text room n other → other ≡ made

-- how many steps the run of a core without input makes, of n that it may
abbrev pub steps_of : Program → Limits → ℕ → ℕ
steps_of core room n = n - (cut_run core [] n room).state.steps

-- the summary of the run of the text with so many functions
pub record SumsUp (number : ℕ) (summary : Summary) : Type 0 where
  pub run : Shown
  pub made : ℕ
  pub runs : RunsGenerated number run made
  pub is : summary ≡ record { number = number; text = length (generated number); output = length run.out; steps = made; status = run.status }
  pub only : (a : Shown) → AnswersGenerated number a → a ≡ written (summary_line summary)
