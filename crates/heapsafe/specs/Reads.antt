-- How the code keeps what was read of a program, and what reading on answers and leaves.
use Rattle.std.specs.Prelude.{◌≡◌, ◌≤◌, ◌↔◌, ⊤, ℕ, ◌+◌, ◌*◌, All, List, length, map, Some, Result, Ok, Err}
use Rattle.std.specs.List.{sum_by}
use Rattle.hs_base.specs.declared.outside.Texts as texts
use Rattle.c_parser.specs.Parses.{IsOnlyTree}
use Rattle.c_pre.specs.Answering.{CountsFault, Gives}
use Rattle.c_pre.specs.Expansion.{most_work}
use Rattle.c_pre.specs.Texts.{most_bytes, preprocessed_behind}
use Rattle.c_pre.specs.declared.answer.Sources.{Sources}
use Rattle.c_lexer.specs.declared.token.Token.{Token}
use Rattle.c_pre.specs.declared.answer.PreError.{PreError}
use Rattle.c_pre.specs.declared.answer.PreError.TheVariants as pre
use Rattle.c_tree.specs.HasTree.{GoesWrong}
use Rattle.c_tree.specs.StatementView.{unit_view}
use Rattle.c_tree.specs.Tree.{Trees}
use Rattle.c_units.specs.Merge.{merged}
use Rattle.core_soundness.specs.Texts.{HaveTrees}
use Rattle.command_words.specs.Commands.{Task}
use Rattle.heapsafe.specs.declared.units.Program.{Program}
use Rattle.heapsafe.specs.declared.units.ProgramError.{ProgramError}
use Rattle.heapsafe.specs.declared.units.ProgramError.TheVariants.{Text, Syntax, Conflict, NoMemory}
use Rattle.heapsafe.specs.declared.units.Reading.{Reading as Kept}
use Rattle.heapsafe.specs.Answer.{AnswersFiles, Does, first_of}
use Rattle.heapsafe.specs.Program.{Input}
use Rattle.heapsafe.specs.Saying.{IsTextOf, unmade}
use Rattle.heapsafe.specs.Shown.{Shown}
use Rattle.heapsafe.specs.Units.{Reading, with_unit}

abbrev pub reading_view : Kept → Reading
reading_view kept = record { sources = kept.sources; units = map unit_view kept.units }

-- the tokens of a file are taken by their tree, which is the only one, or refused; of want of memory nothing is said
abbrev pub TakesUnit : Reading → List Token → Sources → Result Kept ProgramError → Type 0
TakesUnit before tokens sources (Ok after) =
    (unit : Trees) × IsOnlyTree tokens unit × (reading_view after ≡ with_unit sources unit before)
TakesUnit before tokens sources (Err (Syntax texts line)) = (texts ≡ sources.texts) × GoesWrong tokens line
TakesUnit before tokens sources (Err NoMemory) = ⊤
TakesUnit before tokens sources (Err error) = ⊥

-- a file that preprocessing gives so is taken by its tokens, or refused by why it has none; of a fault of its text and of want of
-- memory nothing is said
abbrev pub TakesFile : Reading → Result (List Token × Sources) PreError → Result Kept ProgramError → Type 0
TakesFile before expected (Err (Text error)) = Gives expected (Err error)
TakesFile before expected (Err NoMemory) = ⊤
TakesFile before expected answer =
    (tokens : List Token) × (sources : Sources) × (expected ≡ Ok (tokens, sources)) × TakesUnit before tokens sources answer

-- so it is taken, where texts tell their bytes
abbrev pub ReadsFile : {T : Type 0} → texts.Ghosts T → T → Kept → List ℕ → Result Kept ProgramError → Type 0
ReadsFile of given before file result =
    (told : List ℕ → List ℕ) → of.texts given ≡ Some told →
    TakesFile (reading_view before) (preprocessed_behind before.sources told file) result

-- the units are merged, or refused; of want of memory nothing is said
abbrev pub Finishes : Reading → Result Program ProgramError → Type 0
Finishes before (Ok program) = (program.texts ≡ before.sources.texts) × (merged before.units ≡ Ok (unit_view program.unit))
Finishes before (Err (Conflict texts name line)) =
    (texts ≡ before.sources.texts) × (merged before.units ≡ Err (record { name = name; line = line }))
Finishes before (Err NoMemory) = ⊤
Finishes before (Err error) = ⊥

-- it is the program that is refused: no text failed, and there was memory
abbrev pub IsRefused : ProgramError → Type 0
IsRefused (Text (pre.Fault name)) = ⊥
IsRefused (Text pre.NoMemory) = ⊥
IsRefused NoMemory = ⊥
IsRefused error = ⊤

-- where each name has this text, the answer for these files is that for the program that was read, or the refusal
abbrev pub ReadsAs : (List ℕ → List ℕ) → List (List ℕ) → Result Program ProgramError → Type 0
ReadsAs told files (Ok program) =
    (input : Input) (task : Task) (a : Shown) →
    AnswersFiles files told input task a ↔ Does (first_of files) program.texts (unit_view program.unit) input task a
ReadsAs told files (Err error) =
    IsRefused error → (input : Input) (task : Task) (a : Shown) →
    AnswersFiles files told input task a ↔ (a ≡ unmade error)

-- so it is, where texts tell their bytes
abbrev pub ReadsFiles : {T : Type 0} → texts.Ghosts T → T → List (List ℕ) → Result Program ProgramError → Type 0
ReadsFiles of given files result = (told : List ℕ → List ℕ) → of.texts given ≡ Some told → ReadsAs told files result

-- the count of the texts rises, by one, exactly where a text failed
abbrev pub CountsText : {T : Type 0} → ℕ → ℕ → Result T ProgramError → Type 0
CountsText before after (Err (Text error)) = CountsFault {T = Sources} before after (Err error)
CountsText before after answer = after ≡ before

-- a text that failed is one of these files, or one that an include can name
abbrev pub FailsIn : List (List ℕ) → ProgramError → Type 0
FailsIn files (Text (pre.Fault name)) = IsTextOf files name
FailsIn files error = ⊤

-- what was read is that of files: there are so many bytes and lines at most, and each tree is that of tokens in their forms, of
-- which there are so many at most
pub record IsOfFiles (reading : Reading) : Type 0 where
  pub used : reading.sources.used ≤ most_bytes
  pub lines : reading.sources.lines ≤ 2 * reading.sources.used + length reading.units
  pub texts : List (List Token)
  pub trees : HaveTrees texts reading.units
  pub few : sum_by (λ (tokens : List Token). length tokens) texts ≤ reading.sources.used + length reading.units * most_work
  pub short : All (λ tokens. All (λ (token : Token). length token.bytes ≤ most_bytes) tokens) texts
