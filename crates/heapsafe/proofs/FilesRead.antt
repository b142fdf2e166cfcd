-- Files that are read in turn are answered by what was read.
use Rattle.std.proofs.Common.{◌≡◌, ◌≤◌, ◌<◌, ◌↔◌, ℕ, ◌+◌, List, [], ◌∷◌, ◌++◌, All, Bor, drop, get_or, length, map, Option, Some, None, cond, inl, inr, Result, Ok, Err, refl, sym, subst, ap, ◌∙◌, arith}
use Rattle.hs_base.specs.declared.outside.Texts as reading
use Rattle.std.specs.Prelude.{IfOk}
use Rattle.std.proofs.lemmas.List.{drop-map, drop_more, length-append}
use Rattle.std.proofs.lemmas.List.Sums.{sum_by-append}
use Rattle.std.proofs.lemmas.List.Elements.{All-push, All-weaker}
use Rattle.c_lexer.specs.Tokens.{IsLexed}
use Rattle.c_lexer.specs.declared.token.Token.{Token}
use Rattle.c_pre.specs.Bounds.{Lengthens}
use Rattle.c_pre.specs.Formed.{IsFormed}
use Rattle.c_pre.specs.Texts.{most_bytes, preprocessed_behind}
use Rattle.c_pre.specs.declared.answer.Opened.{Opened}
use Rattle.c_pre.specs.declared.answer.PreError.{PreError}
use Rattle.c_pre.specs.declared.answer.PreError.TheVariants as pre
use Rattle.c_pre.specs.declared.answer.Sources.{Sources}
use Rattle.c_tree.specs.Tree.{Trees, none, ◌▹◌}
use Rattle.c_tree.specs.HasTree.{HasTree}
use Rattle.c_tree.specs.StatementView.{unit_view}
use Rattle.c_units.specs.Merge.{Conflict as Conflicting, merged}
use Rattle.c_units.specs.MergedNames.{joined_all}
use Rattle.c_units.specs.Turns.{joined as unit_joined}
use Rattle.c_tree.specs.Renaming.{RenamesSome}
use Rattle.heapsafe.specs.declared.units.Program.{Program}
use Rattle.heapsafe.specs.declared.units.ProgramError.{ProgramError}
use Rattle.heapsafe.specs.declared.units.ProgramError.TheVariants.{Text, Syntax, Conflict, NoMemory}
use Rattle.heapsafe.specs.declared.units.Reading.{Reading as Kept}
use Rattle.core_soundness.specs.Texts.{AllNames, HaveTrees, IsMadeOf, IsOfTexts, all_joined, joined}
use Rattle.core_tree.specs.Sound.{IsShort}
use Rattle.command_words.specs.Commands.{OnFiles, Task}
use Rattle.heapsafe.specs.Answer.{AnswersFiles, Does, first_of}
use Rattle.heapsafe.specs.Program.{Input}
use Rattle.heapsafe.specs.Reads.{CountsText, FailsIn, Finishes, IsOfFiles, IsRefused, ReadsAs, TakesFile, TakesUnit, reading_view}
use Rattle.heapsafe.specs.Saying.{SaysOnly, unmade}
use Rattle.heapsafe.specs.Serving.{Obeys}
use Rattle.heapsafe.specs.Sight.{Sight}
use Rattle.heapsafe.proofs.Served.{IsLine, obeys_fault, obeys_said}
use Rattle.heapsafe.proofs.Statuses.{unmade_cause, unmade_wants}
use Rattle.heapsafe.proofs.Told.{Cause, Refusal, Memory, Fault, unmade_silent}
use Rattle.std.proofs.lemmas.Bool.{lt-ltb}
use Rattle.heapsafe.specs.Shown.{Shown, bad_syntax, conflicting, untokened}
use Rattle.heapsafe.specs.Units.{AnswersMerged, AnswersRead, AnswersRest, Reading, with_unit}
use Rattle.heapsafe.proofs.Trees.{tree_is, wrong_is}

-- what preprocessing gives of a file
abbrev Given : Type 0
Given = Result (List Token × Sources) PreError

abbrev given : List Token → Sources → Given
given tokens sources = Ok (tokens, sources)

module _ (before : Reading) (expected : Given) (Next : Reading → Shown → Type 0) (a : Shown) where
  -- a file that was taken
  pub taken : (after : Kept) → TakesFile before expected (Ok after) → AnswersRead before expected Next a ↔ Next (reading_view after) a
  taken after h =
      let tokens = h.0 in let sources = h.1 in let unit = h.3.0 in (
        λ is. subst (λ (r : Reading). Next r a) (sym h.3.2) ((subst (λ (e : Given). AnswersRead before e Next a) h.2 is).parsed unit h.3.1.tree),
        λ next. subst (λ (e : Given). AnswersRead before e Next a) (sym h.2)
            (tree_is sources.texts tokens (λ (u : Trees). Next (with_unit sources u before)) unit a h.3.1 (subst (λ (r : Reading). Next r a) h.3.2 next)),
      )

  -- one that has no tokens
  untaken : (error : PreError) → expected ≡ Err error → AnswersRead before expected Next a ↔ (a ≡ untokened error)
  untaken error same = (
    λ is. subst (λ (e : Given). AnswersRead before e Next a) same is,
    λ is. subst (λ (e : Given). AnswersRead before e Next a) (sym same) is,
  )

  -- a file that is refused
  pub refused : (error : ProgramError) → TakesFile before expected (Err error) → IsRefused error → AnswersRead before expected Next a ↔ (a ≡ unmade error)
  refused (Text (pre.Bad kind at)) h is = untaken (pre.Bad kind at) h
  refused (Text (pre.Lex kind at)) h is = untaken (pre.Lex kind at) h
  refused (Text (pre.TooLong name)) h is = untaken (pre.TooLong name) h
  refused (Text (pre.Fault name)) h is = absurd is
  refused (Text pre.NoMemory) h is = absurd is
  refused (Syntax texts line) h is =
      let tokens = h.0 in let sources = h.1 in (
        λ answers. (subst (λ (e : Given). AnswersRead before e Next a) h.2 answers).refused line h.3.1 ∙ ap (λ (ts : List Opened). bad_syntax ts line) (sym h.3.0),
        λ said. subst (λ (e : Given). AnswersRead before e Next a) (sym h.2)
            (subst (λ (s : Shown). AnswersRead before (given tokens sources) Next s) (sym (said ∙ ap (λ (ts : List Opened). bad_syntax ts line) h.3.0))
            (wrong_is sources.texts tokens (λ (u : Trees). Next (with_unit sources u before)) line h.3.1)),
      )
  refused (Conflict texts name line) h is = absurd h.3
  refused NoMemory h is = absurd is

module _ (before : Reading) (By : List Opened → Trees → Shown → Type 0) (a : Shown) where
  abbrev Answers : Result Trees Conflicting → Type 0
  Answers merge = AnswersMerged before.sources.texts merge By a

  -- units that were merged
  pub finished : (program : Program) → Finishes before (Ok program) → Answers (merged before.units) ↔ By program.texts (unit_view program.unit) a
  finished program h = (
    λ is. subst (λ (ts : List Opened). By ts (unit_view program.unit) a) (sym h.0) (subst Answers h.1 is),
    λ is. subst Answers (sym h.1) (subst (λ (ts : List Opened). By ts (unit_view program.unit) a) h.0 is),
  )

  -- units that conflict
  pub conflicted : (error : ProgramError) → Finishes before (Err error) → IsRefused error → Answers (merged before.units) ↔ (a ≡ unmade error)
  conflicted (Conflict texts name line) h is =
      let conflict : Conflicting = record { name = name; line = line } in (
        λ answers. subst Answers h.1 answers ∙ ap (λ (ts : List Opened). conflicting ts conflict) (sym h.0),
        λ said. subst Answers (sym h.1) (said ∙ ap (λ (ts : List Opened). conflicting ts conflict) h.0),
      )
  conflicted NoMemory h is = absurd is
  conflicted (Text error) h is = absurd h
  conflicted (Syntax texts line) h is = absurd h

-- the files from one on
abbrev name_of : Bor (List ℕ) → List ℕ
name_of file = file.now

pub next_file : (files : List (Bor (List ℕ))) (i : ℕ) (d : Bor (List ℕ)) → i < length files → drop i (map name_of files) ≡ (get_or files i d).now ∷ drop (i + 1) (map name_of files)
next_file files i d below =
    drop-map name_of i files ∙ ap (map name_of) (drop_more files i d below)
    ∙ ap (λ (rest : List (List ℕ)). (get_or files i d).now ∷ rest) (sym (drop-map name_of (i + 1) files))

-- one answer is another, and that one a third
pub through : (A B C : Type 0) → A ↔ B → B ↔ C → A ↔ C
through A B C one other = (λ a. other.0 (one.0 a), λ c. one.1 (other.1 c))

module _ (told : List ℕ → List ℕ) (By : List Opened → Trees → Shown → Type 0) (files rest : List (List ℕ)) (file : List ℕ) (here : files ≡ file ∷ rest) (before : Reading) (a : Shown) where
  -- the next file is taken, or refused
  pub next_taken : (after : Kept) → TakesFile before (preprocessed_behind before.sources told file) (Ok after) → AnswersRest told files By before a ↔ AnswersRest told rest By (reading_view after) a
  next_taken after h =
      subst (λ (fs : List (List ℕ)). AnswersRest told fs By before a ↔ AnswersRest told rest By (reading_view after) a) (sym here)
      (taken before (preprocessed_behind before.sources told file) (AnswersRest told rest By) a after h)

  pub next_refused : (error : ProgramError) → TakesFile before (preprocessed_behind before.sources told file) (Err error) → IsRefused error → AnswersRest told files By before a ↔ (a ≡ unmade error)
  next_refused error h is =
      subst (λ (fs : List (List ℕ)). AnswersRest told fs By before a ↔ (a ≡ unmade error)) (sym here)
      (refused before (preprocessed_behind before.sources told file) (AnswersRest told rest By) a error h is)

-- trees and their texts, with one more
trees_more : (texts : List (List Token)) (units : List Trees) (tokens : List Token) (unit : Trees) → HaveTrees texts units → All IsLexed tokens → HasTree tokens unit → HaveTrees (texts ++ tokens ∷ []) (units ++ unit ∷ [])
trees_more [] [] tokens unit h lexed has = ((lexed, has), tt)
trees_more [] (u ∷ units) tokens unit h lexed has = absurd h
trees_more (t ∷ texts) [] tokens unit h lexed has = absurd h
trees_more (t ∷ texts) (u ∷ units) tokens unit h lexed has = (h.0, trees_more texts units tokens unit h.1 lexed has)

abbrev count : List Token → ℕ
count tokens = length tokens

-- what was read with a file more is that of files
file_more : (before middle : Reading) (sources : Sources) (tokens : List Token) (unit : Trees) → IsOfFiles before → middle.units ≡ before.units → All IsFormed tokens → Lengthens before.sources sources (length tokens) → HasTree tokens unit → IsOfFiles (with_unit sources unit middle)
file_more before middle sources tokens unit b same formed l has =
    let longer : length (middle.units ++ unit ∷ []) ≡ length before.units + 1 = ap (λ (us : List Trees). length (us ++ unit ∷ [])) same ∙ length-append before.units (unit ∷ []) in
    record {
      used = l.most;
      lines = omega (arith, longer, b.lines, l.lines);
      texts = b.texts ++ tokens ∷ [];
      trees = subst (λ (us : List Trees). HaveTrees (b.texts ++ tokens ∷ []) (us ++ unit ∷ [])) (sym same)
          (trees_more b.texts before.units tokens unit b.trees (All-weaker IsFormed IsLexed (λ token f. f.0) tokens formed) has);
      few = omega (arith, longer, b.few, l.few, sum_by-append count b.texts (tokens ∷ []));
      short = All-push (λ (ts : List Token). All (λ (token : Token). length token.bytes ≤ most_bytes) ts) b.texts tokens b.short (All-weaker IsFormed (λ (token : Token). length token.bytes ≤ most_bytes) (λ token f. f.1) tokens formed);
    }

pub files_more : (before middle : Reading) (sources : Sources) (tokens taken : List Token) (result : Result Kept ProgramError) → IsOfFiles before → middle.units ≡ before.units → taken ≡ tokens → All IsFormed tokens → Lengthens before.sources sources (length tokens) → TakesUnit middle taken sources result → IfOk result (λ after. IsOfFiles (reading_view after))
files_more before middle sources tokens taken (Ok after) b same is formed l h =
    subst IsOfFiles (sym h.2) (file_more before middle sources tokens h.0 b same formed l (subst (λ (ts : List Token). HasTree ts h.0) is h.1.tree))
files_more before middle sources tokens taken (Err error) b same is formed l h = tt

-- trees one behind another
joined_is : (one other : Trees) → unit_joined one other ≡ joined one other
joined_is none other = refl
joined_is (tree ▹ rest) other = ap (λ (ts : Trees). tree ▹ ts) (joined_is rest other)

all_joined_is : (units : List Trees) → joined_all units ≡ all_joined units
all_joined_is [] = refl
all_joined_is (unit ∷ units) = ap (unit_joined unit) (all_joined_is units) ∙ joined_is unit (all_joined units)

-- the merge of what was read is made of texts
pub merge_of_texts : (before : Reading) (unit : Trees) → IsOfFiles before → length before.units ≤ 64 → RenamesSome (joined_all before.units) unit →
    ((texts : List (List Token)) (units : List Trees) (new : Trees) → IsMadeOf texts units new → All (λ (tokens : List Token). All (λ (token : Token). length token.bytes ≤ 268435456) tokens) texts → AllNames IsShort new) → IsOfTexts unit
merge_of_texts before unit b few renames stay_short =
    let made : IsMadeOf b.texts before.units unit = record { trees = b.trees; renamed = subst (λ (ts : Trees). RenamesSome ts unit) (all_joined_is before.units) renames } in (
      b.texts,
      before.units,
      made,
      record {
        few = omega (arith, b.few, b.used, few);
        short = stay_short b.texts before.units unit made
            (All-weaker (λ (ts : List Token). All (λ (token : Token). length token.bytes ≤ most_bytes) ts) (λ (ts : List Token). All (λ (token : Token). length token.bytes ≤ 268435456) ts)
            (λ ts h. All-weaker (λ (token : Token). length token.bytes ≤ most_bytes) (λ (token : Token). length token.bytes ≤ 268435456) (λ token k. omega (arith, k)) ts h) b.texts b.short);
      },
    )

module _ (told : List ℕ → List ℕ) (files : List (List ℕ)) (program : Program) (reads : ReadsAs told files (Ok program)) (first : List ℕ) (opened : List Opened) (is_first : first ≡ first_of files) (is_opened : opened ≡ program.texts) where
  abbrev Done : Input → Task → Shown → List ℕ → List Opened → Type 0
  Done input task a name texts = Does name texts (unit_view program.unit) input task a

  -- what is done with the program is the answer for its files
  pub does_answers : (task : Task) (input : Input) (a : Shown) → Done input task a first opened → AnswersFiles files told input task a
  does_answers task input a does =
      (reads input task a).1 (subst (Done input task a (first_of files)) is_opened (subst (λ (name : List ℕ). Done input task a name opened) is_first does))

  pub answers_does : (task : Task) (input : Input) (a : Shown) → AnswersFiles files told input task a → Done input task a first opened
  answers_does task input a is =
      subst (λ (name : List ℕ). Done input task a name opened) (sym is_first) (subst (Done input task a (first_of files)) (sym is_opened) ((reads input task a).0 is))

-- a program that was not read: its line was said
unmade_line : (error : ProgramError) (t t' : ℕ) → CountsText {T = Program} t t' (Err error) → t' ≡ t → IsLine (unmade error)
unmade_line error t t' counts same = record {
  silent = unmade_silent error;
  wants = unmade_wants error;
  fair = λ is. let more : t < t' = unmade_cause error t t' counts is in omega (arith, more, same);
}

module _ {T I O E : Type 0} (of : reading.Ghosts T) (texts texts' : T) (before after : Sight I O E) (result : ℕ) (files : List (List ℕ)) (task : Task) where
  pub unmade_obeys : (error : ProgramError) → ((told : List ℕ → List ℕ) → of.texts texts ≡ Some told → ReadsAs told files (Err error)) → FailsIn files error → Cause error (of.faults texts) (of.faults texts') → CountsText {T = Program} (of.faults texts) (of.faults texts') (Err error) →
      SaysOnly (unmade error) before after result → Obeys of (Some (OnFiles files task)) texts texts' before after result
  unmade_obeys error reads below (Refusal is stays) counts said =
      obeys_said of texts texts' before after result (Some (OnFiles files task)) (unmade error) (unmade_line error (of.faults texts) (of.faults texts') counts stays) stays
      (λ told k i. inl ((reads told k is i task (unmade error)).1 refl)) (λ told k i a answers. inl ((reads told k is i task a).0 answers)) said
  unmade_obeys error reads below (Memory is stays) counts said =
      obeys_said of texts texts' before after result (Some (OnFiles files task)) (unmade error) (unmade_line error (of.faults texts) (of.faults texts') counts stays) stays (λ told k i. inr is) (λ told k i a answers. inr is) said
  unmade_obeys error reads below (Fault name is rises) counts said =
      obeys_fault of texts texts' before after result (Some (OnFiles files task)) name rises
      (ap (λ b. cond b (Some files) None) (lt-ltb (of.faults texts) (of.faults texts') (omega (arith, rises)))) (subst (FailsIn files) is below) (subst (λ (e : ProgramError). SaysOnly (unmade e) before after result) is said)
