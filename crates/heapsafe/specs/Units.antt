-- The program that files make (C99 5.1.1.1): each is preprocessed and has a tree, and these are merged.
use Rattle.std.specs.Prelude.{◌≡◌, ℕ, List, [], ◌∷◌, ◌++◌, Result, Ok, Err}
use Rattle.c_lexer.specs.declared.token.Token.{Token}
use Rattle.c_pre.specs.Texts.{no_sources, preprocessed_behind}
use Rattle.c_pre.specs.declared.answer.Opened.{Opened}
use Rattle.c_pre.specs.declared.answer.PreError.{PreError}
use Rattle.c_pre.specs.declared.answer.Sources.{Sources}
use Rattle.c_tree.specs.Tree.{Trees}
use Rattle.c_tree.specs.HasTree.{HasTree, GoesWrong}
use Rattle.c_units.specs.Merge.{Conflict, merged}
use Rattle.heapsafe.specs.Shown.{Shown, bad_syntax, conflicting, untokened}

-- what was read of a program so far: the texts that were opened, with their lines and bytes, and the trees of its files
pub record Reading : Type 0 where
  pub sources : Sources
  pub units : List Trees

abbrev pub nothing_read : Reading
nothing_read = record { sources = no_sources 0; units = [] }

-- with a file more, which has this tree
abbrev pub with_unit : Sources → Trees → Reading → Reading
with_unit sources unit before = record { sources = sources; units = before.units ++ unit ∷ [] }

-- tokens without a tree are refused, by the line of the first external declaration that has none; for others the answer is by
-- their tree
pub record AnswersTokens (opened : List Opened) (tokens : List Token) (By : Trees → Shown → Type 0) (a : Shown) : Type 0 where
  pub refused : (line : ℕ) → GoesWrong tokens line → a ≡ bad_syntax opened line
  pub parsed : (unit : Trees) → HasTree tokens unit → By unit a

-- a file without tokens is refused by why it has none; for another the answer is by what was read with it
abbrev pub AnswersRead : Reading → Result (List Token × Sources) PreError → (Reading → Shown → Type 0) → Shown → Type 0
AnswersRead before (Ok (tokens, sources)) By a =
    AnswersTokens sources.texts tokens (λ unit. By (with_unit sources unit before)) a
AnswersRead before (Err error) By a = a ≡ untokened error

-- units of which two say what may not be said of one name twice are refused; for others the answer is by their merge
abbrev pub AnswersMerged : List Opened → Result Trees Conflict → (List Opened → Trees → Shown → Type 0) → Shown → Type 0
AnswersMerged opened (Ok unit) By a = By opened unit a
AnswersMerged opened (Err conflict) By a = a ≡ conflicting opened conflict

-- what is answered behind what was read, where these files follow and each name has this text: the first file that is refused
-- decides, and behind the last file the merge
abbrev pub AnswersRest : (List ℕ → List ℕ) → List (List ℕ) → (List Opened → Trees → Shown → Type 0) → Reading → Shown → Type 0
AnswersRest told [] By before a = AnswersMerged before.sources.texts (merged before.units) By a
AnswersRest told (file ∷ files) By before a =
    AnswersRead before (preprocessed_behind before.sources told file) (AnswersRest told files By) a
