-- What reading says of the tree of tokens.
use Rattle.std.proofs.Common.{◌≡◌, ◌∙◌, List, sym, subst, ap}
use Rattle.c_lexer.specs.declared.token.Token.{Token}
use Rattle.c_tree.specs.Tree.{Trees}
use Rattle.c_tree.specs.HasTree.{GoesWrong}
use Rattle.c_parser.specs.declared.error.ParseError.{ParseError}
use Rattle.c_parser.specs.declared.error.ParseError.TheVariants as errors
use Rattle.grammar_reading.specs.Rooms.{Text, Whole, Stops, read_unit}
use Rattle.c_parser.specs.Told.{IsStopped}
use Rattle.c_parser.specs.Parses.{IsOnlyTree, IsRefused}
use Rattle.grammar_reading.specs.Laws.{WholeTextsAreRead, TreesOfTextsAreRead, StopsWhereWrong}

abbrev externals_of : Text → Trees
externals_of (Whole externals) = externals
externals_of (Stops externals at) = externals

-- a text that is read whole has that tree alone
pub only_tree : WholeTextsAreRead → TreesOfTextsAreRead → (tokens : List Token) (externals : Trees) → read_unit tokens ≡ Whole externals → IsOnlyTree tokens externals
only_tree whole trees tokens externals read = record {
  tree = whole tokens externals read;
  only = λ other has. ap externals_of (sym (trees tokens other has) ∙ read);
}

-- where reading stops the tokens go wrong
pub refused : StopsWhereWrong → (tokens : List Token) (text : Text) (error : ParseError) → read_unit tokens ≡ text → IsStopped text error → IsRefused tokens error
refused wrong tokens text errors.NoMemory read stopped = tt
refused wrong tokens (Whole externals) (errors.Syntax line) read stopped = absurd stopped
refused wrong tokens (Stops externals at) (errors.Syntax line) read stopped =
    subst (λ l. GoesWrong tokens l) (sym stopped) (wrong tokens externals at read).1
