-- The words that a report has for the kinds of refusals.
use Rattle.std.specs.Prelude.{ℕ, List, codes}
use Rattle.c_pre.specs.declared.answer.PreKind.{PreKind}
use Rattle.c_pre.specs.declared.answer.PreKind.TheVariants.{Directive, Error, Condition, Unbalanced, Redefined, Arguments, Depth, Work}

-- the word of a kind
abbrev pub word_of : PreKind → List ℕ
word_of Directive = codes "bad directive"
word_of Error = codes "error"
word_of Condition = codes "bad condition"
word_of Unbalanced = codes "unbalanced"
word_of Redefined = codes "redefined"
word_of Arguments = codes "arguments"
word_of Depth = codes "too deep"
word_of Work = codes "too much"
