use Rattle.c_lexer.proofs.LiteralLaws.{strings_are_characters, constants_are_characters}
use Rattle.c_lexer.proofs.laws.literals_are_characters.Goals as goal

pub returns-clause-strings : goal.returns-clause-strings
returns-clause-strings c = strings_are_characters

pub returns-clause-constants : goal.returns-clause-constants
returns-clause-constants c = constants_are_characters
