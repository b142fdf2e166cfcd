-- What a reader stands before, as the code changes it.
use Rattle.std.specs.Prelude.{◌-◌, Bool, List, take, length, Option}
use Rattle.c_lexer.specs.declared.token.Token.{Token}
use Rattle.c_tree.specs.Grammar.{closed}
use Rattle.c_tree.specs.Scopes.{Known}
use Rattle.c_tree.specs.Tree.{Trees}
use Rattle.grammar_reading.specs.Reading.{nothing_read, parts_of}
use Rattle.grammar_reading.specs.State.{State}
use Rattle.parser_parts.specs.Names.{oldest}
use Rattle.parser_parts.specs.declared.reader.Outer.{Outer}

-- with other words left
abbrev pub with_words : List Token → State → State
with_words words state = record { words = words; scope = state.scope; params = state.params }

-- with other parameters next to the name that was read last
abbrev pub keeping : List Known → State → State
keeping params state = record { words = state.words; scope = state.scope; params = params }

-- behind a scope: of the names those that were declared outside of it
abbrev pub outside : Outer → State → State
outside outer state =
    record { words = state.words; scope = record { names = oldest outer.count state.scope.names; typedef = outer.typedef }; params = state.params }

-- the declarations that were made in a scope
abbrev pub declared_in : Outer → State → List Known
declared_in outer state = take (length state.scope.names - outer.count) state.scope.names

-- behind a parameter list: the same, and what was declared in it is kept as the parameters
abbrev pub outside_params : Outer → State → State
outside_params outer state = keeping (declared_in outer state) (outside outer state)

-- behind a closing brace, with a comma before it or not
abbrev pub closing : Bool → State → Option (Trees × State)
closing trailing = parts_of (λ place. nothing_read) (closed trailing)
