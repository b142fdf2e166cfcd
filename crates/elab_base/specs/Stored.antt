-- What elaboration keeps, told apart as trees of numbers.
use Rattle.std.specs.Coded.{Coded, codes}
use Rattle.c_types.specs.Codes.{type_code, table_code}
use Rattle.c_decls.specs.Codes.{scopes_code, table_code as names_code}
use Rattle.elaboration.specs.Context.{Running, Code, Walked, Context}

pub running_code : Coded Running
running_code = hlevel (codes, type_code)

code_code : Coded Code
code_code = hlevel codes

pub walked_code : Coded Walked
walked_code = hlevel (codes, running_code, code_code)

pub context_code : Coded Context
context_code = hlevel (codes, scopes_code, table_code, names_code, walked_code, running_code, code_code)
