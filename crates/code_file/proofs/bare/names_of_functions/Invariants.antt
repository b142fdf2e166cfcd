use Rattle.std.proofs.Common.{◌≡◌, map, take}
use Rattle.std.specs.List.{All}
use Rattle.code_file.specs.CodeFile.{IsShortFunction}
use Rattle.code_file.specs.Names.{bare_function}
use Rattle.code_file.proofs.bare.names_of_functions.Given as goal

abbrev pub invariant-loop-func : goal.invariant-loop-func
invariant-loop-func l = record {
  names : l.names ≡ map bare_function (take l.func-index l.funcs);
  short : All IsShortFunction l.names;
}
