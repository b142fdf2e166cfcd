use Rattle.std.proofs.Common.{◌≡◌, take}
use Rattle.std.specs.List.{All}
use Rattle.std.specs.Option.{IfSome}
use Rattle.core_tree.specs.declared.program.Reg.{Reg}
use Rattle.code_file.specs.Spelling.{IsShort}
use Rattle.code_file.proofs.bare.register_names.Given as goal

abbrev pub invariant-loop-register : goal.invariant-loop-register
invariant-loop-register l = record {
  names : l.names ≡ take l.register-index l.registers;
  short : All (λ (r : Reg). IfSome r.name IsShort) l.names;
}
