use Rattle.std.proofs.Common.{◌≡◌, map, take}
use Rattle.std.specs.List.{All}
use Rattle.core_tree.specs.declared.program.Mem.{Mem}
use Rattle.code_file.specs.Names.{bare_memory}
use Rattle.code_file.specs.Spelling.{IsShort}
use Rattle.code_file.proofs.bare.memory_names.Given as goal

abbrev pub invariant-loop-mem : goal.invariant-loop-mem
invariant-loop-mem l = record {
  names : l.names ≡ map bare_memory (take l.mem-index l.mems);
  short : All (λ (m : Mem). IsShort m.name) l.names;
}
