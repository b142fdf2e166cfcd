use Rattle.std.proofs.Common.{◌≡◌, map, take}
use Rattle.std.specs.List.{All}
use Rattle.std.specs.Option.{IfSome}
use Rattle.core_tree.specs.declared.program.Static.{Static}
use Rattle.code_file.specs.Names.{bare_static}
use Rattle.code_file.specs.Spelling.{IsShort}
use Rattle.code_file.proofs.bare.static_names.Given as goal

abbrev pub invariant-loop-item : goal.invariant-loop-item
invariant-loop-item l = record {
  names : l.names ≡ map bare_static (take l.item-index l.statics);
  short : All (λ (s : Static). IfSome s.name IsShort) l.names;
}
