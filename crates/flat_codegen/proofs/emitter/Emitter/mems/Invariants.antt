use Rattle.std.proofs.Common.{◌≡◌, map, take, length}
use Rattle.std.specs.List.{range_with_len}
use Rattle.core_tree.specs.declared.program.Mem.{Mem}
use Rattle.flat_codegen.specs.Emitting.{with_layouts}
use Rattle.flat_codegen.proofs.emitter.Emitter.mems.Given as goal

abbrev pub invariant-loop-mem : goal.invariant-loop-mem
invariant-loop-mem l = record {
  code : l.self.code ≡ with_layouts l.fn.self.code (map (λ (m : Mem). m.layout) (take l.mem-index l.mems));
  numbers : l.numbers ≡ range_with_len (length l.fn.self.code.layouts) l.mem-index;
}
