use Rattle.std.proofs.Common.{◌≡◌, map, take}
use Rattle.core_tree.specs.declared.program.Static.{Static}
use Rattle.flat_codegen.proofs.statics.layouts.Given as goal

abbrev pub invariant-loop-one : goal.invariant-loop-one
invariant-loop-one l = l.layouts ≡ map (λ (static : Static). static.layout) (take l.one-index l.statics)
