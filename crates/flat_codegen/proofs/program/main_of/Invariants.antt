use Rattle.std.proofs.Common.{◌≡◌, ◌+◌, drop}
use Rattle.core_tree.specs.Sound.{first_main}
use Rattle.flat_codegen.proofs.program.main_of.Given as goal

abbrev pub invariant-loop-func : goal.invariant-loop-func
invariant-loop-func l =
    (l.place ≡ l.func-index) × (first_main l.core.funcs ≡ l.place + first_main (drop l.func-index l.core.funcs))
