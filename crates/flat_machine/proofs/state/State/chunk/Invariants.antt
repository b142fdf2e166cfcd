use Rattle.std.proofs.Common.{◌≡◌, ◌+◌, ◌≤◌, ℕ, List, length, take, drop}
use Rattle.hs_base.specs.declared.values.Pointer.{Pointer}
use Rattle.hs_base.specs.Object.{Object}
use Rattle.flat_machine.specs.Writing.{IsString}
use Rattle.flat_machine.proofs.state.State.chunk.Given as goal

-- the first `i` bytes are read
abbrev pub invariant-loop-i : goal.invariant-loop-i
invariant-loop-i g l = record {
  long : length l.chunk ≡ 64;
  read : (places : ℕ → ℕ) (objects : List Object) (p : Pointer) (text : List ℕ) → IsString l.self.memory places objects p l.addr text → l.from + l.count ≤ length text → take l.i l.chunk ≡ take l.i (drop l.from text);
}
