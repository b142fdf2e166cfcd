use Rattle.std.proofs.Common.{◌≡◌, ◌-◌, ◌^◌, ℕ, List}
use Rattle.hs_base.specs.Object.{Object}
use Rattle.hs_base.specs.declared.ends.Leak.{Leak}
use Rattle.flat_objects.specs.Keeping.{Keeps}
use Rattle.heapsafe.specs.Leaks.{AreLeaks}
use Rattle.heapsafe.proofs.Leaked.{AreBegun}
use Rattle.heapsafe.proofs.leaks.write_leaks.Given as goal

abbrev pub invariant-lines : goal.invariant-lines
invariant-lines g l = record {
  begun : (places : ℕ → ℕ) (objects : List Object) → Keeps l.machine.kept.memory places objects → (leaks : List Leak) → AreLeaks objects 0 leaks → AreBegun l.form l.opened objects leaks l.above (g.E.Sink.taken l.fn.err) (g.E.Sink.taken l.err);
  all : (places : ℕ → ℕ) (objects : List Object) → Keeps l.machine.kept.memory places objects → (more : List Leak) → AreLeaks objects l.above more → (leaks : List Leak) × AreLeaks objects 0 leaks;
  count : g.E.Sink.faults l.err ≡ g.E.Sink.faults l.fn.err;
}

abbrev pub decreases-lines : goal.decreases-lines
decreases-lines g l = 2 ^ 32 - l.above
