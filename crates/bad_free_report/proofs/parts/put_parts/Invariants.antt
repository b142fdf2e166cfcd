use Rattle.std.proofs.Common.{◌≡◌, ◌++◌, ℕ, List, Some, take}
use Rattle.std.specs.List.{flat_map}
use Rattle.bad_free_report.proofs.parts.put_parts.Given as goal

-- no failure yet, and the parts before this one are taken
abbrev pub invariant-loop-part : goal.invariant-loop-part
invariant-loop-part g l = record {
  none_failed : g.E.Sink.faults l.err ≡ g.E.Sink.faults l.fn.err;
  begun : (taken : List ℕ) → g.E.Sink.taken l.fn.err ≡ Some taken →
      g.E.Sink.taken l.err ≡ Some (taken ++ flat_map (λ part. part.now) (take l.part-index l.parts));
}
