use Rattle.std.proofs.Common.{◌≡◌, ◌++◌, ℕ, List, Some, take}
use Rattle.std.specs.List.{flat_map}
use Rattle.generated_text.proofs.parts.put_parts.Given as goal

-- no failure yet, and the parts before this one are taken
abbrev pub invariant-loop-part : goal.invariant-loop-part
invariant-loop-part g l = record {
  none_failed : g.S.Sink.faults l.out ≡ g.S.Sink.faults l.fn.out;
  begun : (taken : List ℕ) → g.S.Sink.taken l.fn.out ≡ Some taken →
      g.S.Sink.taken l.out ≡ Some (taken ++ flat_map (λ part. part.now) (take l.part-index l.parts));
}
