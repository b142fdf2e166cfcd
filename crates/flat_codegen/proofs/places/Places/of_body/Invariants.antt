use Rattle.std.proofs.Common.{◌≡◌, ℕ, ◌+◌, ◌<◌, take, length, get_or}
use Rattle.object_meaning.specs.compiled.Places.{body_length}
use Rattle.flat_codegen.specs.Emitting.{place_from}
use Rattle.flat_codegen.proofs.places.Places.of_body.Given as goal

-- these are the places of the statements so far
abbrev pub invariant-loop-stm : goal.invariant-loop-stm
invariant-loop-stm l = record {
  count : length l.points.items ≡ l.stm-index;
  end : l.end ≡ l.first + body_length (take l.stm-index l.body);
  before : (k : ℕ) → k < l.stm-index → get_or l.points.items k 0 ≡ place_from l.first l.body k;
}
