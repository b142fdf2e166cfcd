use Rattle.std.proofs.Common.{◌≡◌, ◌-◌, ◌∙◌, ℕ, List, length, ap, arith}
use Rattle.heap_blocks.specs.Heads.{header_at}
use Rattle.flat_objects.specs.Memory.{Memory}
use Rattle.flat_objects.proofs.Owners.{found_at}
use Rattle.flat_objects.proofs.memory.FlatObjects.find.Goals as goal

pub read_layout-requires-clause-inside : goal.read_layout-requires-clause-inside
read_layout-requires-clause-inside g c =
    let bytes : length c.self.inside.bytes ≡ length c.args.self.now.bytes = ap (λ (m : Memory). length m.bytes) c.self.view_is in
    omega (arith, c.spot-spot.ensures.header, c.spot-spot.ensures.reach)

pub returns-clause-found : goal.returns-clause-found
returns-clause-found g c = λ places objects birth offset at.
    let bytes : c.self.inside.bytes ≡ c.args.self.now.bytes = ap (λ (m : Memory). m.bytes) c.self.view_is in
    found_at c.args.self.now places objects birth offset c.args.addr c.read_layout.result c.spot-spot.result at (c.spot-spot.ensures.spot places objects birth offset at) (c.read_layout.ensures.layout ∙ ap (λ (b : List ℕ). (header_at b (c.spot-spot.result.start - 32)).layout) bytes)
