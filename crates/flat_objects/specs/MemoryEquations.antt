-- The range of an object is said by its sort. Proved from `Memory`.
use Rattle.std.proofs.Common.{◌≡◌, true, refl}
use Rattle.std.proofs.lemmas.Bool.{false≢true}
use Rattle.hs_base.specs.Object as object
use Rattle.hs_base.specs.Object.{Sort}
use Rattle.flat_objects.specs.Memory.{Range, Statics, Locals, Heap, is_of, range_of}

pub range_from : (range : Range) (sort : Sort) → is_of range sort ≡ true → range_of sort ≡ range
range_from Statics (object.Static index) h = refl
range_from Statics (object.Local func index) h = absurd (false≢true h)
range_from Statics (object.Heap line) h = absurd (false≢true h)
range_from Locals (object.Static index) h = absurd (false≢true h)
range_from Locals (object.Local func index) h = refl
range_from Locals (object.Heap line) h = absurd (false≢true h)
range_from Heap (object.Static index) h = absurd (false≢true h)
range_from Heap (object.Local func index) h = absurd (false≢true h)
range_from Heap (object.Heap line) h = refl
