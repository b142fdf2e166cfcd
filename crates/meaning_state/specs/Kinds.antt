-- How the code names the sort of an object, and how it stands.
use Rattle.hs_base.specs.Object as object
use Rattle.meaning_state.specs.declared.object.Sort.{Sort}
use Rattle.meaning_state.specs.declared.object.Sort.TheVariants as sort
use Rattle.meaning_state.specs.declared.object.Standing.{Standing}
use Rattle.meaning_state.specs.declared.object.Standing.TheVariants as standing

abbrev pub sort_of : Sort → object.Sort
sort_of (sort.Static index) = object.Static index
sort_of (sort.Local func index) = object.Local func index
sort_of (sort.Heap line) = object.Heap line

abbrev pub standing_of : Standing → object.Standing
standing_of standing.Live = object.Live
standing_of (standing.Queued line) = object.Queued line
standing_of standing.Dead = object.Dead
