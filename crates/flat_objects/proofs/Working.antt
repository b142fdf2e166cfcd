-- The steps of a check, over objects.
use Rattle.std.proofs.Common.{◌≡◌, ◌+◌, ◌*◌, ◌-◌, ◌/◌, ◌∙◌, ℕ, List, length, get_or, sym, ap}
use Rattle.std.specs.Prelude.{map}
use Rattle.std.proofs.lemmas.List.FromFn.{length-range_with_len}
use Rattle.hs_base.specs.Object.{Object, object_at}
use Rattle.hs_base.specs.Place.{block_size}
use Rattle.delay_scopes.specs.Check as check
use Rattle.delay_scopes.specs.Check.{granules_of}
use Rattle.delay_scopes.specs.Pointers.{slots_of}
use Rattle.delay_scopes.specs.Queue.{header_of}
use Rattle.flat_objects.specs.Memory.{Memory}
use Rattle.flat_objects.specs.Standing.{IsThere}
use Rattle.flat_objects.specs.Keeping.{Keeps}
use Rattle.flat_objects.specs.Counting.{AreQueued}
use Rattle.flat_objects.specs.Freeing.{work_of}
use Rattle.flat_objects.proofs.Numbers.{slots_as}
use Rattle.flat_objects.specs.SumEquations.{sum_mapped, sum_same}
use Rattle.flat_objects.proofs.Tracked.{queue_there}

module _ (memory : Memory) (places : ℕ → ℕ) (objects : List Object) (keeps : Keeps memory places objects) where
  abbrev work_at : ℕ → ℕ
  work_at addr = 16 + 2 * length (granules_of memory.bytes addr) + 4 * length (slots_of memory.forms memory.bytes addr)

  abbrev work_for : Object → ℕ
  work_for o = 16 + 2 * (block_size o.size / 16) + 4 * length o.slots

  work_one : (b : ℕ) → IsThere objects b → work_at (places b) ≡ work_for (object_at objects b)
  work_one b there =
      let granules : length (granules_of memory.bytes (places b)) ≡ block_size (object_at objects b).size / 16 =
      length-range_with_len ((places b - 32) / 16) (block_size (header_of memory.bytes (places b)).size / 16) ∙ ap (λ n. block_size n / 16) (keeps.standing b there).header.size in
      let slots = slots_as memory places objects keeps b there in
      λ i. 16 + 2 * granules i + 4 * length (slots i)

  -- what the check may take for the queue by addresses is what it may take for the objects
  pub work_is : (queue : List ℕ) → AreQueued objects queue → check.work_of memory.forms memory.bytes (map places queue) ≡ work_of objects queue
  work_is queue are =
      sum_mapped work_at places queue
      ∙ sum_same (λ b. work_at (places b)) (λ b. work_for (object_at objects b)) queue (λ k d less. work_one (get_or queue k d) (queue_there objects queue are k d less))
      ∙ sym (sum_mapped work_for (object_at objects) queue)
