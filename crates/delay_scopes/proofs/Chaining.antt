-- Walks over the queue, from one header to the next.
use Rattle.std.proofs.Common.{◌≡◌, ◌≤◌, ◌<◌, ◌+◌, ◌^◌, ℕ, List, length, get_or, ap, ◌∙◌, arith}
use Rattle.heap_blocks.specs.Heads.{header_at}
use Rattle.delay_scopes.specs.Queue.{ScopesModel, block_in}
use Rattle.delay_scopes.specs.Walks.{IsChain, IsInside}

module _ (scopes : ScopesModel) (bytes : List ℕ) (queue : List ℕ) (chain : IsChain scopes bytes queue) (k block : ℕ) (below : k < scopes.waiting) (at : block ≡ block_in queue k) where
  pub in_queue : k < length queue
  in_queue = omega (arith, chain.many)

  pub object_inside : IsInside bytes (get_or queue k 0)
  object_inside = chain.inside k 0 in_queue

  -- the object of the block
  pub object_is : block + 32 ≡ get_or queue k 0
  object_is = omega (arith, at, object_inside.start)

  pub header_inside : block + 32 ≤ length bytes
  header_inside = omega (arith, at, object_inside.start, object_inside.inside)

  pub header_fits : block + 32 < 2 ^ 32
  header_fits = omega (arith, object_is, object_inside.reach)

  -- the block that its header names
  pub next_is : (next : ℕ) → next ≡ (header_at bytes block).next → next ≡ block_in queue (k + 1)
  next_is next read = read ∙ ap (λ b. (header_at bytes b).next) at ∙ chain.linked k in_queue
