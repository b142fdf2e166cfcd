-- The blocks that are held behind two lists of events. Equations, proved from `Place`.
use Rattle.std.proofs.Common.{◌≡◌, ℕ, List, [], ◌∷◌, ◌++◌, refl}
use Rattle.hs_base.specs.Place.{Block, block_size, first_fit, with_block, without_block, blocks_after}
use Rattle.hs_base.specs.Trace.{Event, Out, In, New, Gone, Enter, Leave}

pub blocks_append : (heap : ℕ) (held : List Block) (a b : List Event) → blocks_after heap held (a ++ b) ≡ blocks_after heap (blocks_after heap held a) b
blocks_append heap held [] b = refl
blocks_append heap held (New birth size line ∷ a) b =
    blocks_append heap (with_block held birth (block_size size) (first_fit held heap (block_size size))) a b
blocks_append heap held (Gone birth ∷ a) b = blocks_append heap (without_block held birth) a b
blocks_append heap held (Out byte ∷ a) b = blocks_append heap held a b
blocks_append heap held (In byte ∷ a) b = blocks_append heap held a b
blocks_append heap held (Enter cost line ∷ a) b = blocks_append heap held a b
blocks_append heap held (Leave ∷ a) b = blocks_append heap held a b
