-- The tree of nodes over a row.
use Rattle.std.specs.Prelude.{◌≡◌, ℕ, zero, suc, ◌+◌, ◌*◌, ◌^◌, ◌<◌, ◌≤◌, Bool, List, length, Some, slice_get, take, drop}
use Rattle.hole_tree.specs.declared.node.Node.{Node}
use Rattle.hole_tree.specs.Granules.{IsSameOutside}
use Rattle.hole_tree.specs.Runs.{summary}

-- how many nodes a tree of that height has
abbrev pub node_count : ℕ → ℕ
node_count zero = 1
node_count (suc height) = 1 + 2 * node_count height

-- each node has the numbers of its part: the root of the whole row, the two trees behind it of its halves
abbrev pub IsTree : ℕ → List Bool → List Node → Type 0
IsTree zero row nodes = slice_get nodes 0 ≡ Some (summary row)
IsTree (suc height) row nodes =
    (slice_get nodes 0 ≡ Some (summary row)) × IsTree height (take (32 * 2 ^ height) row) (take (node_count height) (drop 1 nodes))
    × IsTree height (drop (32 * 2 ^ height) row) (drop (node_count height) (drop 1 nodes))

-- the nodes are the tree of a row of which the granules from a place up to another may have changed since
abbrev pub WasTree : ℕ → List Bool → List Node → ℕ → ℕ → Type 0
WasTree height row nodes from to = (before : List Bool) × IsTree height before nodes × IsSameOutside before row from to

-- such a tree over a row whose granules have numbers of 32 bits
pub record IsTreeOf (height : ℕ) (row : List Bool) (nodes : List Node) (from to : ℕ) : Type 0 where
  pub most : height ≤ 27
  pub fits : length row < 2 ^ 32
  pub long : length nodes ≡ node_count height
  pub inside : to ≤ length row
  pub tree : WasTree height row nodes from to
