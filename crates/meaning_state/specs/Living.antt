-- Which points a register is live after, found for one edge more at each turn.
use Rattle.std.specs.Prelude.{◌&&◌, ◌||◌, ℕ, Bool, false, not, List, map, length, slice_index_or}
use Rattle.std.specs.List.{list_any, range_with_len}
use Rattle.core_tree.specs.declared.statements.Stm.{Stm}
use Rattle.core_tree.specs.Statements.{reads_at, writes_at, edges_at}

-- the statement at a point reads the register, or does not write it and the point was found
abbrev pub passed : List Stm → ℕ → List Bool → ℕ → Bool
passed body r found next = reads_at body next r || (not (writes_at body next r) && slice_index_or found next false)

-- an edge leads from a point to such a statement
abbrev pub leads_on : List Stm → ℕ → List Bool → ℕ → Bool
leads_on body r found point = list_any (passed body r found) (edges_at body point)

-- the points that are found by one edge more
abbrev pub found_next : List Stm → ℕ → List Bool → List Bool
found_next body r found = map (leads_on body r found) (range_with_len 0 (length body))
