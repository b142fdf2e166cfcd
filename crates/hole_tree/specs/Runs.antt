-- The free runs of a part of the row.
use Rattle.std.specs.Prelude.{ℕ, suc, max, Bool, true, false, cond, nat_eq, List, [], ◌∷◌, length}
use Rattle.hole_tree.specs.declared.node.Node.{Node}

-- how many granules at the front are free
abbrev pub front_run : List Bool → ℕ
front_run [] = 0
front_run (true ∷ row) = 0
front_run (false ∷ row) = suc (front_run row)

-- how many at the end: all of them, or those at the end of the rest
abbrev pub end_run : List Bool → ℕ
end_run [] = 0
end_run (taken ∷ row) =
    cond (nat_eq (front_run (taken ∷ row)) (length (taken ∷ row))) (length (taken ∷ row)) (end_run row)

-- the longest run of free granules, which begins somewhere
abbrev pub longest_run : List Bool → ℕ
longest_run [] = 0
longest_run (taken ∷ row) = max (front_run (taken ∷ row)) (longest_run row)

-- the numbers of the node of that part
abbrev pub summary : List Bool → Node
summary row = record { longest = longest_run row; front = front_run row; end = end_run row }
