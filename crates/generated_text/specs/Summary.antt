-- The line that says how the run of a text went that was made.
use Rattle.std.specs.Prelude.{ℕ, List, ◌++◌, codes, decimal}
use Rattle.generated_text.specs.declared.summary.Summary.{Summary}

-- `self N: text B bytes, output C bytes, steps S, status X`
abbrev pub summary_line : Summary → List ℕ
summary_line s =
    codes "self " ++ (decimal s.number ++ (codes ": text " ++ (decimal s.text ++ (codes " bytes, output " ++ (decimal s.output ++ (codes " bytes, steps " ++ (decimal s.steps ++ (codes ", status " ++ (decimal s.status ++ codes "\n")))))))))
