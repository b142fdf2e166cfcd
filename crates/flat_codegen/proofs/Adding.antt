-- Code that grows twice.
use Rattle.std.proofs.Common.{◌≡◌, ℕ, List, ◌++◌, map, ap, sym, ◌∙◌, append_assoc}
use Rattle.std.proofs.lemmas.List.{map-append}
use Rattle.c_types.specs.declared.layouts.Layout.{Layout}
use Rattle.flat_code.specs.declared.instructions.Instr.{Instr}
use Rattle.flat_code.specs.declared.program.Code.{Code}
use Rattle.flat_codegen.specs.Emitting.{with_instrs, with_layouts}

-- instructions behind instructions of the same line
pub instrs_twice : (code : Code) (line : ℕ) (a b : List Instr) → with_instrs (with_instrs code line a) line b ≡ with_instrs code line (a ++ b)
instrs_twice code line a b =
    let lines : (code.lines ++ map (λ _. line) a) ++ map (λ _. line) b ≡ code.lines ++ map (λ _. line) (a ++ b) =
    append_assoc code.lines (map (λ _. line) a) (map (λ _. line) b) ∙ ap (λ (ls : List ℕ). code.lines ++ ls) (sym (map-append (λ _. line) a b)) in
    let instrs : (code.instrs ++ a) ++ b ≡ code.instrs ++ (a ++ b) = append_assoc code.instrs a b in
    λ i. record code { instrs = instrs i; lines = lines i }

-- layouts behind layouts
pub layouts_twice : (code : Code) (a b : List Layout) → with_layouts (with_layouts code a) b ≡ with_layouts code (a ++ b)
layouts_twice code a b =
    let layouts : (code.layouts ++ a) ++ b ≡ code.layouts ++ (a ++ b) = append_assoc code.layouts a b in
    λ i. record code { layouts = layouts i }
