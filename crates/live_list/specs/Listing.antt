-- The text that lists which registers are live after each point of each function of a core.
use Rattle.std.specs.Prelude.{◌≡◌, ◌<◌, ℕ, List, [], ◌∷◌, ◌++◌, map, filter, length, codes, decimal}
use Rattle.std.specs.List.{flat_map, range_with_len}
use Rattle.core_tree.specs.declared.program.Core.{Core}
use Rattle.core_tree.specs.declared.program.Func.{Func}
use Rattle.core_tree.specs.Listing.{spaced, line_of, register_word}
use Rattle.core_tree.specs.Lives.{is_live}
use Rattle.local_liveness.specs.Sets.{set_at}
use Rattle.local_liveness.specs.Tables.{HasLive}

-- the registers of a function that are live after a point, in ascending order. The test `is_live` says whether some path leads
-- from the point to a read of the register, with no write of it before (`IsLive`; the law is `live_by_paths`)
abbrev pub live_registers : Func → ℕ → List ℕ
live_registers func point = filter (is_live func.body point) (range_with_len 0 (length func.regs))

-- each of them behind a space
abbrev pub register_words : Func → ℕ → List ℕ
register_words func point = spaced (map register_word (live_registers func point))

-- `POINT: rK ..`
abbrev pub point_line : Func → ℕ → List ℕ
point_line func point = decimal point ++ (codes ":" ++ (register_words func point ++ codes "\n"))

-- a line for each point
abbrev pub point_lines : Func → List ℕ
point_lines func = flat_map (point_line func) (range_with_len 0 (length func.body))

-- `func NAME`
abbrev pub name_line : List ℕ → List ℕ
name_line name = line_of (codes "func") (name ∷ [])

abbrev pub func_lines : Func → List ℕ
func_lines func = name_line func.name ++ point_lines func

-- a set for each point of a function, of the registers that are live after it
pub record AreSets (sets : List (List ℕ)) (func : Func) : Type 0 where
  pub points : length sets ≡ length func.body
  pub live : (point : ℕ) → point < length func.body → HasLive (set_at sets point) func point

-- the lines of all functions, in their order
abbrev pub live_listing : Core → List ℕ
live_listing core = flat_map func_lines core.funcs
