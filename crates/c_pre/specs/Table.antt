-- The macros that are defined at a line, and sets of them.
use Rattle.std.specs.Prelude.{ℕ, List, Option}
use Rattle.std.specs.Ordering.{nat_cmp}
use Rattle.std.specs.FinSet as set
use Rattle.c_pre.specs.declared.macros.Defined.{Defined}

-- for each name that was defined or undefined so far its macro, if it has one, and how many macros were defined
pub record Table : Type 0 where
  pub count : ℕ
  pub names : List (List ℕ × Option Defined)

-- macros, each by its number
abbrev pub Numbers : Type 0
Numbers = set.FinSet nat_cmp
