-- Which registers are live after a point.
use Rattle.std.specs.Prelude.{◌≡◌, ◌&&◌, ◌||◌, ℕ, zero, suc, Bool, false, not, List, [], ◌∷◌, ◌++◌, length, All, Contains, IsTrue}
use Rattle.std.specs.List.{list_any}
use Rattle.core_tree.specs.declared.statements.Stm.{Stm}
use Rattle.core_tree.specs.Statements.{reads_at, writes_at, edges_at}

-- edges lead from a point to each point of a list in turn
abbrev pub IsPath : List Stm → ℕ → List ℕ → Type 0
IsPath body point [] = Unit {0}
IsPath body point (next ∷ path) = Contains (edges_at body point) next × IsPath body next path

-- a register is live after a point: some path from there leads to a read of it, with no write of it before
pub record IsLive (body : List Stm) (point r : ℕ) : Type 0 where
  pub before : List ℕ
  pub read : ℕ
  pub path : IsPath body point (before ++ read ∷ [])
  pub unwritten : All (λ p. writes_at body p r ≡ false) before
  pub is_read : IsTrue (reads_at body read r)

-- whether there is such a path of at most so many edges
unfoldable pub live_within : List Stm → ℕ → ℕ → ℕ → Bool
live_within body r zero point = false
live_within body r (suc n) point =
    list_any (λ next. reads_at body next r || (not (writes_at body next r) && live_within body r n next)) (edges_at body point)

-- the same for any path: where there is one, there is one of no more edges than the body has statements
unfoldable pub is_live : List Stm → ℕ → ℕ → Bool
is_live body point r = live_within body r (length body) point
