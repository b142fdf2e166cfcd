-- How the sets of points to which statements jump are filled.
use Rattle.std.specs.Prelude.{◌≡◌, ◌<◌, ◌*◌, ◌&&◌, ◌||◌, ℕ, Bool, false, not, List, length, Option, Some, slice_get, IsTrue, Contains}
use Rattle.core_tree.specs.declared.statements.Stm.{Stm}
use Rattle.core_tree.specs.declared.statements.StmKind.{StmKind}
use Rattle.core_tree.specs.Statements.{edges, reads_at, writes_at}
use Rattle.core_tree.specs.Lives.{is_live, live_within}
use Rattle.local_liveness.specs.Sets.{has, set_at}

-- a statement jumps to a point: wherever it stands, an edge leads from it to there
abbrev pub JumpsTo : StmKind → ℕ → Type 0
JumpsTo kind target = (point : ℕ) → Contains (edges kind point) target

-- some statement of a body jumps to a point of it
pub record IsTarget (body : List Stm) (target : ℕ) : Type 0 where
  pub from : ℕ
  pub stm : Stm
  pub stands : slice_get body from ≡ Some stm
  pub jumps : JumpsTo stm.kind target
  pub inside : target < length body

-- whether a register is live in front of a point: it is read there, or it is live after the point, which does not write it
abbrev pub is_live_before : List Stm → ℕ → ℕ → Bool
is_live_before body point r = reads_at body point r || (not (writes_at body point r) && is_live body point r)

-- the same by at most so many edges from the point on
abbrev pub before_within : List Stm → ℕ → ℕ → ℕ → Bool
before_within body r n point = reads_at body point r || (not (writes_at body point r) && live_within body r n point)

-- the set of each target has room for so many words
abbrev pub HasRoom : List Stm → ℕ → List (List ℕ) → Type 0
HasRoom body words fronts = (target : ℕ) → IsTarget body target → length (set_at fronts target) ≡ words

-- the sets have a register only where it is live in front of the point
abbrev pub AreLive : List Stm → List (List ℕ) → ℕ → Type 0
AreLive body fronts r = (point : ℕ) → IsTrue (has (set_at fronts point) r) → IsTrue (is_live_before body point r)

-- the sets of targets have a register where it is live in front of them by so many edges
abbrev pub HasWithin : List Stm → List (List ℕ) → ℕ → ℕ → Type 0
HasWithin body fronts r n = (target : ℕ) → IsTarget body target → IsTrue (before_within body r n target) → IsTrue (has (set_at fronts target) r)

-- empty sets for the points of a body
pub record IsBlank (body : List Stm) (words : ℕ) (fronts : List (List ℕ)) : Type 0 where
  pub points : length fronts ≡ length body
  pub room : HasRoom body words fronts
  pub none : (point r : ℕ) → has (set_at fronts point) r ≡ false

-- a target has its set with room for so many words, and no other set gets another room or a register
pub record GivesRoom (target : Option ℕ) (words : ℕ) (old new : List (List ℕ)) : Type 0 where
  pub points : length new ≡ length old
  pub here : (point : ℕ) → target ≡ Some point → point < length old → length (set_at new point) ≡ words
  pub kept : (point : ℕ) → length (set_at old point) ≡ words → length (set_at new point) ≡ words
  pub none : ((point r : ℕ) → has (set_at old point) r ≡ false) → (point r : ℕ) → has (set_at new point) r ≡ false

-- a sweep loses no register and adds only live ones; what is found by fewer than so many edges leads to what is found by so many
pub record Fills (body : List Stm) (words : ℕ) (old new : List (List ℕ)) : Type 0 where
  pub room : HasRoom body words new
  pub kept : (point r : ℕ) → r < 64 * words → IsTrue (has (set_at old point) r) → IsTrue (has (set_at new point) r)
  pub live : (r : ℕ) → r < 64 * words → AreLive body old r → AreLive body new r
  pub found : (r n : ℕ) → r < 64 * words → ((m : ℕ) → m < n → HasWithin body old r m) → HasWithin body new r n

-- the set of each target has what is live in front of it
pub record IsFilled (body : List Stm) (words : ℕ) (fronts : List (List ℕ)) : Type 0 where
  pub points : length fronts ≡ length body
  pub exact : (target r : ℕ) → IsTarget body target → r < 64 * words → has (set_at fronts target) r ≡ is_live_before body target r
