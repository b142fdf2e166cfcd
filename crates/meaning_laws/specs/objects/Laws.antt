-- Laws of runs.
use Rattle.std.specs.Prelude.{◌≡◌, ◌≢◌, ◌<◌, ℕ, Bool, true, false, List, [], Some, None, slice_get, IsTrue}
use Rattle.hs_base.specs.Runs as runs
use Rattle.hs_base.specs.State.{State}
use Rattle.hs_base.specs.Trace.{Ending, Exit, Trap, Spent, BadFree, Escape, Dangling, OutOfStack}
use Rattle.core_tree.specs.declared.statements.Stm.{Stm}
use Rattle.core_tree.specs.declared.statements.StmKind.{StmKind}
use Rattle.core_tree.specs.declared.statements.StmKind.TheVariants as stm
use Rattle.core_tree.specs.declared.program.Func.{Func}
use Rattle.core_tree.specs.declared.program.Core.{Core}
use Rattle.core_tree.specs.Sound.{IsSound}
use Rattle.object_meaning.specs.objects.Going.{Next}
use Rattle.object_meaning.specs.objects.Holding.{statement_at}
use Rattle.object_meaning.specs.objects.Meaning.{act, begun, enough, first_call, meaning, step, step_by}
use Rattle.meaning_laws.specs.objects.Dangling.{NothingDangles}
use Rattle.meaning_laws.specs.objects.Good.{Good}

-- One statement

-- where the run goes on its state is good, and where it ends no pointer to a dead object was read
abbrev pub StaysGood : Core → Next → Type 0
StaysGood core (runs.Goes before events after) = Good core after
StaysGood core (runs.Stops before events after ending) = ending ≢ Dangling

-- where the run goes on from a state, fewer statements are left
abbrev pub LeavesLess : Core → State → Next → Type 0
LeavesLess core s (runs.Goes before events after) = enough core after < enough core s
LeavesLess core s (runs.Stops before events after ending) = Unit {0}

-- a good state is at a statement, which is made: no operand of it is stale
abbrev pub StatementIsMade : Type 0
StatementIsMade =
    (core : Core) → IsSound core → (s : State) → Good core s → (stm : Stm) × (statement_at core s.running ≡ Some stm) × ((fits : ℕ → Bool) → step_by core fits s ≡ act core fits stm.line stm.kind s)

-- it leads to a good state, or ends the run, whichever sizes have a place
abbrev pub StatementStaysGood : Type 0
StatementStaysGood =
    (core : Core) → IsSound core → (s : State) → Good core s → (fits : ℕ → Bool) → StaysGood core (step_by core fits s)

-- and where the run goes on, less is left
abbrev pub StatementLeavesLess : Type 0
StatementLeavesLess =
    (core : Core) → IsSound core → (s : State) → (fits : ℕ → Bool) → LeavesLess core s (step_by core fits s)

-- the first call of main leads to a good state, or ends the run
abbrev pub CoreBeginsWell : Type 0
CoreBeginsWell =
    (core : Core) → IsSound core → (input : List ℕ) (n : ℕ) → StaysGood core (first_call core input n)

-- Whole runs

-- the run of a sound core has ended, and not by reading a pointer to a dead object or for want of a statement
abbrev pub RunsEnd : Type 0
RunsEnd =
    (core : Core) → IsSound core → (input : List ℕ) (n heap : ℕ) → (ending : Ending) × ((meaning core input n heap).ended ≡ Some ending) × (ending ≢ Dangling)

-- in each state of the run of a sound core that has not ended, nothing dangles
abbrev pub NothingEverDangles : Type 0
NothingEverDangles =
    (core : Core) → IsSound core → (input : List ℕ) (n heap k : ℕ) → let run = runs.after (step core heap) (begun core input n) k in run.ended ≡ None → NothingDangles core run.state

-- a free, or a reallocation, which frees the old object
abbrev pub may_free : StmKind → Bool
may_free (stm.Free p) = true
may_free (stm.Realloc r p n element) = true
may_free _ = false

-- no function has a statement that may free, nor a local in memory
abbrev pub FreesNothing : Core → Type 0
FreesNothing core =
    (f : ℕ) (func : Func) → slice_get core.funcs f ≡ Some func →
    (func.mems ≡ []) × ((p : ℕ) (s : Stm) → slice_get func.body p ≡ Some s → may_free s.kind ≡ false)

-- an end that no free and no local has to do with
abbrev pub is_plain : Ending → Bool
is_plain (Exit code) = true
is_plain (Trap kind line) = true
is_plain Spent = true
is_plain (BadFree reason line holder) = false
is_plain (Escape func local line) = false
is_plain Dangling = false
is_plain (OutOfStack line) = false

-- a core that frees nothing and has no local in memory exits, traps or comes to the end of its steps
abbrev pub PlainRunsEndPlainly : Type 0
PlainRunsEndPlainly =
    (core : Core) → IsSound core → FreesNothing core → (input : List ℕ) (n heap : ℕ) → (ending : Ending) × ((meaning core input n heap).ended ≡ Some ending) × IsTrue (is_plain ending)
