-- How the code names the end of a run.
use Rattle.std.specs.Prelude.{◌≡◌, ℕ}
use Rattle.hs_base.specs.Trace as trace
use Rattle.hs_base.specs.Trace.{Ending}
use Rattle.meaning_state.specs.declared.refusal.Refusal.{Refusal}
use Rattle.meaning_state.specs.declared.refusal.Refusal.TheVariants as refusal
use Rattle.meaning_run.specs.declared.halt.Halt.{Halt}
use Rattle.meaning_run.specs.declared.halt.Halt.TheVariants as halt

-- the meaning ends so, where it has ended
abbrev pub Ends : Halt → Ending → Type 0
Ends (halt.Exit code) e = e ≡ trace.Exit code
Ends (halt.Trap kind line) e = e ≡ trace.Trap kind line
Ends (halt.BadFree why holder) e = e ≡ trace.BadFree why.reason why.line holder
Ends (halt.Escape func local line) e = e ≡ trace.Escape func local line
Ends halt.Spent e = e ≡ trace.Spent
Ends halt.Dangling e = e ≡ trace.Dangling
Ends halt.InputFault e = ⊥
Ends halt.OutputFault e = ⊥
Ends halt.NoMemory e = ⊥

-- what a refused operation ends with
abbrev pub halt_of : ℕ → Refusal → Halt
halt_of line (refusal.Trapped kind) = halt.Trap kind line
halt_of line refusal.ReadsDead = halt.Dangling
halt_of line refusal.NoMemory = halt.NoMemory
