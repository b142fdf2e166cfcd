-- Runs: neighbouring registers that are kept as the first and the last of them.
use Rattle.std.specs.Prelude.{◌≡◌, ◌+◌, ◌-◌, ◌++◌, ◌<◌, ◌≤◌, ◌^◌, ℕ, List, All, length}
use Rattle.std.specs.List.{flat_map, range_with_len}
use Rattle.flat_code.specs.declared.registers.Run.{Run}

-- the registers of a run
abbrev pub registers_in : Run → List ℕ
registers_in run = range_with_len run.first (run.last + 1 - run.first)

-- those of runs, one run after another
abbrev pub registers_of : List Run → List ℕ
registers_of runs = flat_map registers_in runs

-- a run of one register at least, all of them numbers of 32 bits
pub record IsRun (run : Run) : Type 0 where
  pub some : run.first ≤ run.last
  pub small : run.last < 2 ^ 32

abbrev pub AreRuns : List Run → Type 0
AreRuns runs = All IsRun runs

-- runs of so many registers
pub record AreRunsOf (count : ℕ) (runs : List Run) : Type 0 where
  pub each : AreRuns runs
  pub counted : count ≡ length (registers_of runs)

-- the registers from one to before another, and those of runs behind them
abbrev pub registers_left : ℕ → ℕ → List Run → List ℕ
registers_left next end runs = range_with_len next (end - next) ++ registers_of runs

pub record IsLeft (end : ℕ) (runs : List Run) : Type 0 where
  pub small : end ≤ 2 ^ 32
  pub each : AreRuns runs
