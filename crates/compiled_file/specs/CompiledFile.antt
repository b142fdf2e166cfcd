-- Which code file is that of a core.
use Rattle.std.specs.Prelude.{◌≡◌, ◌≤◌, ◌+◌, ◌*◌, length}
use Rattle.std.specs.List.{sum_by}
use Rattle.core_tree.specs.declared.program.Core.{Core}
use Rattle.core_tree.specs.Sound.{code_size}
use Rattle.object_meaning.specs.counted.Pinning.{AreExact, Pins}
use Rattle.object_meaning.specs.compiled.Compiled.{IsCompiled}
use Rattle.object_meaning.specs.compiled.Sites.{AreAscending}
use Rattle.flat_code.specs.WellFormed.{IsWellFormed}
use Rattle.code_file.specs.declared.file.CodeFile.{CodeFile}
use Rattle.code_file.specs.CodeFile.{IsWritable}
use Rattle.code_file.specs.Names.{bare}

pub record IsFileOfCore (core : Core) (file : CodeFile) : Type 0 where
  -- the code is that of the core, with the registers that count at each point
  pub pins : Pins
  pub exact : AreExact core pins
  pub ascending : AreAscending pins
  pub compiled : IsCompiled core pins file.code
  pub formed : IsWellFormed file.code
  -- at most 14 instructions for each statement and each operand, one for each function and one at the start
  pub few : length file.code.instrs ≤ 14 * sum_by code_size core.funcs + length core.funcs + 1
  -- the names are those of the core
  pub named : file.names ≡ bare core
  pub writable : IsWritable file
