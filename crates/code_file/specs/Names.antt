-- The names of a core, without all else that it has.
use Rattle.std.specs.Prelude.{[], map}
use Rattle.c_types.specs.Layouts.{no_layout}
use Rattle.core_tree.specs.declared.program.Core.{Core}
use Rattle.core_tree.specs.declared.program.Func.{Func}
use Rattle.core_tree.specs.declared.program.Mem.{Mem}
use Rattle.core_tree.specs.declared.program.Static.{Static}
use Rattle.code_file.specs.CodeFile.{no_start}

abbrev pub bare_static : Static → Static
bare_static s = record { name = s.name; layout = no_layout; start = no_start }

abbrev pub bare_memory : Mem → Mem
bare_memory m = record { name = m.name; layout = no_layout }

-- a function keeps its name, its line, how many parameters it has, and its registers
abbrev pub bare_function : Func → Func
bare_function f = record f { mems = map bare_memory f.mems; body = []; formats = [] }

abbrev pub bare : Core → Core
bare core = record { statics = map bare_static core.statics; funcs = map bare_function core.funcs }
