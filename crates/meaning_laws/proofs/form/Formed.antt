-- The code of a sound core is well formed.
use Rattle.meaning_laws.proofs.Words.Core.{Code, Core, IsLayoutOfType, IsShort, IsSound, IsWellFormed, Layout}
use Rattle.meaning_laws.proofs.Words.Meaning.{AreAscending, AreExact, IsCompiled, Pins}
use Rattle.meaning_laws.proofs.Words.Std.{◌≤◌}
use Rattle.c_types.specs.Layouts.{IsSound as IsSoundLayout}
use Rattle.meaning_laws.proofs.form.Functions.{functions, starts}
use Rattle.meaning_laws.proofs.form.Instructions.{instructions}
use Rattle.meaning_laws.proofs.form.Lengths.{lists_are_short}
use Rattle.meaning_laws.proofs.form.Pinned.{LiveByPaths}
use Rattle.meaning_laws.proofs.form.Sites.{sites_ascend, sites_inside}
use Rattle.meaning_laws.proofs.form.Statics.{statics_are, static_bytes_are}
use Rattle.meaning_laws.proofs.form.Tables.{layouts_are, formats_are, lines_from_one}

pub formed : LiveByPaths → ((l : Layout) → IsLayoutOfType l → IsSoundLayout l) → ((l : Layout) → IsLayoutOfType l → l.size ≤ 268435456) → (core : Core) (pins : Pins) (code : Code) → IsSound core → AreExact core pins → AreAscending pins → IsCompiled core pins code → IsShort code.layouts → IsShort code.formats → IsWellFormed code
formed paths sound_layout small_layout core pins code sound exact ascending is few_layouts few_formats =
    record {
      start = starts core code sound is;
      functions = functions core code sound is;
      instructions = instructions paths core code sound exact ascending is;
      lines = is.few_lines;
      lines_from_one = lines_from_one core code sound is;
      layouts = layouts_are core code sound is sound_layout small_layout;
      statics = statics_are core code sound is;
      static_bytes = static_bytes_are core code sound is;
      formats = formats_are core code sound is;
      sites_ascend = sites_ascend core code sound is;
      sites_inside = sites_inside core code sound is;
      short = lists_are_short core code sound is few_layouts few_formats;
    }
