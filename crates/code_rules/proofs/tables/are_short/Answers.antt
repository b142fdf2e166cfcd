use Rattle.std.proofs.Common.{arith}
use Rattle.code_rules.proofs.tables.are_short.Goals as goal

pub returns : goal.returns
returns c = (
  λ t. let tables = c.are_short_tables.ensures.0 t in
      record {
        instrs = omega arith;
        funcs = omega arith;
        registers = c.has_short_entries.ensures.0 c.if-not-has_short_entries.false;
        statics = tables.0;
        layouts = tables.1;
        formats = (tables.2, tables.3);
      },
  λ s. c.are_short_tables.ensures.1 (s.statics, s.layouts, s.formats.0, s.formats.1),
)
