-- The tally of the code as that of the grammar.
use Rattle.std.specs.Prelude.{ℕ, ◌+◌}
use Rattle.c_tree.specs.Allowed.{Tally}
use Rattle.parser_parts.specs.declared.tally.Tally.{Tally as Counted}

abbrev pub tally_of : Counted → Tally
tally_of t = record {
  storage = t.storage;
  void = t.void;
  char = t.char;
  short = t.short;
  int = t.int;
  long = t.long;
  sign = t.sign;
  whole = t.whole;
}

-- how many words are counted
abbrev pub total : Counted → ℕ
total t = t.storage + t.void + t.char + t.short + t.int + t.long + t.sign + t.whole
