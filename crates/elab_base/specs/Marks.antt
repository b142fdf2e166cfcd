-- Where code stands, and code that is cut back to there.
use Rattle.std.specs.Prelude.{length, take}
use Rattle.elab_base.specs.declared.code.Mark.{Mark}
use Rattle.elaboration.specs.Context.{Code}

abbrev pub mark_of : Code → Mark
mark_of c = record {
  pieces = length c.pieces;
  labels = c.labels;
  integers = c.integers;
  pointers = c.pointers;
  most_integers = c.most_integers;
  most_pointers = c.most_pointers;
}

-- what stands behind a mark is forgotten
abbrev pub cut : Mark → Code → Code
cut m c = record {
  pieces = take m.pieces c.pieces;
  labels = m.labels;
  integers = m.integers;
  pointers = m.pointers;
  most_integers = m.most_integers;
  most_pointers = m.most_pointers;
}
