use Rattle.std.proofs.Common.{map, refl}
use Rattle.c_tree.specs.StatementView.{unit_view}
use Rattle.heapsafe.specs.Reads.{reading_view}
use Rattle.heapsafe.specs.Units.{Reading}
use Rattle.heapsafe.proofs.FilesRead.{files_more}
use Rattle.heapsafe.proofs.units.Reading.with_file.Goals as goal

pub returns-clause-within : goal.returns-clause-within
returns-clause-within g c =
    let opened : Reading = record { sources = c.in_ok-tokens.sources; units = map unit_view c.args.self.units } in
    files_more (reading_view c.args.self) opened c.in_ok-tokens.sources c.in_ok-tokens.tokens c.as_slice.result.now c.with_unit.result c.requires.within refl
    c.as_slice.ensures c.in_ok-tokens.ensures.forms c.in_ok-tokens.ensures.bounds c.with_unit.ensures
