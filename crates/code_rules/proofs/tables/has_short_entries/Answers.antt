use Rattle.std.proofs.Common.{List, sym, subst}
use Rattle.std.specs.List.{All}
use Rattle.flat_code.specs.declared.program.Entry.{Entry}
use Rattle.flat_code.specs.WellFormed.{IsShort}
use Rattle.code_rules.proofs.Entries.{all_entries, each_entry}
use Rattle.code_rules.proofs.tables.has_short_entries.Goals as goal

pub returns : goal.returns
returns c =
    let P : Entry → Type 0 = λ e. IsShort e.kinds × IsShort e.mems in (
      λ t. each_entry c.args.code.now P (subst (λ (l : List Entry). All P l) c.as_slice.ensures (c.are_short_entries.ensures.0 t)),
      λ each. c.are_short_entries.ensures.1 (subst (λ (l : List Entry). All P l) (sym c.as_slice.ensures) (all_entries c.args.code.now P each)),
    )
