use Rattle.std.proofs.Common.{[]}
use Rattle.meaning_run.proofs.Bytes.{seen_alone, moves_alone, alone_counted}
use Rattle.meaning_run.proofs.machine.Machine.act_lib.Goals as goal

pub returns-in-Putchar-clause-told : goal.returns-in-Putchar-clause-told
returns-in-Putchar-clause-told g c = λ left taken h i. rw (c.in-Putchar.is, h) (c.lib_putchar.ensures.told left taken i)

pub returns-in-Putchar-clause-moves : goal.returns-in-Putchar-clause-moves
returns-in-Putchar-clause-moves g c = ([], rw c.in-Putchar.is (c.lib_putchar.ensures.moves []))

pub returns-in-Puts-clause-told : goal.returns-in-Puts-clause-told
returns-in-Puts-clause-told g c = λ left taken h i. rw (c.in-Puts.is, h) (c.lib_puts.ensures.told left taken i)

pub returns-in-Puts-clause-moves : goal.returns-in-Puts-clause-moves
returns-in-Puts-clause-moves g c = ([], rw c.in-Puts.is (c.lib_puts.ensures.moves []))

pub returns-in_default : goal.returns-in_default
returns-in_default g c = record {
  told = λ left taken h i. rw (h, i) (seen_alone _ left taken c.lib_alone.new.self c.lib_alone.result (c.lib_alone.ensures left));
  faults = alone_counted _ [] c.lib_alone.new.self c.lib_alone.result _ _ (c.lib_alone.ensures []);
  moves = ([], moves_alone _ [] c.lib_alone.new.self c.lib_alone.result (c.lib_alone.ensures []));
}
