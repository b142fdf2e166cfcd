use Rattle.std.proofs.Common.{◌≡◌}
use Rattle.c_tree.specs.Forms as f
use Rattle.c_tree.specs.StatementView.{entry_view}
use Rattle.c_tree.proofs.ListTexts.{commas_done}
use Rattle.c_tree.proofs.NameTexts.{names_text, names_empty}
use Rattle.c_tree.proofs.writer.Writer.names.Goals as goal

pub returns-in-empty : goal.returns-in-empty
returns-in-empty c = names_empty c.args.list.now c.args.self.now c.in-empty.len_below

pub returns-after-loop-entry : goal.returns-after-loop-entry
returns-after-loop-entry c =
    commas_done entry_view f.Names names_text c.args.list.now c.first-item.result c.loop-entry.entry-index c.args.self.now
    c.entry.new.self c.loop-entry.self c.in-len1-up.len_at_least c.first-item.is c.loop-entry-test.false
    c.in_ok-entry-in-len1-up.ensures c.loop-entry.invariant
