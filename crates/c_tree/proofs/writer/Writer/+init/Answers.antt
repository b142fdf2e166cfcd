use Rattle.std.proofs.Common.{◌≡◌}
use Rattle.c_tree.specs.Forms as f
use Rattle.c_tree.specs.StatementView.{init_view}
use Rattle.c_tree.proofs.ListTexts.{commas_done}
use Rattle.c_tree.proofs.NameTexts.{inits_text, inits_empty}
use Rattle.c_tree.proofs.writer.Writer.+init.Goals as goal

pub inits-returns-in-empty : goal.inits-returns-in-empty
inits-returns-in-empty t c = inits_empty c.args.list.now c.args.self.now c.in-empty.len_below

pub inits-returns-after-loop-init : goal.inits-returns-after-loop-init
inits-returns-after-loop-init t c =
    commas_done init_view f.Inits inits_text c.args.list.now c.first-item.result c.loop-init.init-index c.args.self.now
    c.init.new.self c.loop-init.self c.in-len1-up.len_at_least c.first-item.is c.loop-init-test.false
    c.in_ok-init-in-len1-up.ensures c.loop-init.invariant
