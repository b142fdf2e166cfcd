-- The end of a scope takes back what was declared in it.
use Rattle.c_tree.specs.StatementView.{stmt_view}
use Rattle.c_parser.proofs.Scoping.{branch_ended, block_ended, open_ended}
use Rattle.c_parser.proofs.statement.+statements.Goals as goal

pub branch-returns : goal.branch-returns
branch-returns t c =
    branch_ended c.trees_are_read.ensures stmt_view c.args.room c.args.reader.now c.statement-read.new.reader c.ended.new.reader c.enter-outer.result c.statement-read.result c.ended.result
    c.enter-outer.ensures.count c.enter-outer.ensures.typedef c.statement-read.ensures c.ended.ensures

pub block-returns : goal.block-returns
block-returns t c =
    block_ended c.trees_are_read.ensures stmt_view c.args.room c.args.reader.now c.open_block-read.new.reader c.ended.new.reader c.enter-outer.result c.open_block-read.result c.ended.result
    c.enter-outer.ensures.count c.enter-outer.ensures.typedef c.open_block-read.ensures c.ended.ensures

pub compound-returns : goal.compound-returns
compound-returns t c =
    open_ended c.trees_are_read.ensures stmt_view c.args.room c.args.keyword c.args.reader.now c.open-read.new.reader c.ended.new.reader c.enter-outer.result c.open-read.result c.ended.result
    c.enter-outer.ensures.count c.enter-outer.ensures.typedef c.open-read.ensures c.ended.ensures
