use Rattle.std.proofs.Common.{Some, None}
use Rattle.c_tree.specs.StatementView.{expr_view}
use Rattle.c_parser.proofs.Conditions.{whole_read, more_read, not_read, only_condition}
use Rattle.c_parser.proofs.condition.parse_condition.Goals as goal

pub returns-then-left-eq0-clause-read : goal.returns-then-left-eq0-clause-read
returns-then-left-eq0-clause-read c =
    whole_read c.args.tokens.now c.in_ok-reader.reader c.expression.new.reader (expr_view c.in-Ok.found.tree) c.left.result c.in_ok-reader.ensures c.in-Ok.ensures.value c.left.ensures.count c.if-left-eq0.true

pub returns-then-left-eq0-clause-tree : goal.returns-then-left-eq0-clause-tree
returns-then-left-eq0-clause-tree c =
    only_condition c.conditions_are_read.ensures.read c.conditions_are_read.ensures.trees c.args.tokens.now (Some (expr_view c.in-Ok.found.tree)) (returns-then-left-eq0-clause-read c)

pub returns-in-Ok-clause-read : goal.returns-in-Ok-clause-read
returns-in-Ok-clause-read c =
    more_read c.args.tokens.now c.in_ok-reader.reader c.expression.new.reader (expr_view c.in-Ok.found.tree) c.left.result c.in_ok-reader.ensures c.in-Ok.ensures.value c.left.ensures.count c.if-left-eq0.false

pub returns-in-Ok-clause-tree : goal.returns-in-Ok-clause-tree
returns-in-Ok-clause-tree c =
    only_condition c.conditions_are_read.ensures.read c.conditions_are_read.ensures.trees c.args.tokens.now None (returns-in-Ok-clause-read c)

pub returns-in-Err-Syntax-clause-read : goal.returns-in-Err-Syntax-clause-read
returns-in-Err-Syntax-clause-read c =
    not_read c.args.tokens.now c.in_ok-reader.reader c.in-Err-Syntax.field-0 c.in_ok-reader.ensures c.in-Err-Syntax.field-0-is c.in-Err-Syntax.ensures.value

pub returns-in-Err-Syntax-clause-tree : goal.returns-in-Err-Syntax-clause-tree
returns-in-Err-Syntax-clause-tree c =
    only_condition c.conditions_are_read.ensures.read c.conditions_are_read.ensures.trees c.args.tokens.now None (returns-in-Err-Syntax-clause-read c)
