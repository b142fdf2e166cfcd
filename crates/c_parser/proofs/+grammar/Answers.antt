-- Nodes that grow by two parts or more, and the end of a parameter list, which takes back what was declared in it.
use Rattle.std.proofs.Common.{◌≡◌, ◌+◌, ◌-◌, ◌<◌, ℕ, Some, refl, sym, ap, ◌∙◌, subst, arith}
use Rattle.std.proofs.lemmas.Result.{err_from_is_err_and}
use Rattle.c_tree.specs.Allowed.{no_words}
use Rattle.c_tree.specs.declared.word.Sign.{Sign}
use Rattle.c_tree.specs.Depth.{depth}
use Rattle.c_tree.specs.Forms as f
use Rattle.c_tree.specs.Operators.{binary_sign, operand_level}
use Rattle.c_tree.specs.Places.{Expression, Arguments}
use Rattle.c_tree.specs.StatementView.{trees, expr_view, suffix_view, member_view}
use Rattle.c_tree.specs.Tree.{Tree, Node}
use Rattle.c_tree.specs.View.{spec_tree}
use Rattle.c_tree.specs.Words.{Mark}
use Rattle.grammar_reading.specs.State.{past}
use Rattle.grammar_reading.specs.Reading.{snoc}
use Rattle.grammar_reading.specs.Rooms.{less, read}
use Rattle.c_parser.proofs.Grown.{less_is, grown_call, grown_cond, grown_binary}
use Rattle.c_parser.proofs.Loops.{specs_begin, members_begin}
use Rattle.c_parser.proofs.Operations.{operand_exit, operators_exit}
use Rattle.c_parser.proofs.Scoping.{function_ends}
use Rattle.c_parser.proofs.+grammar.Goals as goal

pub postfix::call-returns-clause-value : goal.postfix::call-returns-clause-value
postfix::call-returns-clause-value t c =
    let exact : c.args.left.depth ≡ depth (expr_view c.args.left.tree) = c.args.left.exact in
    let fits : depth (expr_view c.args.left.tree) < c.args.room = omega (arith, c.if-left-room.false, exact) in
    let list : less c.args.room Arguments c.mark.new.self ≡ Some (Node f.Arguments (trees expr_view c.in_ok-list.list.list.items), c.arguments.new.reader) = less_is c.args.room Arguments c.mark.new.self (Some (Node f.Arguments (trees expr_view c.in_ok-list.list.list.items), c.arguments.new.reader)) c.requires.some c.in_ok-list.ensures.value in
    grown_call (less c.args.room) c.args.room c.args.line (expr_view c.args.left.tree) fits c.args.reader.now c.mark.new.self c.arguments.new.reader c.mark-2.new.self (Node f.Arguments (trees expr_view c.in_ok-list.list.list.items)) c.in_ok-mark.ensures list c.in_ok-mark-2.ensures
    ∙ ap (λ (tree : Tree). Some (tree, c.mark-2.new.self)) (sym c.in_ok-call.ensures.tree)

pub expression::grow_condition-returns-clause-value : goal.expression::grow_condition-returns-clause-value
expression::grow_condition-returns-clause-value t c =
    let exact : c.args.left.depth ≡ depth (expr_view c.args.left.tree) = c.args.left.exact in
    let fits : depth (expr_view c.args.left.tree) < c.args.room = omega (arith, c.if-left-room.false, exact) in
    let yes : less c.args.room (Expression 15) c.mark.new.self ≡ Some (expr_view c.in_ok-yes.yes.tree, c.expression.new.reader) = less_is c.args.room (Expression 15) c.mark.new.self (Some (expr_view c.in_ok-yes.yes.tree, c.expression.new.reader)) c.requires.some c.in_ok-yes.ensures.value in
    let no : less c.args.room (Expression 13) c.mark-2.new.self ≡ Some (expr_view c.in_ok-no.no.tree, c.expression-2.new.reader) = less_is c.args.room (Expression 13) c.mark-2.new.self (Some (expr_view c.in_ok-no.no.tree, c.expression-2.new.reader)) c.requires.some c.in_ok-no.ensures.value in
    grown_cond (less c.args.room) c.args.room c.args.line (expr_view c.args.left.tree) fits c.args.reader.now c.mark.new.self c.expression.new.reader c.mark-2.new.self c.expression-2.new.reader (expr_view c.in_ok-yes.yes.tree) (expr_view c.in_ok-no.no.tree) c.in_ok-mark.ensures yes c.in_ok-mark-2.ensures no
    ∙ ap (λ (tree : Tree). Some (tree, c.expression-2.new.reader)) (sym c.in_ok-cond.ensures.tree)

pub expression::grow_operation-returns-clause-value : goal.expression::grow_operation-returns-clause-value
expression::grow_operation-returns-clause-value t c =
    let exact : c.args.left.depth ≡ depth (expr_view c.args.left.tree) = c.args.left.exact in
    let fits : depth (expr_view c.args.left.tree) < c.args.room = omega (arith, c.if-left-room.false, exact) in
    let sign : past (Mark (binary_sign c.args.op)) c.args.reader.now ≡ Some c.mark.new.self = subst (λ (g : Sign). past (Mark g) c.args.reader.now ≡ Some c.mark.new.self) c.binary_sign.ensures c.in_ok-mark.ensures in
    let level : read (c.args.room - 1) (Expression (operand_level c.args.op)) c.mark.new.self ≡ Some (expr_view c.in_ok-right.right.tree, c.expression.new.reader) = subst (λ (l : ℕ). read (c.args.room - 1) (Expression l) c.mark.new.self ≡ Some (expr_view c.in_ok-right.right.tree, c.expression.new.reader)) c.operand_level.ensures.level c.in_ok-right.ensures.value in
    let right : less c.args.room (Expression (operand_level c.args.op)) c.mark.new.self ≡ Some (expr_view c.in_ok-right.right.tree, c.expression.new.reader) = less_is c.args.room (Expression (operand_level c.args.op)) c.mark.new.self (Some (expr_view c.in_ok-right.right.tree, c.expression.new.reader)) c.requires.some level in
    grown_binary (less c.args.room) c.args.room c.args.line (expr_view c.args.left.tree) fits c.args.op c.args.reader.now c.mark.new.self c.expression.new.reader (expr_view c.in_ok-right.right.tree) sign right
    ∙ ap (λ (tree : Tree). Some (tree, c.expression.new.reader)) (sym c.in_ok-binary.ensures.tree)

pub expression::operation-returns-in_err-whole-clause-value : goal.expression::operation-returns-in_err-whole-clause-value
expression::operation-returns-in_err-whole-clause-value t c =
    operand_exit (less c.args.room) c.args.room c.args.looser c.args.reader.now c.cast.new.reader c.from_residual.result _
    (err_from_is_err_and c.from_residual.result c.from_residual.ensures.1) c.in_err-whole.ensures.value

pub expression::operation-returns-in_err-whole-2-clause-value : goal.expression::operation-returns-in_err-whole-2-clause-value
expression::operation-returns-in_err-whole-2-clause-value t c =
    operators_exit (less c.args.room) c.args.room c.levels.level c.args.looser c.line-line.result c.args.reader.now c.operators.new.reader (expr_view c.levels.whole.tree, c.levels.reader)
    c.from_residual-in_err-whole-2.result _ (err_from_is_err_and c.from_residual-in_err-whole-2.result c.from_residual-in_err-whole-2.ensures.1)
    c.levels-test.true c.levels.invariant.0 c.line-line.ensures c.in_err-whole-2.ensures.value

pub declarator::function-returns : goal.declarator::function-returns
declarator::function-returns t c =
    function_ends c.trees_are_read.ensures c.args.room c.args.reader.now c.open_function.new.reader c.leave_params.new.self (suffix_view c.in_ok-suffix.suffix.tree) c.enter-outer.result.count c.enter-outer.result.typedef
    c.enter-outer.ensures.count c.enter-outer.ensures.typedef c.in_ok-suffix.ensures c.in_ok-leave_params.ensures

pub specifiers::specs_by-words-init : goal.specifiers::specs_by-words-init
specifiers::specs_by-words-init t c = (
  specs_begin (less c.args.room) c.args.room (c.left-turns.result + 1) c.args.plain no_words c.line-line.result (trees spec_tree c.none-words.result.list.items) c.args.reader.now (omega (arith, c.left-turns.ensures.count)) refl c.line-line.ensures (ap (trees spec_tree) c.none-words.ensures.list),
  omega (arith, c.none-words.ensures.depth),
  omega (arith, c.left-turns.ensures.count),
  omega (arith, c.left-turns.ensures.count, c.left-turns.ensures.small),
)

pub tags::members-members-init : goal.tags::members-members-init
tags::members-members-init t c = (
  members_begin (less c.args.room) c.args.room (c.left-turns.result + 1) (trees member_view c.in_ok-list.list.list.items) c.args.reader.now c.member.new.reader (member_view c.in_ok-first.first.tree) c.in_ok-first.ensures.value
      (omega (arith, c.left-turns.ensures.count)) (c.in_ok-list.ensures.list ∙ ap (λ l. snoc (trees member_view l) (member_view c.in_ok-first.first.tree)) c.none.ensures.list),
  omega (arith, c.in_ok-list.ensures.depth, c.none.ensures.depth, c.in_ok-first.ensures.deep),
)
