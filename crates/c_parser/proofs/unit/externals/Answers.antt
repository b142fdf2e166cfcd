use Rattle.std.proofs.Common.{◌≢◌, ◌-◌, ap, sym, ◌∙◌, arith}
use Rattle.c_tree.specs.StatementView.{trees, decl_view}
use Rattle.grammar_reading.specs.Rooms.{text_from}
use Rattle.grammar_reading.specs.State.{left_at}
use Rattle.c_parser.proofs.Texts.{one_read}
use Rattle.c_parser.proofs.unit.externals.Goals as goal

pub all-preserved : goal.all-preserved
all-preserved c =
    let some : left_at c.all.reader ≢ 0 = grind (arith, c.left.ensures.count, c.if-left-eq0.false) in
    ap (λ parts. text_from (c.all.left - 1) parts c.next.new.reader) c.in_ok-push-in-Ok.ensures
    ∙ sym (one_read c.all.left (trees decl_view c.all.list) c.all.reader c.next.new.reader (decl_view c.in-Ok.decl) (omega (arith, c.all-test.true)) some c.in-Ok.ensures.tree)
    ∙ c.all.invariant
