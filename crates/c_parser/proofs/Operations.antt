-- Operations: the operators of each level behind those of the one before it.
use Rattle.std.proofs.Common.{◌≡◌, ℕ, zero, suc, ◌+◌, ◌-◌, ◌<◌, Option, Some, None, Result, Err, sym, ap, subst, arith, add-one, ◌∙◌}
use Rattle.c_tree.specs.Places.{Place}
use Rattle.c_tree.specs.StatementView.{expr_view}
use Rattle.c_tree.specs.Tree.{Tree}
use Rattle.grammar_reading.specs.State.{State, line_at}
use Rattle.grammar_reading.specs.Reading.{◌>>=◌, Reader}
use Rattle.grammar_reading.specs.Expressions.{cast_at, binary_from, binary_at}
use Rattle.parser_parts.specs.Gives.{Fails, Reads}
use Rattle.parser_parts.specs.declared.deep.DeepExpr.{DeepExpr}
use Rattle.parser_parts.specs.declared.error.ReadError.{ReadError}
use Rattle.parser_parts.specs.declared.error.ReadError.TheVariants as errors

-- the next level, behind what is read of the one before it
pub binary_next : (inner : Place → Reader) (room level line : ℕ) (state : State) (left : Tree × State) → binary_at inner room level state ≡ Some left → line ≡ line_at state → binary_at inner room (level + 1) state ≡ binary_from inner room room (level + 2) line left.0 left.1
binary_next inner room level line state left h same =
    rw add-one (ap (λ (r : Option (Tree × State)). r >>= (λ x. binary_from inner room room (level + 2) (line_at state) x.0 x.1)) h ∙ ap (λ (n : ℕ). binary_from inner room room (level + 2) n left.0 left.1) (sym same))

-- where a level has no tree, none above it has
none_above : (inner : Place → Reader) (room level more looser : ℕ) (state : State) → looser ≡ more + level → binary_at inner room level state ≡ None → binary_at inner room looser state ≡ None
none_above inner room level zero looser state e h =
    let same : level ≡ looser = omega arith in
    subst (λ (n : ℕ). binary_at inner room n state ≡ None) same h
none_above inner room level (suc more) zero state e h = absurd (omega (arith, e))
none_above inner room level (suc more) (suc looser) state e h =
    ap (λ (r : Option (Tree × State)). r >>= (λ x. binary_from inner room room (looser + 2) (line_at state) x.0 x.1)) (none_above inner room level more looser state (omega (arith, e)) h)

-- the exits of an operation: its first operand has no tree, or the operators of a level have none
operand_fails : (inner : Place → Reader) (room looser : ℕ) (state : State) (e : ReadError) → Fails e (cast_at inner room state) → Fails e (binary_at inner room looser state)
operand_fails inner room looser state errors.NoMemory h = h
operand_fails inner room looser state errors.Syntax h = none_above inner room 0 looser looser state (omega arith) h

operators_fail : (inner : Place → Reader) (room level looser line : ℕ) (state : State) (left : Tree × State) (e : ReadError) → level < looser → binary_at inner room level state ≡ Some left → line ≡ line_at state → Fails e (binary_from inner room room (level + 2) line left.0 left.1) → Fails e (binary_at inner room looser state)
operators_fail inner room level looser line state left errors.NoMemory less h same fails = fails
operators_fail inner room level looser line state left errors.Syntax less h same fails =
    none_above inner room (level + 1) (looser - (level + 1)) looser state (omega (arith, less)) (binary_next inner room level line state left h same ∙ fails)

abbrev ReadsTo : Result DeepExpr ReadError → State → Option (Tree × State) → Type 0
ReadsTo result behind read = Reads (λ x. expr_view x.tree) result behind read

exit : (behind : State) (read : Option (Tree × State)) (result : Result DeepExpr ReadError) (e : ReadError) → (y : ReadError) × (result ≡ Err y) × (y ≡ e) → Fails e read → ReadsTo result behind read
exit behind read result e shown fails = subst (λ (r : Result DeepExpr ReadError). ReadsTo r behind read) (ap Err (sym shown.2) ∙ sym shown.1) fails

pub operand_exit : (inner : Place → Reader) (room looser : ℕ) (state behind : State) (result : Result DeepExpr ReadError) (e : ReadError) → (y : ReadError) × (result ≡ Err y) × (y ≡ e) → Fails e (cast_at inner room state) → ReadsTo result behind (binary_at inner room looser state)
operand_exit inner room looser state behind result e shown fails = exit behind (binary_at inner room looser state) result e shown (operand_fails inner room looser state e fails)

pub operators_exit : (inner : Place → Reader) (room level looser line : ℕ) (state behind : State) (left : Tree × State) (result : Result DeepExpr ReadError) (e : ReadError) → (y : ReadError) × (result ≡ Err y) × (y ≡ e) → level < looser → binary_at inner room level state ≡ Some left → line ≡ line_at state → Fails e (binary_from inner room room (level + 2) line left.0 left.1) → ReadsTo result behind (binary_at inner room looser state)
operators_exit inner room level looser line state behind left result e shown less h same fails = exit behind (binary_at inner room looser state) result e shown (operators_fail inner room level looser line state left e less h same fails)
