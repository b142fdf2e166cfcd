-- Nodes that grow behind a left part, from what their words and parts read.
use Rattle.std.proofs.Common.{◌≡◌, ℕ, ◌-◌, ◌<◌, Option, Some, refl, ◌∙◌}
use Rattle.std.proofs.lemmas.Bool.{lt-ltb}
use Rattle.c_tree.specs.declared.operator.BinaryOp.{BinaryOp}
use Rattle.c_tree.specs.declared.word.Sign.TheVariants as s
use Rattle.c_tree.specs.Depth.{depth}
use Rattle.c_tree.specs.Forms as f
use Rattle.c_tree.specs.Grammar.{shape}
use Rattle.c_tree.specs.Operators.{binary_sign, operand_level}
use Rattle.c_tree.specs.Places.{Place, Expression, Arguments}
use Rattle.c_tree.specs.Tree.{Tree, At, Node, none, ◌▹◌}
use Rattle.c_tree.specs.Words.{Mark}
use Rattle.grammar_reading.specs.State.{State, past}
use Rattle.grammar_reading.specs.Reading.{Reader, grown}
use Rattle.grammar_reading.specs.Rooms.{less, read}
use Rattle.c_parser.proofs.Steps.{less_step}

-- what is read with one room less is read inside
pub less_is : (room : ℕ) (place : Place) (state : State) (x : Option (Tree × State)) → 0 < room → read (room - 1) place state ≡ x → less room place state ≡ x
less_is room place state x h e = less_step room place state h ∙ e

module _ (part : Place → Reader) (room line : ℕ) (left : Tree) (fits : depth left < room) where
  pub grown_call : (s0 s1 s2 s3 : State) (list : Tree) → past (Mark s.LeftParen) s0 ≡ Some s1 → part Arguments s1 ≡ Some (list, s2) → past (Mark s.RightParen) s2 ≡ Some s3 → grown room part f.Call line left s0 ≡ Some (Node f.Call (At line ▹ left ▹ list ▹ none), s3)
  unfolding shape
  grown_call s0 s1 s2 s3 list a b c = rw (lt-ltb (depth left) room fits, a, b, c) refl

  pub grown_cond : (s0 s1 s2 s3 s4 : State) (first other : Tree) → past (Mark s.Question) s0 ≡ Some s1 → part (Expression 15) s1 ≡ Some (first, s2) → past (Mark s.Colon) s2 ≡ Some s3 → part (Expression 13) s3 ≡ Some (other, s4) → grown room part f.Cond line left s0 ≡ Some (Node f.Cond (At line ▹ left ▹ first ▹ other ▹ none), s4)
  unfolding shape
  grown_cond s0 s1 s2 s3 s4 first other a b c d = rw (lt-ltb (depth left) room fits, a, b, c, d) refl

  pub grown_binary : (op : BinaryOp) (s0 s1 s2 : State) (right : Tree) → past (Mark (binary_sign op)) s0 ≡ Some s1 → part (Expression (operand_level op)) s1 ≡ Some (right, s2) → grown room part (f.Binary op) line left s0 ≡ Some (Node (f.Binary op) (At line ▹ left ▹ right ▹ none), s2)
  unfolding shape
  grown_binary op s0 s1 s2 right a b = rw (lt-ltb (depth left) room fits, a, b) refl
