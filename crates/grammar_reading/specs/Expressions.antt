-- Reading expressions (C99 6.5).
use Rattle.std.specs.Prelude.{ℕ, zero, suc, ◌+◌, ◌-◌, Bool, true, false, nat_eq, nat_le, if◌then◌else◌, Option, Some, None}
use Rattle.c_tree.specs.declared.operator.UnaryOp.TheVariants as u
use Rattle.c_tree.specs.declared.operator.BinaryOp.{BinaryOp}
use Rattle.c_tree.specs.declared.operator.BinaryOp.TheVariants as b
use Rattle.c_tree.specs.declared.operator.AssignOp.{AssignOp}
use Rattle.c_tree.specs.declared.operator.AssignOp.TheVariants as a
use Rattle.c_tree.specs.declared.word.Keyword.TheVariants as k
use Rattle.c_tree.specs.declared.word.Sign.{Sign}
use Rattle.c_tree.specs.declared.word.Sign.TheVariants as s
use Rattle.c_tree.specs.Forms.{Form}
use Rattle.c_tree.specs.Forms as f
use Rattle.c_tree.specs.Grammar.{form_home}
use Rattle.c_tree.specs.Operators.{operand_level}
use Rattle.c_tree.specs.Places.{Place, Expression}
use Rattle.c_tree.specs.Scopes.{is_type}
use Rattle.c_tree.specs.Tree.{Tree, Trees, Leaf, At, Node, none}
use Rattle.grammar_reading.specs.declared.kind.Kind.{Kind}
use Rattle.grammar_reading.specs.declared.kind.Kind.TheVariants as kinds
use Rattle.grammar_reading.specs.State.{kind_at, line_at, word_at, bytes_at, left_at, at_mark, at_key, skip, opens_type}
use Rattle.grammar_reading.specs.Reading.{◌>>=◌, Reader, guarded, fixed, snoc, leaf, token_node, grown, goes_on, commas_from}

-- Operators by their signs

unfoldable pub unary_op : Sign → Option Form
unary_op s.PlusPlus = Some f.PreInc
unary_op s.MinusMinus = Some f.PreDec
unary_op s.Ampersand = Some (f.Unary u.Address)
unary_op s.Star = Some (f.Unary u.Deref)
unary_op s.Plus = Some (f.Unary u.Plus)
unary_op s.Minus = Some (f.Unary u.Minus)
unary_op s.Tilde = Some (f.Unary u.Complement)
unary_op s.Not = Some (f.Unary u.Not)
unary_op _ = None

unfoldable pub binary_op : Sign → Option BinaryOp
binary_op s.OrOr = Some b.Or
binary_op s.AndAnd = Some b.And
binary_op s.Bar = Some b.BitOr
binary_op s.Caret = Some b.BitXor
binary_op s.Ampersand = Some b.BitAnd
binary_op s.EqualEqual = Some b.Equal
binary_op s.NotEqual = Some b.NotEqual
binary_op s.Less = Some b.Less
binary_op s.Greater = Some b.Greater
binary_op s.LessEqual = Some b.LessEqual
binary_op s.GreaterEqual = Some b.GreaterEqual
binary_op s.ShiftLeft = Some b.ShiftLeft
binary_op s.ShiftRight = Some b.ShiftRight
binary_op s.Plus = Some b.Add
binary_op s.Minus = Some b.Subtract
binary_op s.Star = Some b.Multiply
binary_op s.Slash = Some b.Divide
binary_op s.Percent = Some b.Remainder
binary_op _ = None

unfoldable pub assign_op : Sign → Option AssignOp
assign_op s.Equal = Some a.Plain
assign_op s.StarEqual = Some a.Multiply
assign_op s.SlashEqual = Some a.Divide
assign_op s.PercentEqual = Some a.Remainder
assign_op s.PlusEqual = Some a.Add
assign_op s.MinusEqual = Some a.Subtract
assign_op s.ShiftLeftEqual = Some a.ShiftLeft
assign_op s.ShiftRightEqual = Some a.ShiftRight
assign_op s.AmpersandEqual = Some a.BitAnd
assign_op s.CaretEqual = Some a.BitXor
assign_op s.BarEqual = Some a.BitOr
assign_op _ = None

-- the form of what grows behind a primary expression
unfoldable pub postfix_op : Sign → Option Form
postfix_op s.LeftBracket = Some f.Index
postfix_op s.LeftParen = Some f.Call
postfix_op s.Dot = Some f.Dot
postfix_op s.Arrow = Some f.Arrow
postfix_op s.PlusPlus = Some f.PostInc
postfix_op s.MinusMinus = Some f.PostDec
postfix_op _ = None

abbrev pub of_mark : {A : Type 0} → (Sign → Option A) → Kind → Option A
of_mark table (kinds.Mark sign) = table sign
of_mark table _ = None

-- an operator of the level behind the one with this number
abbrev pub at_level : ℕ → Option BinaryOp → Option BinaryOp
at_level level None = None
at_level level (Some op) = if nat_eq (operand_level op) level then Some op else None

-- a unary expression, or a tighter one
abbrev pub is_unary_place : Place → Bool
is_unary_place (Expression level) = nat_le level (suc zero)
is_unary_place _ = false

abbrev pub is_unary : Tree → Bool
is_unary (Leaf word) = false
is_unary (At line) = false
is_unary (Node form parts) = is_unary_place (form_home form)

-- a name as a part
abbrev pub name_by : Kind → Reader
name_by kinds.Name state = leaf state
name_by _ state = None

abbrev pub name_at : Reader
name_at state = name_by (kind_at state) state

-- string literals as a part
abbrev pub strings_by : (Trees → Reader) → Trees → Kind → Reader
strings_by again parts kinds.Str state = again (snoc parts (Leaf (word_at state))) (skip state)
strings_by again parts _ state = Some (Node f.Strings parts, state)

abbrev pub strings_from : ℕ → Trees → Reader
strings_from zero parts state = None
strings_from (suc turns) parts state = strings_by (strings_from turns) parts (kind_at state) state

abbrev pub strings_at : Reader
strings_at state = strings_from (suc (left_at state)) none state

abbrev pub strings_part : Place → Reader
strings_part place = strings_at

-- a name that is no type
abbrev pub named : Bool → Reader
named true state = None
named false state = token_node f.Name state

-- inner reads a tree of a place with less room than there is here, and none where there is none
module _ (inner : Place → Reader) (room : ℕ) where
  abbrev pub primary_by : Kind → Reader
  primary_by kinds.Name state = named (is_type state.scope.names (bytes_at state)) state
  primary_by kinds.Int state = token_node f.Int state
  primary_by kinds.Char state = token_node f.Char state
  primary_by kinds.Str state = fixed strings_part f.Str state
  primary_by (kinds.Mark s.LeftParen) state = fixed inner f.Paren state
  primary_by _ state = None

  abbrev pub primary_at : Reader
  primary_at state = primary_by (kind_at state) state

  -- what grows behind a primary expression
  abbrev pub postfix_by : (Tree → Reader) → ℕ → Tree → Option Form → Reader
  postfix_by again line left None state = Some (left, state)
  postfix_by again line left (Some form) state =
      grown room inner form line left state >>= (λ x. again x.0 x.1)

  abbrev pub postfix_from : ℕ → ℕ → Tree → Reader
  postfix_from zero line left state = None
  postfix_from (suc turns) line left state =
      postfix_by (postfix_from turns line) line left (of_mark postfix_op (kind_at state)) state

  abbrev pub postfix_at : Reader
  postfix_at state = primary_at state >>= (λ x. postfix_from room (line_at state) x.0 x.1)

  abbrev pub sizeof_at : Reader
  sizeof_at state = if opens_type (skip state) then fixed inner f.SizeofType state else fixed inner f.SizeofExpr state

  abbrev pub unary_by : Option Form → Reader
  unary_by (Some form) state = fixed inner form state
  unary_by None state = if at_key k.Sizeof state then sizeof_at state else postfix_at state

  abbrev pub unary_at : Reader
  unary_at state = unary_by (of_mark unary_op (kind_at state)) state

  abbrev pub cast_at : Reader
  cast_at state = if opens_type state then fixed inner f.Cast state else unary_at state

  -- the operators of one level, from left to right
  abbrev pub binary_by : (Tree → Reader) → ℕ → Tree → Option BinaryOp → Reader
  binary_by again line left None state = Some (left, state)
  binary_by again line left (Some op) state =
      grown room inner (f.Binary op) line left state >>= (λ x. again x.0 x.1)

  abbrev pub binary_from : ℕ → ℕ → ℕ → Tree → Reader
  binary_from zero level line left state = None
  binary_from (suc turns) level line left state =
      binary_by (binary_from turns level line) line left (at_level level (of_mark binary_op (kind_at state))) state

  -- an expression so many levels looser than a cast
  abbrev pub binary_at : ℕ → Reader
  binary_at zero state = cast_at state
  binary_at (suc n) state = binary_at n state >>= (λ x. binary_from room (n + 2) (line_at state) x.0 x.1)

  abbrev pub cond_at : Reader
  cond_at state =
      binary_at 10 state
      >>= (λ x. if at_mark s.Question x.1 then grown room inner f.Cond (line_at state) x.0 x.1 else Some x)

  abbrev pub assign_by : ℕ → Tree → Option AssignOp → Reader
  assign_by line left None state = Some (left, state)
  assign_by line left (Some op) state =
      if is_unary left then grown room inner (f.Assign op) line left state else None

  abbrev pub assign_at : Reader
  assign_at state =
      cond_at state >>= (λ x. assign_by (line_at state) x.0 (of_mark assign_op (kind_at x.1)) x.1)

  -- commas, from left to right
  abbrev pub comma_by : (Tree → Reader) → ℕ → Tree → Bool → Reader
  comma_by again line left false state = Some (left, state)
  comma_by again line left true state = grown room inner f.Comma line left state >>= (λ x. again x.0 x.1)

  abbrev pub comma_from : ℕ → ℕ → Tree → Reader
  comma_from zero line left state = None
  comma_from (suc turns) line left state =
      comma_by (comma_from turns line) line left (at_mark s.Comma state) state

  abbrev pub comma_at : Reader
  comma_at state = assign_at state >>= (λ x. comma_from room (line_at state) x.0 x.1)

  -- an expression of at most a level, by how much looser than `||` it is, than a cast, or by the level
  abbrev pub loose_at : ℕ → Reader
  loose_at zero state = cond_at state
  loose_at (suc zero) state = assign_at state
  loose_at (suc (suc n)) state = comma_at state

  abbrev pub expression_at : ℕ → Reader
  expression_at zero state = postfix_at state
  expression_at (suc zero) state = unary_at state
  expression_at (suc (suc n)) state = if nat_le n 10 then binary_at n state else loose_at (n - 11) state

  -- the arguments of a call
  abbrev pub argument_at : Reader
  argument_at state = guarded room assign_at state

  abbrev pub arguments_at : Reader
  arguments_at state =
      if at_mark s.RightParen state
      then Some (Node f.Arguments none, state)
      else commas_from argument_at goes_on f.Arguments (left_at state) none state
