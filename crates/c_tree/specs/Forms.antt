-- The forms of the nodes of a tree: one for each alternative of the grammar, and one for each list or option of parts.
use Rattle.std.specs.Prelude.{ℕ, Bool}
use Rattle.c_tree.specs.declared.operator.UnaryOp.{UnaryOp}
use Rattle.c_tree.specs.declared.operator.BinaryOp.{BinaryOp}
use Rattle.c_tree.specs.declared.operator.AssignOp.{AssignOp}
use Rattle.c_tree.specs.declared.operator.RecordSort.{RecordSort}

pub data Form : Type 0 where
  -- a text (C99 6.9)
  Unit : Form
  Function : Form
  Body : Form
  Declaration : Form
  -- declarations (C99 6.7)
  Names : Form
  Entry : Form
  Declared : Form
  MaybeInit : Form
  Specs : Form
  TypedefName : Form
  RecordTag : (sort : RecordSort) → Form
  RecordBody : (sort : RecordSort) → Form
  EnumTag : Form
  EnumBody : (trailing : Bool) → Form
  MaybeName : Form
  Members : Form
  Member : Form
  MemberNames : Form
  Enumerators : Form
  Enumerator : Form
  MaybeValue : Form
  -- declarators (C99 6.7.5 and 6.7.6)
  Pointer : (consts : ℕ) → Form
  Direct : Form
  Nothing : Form
  Parens : Form
  Suffixes : Form
  ArraySuffix : Form
  MaybeLength : Form
  FunctionSuffix : Form
  VoidSuffix : Form
  Params : Form
  Param : Form
  Typename : Form
  -- initializers (C99 6.7.8)
  InitExpr : Form
  InitList : (trailing : Bool) → Form
  Inits : Form
  -- statements (C99 6.8)
  Items : Form
  Empty : Form
  Expr : Form
  Block : Form
  Delay : Form
  If : Form
  IfElse : Form
  While : Form
  Do : Form
  For : Form
  ForNames : Form
  ForStart : Form
  MaybeExpr : Form
  Switch : Form
  Case : Form
  Default : Form
  Break : Form
  Continue : Form
  Return : Form
  Local : Form
  -- expressions (C99 6.5)
  Name : Form
  Int : Form
  Char : Form
  Str : Form
  Strings : Form
  Paren : Form
  Index : Form
  Call : Form
  Arguments : Form
  Dot : Form
  Arrow : Form
  PostInc : Form
  PostDec : Form
  PreInc : Form
  PreDec : Form
  Unary : (op : UnaryOp) → Form
  SizeofExpr : Form
  SizeofType : Form
  Cast : Form
  Binary : (op : BinaryOp) → Form
  Cond : Form
  Assign : (op : AssignOp) → Form
  Comma : Form
