-- The trees of the code as trees of the grammar: without where they lie in memory.
use Rattle.std.specs.Prelude.{ℕ, Bool, List, [], ◌∷◌, Option, Some, None}
use Rattle.c_tree.specs.declared.word.Keyword.{Keyword}
use Rattle.c_tree.specs.declared.word.Keyword.TheVariants as k
use Rattle.c_tree.specs.declared.tree.Expr.{Expr}
use Rattle.c_tree.specs.declared.tree.ExprKind.{ExprKind, Row_of-Expr, end_of-Expr, more_of-Expr}
use Rattle.c_tree.specs.declared.tree.ExprKind.TheVariants as e
use Rattle.c_tree.specs.declared.tree.TypeName.{TypeName}
use Rattle.c_tree.specs.declared.tree.Specs.{Specs, Row_of-Spec, end_of-Spec, more_of-Spec}
use Rattle.c_tree.specs.declared.tree.Spec.{Spec}
use Rattle.c_tree.specs.declared.tree.Spec.TheVariants as c
use Rattle.c_tree.specs.declared.tree.TagKind.{TagKind, Row_of-Member, end_of-Member, more_of-Member, Row_of-Enumerator, end_of-Enumerator, more_of-Enumerator, Row_of-Declarator, end_of-Declarator, more_of-Declarator}
use Rattle.c_tree.specs.declared.tree.TagKind.TheVariants as t
use Rattle.c_tree.specs.declared.tree.Enumerator.{Enumerator, Enumerator'}
use Rattle.c_tree.specs.declared.tree.Declarator.{Declarator, Row_of-Suffix, end_of-Suffix, more_of-Suffix}
use Rattle.c_tree.specs.declared.tree.Declarator.TheVariants as d
use Rattle.c_tree.specs.declared.tree.Base.{Base}
use Rattle.c_tree.specs.declared.tree.Base.TheVariants as b
use Rattle.c_tree.specs.declared.tree.SuffixKind.{SuffixKind, Held-SuffixKind-Array-0, None', Some', Row_of-Param, end_of-Param, more_of-Param}
use Rattle.c_tree.specs.declared.tree.SuffixKind.TheVariants as s
use Rattle.c_tree.specs.Words.{Word, Key}
use Rattle.c_tree.specs.Words as w
use Rattle.c_tree.specs.Forms.{Form}
use Rattle.c_tree.specs.Forms as f
use Rattle.c_tree.specs.Tree.{Tree, Trees, Leaf, At, Node, none, ◌▹◌}

-- a name as a part
abbrev pub name_leaf : List ℕ → Tree
name_leaf bytes = Leaf (w.Name bytes)

-- a keyword as a part
abbrev pub key_leaf : Keyword → Tree
key_leaf keyword = Leaf (Key keyword)

-- string literals as parts
abbrev pub literal_leaves : List (List ℕ) → Trees
literal_leaves [] = none
literal_leaves (bytes ∷ rest) = Leaf (w.Str bytes) ▹ literal_leaves rest

-- a name that may be left out
abbrev pub maybe_name : Option (List ℕ) → Tree
maybe_name None = Node f.MaybeName none
maybe_name (Some bytes) = Node f.MaybeName (name_leaf bytes ▹ none)

unfoldable mutual
  -- an expression at a line
  pub expr_tree : ExprKind → ℕ → Tree
  expr_tree (e.Name bytes) line = Node f.Name (At line ▹ name_leaf bytes ▹ none)
  expr_tree (e.Int bytes) line = Node f.Int (At line ▹ Leaf (w.Int bytes) ▹ none)
  expr_tree (e.Char bytes) line = Node f.Char (At line ▹ Leaf (w.Char bytes) ▹ none)
  expr_tree (e.Str parts) line = Node f.Str (At line ▹ Node f.Strings (literal_leaves parts) ▹ none)
  expr_tree (e.Paren' p at kind) line = Node f.Paren (At line ▹ expr_tree kind at ▹ none)
  expr_tree (e.Index' p at kind q at2 kind2) line =
      Node f.Index (At line ▹ expr_tree kind at ▹ expr_tree kind2 at2 ▹ none)
  expr_tree (e.Call' p at kind shape arguments) line =
      Node f.Call (At line ▹ expr_tree kind at ▹ Node f.Arguments (expr_trees arguments) ▹ none)
  expr_tree (e.Dot' p at kind name) line = Node f.Dot (At line ▹ expr_tree kind at ▹ name_leaf name ▹ none)
  expr_tree (e.Arrow' p at kind name) line = Node f.Arrow (At line ▹ expr_tree kind at ▹ name_leaf name ▹ none)
  expr_tree (e.PostInc' p at kind) line = Node f.PostInc (At line ▹ expr_tree kind at ▹ none)
  expr_tree (e.PostDec' p at kind) line = Node f.PostDec (At line ▹ expr_tree kind at ▹ none)
  expr_tree (e.PreInc' p at kind) line = Node f.PreInc (At line ▹ expr_tree kind at ▹ none)
  expr_tree (e.PreDec' p at kind) line = Node f.PreDec (At line ▹ expr_tree kind at ▹ none)
  expr_tree (e.Unary' op p at kind) line = Node (f.Unary op) (At line ▹ expr_tree kind at ▹ none)
  expr_tree (e.SizeofExpr' p at kind) line = Node f.SizeofExpr (At line ▹ expr_tree kind at ▹ none)
  expr_tree (e.SizeofType' p at at2 shape words declarator) line =
      Node f.SizeofType (At line ▹
      Node f.Typename (At at ▹ Node f.Specs (At at2 ▹ spec_trees words) ▹ declarator_tree declarator ▹ none) ▹ none)
  expr_tree (e.Cast' p at at2 shape words declarator q at3 kind) line =
      Node f.Cast (At line ▹
      Node f.Typename (At at ▹ Node f.Specs (At at2 ▹ spec_trees words) ▹ declarator_tree declarator ▹ none) ▹
      expr_tree kind at3 ▹ none)
  expr_tree (e.Binary' op p at kind q at2 kind2) line =
      Node (f.Binary op) (At line ▹ expr_tree kind at ▹ expr_tree kind2 at2 ▹ none)
  expr_tree (e.Cond' p at kind q at2 kind2 r at3 kind3) line =
      Node f.Cond (At line ▹ expr_tree kind at ▹ expr_tree kind2 at2 ▹ expr_tree kind3 at3 ▹ none)
  expr_tree (e.Assign' op p at kind q at2 kind2) line =
      Node (f.Assign op) (At line ▹ expr_tree kind at ▹ expr_tree kind2 at2 ▹ none)
  expr_tree (e.Comma' p at kind q at2 kind2) line =
      Node f.Comma (At line ▹ expr_tree kind at ▹ expr_tree kind2 at2 ▹ none)

  pub expr_trees : {m : _} → Row_of-Expr m → Trees
  expr_trees end_of-Expr = none
  expr_trees (more_of-Expr at kind rest) = expr_tree kind at ▹ expr_trees rest

  -- a word of specs
  pub spec_tree : Spec → Tree
  spec_tree c.Static = key_leaf k.Static
  spec_tree c.Extern = key_leaf k.Extern
  spec_tree c.Typedef = key_leaf k.Typedef
  spec_tree c.Const = key_leaf k.Const
  spec_tree c.Void = key_leaf k.Void
  spec_tree c.Char = key_leaf k.Char
  spec_tree c.Short = key_leaf k.Short
  spec_tree c.Int = key_leaf k.Int
  spec_tree c.Long = key_leaf k.Long
  spec_tree c.Signed = key_leaf k.Signed
  spec_tree c.Unsigned = key_leaf k.Unsigned
  spec_tree (c.Named name) = Node f.TypedefName (name_leaf name ▹ none)
  spec_tree (c.Tag' line kind) = tag_tree kind line

  pub spec_trees : {m : _} → Row_of-Spec m → Trees
  spec_trees end_of-Spec = none
  spec_trees (more_of-Spec word rest) = spec_tree word ▹ spec_trees rest

  -- a tag at a line
  pub tag_tree : TagKind → ℕ → Tree
  tag_tree (t.Record sort name) line = Node (f.RecordTag sort) (At line ▹ name_leaf name ▹ none)
  tag_tree (t.RecordBody' sort name shape members) line =
      Node (f.RecordBody sort) (At line ▹ maybe_name name ▹ Node f.Members (member_trees members) ▹ none)
  tag_tree (t.Enum name) line = Node f.EnumTag (At line ▹ name_leaf name ▹ none)
  tag_tree (t.EnumBody' name shape enumerators trailing) line =
      Node (f.EnumBody trailing)
      (At line ▹ maybe_name name ▹ Node f.Enumerators (enumerator_trees enumerators) ▹ none)

  pub member_trees : {m : _} → Row_of-Member m → Trees
  member_trees end_of-Member = none
  member_trees (more_of-Member line at shape words shape2 declarators rest) =
      Node f.Member (At line ▹ Node f.Specs (At at ▹ spec_trees words) ▹
      Node f.MemberNames (declarator_trees declarators) ▹ none) ▹ member_trees rest

  -- an enumerator
  pub enumerator_tree : Enumerator → Tree
  enumerator_tree (Enumerator' line name value) =
      Node f.Enumerator (At line ▹ name_leaf name ▹ Node f.MaybeValue (held_trees value) ▹ none)

  pub enumerator_trees : {m : _} → Row_of-Enumerator m → Trees
  enumerator_trees end_of-Enumerator = none
  enumerator_trees (more_of-Enumerator enumerator rest) = enumerator_tree enumerator ▹ enumerator_trees rest

  -- a declarator
  pub declarator_tree : Declarator → Tree
  declarator_tree (d.Pointer' line consts p target) =
      Node (f.Pointer consts) (At line ▹ declarator_tree target ▹ none)
  declarator_tree (d.Direct' base shape suffixes) =
      Node f.Direct (base_tree base ▹ Node f.Suffixes (suffix_trees suffixes) ▹ none)

  pub declarator_trees : {m : _} → Row_of-Declarator m → Trees
  declarator_trees end_of-Declarator = none
  declarator_trees (more_of-Declarator declarator rest) = declarator_tree declarator ▹ declarator_trees rest

  -- what suffixes stand behind
  pub base_tree : Base → Tree
  base_tree b.Nothing = Node f.Nothing none
  base_tree (b.Name name) = name_leaf name
  base_tree (b.Parens' line p declarator) = Node f.Parens (At line ▹ declarator_tree declarator ▹ none)

  -- a suffix at a line
  pub suffix_tree : SuffixKind → ℕ → Tree
  suffix_tree (s.Array' length) line = Node f.ArraySuffix (At line ▹ Node f.MaybeLength (held_trees length) ▹ none)
  suffix_tree s.Void line = Node f.VoidSuffix (At line ▹ none)
  suffix_tree (s.Params' shape params) line =
      Node f.FunctionSuffix (At line ▹ Node f.Params (param_trees params) ▹ none)

  pub suffix_trees : {m : _} → Row_of-Suffix m → Trees
  suffix_trees end_of-Suffix = none
  suffix_trees (more_of-Suffix line kind rest) = suffix_tree kind line ▹ suffix_trees rest

  -- an expression that may be left out
  pub held_trees : Held-SuffixKind-Array-0 → Trees
  held_trees None' = none
  held_trees (Some' p at kind) = expr_tree kind at ▹ none

  pub param_trees : {m : _} → Row_of-Param m → Trees
  param_trees end_of-Param = none
  param_trees (more_of-Param line at shape words declarator rest) =
      Node f.Param (At line ▹ Node f.Specs (At at ▹ spec_trees words) ▹ declarator_tree declarator ▹ none) ▹
      param_trees rest
