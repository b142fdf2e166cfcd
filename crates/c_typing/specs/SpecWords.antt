-- Words of specs.
use Rattle.std.specs.Prelude.{Bool, true, false, Option, Some, None}
use Rattle.c_tree.specs.declared.word.Keyword.{Keyword}
use Rattle.c_tree.specs.declared.word.Keyword.TheVariants as k
use Rattle.c_tree.specs.declared.tree.Spec.{Spec}
use Rattle.c_tree.specs.declared.tree.Spec.TheVariants as s

-- a tag or the name of a type
abbrev pub is_special : Spec → Bool
is_special (s.Named name) = true
is_special (s.Tag' line kind) = true
is_special _ = false

-- the keyword that a word is
abbrev pub keyword : Spec → Option Keyword
keyword s.Static = Some k.Static
keyword s.Extern = Some k.Extern
keyword s.Typedef = Some k.Typedef
keyword s.Const = Some k.Const
keyword s.Void = Some k.Void
keyword s.Char = Some k.Char
keyword s.Short = Some k.Short
keyword s.Int = Some k.Int
keyword s.Long = Some k.Long
keyword s.Signed = Some k.Signed
keyword s.Unsigned = Some k.Unsigned
keyword (s.Named name) = None
keyword (s.Tag' line kind) = None

-- a keyword that passes a test
abbrev pub passes : (Keyword → Bool) → Option Keyword → Bool
passes test None = false
passes test (Some keyword) = test keyword
