-- Words that stand alone.
use Rattle.std.specs.Prelude.{ℕ, Bool, true, false, cond, List, [], ◌∷◌, Option, Some, None, Ok}
use Rattle.c_types.specs.Types.{PlainType, Struct, Union}
use Rattle.c_tree.specs.declared.word.Keyword.{Keyword}
use Rattle.c_tree.specs.declared.word.Keyword.TheVariants as k
use Rattle.c_tree.specs.declared.operator.RecordSort.{RecordSort}
use Rattle.c_tree.specs.declared.operator.RecordSort.TheVariants as r
use Rattle.c_tree.specs.declared.tree.Spec.{Spec}
use Rattle.c_tree.specs.declared.tree.Spec.TheVariants as s
use Rattle.c_tree.specs.declared.tree.Tag.{Tag}
use Rattle.c_decls.specs.declared.refusal.TypeKind.TheVariants.{DeclaredTwice}
use Rattle.c_decls.specs.Named as n
use Rattle.c_decls.specs.Named.{PlainNamed}
use Rattle.c_decls.specs.Refusals.{refused}
use Rattle.elaboration.specs.Context.{Context, With}

-- the tag that is the only one of some words
abbrev pub lone_tag : List Spec → Option Tag
lone_tag (s.Tag' line kind ∷ []) = Some (record { line = line; kind = kind })
lone_tag words = None

abbrev pub is_typedef_word : Keyword → Bool
is_typedef_word k.Typedef = true
is_typedef_word keyword = false

-- under the name of a tag something else is declared
abbrev pub is_no_tag : Option PlainNamed → Bool
is_no_tag None = false
is_no_tag (Some (n.Tag type)) = false
is_no_tag (Some other) = true

-- whether a type is a struct or union of that sort
abbrev pub is_of_sort : RecordSort → PlainType → Bool
is_of_sort r.Struct (Struct tag) = true
is_of_sort r.Union (Union tag) = true
is_of_sort sort type = false

-- a struct or union of that sort, or the refusal of one of the other sort
abbrev pub of_sort : ℕ → RecordSort → Context → PlainType → With PlainType
of_sort line sort c type = cond (is_of_sort sort type) (Ok (c, type)) (refused DeclaredTwice line)
