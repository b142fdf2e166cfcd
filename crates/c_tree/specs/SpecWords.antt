-- Single words among specs (C99 6.7.1).
use Rattle.std.specs.Prelude.{Bool, true, false, ◌||◌}
use Rattle.c_tree.specs.declared.tree.Spec.{Spec}
use Rattle.c_tree.specs.declared.tree.Spec.TheVariants as c
use Rattle.c_tree.specs.declared.word.Keyword.TheVariants as k
use Rattle.c_tree.specs.Tree.{Trees, Leaf, none, ◌▹◌}
use Rattle.c_tree.specs.Words.{Word, Key}

abbrev pub is_static_word : Word → Bool
is_static_word (Key k.Static) = true
is_static_word word = false

-- whether `static` is one of the words of specs
unfoldable pub has_static : Trees → Bool
has_static none = false
has_static (Leaf word ▹ rest) = is_static_word word || has_static rest
has_static (tree ▹ rest) = has_static rest

-- the same of a word of the code
abbrev pub is_static_spec : Spec → Bool
is_static_spec c.Static = true
is_static_spec _ = false

abbrev pub is_typedef_spec : Spec → Bool
is_typedef_spec c.Typedef = true
is_typedef_spec _ = false
