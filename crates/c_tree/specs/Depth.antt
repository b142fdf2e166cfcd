-- How deep a tree is: the greatest number of statements, expressions, layers of declarators, tags with braces, lists of
-- initializers and bodies of functions on a path down.
use Rattle.std.specs.Prelude.{ℕ, ◌+◌, Bool, true, false, if◌then◌else◌, max}
use Rattle.c_tree.specs.Forms.{Form}
use Rattle.c_tree.specs.Forms as f
use Rattle.c_tree.specs.Places.{Place, Expression}
use Rattle.c_tree.specs.Places as p
use Rattle.c_tree.specs.Grammar.{form_home}
use Rattle.c_tree.specs.Tree.{Tree, Trees, Leaf, At, Node, none, ◌▹◌}

-- a form that a declarator is made of, from its first layer to its name and its suffixes
unfoldable pub is_of_declarator : Form → Bool
is_of_declarator (f.Pointer consts) = true
is_of_declarator f.Direct = true
is_of_declarator f.Nothing = true
is_of_declarator f.Parens = true
is_of_declarator f.Suffixes = true
is_of_declarator f.ArraySuffix = true
is_of_declarator f.FunctionSuffix = true
is_of_declarator f.VoidSuffix = true
is_of_declarator _ = false

-- a layer of a declarator counts one: a pointer, parentheses, a suffix
unfoldable pub layer : Form → ℕ
layer (f.Pointer consts) = 1
layer f.Parens = 1
layer f.ArraySuffix = 1
layer f.FunctionSuffix = 1
layer f.VoidSuffix = 1
layer _ = 0

-- a node of a place counts one where it is a statement or an expression, or else nothing
abbrev pub place_weight : Place → ℕ
place_weight p.Statement = 1
place_weight (Expression level) = 1
place_weight _ = 0

-- what a node that is of no declarator counts: a declaration in a block, a body, a tag with braces, a list of
-- initializers, a statement and an expression one each
unfoldable pub weight : Form → ℕ
weight f.Local = 1
weight f.Body = 1
weight (f.RecordBody sort) = 1
weight (f.EnumBody trailing) = 1
weight (f.InitList trailing) = 1
weight form = place_weight (form_home form)

unfoldable mutual
  -- how many layers a declarator has
  pub layers : Tree → ℕ
  layers (Leaf word) = 0
  layers (At line) = 0
  layers (Node form parts) = if is_of_declarator form then layer form + layers_all parts else 0

  pub layers_all : Trees → ℕ
  layers_all none = 0
  layers_all (tree ▹ rest) = layers tree + layers_all rest

unfoldable mutual
  -- how deep a tree is without its own layers
  pub below : Tree → ℕ
  below (Leaf word) = 0
  below (At line) = 0
  below (Node form parts) = if is_of_declarator form then greatest_below parts else weight form + greatest_depth parts

  -- the greatest of the parts, without layers
  pub greatest_below : Trees → ℕ
  greatest_below none = 0
  greatest_below (tree ▹ rest) = max (below tree) (greatest_below rest)

  -- the greatest depth of the parts; all layers of a declarator lie on each path through it
  pub greatest_depth : Trees → ℕ
  greatest_depth none = 0
  greatest_depth (tree ▹ rest) = max (layers tree + below tree) (greatest_depth rest)

-- how deep a tree is
abbrev pub depth : Tree → ℕ
depth tree = layers tree + below tree

-- the greatest depth
abbrev pub most : ℕ
most = 400
