-- Which names are types at a place of a text (C99 6.2.1 and 6.7.7).
use Rattle.std.specs.Prelude.{ℕ, zero, suc, Bool, true, false, ◌||◌, if◌then◌else◌, bytes_eq, codes, List, [], ◌∷◌, Option, Some, None}
use Rattle.c_tree.specs.declared.word.Keyword.{Keyword}
use Rattle.c_tree.specs.declared.word.Keyword.TheVariants as k
use Rattle.c_tree.specs.Words.{Word, Key}
use Rattle.c_tree.specs.Words as w
use Rattle.c_tree.specs.Forms.{Form}
use Rattle.c_tree.specs.Forms as f
use Rattle.c_tree.specs.Places.{Place}
use Rattle.c_tree.specs.Places as p
use Rattle.c_tree.specs.Tree.{Tree, Trees, Leaf, At, Node, none, ◌▹◌, count}
use Rattle.c_tree.specs.Grammar.{Item, Says, Here, Part, shape}

-- a declaration of a name, and whether it is a typedef
pub record Known : Type 0 where
  pub name : List ℕ
  pub is_type : Bool

-- the declarations that hold at a place, the latest first, and whether the declaration that is being read is one of
-- typedef names
pub record Scope : Type 0 where
  pub names : List Known
  pub typedef : Bool

-- whether the latest declaration of a name is a typedef
unfoldable pub is_type : List Known → List ℕ → Bool
is_type [] name = false
is_type (known ∷ rest) name = if bytes_eq known.name name then known.is_type else is_type rest name

-- where a text begins: of the built-in names `size_t` is a type
abbrev pub first_scope : Scope
first_scope = record { names = record { name = codes "size_t"; is_type = true } ∷ []; typedef = false }

-- with one declaration more, where there is a name
abbrev pub declare : Option (List ℕ) → Bool → List Known → List Known
declare None is_type names = names
declare (Some name) is_type names = record { name = name; is_type = is_type } ∷ names

-- the first of two names
abbrev pub first_name : Option (List ℕ) → Option (List ℕ) → Option (List ℕ)
first_name None other = other
first_name (Some name) other = Some name

abbrev pub word_name : Word → Option (List ℕ)
word_name (w.Name bytes) = Some bytes
word_name _ = None

-- a form through which a declarator's name is reached
unfoldable pub leads_to_name : Form → Bool
leads_to_name (f.Pointer consts) = true
leads_to_name f.Direct = true
leads_to_name f.Parens = true
leads_to_name f.Declared = true
leads_to_name _ = false

unfoldable mutual
  -- the name of a declarator, and a token that is a name
  pub name_of : Tree → Option (List ℕ)
  name_of (Leaf word) = word_name word
  name_of (At line) = None
  name_of (Node form parts) = if leads_to_name form then name_among parts else None

  -- the first name of some parts
  pub name_among : Trees → Option (List ℕ)
  name_among none = None
  name_among (tree ▹ rest) = first_name (name_of tree) (name_among rest)

abbrev pub word_is_typedef : Word → Bool
word_is_typedef (Key k.Typedef) = true
word_is_typedef _ = false

-- whether `typedef` is one of the words of specs
unfoldable pub has_typedef : Trees → Bool
has_typedef none = false
has_typedef (Leaf word ▹ rest) = word_is_typedef word || has_typedef rest
has_typedef (tree ▹ rest) = has_typedef rest

-- how a node changes the scope, given the one behind its parts: statements with parts of their own, blocks, bodies and
-- parameter lists are scopes; specs with `typedef` say that their declaration is one of typedef names; the names of a
-- declarator, of a parameter and of an enumerator are declared at its end
unfoldable pub left : Form → Trees → Scope → Scope → Scope
left f.Body parts before inner = before
left f.Block parts before inner = before
left f.Delay parts before inner = before
left f.If parts before inner = before
left f.IfElse parts before inner = before
left f.While parts before inner = before
left f.Do parts before inner = before
left f.For parts before inner = before
left f.Switch parts before inner = before
left f.FunctionSuffix parts before inner = before
left f.Specs parts before inner =
    record { names = inner.names; typedef = has_typedef parts || before.typedef }
left f.Declared parts before inner =
    record { names = declare (name_among parts) before.typedef inner.names; typedef = before.typedef }
left f.Param parts before inner =
    record { names = declare (name_among parts) false inner.names; typedef = before.typedef }
left f.Enumerator parts before inner =
    record { names = declare (name_among parts) false inner.names; typedef = before.typedef }
left _ parts before inner = record { names = inner.names; typedef = before.typedef }

-- the places of the parts of a form
abbrev pub places : List Item → List Place
places [] = []
places (Says word ∷ items) = places items
places (Here ∷ items) = p.Line ∷ places items
places (Part place ∷ items) = place ∷ places items

-- a part of such a place is a scope of its own
unfoldable pub is_scope : Place → Bool
is_scope p.Branch = true
is_scope p.ClosedBranch = true
is_scope _ = false

unfoldable mutual
  -- the scope behind a tree
  pub after : Tree → Scope → Scope
  after (Leaf word) scope = scope
  after (At line) scope = scope
  after (Node form parts) scope = left form parts scope (after_all parts (places (shape form (count parts))) scope)

  -- the scope behind some parts of these places
  pub after_all : Trees → List Place → Scope → Scope
  after_all none ps scope = scope
  after_all (tree ▹ rest) [] scope = scope
  after_all (tree ▹ rest) (place ∷ ps) scope =
      after_all rest ps (if is_scope place then scope else after tree scope)

-- the parameters of the first suffix behind a name, where it is a parameter list
unfoldable pub suffix_params : Trees → Option Trees
suffix_params (Node f.Suffixes (Node f.FunctionSuffix (line ▹ params ▹ none) ▹ rest) ▹ none) = Some (params ▹ none)
suffix_params (Node f.Suffixes (Node f.VoidSuffix parts ▹ rest) ▹ none) = Some none
suffix_params _ = None

-- the first of two lists
abbrev pub first_list : Option Trees → Option Trees → Option Trees
first_list None other = other
first_list (Some parts) other = Some parts

unfoldable mutual
  -- the parameters of a declarator of which the layer next to its name is a parameter list
  pub params_of : Tree → Option Trees
  params_of (Leaf word) = None
  params_of (At line) = None
  params_of (Node form parts) = if leads_to_name form then params_among parts else None

  pub params_among : Trees → Option Trees
  params_among none = None
  params_among (Leaf word ▹ rest) = suffix_params rest
  params_among (At line ▹ rest) = params_among rest
  params_among (Node form parts ▹ rest) = first_list (params_of (Node form parts)) (params_among rest)

-- with the declarations of parameters, which the body of a function shares a scope with
abbrev pub with_params : Option Trees → Scope → Scope
with_params None scope = scope
with_params (Some params) scope = after_all params (p.Params ∷ []) scope
