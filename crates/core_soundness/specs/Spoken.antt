-- What is asked of an expression where it stands: it has lines, and `&` does not stand before a local in a register.
use Rattle.std.specs.Prelude.{◌≡◌, ◌⊎◌, ◌≤◌, ℕ, Bool, true, false, List, Option, Some, None}
use Rattle.c_tree.specs.declared.operator.UnaryOp.TheVariants as u
use Rattle.c_tree.specs.Forms.{Form}
use Rattle.c_tree.specs.Forms as f
use Rattle.c_tree.specs.Tree.{Tree, Trees, Leaf, At, Node, none, ◌▹◌}
use Rattle.c_decls.specs.Named as n
use Rattle.c_decls.specs.Named.{PlainNamed}
use Rattle.c_decls.specs.ScopeList.{ScopeList, found}
use Rattle.elaboration.specs.Addressed.{plain_name}

abbrev pub is_register : Option PlainNamed → Bool
is_register (Some (n.Register type i)) = true
is_register other = false

-- a name, where there is one, stands for no register
abbrev pub NoRegister : ScopeList → Option (List ℕ) → Type 0
NoRegister s None = Unit {0}
NoRegister s (Some name) = is_register (found s name) ≡ false

unfoldable pub TakesAddress : ScopeList → Form → Trees → Type 0
TakesAddress s (f.Unary u.Address) (line ▹ e ▹ none) = NoRegister s (plain_name e)
TakesAddress s other parts = Unit {0}

unfoldable mutual
  pub Spoken : ScopeList → Tree → Type 0
  Spoken s (Leaf word) = Unit {0}
  Spoken s (At line) = 1 ≤ line
  Spoken s (Node form parts) = TakesAddress s form parts × AllSpoken s parts

  pub AllSpoken : ScopeList → Trees → Type 0
  AllSpoken s none = Unit {0}
  AllSpoken s (tree ▹ rest) = Spoken s tree × AllSpoken s rest

-- a suffix that is a parameter list, and suffixes with one among them
abbrev pub IsList : Tree → Type 0
IsList (Node f.FunctionSuffix parts) = Unit {0}
IsList (Node f.VoidSuffix parts) = Unit {0}
IsList tree = ⊥

abbrev pub HasLists : Trees → Type 0
HasLists none = ⊥
HasLists (suffix ▹ rest) = IsList suffix ⊎ HasLists rest

-- a declarator has a parameter list
unfoldable pub HasParameters : Tree → Type 0
HasParameters (Node (f.Pointer consts) (At line ▹ declarator ▹ none)) = HasParameters declarator
HasParameters (Node f.Direct (base ▹ Node f.Suffixes suffixes ▹ none)) = HasParameters base ⊎ HasLists suffixes
HasParameters (Node f.Parens (At line ▹ declarator ▹ none)) = HasParameters declarator
HasParameters tree = ⊥

-- a definition of a function has a parameter list
abbrev pub IsDefinition : Tree → Type 0
IsDefinition (Node f.Function (line ▹ words ▹ Node f.Declared (declarator ▹ none) ▹ body ▹ none)) = HasParameters declarator
IsDefinition tree = Unit {0}
