-- Types that objects have or point to: each array inside has at least one element, of a known size, and is no larger than
-- an object may be.
use Rattle.std.specs.Prelude.{◌≡◌, ◌≤◌, ◌*◌, ℕ, List, [], ◌∷◌, Some, IsSome}
use Rattle.c_types.specs.declared.layouts.Layout.{Layout}
use Rattle.c_types.specs.Types.{PlainType, PlainTypes, Void, Int, Pointer, Array, Struct, Union, Function, none, first}
use Rattle.c_types.specs.Layouts.{Known, layout_of}
use Rattle.c_types.specs.TagTable.{CompletedTag, learn}
use Rattle.core_tree.specs.LayoutsOfTypes.{IsCompleted}
use Rattle.core_tree.specs.Sound.{IsNumber}
use Rattle.c_decls.specs.Named as n
use Rattle.c_decls.specs.Named.{PlainNamed}
use Rattle.c_decls.specs.ScopeList.{Table, ScopeList}
use Rattle.core_soundness.specs.Fitting.{TableFits, ScopesFit}

-- so many elements of a type make an object
abbrev pub IsRow : Known → PlainType → ℕ → Type 0
IsRow k element length = (l : Layout) × (layout_of k element ≡ Some l) × (length * l.size ≤ 268435456) × (1 ≤ length)

-- whole types, and whole parameters
abbrev mutual
  pub Whole : Known → PlainType → Type 0
  Whole k Void = Unit {0}
  Whole k (Int ty) = Unit {0}
  Whole k (Pointer target) = Whole k target
  Whole k (Array element length) = Whole k element × IsRow k element length
  Whole k (Struct tag) = Unit {0}
  Whole k (Union tag) = Unit {0}
  Whole k (Function answer params) = Whole k answer × AllWhole k params

  pub AllWhole : Known → PlainTypes → Type 0
  AllWhole k none = Unit {0}
  AllWhole k (first type rest) = Whole k type × AllWhole k rest

-- members of such types, whose sizes are known
abbrev pub MembersWhole : Known → List (List ℕ × PlainType) → Type 0
MembersWhole k [] = Unit {0}
MembersWhole k (m ∷ ms) = (Whole k m.1 × IsSome (layout_of k m.1)) × MembersWhole k ms

-- tags are completed in this order, with such members
abbrev pub AreMade : Known → List CompletedTag → Type 0
AreMade k [] = Unit {0}
AreMade k (new ∷ tags) = (IsCompleted k new × MembersWhole k new.members) × AreMade (learn k new) tags

-- a name has such a type, and a constant is a number that a register can hold
abbrev pub NamedWhole : Known → PlainNamed → Type 0
NamedWhole k (n.Object type i) = Whole k type
NamedWhole k (n.Register type i) = Whole k type
NamedWhole k (n.Function type i) = Whole k type
NamedWhole k (n.Typedef type) = Whole k type
NamedWhole k (n.Constant type value) = IsNumber value
NamedWhole k (n.BuiltIn i) = Unit {0}
NamedWhole k (n.Tag type) = Unit {0}

-- so has each name of a table, and of scopes
abbrev pub TableWhole : Known → Table → Type 0
TableWhole k table = TableFits (NamedWhole k) table

abbrev pub NamesWhole : Known → ScopeList → Type 0
NamesWhole k s = ScopesFit (NamedWhole k) (NamedWhole k) s
