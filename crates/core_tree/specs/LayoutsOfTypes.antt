-- Layouts that types have.
use Rattle.std.specs.Prelude.{◌≡◌, ◌≢◌, List, [], ◌∷◌, All, None, Some, IsSome}
use Rattle.c_types.specs.declared.layouts.Layout.{Layout}
use Rattle.c_types.specs.Types.{PlainType}
use Rattle.c_types.specs.Layouts.{Known, ArraysFit, layout_of}
use Rattle.c_types.specs.TagTable.{CompletedTag, known, learn, refusal}

-- a type has a layout, and no array inside it is larger than an object may be
abbrev pub HasLayout : Known → PlainType → Type 0
HasLayout known type = IsSome (layout_of known type) × ArraysFit known type

-- a tag is completed once, with members that have layouts, and nothing refuses them
pub record IsCompleted (known : Known) (new : CompletedTag) : Type 0 where
  pub once : known new.tag ≡ None
  pub some : new.members ≢ []
  pub members : All (λ m. HasLayout known m.1) new.members
  pub kept : refusal known new ≡ None

-- tags are completed in this order, each by what is known of those before it
abbrev pub AreCompleted : Known → List CompletedTag → Type 0
AreCompleted known [] = Unit {0}
AreCompleted known (new ∷ tags) = IsCompleted known new × AreCompleted (learn known new) tags

-- some type over some tags has this layout
pub record IsLayoutOfType (l : Layout) : Type 0 where
  pub tags : List CompletedTag
  pub completed : AreCompleted (λ tag. None) tags
  pub type : PlainType
  pub fits : ArraysFit (known tags) type
  pub layout : layout_of (known tags) type ≡ Some l
