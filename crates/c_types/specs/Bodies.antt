-- What `Tags` keeps: the bodies of the completed tags, with sizes, alignments and offsets as their layouts have them.
use Rattle.std.specs.Prelude.{◌≡◌, ◌==◌, ◌≤◌, ◌<◌, ℕ, suc, List, [], ◌∷◌, map, cond, find, take, IsTrue, IsSome, Option, Some, None, option_map, option_and_then, slice_get}
use Rattle.std.specs.List.{AllByRecursion}
use Rattle.c_types.specs.declared.layouts.Layout.{Layout}
use Rattle.c_types.specs.declared.bodies.Body.{Body}
use Rattle.c_types.specs.declared.bodies.Member.{Member}
use Rattle.c_types.specs.declared.tags.Made.{Made}
use Rattle.c_types.specs.declared.tags.Tags.TheInside.{Inside}
use Rattle.c_types.specs.Types.{PlainType, plain}
use Rattle.c_types.specs.Layouts.{Known, IsAlignment, ArraysFit, layout_of, placed, keeps_union_rule}
use Rattle.c_types.specs.TagTable.{CompletedTag, TagTable, member_layout, tag_layout, learn, known}

abbrev pub completed_tag : Body → CompletedTag
completed_tag b = record { tag = b.tag; is_union = b.is_union; members = map (λ m. (m.name, plain m.ty)) b.members }

abbrev pub table_of : Inside → TagTable
table_of t = record { made = map (λ (m : Made). m.info) t.made.items; completed = map completed_tag t.bodies.items }

-- a type with a size that is not too large
abbrev pub IsSized : Known → PlainType → Type 0
IsSized known type = IsSome (layout_of known type) × ArraysFit known type

-- the numbers of a body are those of its layout
pub record IsPlaced (known : Known) (b : Body) : Type 0 where
  pub sized : AllByRecursion (λ (m : Member). IsSized known (plain m.ty)) b.members
  pub offsets : map (λ (m : Member). m.offset) b.members
      ≡ map (λ p. p.0) (placed b.is_union (map (member_layout known) (completed_tag b).members)).members
  pub size : b.size ≡ (tag_layout known (completed_tag b)).size
  pub align : b.align ≡ (tag_layout known (completed_tag b)).align
  pub aligned : IsAlignment b.align
  pub limit : b.size ≤ 268435456

abbrev pub KeepsRule : Known → Body → Type 0
KeepsRule known b = IsTrue b.is_union → IsTrue (keeps_union_rule (map (member_layout known) (completed_tag b).members))

-- each body is laid out by what is known before it
abbrev pub AllLaid : Known → List Body → Type 0
AllLaid known [] = Unit {0}
AllLaid known (b ∷ bs) = (IsPlaced known b × KeepsRule known b) × AllLaid (learn known (completed_tag b)) bs

-- the place of the first body with that tag
abbrev pub place_in : ℕ → List Body → Option ℕ
place_in tag [] = None
place_in tag (b ∷ bs) = cond (b.tag == tag) (Some 0) (option_map suc (place_in tag bs))

pub record IsConsistent (t : Inside) : Type 0 where
  pub order : t.completed.items ≡ map (λ (b : Body). b.tag) t.bodies.items
  pub places : (tag : ℕ) → option_and_then (λ (m : Made). m.place) (slice_get t.made.items tag) ≡ place_in tag t.bodies.items
  pub laid : AllLaid (λ tag. None) t.bodies.items

-- the body of a tag, and what is known of it
pub record IsBodyOf (completed : List CompletedTag) (tag place : ℕ) (b : Body) : Type 0 where
  pub found : known completed tag ≡ Some (tag_layout (known (take place completed)) (completed_tag b))
  pub stands : slice_get completed place ≡ Some (completed_tag b)
  pub first : find (λ (done : CompletedTag). done.tag == tag) completed ≡ Some (completed_tag b)
  pub placed : IsPlaced (known (take place completed)) b
  pub rule : KeepsRule (known (take place completed)) b
  pub before : (n : ℕ) (l : Layout) → known (take n completed) tag ≡ Some l → place < n
