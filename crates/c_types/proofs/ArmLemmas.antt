-- What a type leaves to list: an array its elements, a struct or union its body.
use Rattle.std.proofs.Common.{◌≡◌, ◌==◌, ◌⊎◌, ◌≤◌, ◌<◌, ◌+◌, ◌-◌, ◌*◌, ◌/◌, ◌^◌, ℕ, zero, suc, List, [], ◌∷◌, ◌++◌, Option, Some, None, Bor, IfNone, IfSome, IsSome, drop, find, length, refl, ap, sym, subst, ◌∙◌, arith, add-suc, add-zero, inl, inr, length-append}
use Rattle.std.specs.List.{flat_map, range_with_len, All}
use Rattle.std.specs.Option.{option_map_or}
use Rattle.std.proofs.Math.Nat.{mul-div_cancel_left}
use Rattle.c_types.specs.declared.layouts.Layout.{Layout}
use Rattle.c_types.specs.declared.bodies.Body.{Body}
use Rattle.c_types.specs.declared.types.CType.{CType}
use Rattle.c_types.specs.declared.types.CType.TheVariants as c
use Rattle.c_types.specs.Types.{PlainType, Void, Int, Pointer, Array, Struct, Union, Function, plain}
use Rattle.c_types.specs.Layouts.{moved, layout_of, array_layout}
use Rattle.c_types.specs.TagTable.{TagTable, CompletedTag, known, layout_or, tag_layout}
use Rattle.c_types.specs.Bodies.{IsSized, IsBodyOf, completed_tag}
use Rattle.c_types.specs.Slots.{first_known}
use Rattle.c_types.specs.Listing.{EndsInTime, slots_at, type_work, members_work, tag_work}
use Rattle.c_types.proofs.ListLemmas.{array_fits, array_is, array_list, body_is, body_some, element_room, element_sized, first_sound, slots_fit, some_of, tag_known}

-- deeper structs come to no fewer parts
type_work_le : (v w : ℕ → ℕ) → ((tag : ℕ) → v tag ≤ w tag) → (type : PlainType) → type_work v type ≤ type_work w type
type_work_le v w le Void = omega arith
type_work_le v w le (Int int) = omega arith
type_work_le v w le (Pointer target) = omega arith
type_work_le v w le (Array element n) = let rest = type_work_le v w le element in omega arith
type_work_le v w le (Struct tag) = let here = le tag in omega arith
type_work_le v w le (Union tag) = let here = le tag in omega arith
type_work_le v w le (Function answer params) = omega arith

members_work_le : (v w : ℕ → ℕ) → ((tag : ℕ) → v tag ≤ w tag) → (ms : List (List ℕ × PlainType)) → members_work v ms ≤ members_work w ms
members_work_le v w le [] = omega arith
members_work_le v w le (m ∷ ms) = let one = type_work_le v w le m.1 in let rest = members_work_le v w le ms in omega arith

work_step : (tags : List CompletedTag) (deep tag : ℕ) → tag_work tags deep tag ≤ tag_work tags (suc deep) tag
work_step tags zero tag = omega arith
work_step tags (suc deep) tag =
    elim (find (λ (done : CompletedTag). done.tag == tag) tags)
    as (λ (o : Option CompletedTag). option_map_or (λ (done : CompletedTag). members_work (tag_work tags deep) done.members) o 0
    ≤ option_map_or (λ (done : CompletedTag). members_work (tag_work tags (suc deep)) done.members) o 0) [
      | None ↦ omega arith
      | Some done ↦ members_work_le (tag_work tags deep) (tag_work tags (suc deep)) (work_step tags deep) done.members
    ]

work_more : (tags : List CompletedTag) (place more tag : ℕ) → tag_work tags place tag ≤ tag_work tags (place + more) tag
work_more tags place zero tag = rw add-zero (omega arith)
work_more tags place (suc more) tag =
    rw add-suc (let rest = work_more tags place more tag in let step = work_step tags (place + more) tag in omega arith)

work_le : (tags : List CompletedTag) (place deep : ℕ) → place ≤ deep → (tag : ℕ) → tag_work tags place tag ≤ tag_work tags deep tag
work_le tags place deep h tag =
    let sum : place + (deep - place) ≡ deep = omega arith in
    subst (λ (n : ℕ). tag_work tags place tag ≤ tag_work tags n tag) sum (work_more tags place (deep - place) tag)

body_work : (tags : List CompletedTag) (first place tag : ℕ) (done : CompletedTag) → place < first → find (λ (d : CompletedTag). d.tag == tag) tags ≡ Some done →
    members_work (tag_work tags place) done.members ≤ tag_work tags first tag
body_work tags zero place tag done h e = absurd (omega arith)
body_work tags (suc deep) place tag done h e =
    rw e (members_work_le (tag_work tags place) (tag_work tags deep) (work_le tags place deep (omega arith)) done.members)

-- the premises at a tag
pub tag_some : {X : Type 0} (table : TagTable) (first tag : ℕ) (type : CType) (r : Option X) → IfNone r (known table.completed tag ≡ None) →
    IsSome (layout_of (first_known table first) (plain type)) → (type ≡ c.Struct tag) ⊎ (type ≡ c.Union tag) → IsSome r
tag_some table first tag type r none sized is =
    body_some table first tag _ r (tag_known (first_known table first) type tag is sized) none

pub record TagCase (table : TagTable) (first offset : ℕ) (type : CType) (place : ℕ) (b : Body) : Type 0 where
  pub room : offset + b.size ≤ 268435456
  pub slots : (layout_or (first_known table first) (plain type)).slots ≡ (tag_layout (first_known table place) (completed_tag b)).slots
  pub less : members_work (tag_work table.completed place) (completed_tag b).members < type_work (tag_work table.completed first) (plain type)

tag_is_work : (work : ℕ → ℕ) (type : CType) (tag : ℕ) → (type ≡ c.Struct tag) ⊎ (type ≡ c.Union tag) → type_work work (plain type) ≡ work tag + 1
tag_is_work work type tag (inl e) = rw e refl
tag_is_work work type tag (inr e) = rw e refl

pub tag_case : (table : TagTable) (first offset tag : ℕ) (type : CType) (r : Option (ℕ × Bor Body)) (x : ℕ × Bor Body) → r ≡ Some x →
    IfSome r (λ (y : ℕ × Bor Body). IsBodyOf table.completed tag y.0 y.1.now) → IsSome (layout_of (first_known table first) (plain type)) →
    offset + (layout_or (first_known table first) (plain type)).size ≤ 268435456 → (type ≡ c.Struct tag) ⊎ (type ≡ c.Union tag) →
    TagCase table first offset type x.0 x.1.now
tag_case table first offset tag type r x e found sized room is =
    let known_as = tag_known (first_known table first) type tag is sized in
    let body = some_of (λ (y : ℕ × Bor Body). IsBodyOf table.completed tag y.0 y.1.now) r x e found in
    let before : x.0 < first = body.before first (layout_or (first_known table first) (plain type)) known_as in
    let whole = body_is table first tag x.0 x.1.now _ known_as body in
    let size = body.placed.size in
    let parts = body_work table.completed first x.0 tag (completed_tag x.1.now) before body.first in
    let here = tag_is_work (tag_work table.completed first) type tag is in
    record {
      room = (let same = ap (λ (l : Layout). l.size) whole in omega arith);
      slots = ap (λ (l : Layout). l.slots) whole;
      less = omega arith;
    }

-- the premises at an array
pub record ElementsCase (table : TagTable) (first offset n size start : ℕ) (type element : PlainType) (slots : List ℕ) : Type 0 where
  pub ends : EndsInTime (first_known table first) offset element × (size ≡ (layout_or (first_known table first) element).size)
  pub copies : (start ≤ length (slots ++ slots_at (first_known table first) offset element)) × (0 < n) × (n * size < 2 ^ 32)
      × All (λ slot. slot + n * size < 2 ^ 32) (drop start (slots ++ slots_at (first_known table first) offset element))
  pub same : (slots ++ slots_at (first_known table first) offset element)
      ++ flat_map (λ k. moved (k * size) (drop start (slots ++ slots_at (first_known table first) offset element))) (range_with_len 1 (n - 1))
      ≡ slots ++ slots_at (first_known table first) offset type
  pub less : 1 + type_work (tag_work table.completed first) element < type_work (tag_work table.completed first) type

elements_at : (table : TagTable) (first offset n size start : ℕ) (element : PlainType) (slots : List ℕ) → (n ≡ 0 → ⊥) →
    IsSized (first_known table first) (Array element n) → offset + (layout_or (first_known table first) (Array element n)).size ≤ 268435456 →
    size ≡ (layout_or (first_known table first) element).size → start ≡ length slots → ElementsCase table first offset n size start (Array element n) element slots
elements_at table first offset n size start element slots some sized room each at =
    let k = first_known table first in
    let fit = array_fits k element n sized in
    let inner = element_sized k element n sized in
    let one = element_room k element n offset sized some room in
    let whole : layout_or k (Array element n) ≡ array_layout n (layout_or k element) = array_is k element n sized in
    let room_is : offset + n * (layout_or k element).size ≤ 268435456 = rw whole at room in
    record {
      ends = ((inner, one), each);
      copies = (
        simp length-append (omega arith),
        omega arith,
        rw each (omega arith),
        rw each (slots_fit (layout_or k element) offset (n * (layout_or k element).size) start 4294967296 slots _
            (first_sound table first element inner.0) at refl (omega arith)),
      );
      same = rw whole (array_list (layout_or k element) offset n start size slots _ _ some at each refl refl);
      less = omega arith;
    }

pub elements_case : (table : TagTable) (first offset n size start all : ℕ) (type element : PlainType) (slots : List ℕ) → (n ≡ 0 → ⊥) → type ≡ Array element n →
    IsSized (first_known table first) type → offset + (layout_or (first_known table first) type).size ≤ 268435456 →
    all ≡ (layout_or (first_known table first) type).size → size ≡ all / n → start ≡ length slots → ElementsCase table first offset n size start type element slots
elements_case table first offset n size start all type element slots some is sized room whole part at =
    let k = first_known table first in
    let P : PlainType → Type 0 = λ y. ElementsCase table first offset n size start y element slots in
    let S : PlainType → Type 0 = λ y. IsSized k y in
    let R : PlainType → Type 0 = λ y. offset + (layout_or k y).size ≤ 268435456 in
    let sized_is = subst S is sized in
    let all_is : all ≡ n * (layout_or k element).size =
    whole ∙ (ap (λ (y : PlainType). (layout_or k y).size) is ∙ ap (λ (l : Layout). l.size) (array_is k element n sized_is)) in
    let each : size ≡ (layout_or k element).size = part ∙ (ap (λ (m : ℕ). m / n) all_is ∙ mul-div_cancel_left (layout_or k element).size (omega arith)) in
    subst P (sym is) (elements_at table first offset n size start element slots some sized_is (subst R is room) each at)
