-- What the list of the slots of a type is made of.
use Rattle.std.proofs.Common.{◌≡◌, ◌⊎◌, ◌≤◌, ◌<◌, ◌+◌, ◌-◌, ◌*◌, ℕ, suc, zero, List, [], ◌∷◌, ◌++◌, Option, Some, None, option_map, unwrap_or, map, take, drop, length, get_or, refl, ap, sym, subst, ◌∙◌, arith, inl, inr, IfNone, append_assoc, take_all, IsSome, IfSome}
use Rattle.std.specs.List.{flat_map, range_with_len, All}
use Rattle.std.proofs.lemmas.List.{map-append}
use Rattle.c_types.specs.declared.layouts.Layout.{Layout}
use Rattle.c_types.specs.declared.types.CType.{CType}
use Rattle.c_types.specs.declared.types.CType.TheVariants as c
use Rattle.c_types.specs.declared.bodies.Body.{Body}
use Rattle.c_types.specs.Types.{plain, PlainType, Void, Int, Pointer, Array, Struct, Union, Function}
use Rattle.c_types.specs.Layouts.{Known, AreSlots, IsSound, ArraysFit, array_layout, layout_of, no_layout, moved}
use Rattle.c_types.specs.TagTable.{TagTable, CompletedTag, known, layout_or, size_in, tag_layout}
use Rattle.c_types.proofs.PlacingLemmas.{unwrap_map}
use Rattle.c_types.specs.Bodies.{IsSized, IsBodyOf, completed_tag}
use Rattle.c_types.specs.Slots.{first_known}
use Rattle.c_types.specs.TagTableEquations.{Extends, layout_stays, sized_stays}
use Rattle.c_types.proofs.Places.{known_after_first}
use Rattle.c_types.proofs.Sound.{layout_sound, known_sound}
use Rattle.c_types.proofs.SlotLemmas.{repeats}

-- a layout that is there
pub the_layout : (k : Known) (type : PlainType) → IsSome (layout_of k type) → layout_of k type ≡ Some (layout_or k type)
the_layout k type s =
    elim (layout_of k type) as (λ o. IsSome o → o ≡ Some (unwrap_or o no_layout)) [ None ↦ λ h. cc | Some l ↦ λ h. refl ] s

pub fit_stays : (k more : Known) → Extends k more → (type : PlainType) → IsSized k type → ArraysFit more type
fit_stays k more x Void s = tt
fit_stays k more x (Int int) s = tt
fit_stays k more x (Pointer target) s = tt
fit_stays k more x (Array element n) s =
    elim (layout_of k element) as (λ o. layout_of k element ≡ o → IsSome (option_map (array_layout n) o) → ArraysFit k element × IfSome o (λ l. n * l.size ≤ 268435456) → ArraysFit more (Array element n)) [
      | None ↦ λ e some fit. cc
      | Some l ↦ λ e some fit.
          let sized : IsSized k element = (rw e refl, fit.0) in
          (fit_stays k more x element sized, rw (layout_stays k more x element l e) fit.1)
    ]
    refl
    s.0
    s.1
fit_stays k more x (Struct tag) s = tt
fit_stays k more x (Union tag) s = tt
fit_stays k more x (Function answer params) s = tt

pub first_extends : (table : TagTable) (n : ℕ) → Extends (first_known table n) (known table.completed)
first_extends table n tag l e = known_after_first (λ tag. None) table.completed n tag l e

-- what has a size among the first tags has it among all
pub first_sized : (table : TagTable) (n : ℕ) (type : PlainType) → IsSized (first_known table n) type → IsSized (known table.completed) type
first_sized table n type s = (
  subst (λ o. IsSome o) (sized_stays (first_known table n) (known table.completed) (first_extends table n) type s.0) s.0,
  fit_stays (first_known table n) (known table.completed) (first_extends table n) type s,
)

pub first_layout : (table : TagTable) (n : ℕ) (type : PlainType) → IsSized (first_known table n) type → layout_or (first_known table n) type ≡ layout_or (known table.completed) type
first_layout table n type s =
    ap (λ o. unwrap_or o no_layout) (sized_stays (first_known table n) (known table.completed) (first_extends table n) type s.0)

pub element_sized : (k : Known) (element : PlainType) (n : ℕ) → IsSized k (Array element n) → IsSized k element
element_sized k element n s =
    elim (layout_of k element) as (λ o. layout_of k element ≡ o → IsSome (option_map (array_layout n) o) → IsSized k element) [
      | None ↦ λ e some. cc
      | Some l ↦ λ e some. (rw e refl, s.1.0)
    ]
    refl
    s.0

pub array_is : (k : Known) (element : PlainType) (n : ℕ) → IsSized k (Array element n) → layout_or k (Array element n) ≡ array_layout n (layout_or k element)
array_is k element n s = rw (the_layout k element (element_sized k element n s).0) refl

pub array_fits : (k : Known) (element : PlainType) (n : ℕ) → IsSized k (Array element n) → n * (layout_or k element).size ≤ 268435456
array_fits k element n s =
    let there = the_layout k element (element_sized k element n s).0 in
    let fit : IfSome (layout_of k element) (λ l. n * l.size ≤ 268435456) = s.1.1 in
    rw there at fit

one_of : (n size offset bound : ℕ) → (n ≡ 0 → ⊥) → offset + n * size ≤ bound → offset + size ≤ bound
one_of zero size offset bound some h = absurd (some refl)
one_of (suc n) size offset bound some h = omega arith

pub element_room :
    (k : Known) (element : PlainType) (n offset : ℕ) → IsSized k (Array element n) → (n ≡ 0 → ⊥) →
    offset + (layout_or k (Array element n)).size ≤ 268435456 → offset + (layout_or k element).size ≤ 268435456
element_room k element n offset s some room =
    let is : offset + n * (layout_or k element).size ≤ 268435456 = rw (array_is k element n s) at room in
    one_of n (layout_or k element).size offset 268435456 some is

pub first_sound : (table : TagTable) (n : ℕ) (type : PlainType) → IsSome (layout_of (first_known table n) type) → IsSound (layout_or (first_known table n) type)
first_sound table n type s =
    layout_sound (first_known table n) (known_sound (take n table.completed)) type (layout_or (first_known table n) type) (the_layout (first_known table n) type s)

pub moved_zero : (ss : List ℕ) → moved 0 ss ≡ ss
moved_zero [] = refl
moved_zero (s ∷ ss) = let head : 0 + s ≡ s = omega arith in rw (head, moved_zero ss) refl

pub moved_swap : (a b : ℕ) (ss : List ℕ) → moved a (moved b ss) ≡ moved b (moved a ss)
moved_swap a b [] = refl
moved_swap a b (s ∷ ss) = let head : a + (b + s) ≡ b + (a + s) = omega arith in rw (head, moved_swap a b ss) refl

pub moved_both : (a b : ℕ) (ss : List ℕ) → moved a (moved b ss) ≡ moved (a + b) ss
moved_both a b [] = refl
moved_both a b (s ∷ ss) = let head : a + (b + s) ≡ a + b + s = omega arith in rw (head, moved_both a b ss) refl

moved_repeats : (offset size : ℕ) (ss r : List ℕ) →
    moved offset (flat_map (λ k. moved (k * size) ss) r) ≡ flat_map (λ k. moved (k * size) (moved offset ss)) r
moved_repeats offset size ss [] = refl
moved_repeats offset size ss (k ∷ r) =
    rw (map-append (λ s. offset + s) (moved (k * size) ss) (flat_map (λ k. moved (k * size) ss) r), moved_repeats offset size ss r, moved_swap offset (k * size) ss)
    refl

after_all : (old ys : List ℕ) → drop (length old) (old ++ ys) ≡ ys
after_all [] ys = refl
after_all (x ∷ xs) ys = after_all xs ys

pub drop_front : (old ys items : List ℕ) (start : ℕ) → start ≡ length old → items ≡ old ++ ys → drop start items ≡ ys
drop_front old ys items start h e = rw (h, e) (after_all old ys)

array_slots_are : (l : Layout) (offset n : ℕ) → (n ≡ 0 → ⊥) →
    moved offset l.slots ++ repeats l.size (moved offset l.slots) 1 (n - 1) ≡ moved offset (array_layout n l).slots
array_slots_are l offset zero some = absurd (some refl)
array_slots_are l offset (suc n) some =
    let less : suc n - 1 ≡ n = omega arith in
    let none : 0 * l.size ≡ 0 = omega arith in
    rw (
      less,
      map-append (λ s. offset + s) (moved (0 * l.size) l.slots) (flat_map (λ k. moved (k * l.size) l.slots) (range_with_len 1 n)),
      moved_repeats offset l.size l.slots (range_with_len 1 n),
      none,
      moved_zero l.slots,
    )
    refl

pub array_list :
    (l : Layout) (offset n start size : ℕ) (old items all : List ℕ) → (n ≡ 0 → ⊥) → start ≡ length old → size ≡ l.size →
    items ≡ old ++ moved offset l.slots → all ≡ items ++ repeats size (drop start items) 1 (n - 1) →
    all ≡ old ++ moved offset (array_layout n l).slots
array_list l offset n start size old items all some h s e is =
    let first : drop start items ≡ moved offset l.slots = drop_front old (moved offset l.slots) items start h e in
    is
    ∙ (ap (λ t. items ++ repeats size t 1 (n - 1)) first
    ∙ (ap (λ z. items ++ repeats z (moved offset l.slots) 1 (n - 1)) s
    ∙ (ap (λ t. t ++ repeats l.size (moved offset l.slots) 1 (n - 1)) e
    ∙ (append_assoc old (moved offset l.slots) (repeats l.size (moved offset l.slots) 1 (n - 1)) ∙ ap (λ t. old ++ t) (array_slots_are l offset n some)))))

moved_fit : (low high offset by bound : ℕ) (ss : List ℕ) → AreSlots low high ss → offset + high + by ≤ bound → (i d : ℕ) → i < length (moved offset ss) → get_or (moved offset ss) i d + by < bound
moved_fit low high offset by bound [] h b i d w = absurd (omega arith)
moved_fit low high offset by bound (s ∷ ss) h b zero d w = let ends = h.1 in omega arith
moved_fit low high offset by bound (s ∷ ss) h b (suc i) d w = moved_fit (s + 4) high offset by bound ss h.3 b i d (omega arith)

pub slots_fit :
    (l : Layout) (offset by start bound : ℕ) (old items : List ℕ) → IsSound l → start ≡ length old → items ≡ old ++ moved offset l.slots → offset + l.size + by ≤ bound →
    All (λ slot. slot + by < bound) (drop start items)
slots_fit l offset by start bound old items sound h e b =
    rw (drop_front old (moved offset l.slots) items start h e) (λ i d w. moved_fit 0 l.size offset by bound l.slots sound.slots b i d w)

-- the premises at an array
pub record ArrayCase (table : TagTable) (first offset : ℕ) (element : PlainType) (n : ℕ) : Type 0 where
  pub sized : IsSized (first_known table first) (Array element n)
  pub room : offset + (layout_or (first_known table first) (Array element n)).size ≤ 268435456

pub array_case :
    (table : TagTable) (first offset : ℕ) (type element : PlainType) (n : ℕ) → type ≡ Array element n → IsSized (first_known table first) type →
    offset + (layout_or (first_known table first) type).size ≤ 268435456 → ArrayCase table first offset element n
array_case table first offset type element n e s r =
    let P : PlainType → Type 0 = λ y. IsSized (first_known table first) y in
    let Q : PlainType → Type 0 = λ y. offset + (layout_or (first_known table first) y).size ≤ 268435456 in
    record { sized = subst P e s; room = subst Q e r }

-- the size that is asked for among all tags
pub element_size :
    (table : TagTable) (first : ℕ) (element : PlainType) (n size : ℕ) (r : Option ℕ) → IsSized (first_known table first) (Array element n) →
    r ≡ size_in table element → r ≡ Some size → size ≡ (layout_or (first_known table first) element).size
element_size table first element n size r s is e =
    let k = first_known table first in
    let same : layout_or k element ≡ layout_or (known table.completed) element = first_layout table first element (element_sized k element n s) in
    sym (ap (λ (l : Layout). l.size) same ∙ unwrap_map (λ (l : Layout). l.size) (layout_of (known table.completed) element) no_layout size (sym is ∙ e))

pub size_some : (k : Known) (type : PlainType) (r : Option ℕ) → IsSome (layout_of k type) → r ≡ option_map (λ (l : Layout). l.size) (layout_of k type) → IsSome r
size_some k type r s e = rw (e, the_layout k type s) refl

-- the premises at a tag
pub tag_layout_is : (k : Known) (type : CType) (tag : ℕ) → (type ≡ c.Struct tag) ⊎ (type ≡ c.Union tag) → layout_of k (plain type) ≡ k tag
tag_layout_is k type tag (inl e) = rw e refl
tag_layout_is k type tag (inr e) = rw e refl

pub tag_known :
    (k : Known) (type : CType) (tag : ℕ) → (type ≡ c.Struct tag) ⊎ (type ≡ c.Union tag) → IsSome (layout_of k (plain type)) →
    k tag ≡ Some (layout_or k (plain type))
tag_known k type tag is s = sym (tag_layout_is k type tag is) ∙ the_layout k (plain type) s

pub body_some :
    {X : Type 0} (table : TagTable) (first tag : ℕ) (l : Layout) (r : Option X) → first_known table first tag ≡ Some l → IfNone r (known table.completed tag ≡ None) → IsSome r
body_some table first tag l None e h = let some : known table.completed tag ≡ Some l = first_extends table first tag l e in cc
body_some table first tag l (Some x) e h = refl

pub some_of : {X : Type 0} (P : X → Type 0) (o : Option X) (x : X) → o ≡ Some x → IfSome o P → P x
some_of P None x e h = cc
some_of P (Some y) x e h = let same : y ≡ x = cc in subst P same h

pub body_is :
    (table : TagTable) (first tag place : ℕ) (b : Body) (l : Layout) → first_known table first tag ≡ Some l → IsBodyOf table.completed tag place b →
    l ≡ tag_layout (first_known table place) (completed_tag b)
body_is table first tag place b l e h =
    let some : known table.completed tag ≡ Some l = first_extends table first tag l e in
    let found : known table.completed tag ≡ Some (tag_layout (first_known table place) (completed_tag b)) = h.found in
    let both : Some l ≡ Some (tag_layout (first_known table place) (completed_tag b)) = sym some ∙ found in
    cc

tags_len : (ds : List CompletedTag) → length (map (λ (done : CompletedTag). done.tag) ds) ≡ length ds
tags_len [] = refl
tags_len (d ∷ ds) = ap suc (tags_len ds)

-- as many first tags as there are
pub all_tags : (table : TagTable) (tags : List ℕ) → tags ≡ map (λ (done : CompletedTag). done.tag) table.completed → first_known table (length tags) ≡ known table.completed
all_tags table tags e =
    let len : length table.completed ≤ length tags = omega (arith, ap length e, tags_len table.completed) in
    ap known (take_all (length tags) table.completed len)

pub layout_parts :
    (k : Known) (type : PlainType) (size align : ℕ) (slots : List ℕ) → option_map (λ (l : Layout). l.size) (layout_of k type) ≡ Some size →
    option_map (λ (l : Layout). l.align) (layout_of k type) ≡ Some align → slots ≡ (layout_or k type).slots →
    layout_of k type ≡ Some (record { size = size; align = align; slots = slots })
layout_parts k type size align slots =
    elim (layout_of k type) as (λ (o : Option Layout). option_map (λ (l : Layout). l.size) o ≡ Some size → option_map (λ (l : Layout). l.align) o ≡ Some align → slots ≡ (unwrap_or o no_layout).slots →
    o ≡ Some (record { size = size; align = align; slots = slots })) [
      | None ↦ λ a b e. cc
      | Some l ↦ λ a b e.
          let size_is : l.size ≡ size = cc in
          let align_is : l.align ≡ align = cc in
          rw (← size_is, ← align_is, e) refl
    ]
