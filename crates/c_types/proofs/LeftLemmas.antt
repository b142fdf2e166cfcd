-- Parts whose slots are left to list.
use Rattle.std.proofs.Common.{◌≡◌, ◌==◌, IsSomeAnd, slice_get, ◌⊎◌, inl, inr, Bool, true, false, ◌≤◌, ◌<◌, ◌+◌, ◌-◌, ℕ, zero, suc, List, [], ◌∷◌, ◌++◌, Option, Some, take, take_all, drop, get_or, length, refl, ap, sym, subst, ◌∙◌, arith, append_assoc}
use borrow.Author.Tests.{eqb-true}
use Rattle.std.specs.List.{flat_map, AllByRecursion}
use Rattle.c_types.specs.declared.layouts.Layout.{Layout}
use Rattle.c_types.specs.declared.bodies.Member.{Member}
use Rattle.c_types.specs.declared.bodies.Body.{Body}
use Rattle.c_types.specs.declared.listing.Left.{Left}
use Rattle.c_types.specs.declared.listing.Listing.{Listing}
use Rattle.c_types.specs.Types.{PlainType, plain}
use Rattle.c_types.specs.Layouts.{Known, no_layout, layout_of, moved}
use Rattle.c_types.specs.TagTable.{TagTable, known, layout_or, size_in, tag_layout}
use Rattle.c_types.specs.Bodies.{IsSized, IsPlaced, KeepsRule, completed_tag}
use Rattle.c_types.specs.Placing.{pairs_of}
use Rattle.c_types.specs.Slots.{first_known, IsLargest}
use Rattle.c_types.proofs.ListLemmas.{first_layout, moved_both}
use Rattle.c_types.proofs.BodyLemmas.{largest_case, some_within, Fits, member_part, members_inside, struct_slots}
use Rattle.std.proofs.lemmas.List.{map-append}
use Rattle.c_types.proofs.PlacingLemmas.{unwrap_map}
use Rattle.c_types.specs.Listing.{listed, all_listed, IsListable, AreListable, work_of, work, type_work, tag_work, members_work, EndsInTime, slots_at, member_slots_at, IsListed, CanList}

pub push_listed : (table : TagTable) (parts : List Left) (part : Left) (slots : List ℕ) →
    all_listed table (parts ++ part ∷ []) slots ≡ all_listed table parts (listed table part slots)
push_listed table [] part slots = refl
push_listed table (p ∷ parts) part slots = ap (listed table p) (push_listed table parts part slots)

pub push_listable : (table : TagTable) (parts : List Left) (part : Left) (slots : List ℕ) →
    AreListable table parts (listed table part slots) → IsListable table part slots → AreListable table (parts ++ part ∷ []) slots
push_listable table [] part slots all one = (tt, one)
push_listable table (p ∷ parts) part slots all one =
    (push_listable table parts part slots all.0 one, subst (IsListable table p) (sym (push_listed table parts part slots)) all.1)

pub push_work : (table : TagTable) (parts : List Left) (part : Left) → work table (parts ++ part ∷ []) ≡ work table parts + work_of table part
push_work table [] part = omega arith
push_work table (p ∷ parts) part = let rest = push_work table parts part in omega arith

-- the last part is the next
pub pop_listable : (table : TagTable) (parts : List Left) (part : Left) (slots : List ℕ) →
    AreListable table (parts ++ part ∷ []) slots → AreListable table parts (listed table part slots) × IsListable table part slots
pop_listable table [] part slots all = (tt, all.1)
pop_listable table (p ∷ parts) part slots all =
    let rest = pop_listable table parts part slots all.0 in
    ((rest.0, subst (IsListable table p) (push_listed table parts part slots) all.1), rest.1)

-- a part of which nothing is left
pub none_left : (table : TagTable) (next : Left) (old new : Listing) → CanList table next old → new.left.items ≡ old.left.items →
    new.slots.items ≡ listed table next old.slots.items → 0 < work_of table next → IsListed table next old new
none_left table next old new can parts slots more =
    record {
      listable = rw (parts, slots) can.1;
      all = rw (parts, slots) refl;
      less = rw parts (omega arith);
    }

-- a part in whose place another one is left
pub one_left : (table : TagTable) (next part : Left) (old new : Listing) → CanList table next old → new.left.items ≡ old.left.items ++ part ∷ [] →
    new.slots.items ≡ old.slots.items → listed table part old.slots.items ≡ listed table next old.slots.items →
    IsListable table part old.slots.items → work_of table part < work_of table next → IsListed table next old new
one_left table next part old new can parts slots same one less =
    let all : AreListable table old.left.items (listed table part old.slots.items) = subst (AreListable table old.left.items) (sym same) can.1 in
    let sum = push_work table old.left.items part in
    record {
      listable = rw (parts, slots) (push_listable table old.left.items part old.slots.items all one);
      all = rw (parts, slots) (push_listed table old.left.items part old.slots.items ∙ ap (all_listed table old.left.items) same);
      less = rw parts (omega arith);
    }

-- a part in whose place two are left
pub two_left : (table : TagTable) (next then part : Left) (old new : Listing) (most : List Left) → CanList table next old →
    most ≡ old.left.items ++ then ∷ [] → new.left.items ≡ most ++ part ∷ [] → new.slots.items ≡ old.slots.items →
    listed table then (listed table part old.slots.items) ≡ listed table next old.slots.items →
    IsListable table part old.slots.items → IsListable table then (listed table part old.slots.items) →
    work_of table then + work_of table part < work_of table next → IsListed table next old new
two_left table next then part old new most can sooner later slots same one other less =
    let parts : new.left.items ≡ (old.left.items ++ then ∷ []) ++ part ∷ [] = later ∙ ap (λ (t : List Left). t ++ part ∷ []) sooner in
    let all : AreListable table old.left.items (listed table then (listed table part old.slots.items)) =
    subst (AreListable table old.left.items) (sym same) can.1 in
    let both = push_listable table old.left.items then (listed table part old.slots.items) all other in
    let sum = push_work table old.left.items then in
    let sums = push_work table (old.left.items ++ then ∷ []) part in
    record {
      listable = rw (parts, slots) (push_listable table (old.left.items ++ then ∷ []) part old.slots.items both one);
      all =
          rw (parts, slots)
          (push_listed table (old.left.items ++ then ∷ []) part old.slots.items
          ∙ (push_listed table old.left.items then (listed table part old.slots.items) ∙ ap (all_listed table old.left.items) same));
      less = rw parts (omega arith);
    }

-- the size that is asked for among all tags
pub size_is : (table : TagTable) (first : ℕ) (type : PlainType) (size : ℕ) (r : Option ℕ) → IsSized (first_known table first) type →
    r ≡ size_in table type → r ≡ Some size → size ≡ (layout_or (first_known table first) type).size
size_is table first type size r sized is e =
    sym
    (ap (λ (l : Layout). l.size) (first_layout table first type sized)
    ∙ unwrap_map (λ (l : Layout). l.size) (layout_of (known table.completed) type) no_layout size (sym is ∙ e))

-- all but the first
abbrev rest_of : List Member → List Member
rest_of xs = take (length xs - 1) (drop 1 xs)

front : (xs : List Member) (m : Member) → m ≡ get_or xs 0 m → 1 ≤ length xs → xs ≡ m ∷ rest_of xs
front [] m e h = absurd (omega arith)
front (x ∷ xs) m e h = ap (λ y. y ∷ xs) (sym e) ∙ ap (λ ys. m ∷ ys) (sym (take_all (length (x ∷ xs) - 1) xs (omega arith)))

-- what is known of the first member that is left, and of the others
pub record FrontCase (k : Known) (offset : ℕ) (work : ℕ → ℕ) (xs rest : List Member) (m : Member) : Type 0 where
  pub one : EndsInTime k (offset + m.offset) (plain m.ty)
  pub others : AllByRecursion (λ (x : Member). EndsInTime k (offset + x.offset) (plain x.ty)) rest
  pub slots : (slots : List ℕ) →
      (slots ++ member_slots_at k offset m) ++ flat_map (member_slots_at k offset) rest ≡ slots ++ flat_map (member_slots_at k offset) xs
  pub less : members_work work (pairs_of rest) + type_work work (plain m.ty) < members_work work (pairs_of xs)

front_of : (k : Known) (offset : ℕ) (work : ℕ → ℕ) (ms : List Member) (m : Member) →
    AllByRecursion (λ (x : Member). EndsInTime k (offset + x.offset) (plain x.ty)) (m ∷ ms) → FrontCase k offset work (m ∷ ms) ms m
front_of k offset work ms m all = record {
  one = all.0;
  others = all.1;
  slots = λ slots. append_assoc slots (member_slots_at k offset m) (flat_map (member_slots_at k offset) ms);
  less = omega arith;
}

pub front_case : (k : Known) (offset : ℕ) (work : ℕ → ℕ) (xs : List Member) (m : Member) → m ≡ get_or xs 0 m → 1 ≤ length xs →
    AllByRecursion (λ (x : Member). EndsInTime k (offset + x.offset) (plain x.ty)) xs → FrontCase k offset work xs (rest_of xs) m
front_case k offset work xs m e h all =
    let is = front xs m e h in
    subst (λ (ys : List Member). FrontCase k offset work ys (rest_of xs) m) (sym is)
    (front_of k offset work (rest_of xs) m (subst (λ (ys : List Member). AllByRecursion (λ (x : Member). EndsInTime k (offset + x.offset) (plain x.ty)) ys) is all))

-- what is known where members are left in place of their struct or union
pub record MembersCase (k : Known) (offset : ℕ) (b : Body) : Type 0 where
  pub listable : AllByRecursion (λ (m : Member). EndsInTime k (offset + m.offset) (plain m.ty)) b.members
  pub slots : (slots : List ℕ) → slots ++ flat_map (member_slots_at k offset) b.members ≡ slots ++ moved offset (tag_layout k (completed_tag b)).slots

ends_in_time : (k : Known) (offset size : ℕ) (ms : List Member) → offset + size ≤ 268435456 → AllByRecursion (λ (m : Member). IsSized k (plain m.ty)) ms →
    AllByRecursion (Fits k size) ms → AllByRecursion (λ (m : Member). EndsInTime k (offset + m.offset) (plain m.ty)) ms
ends_in_time k offset size [] room sized fits = tt
ends_in_time k offset size (m ∷ ms) room sized fits =
    ((sized.0, (let fit = fits.0 in omega arith)), ends_in_time k offset size ms room sized.1 fits.1)

members_moved : (k : Known) (offset : ℕ) (ms : List Member) → flat_map (member_slots_at k offset) ms ≡ moved offset (flat_map (member_part k) ms)
members_moved k offset [] = refl
members_moved k offset (m ∷ ms) =
    ap (λ l. member_slots_at k offset m ++ l) (members_moved k offset ms)
    ∙ (ap (λ l. l ++ moved offset (flat_map (member_part k) ms)) (sym (moved_both offset m.offset (layout_or k (plain m.ty)).slots))
    ∙ sym (map-append (λ s. offset + s) (member_part k m) (flat_map (member_part k) ms)))

no_members : (k : Known) (b : Body) (u : Bool) → b.is_union ≡ u → b.members ≡ [] → (tag_layout k (completed_tag b)).slots ≡ []
no_members k b true u e = rw (u, e) refl
no_members k b false u e = rw (u, e) refl

body_slots : (k : Known) (b : Body) → IsPlaced k b → (b.is_union ≡ false) ⊎ (b.members ≡ []) →
    flat_map (member_part k) b.members ≡ (tag_layout k (completed_tag b)).slots
body_slots k b h (inl u) = sym (struct_slots k b h u)
body_slots k b h (inr e) = rw (no_members k b b.is_union refl e, e) refl

pub members_case : (k : Known) (offset : ℕ) (b : Body) → IsPlaced k b → offset + b.size ≤ 268435456 →
    (b.is_union ≡ false) ⊎ (b.members ≡ []) → MembersCase k offset b
members_case k offset b h room why = record {
  listable = ends_in_time k offset b.size b.members room h.sized (members_inside k b h);
  slots = λ slots. ap (λ l. slots ++ l) (members_moved k offset b.members ∙ ap (moved offset) (body_slots k b h why));
}

-- no member comes to more parts than all
pub member_work : (work : ℕ → ℕ) (ms : List Member) (i : ℕ) (m : Member) → i < length ms → m ≡ get_or ms i m →
    type_work work (plain m.ty) ≤ members_work work (pairs_of ms)
member_work work [] i m h e = absurd (omega arith)
member_work work (x ∷ xs) zero m h e = let same = ap (λ (y : Member). type_work work (plain y.ty)) e in omega arith
member_work work (x ∷ xs) (suc i) m h e = let rest = member_work work xs i m (omega arith) e in omega arith

nothing : (xs : List Member) → (length xs == 0) ≡ true → xs ≡ []
nothing [] h = refl
nothing (x ∷ xs) h = absurd (omega (arith, eqb-true (length (x ∷ xs)) 0 h))

pub no_items : (items all : List Member) → items ≡ all → (length items == 0) ≡ true → all ≡ []
no_items items all e h = subst (λ (xs : List Member). xs ≡ []) e (nothing items h)

-- what is known where the largest member is left in place of its union
pub record LargestLeft (table : TagTable) (first offset : ℕ) (b : Body) (m : Member) : Type 0 where
  pub ends : EndsInTime (first_known table first) offset (plain m.ty)
  pub slots : (slots : List ℕ) →
      slots ++ slots_at (first_known table first) offset (plain m.ty) ≡ slots ++ moved offset (tag_layout (first_known table first) (completed_tag b)).slots
  pub work : type_work (tag_work table.completed first) (plain m.ty) ≤ members_work (tag_work table.completed first) (completed_tag b).members

pub largest_left :
    (table : TagTable) (first offset i : ℕ) (b : Body) (items : List Member) (m : Member) → items ≡ b.members → slice_get table.completed first ≡ Some (completed_tag b) →
    IsPlaced (first_known table first) b → KeepsRule (first_known table first) b → offset + b.size ≤ 268435456 → b.is_union ≡ true →
    m ≡ get_or items i m → IsSomeAnd (slice_get items i) (IsLargest (known table.completed) items) → LargestLeft table first offset b m
largest_left table first offset i b items m e stands h rule room u at some =
    let at_all : m ≡ get_or b.members i m = rw e at at in
    let some_all : IsSomeAnd (slice_get b.members i) (IsLargest (known table.completed) b.members) = rw e at some in
    let a = largest_case table first offset i b m stands h rule room u at_all some_all in
    record {
      ends = (a.sized, a.room);
      slots = λ slots. ap (λ l. slots ++ moved offset l) (sym a.slots);
      work = member_work (tag_work table.completed first) b.members i m
          (some_within (IsLargest (known table.completed) b.members) b.members i some_all) at_all;
    }

-- what is known of the next part, and of those that are left after it
pub record PopCase (table : TagTable) (all parts : List Left) (part : Left) (slots : List ℕ) : Type 0 where
  pub listable : IsListable table part slots × AreListable table parts (listed table part slots)
  pub same : all_listed table all slots ≡ all_listed table parts (listed table part slots)
  pub works : work table all ≡ work table parts + work_of table part

pub pop_case : (table : TagTable) (all parts : List Left) (part : Left) (slots : List ℕ) → all ≡ parts ++ part ∷ [] → AreListable table all slots →
    PopCase table all parts part slots
pop_case table all parts part slots e h =
    let both = pop_listable table parts part slots (subst (λ (ps : List Left). AreListable table ps slots) e h) in
    record {
      listable = (both.1, both.0);
      same = ap (λ (ps : List Left). all_listed table ps slots) e ∙ push_listed table parts part slots;
      works = ap (work table) e ∙ push_work table parts part;
    }
