-- The members of a body and their layouts.
use Rattle.std.proofs.Common.{◌≡◌, ◌≤◌, ◌<◌, ◌+◌, ◌||◌, ℕ, suc, zero, Bool, true, false, List, [], ◌∷◌, ◌++◌, Some, map, fold, take, filter, max, length, get_or, slice_get, refl, ap, sym, subst, ◌∙◌, arith, append_assoc, append-nil, IsSomeAnd}
use Rattle.std.specs.List.{AllByRecursion, All, flat_map, range_with_len, list_any, list_all}
use Rattle.std.specs.Prelude.{nat_le}
use Rattle.std.specs.Int.{next_multiple_of}
use Rattle.std.proofs.lemmas.List.{map-append, take_more}
use Rattle.std.proofs.lemmas.List.Folds.{flat_map-map}
use Rattle.c_types.specs.declared.layouts.Layout.{Layout}
use Rattle.c_types.specs.declared.bodies.Body.{Body}
use Rattle.c_types.specs.declared.bodies.Member.{Member}
use Rattle.c_types.specs.Types.{plain}
use Rattle.c_types.specs.Layouts.{Known, Placed, IsSound, moved, place, placed, none_placed, offset_after, has_slot, member_slots}
use Rattle.c_types.specs.TagTable.{TagTable, known, layout_or, member_layout, tag_layout, IsSizedIn}
use Rattle.c_types.specs.Bodies.{IsSized, IsPlaced, KeepsRule, completed_tag}
use Rattle.c_types.specs.Slots.{first_known, IsLargest}
use Rattle.c_types.proofs.Filtered.{contains, filtered, same_bool, passes_all, passes_at, any_at, or_holds}
use Rattle.c_types.proofs.ListLemmas.{first_sized, first_layout, moved_both}
use Rattle.c_types.specs.LayoutsEquations.{rounded_le}
use Rattle.c_types.proofs.Sound.{AllSound, known_sound, slot_within, flat_map_push, some_passes, member_layouts_sound}
use Rattle.c_types.proofs.MemberLemmas.{pairs}

pub all_at : {X : Type 0} (P : X → Type 0) (xs : List X) (i : ℕ) (x : X) → AllByRecursion P xs → i < length xs → x ≡ get_or xs i x → P x
all_at P [] i x a h e = absurd (omega arith)
all_at P (y ∷ ys) zero x a h e = subst P (sym e) a.0
all_at P (y ∷ ys) (suc i) x a h e = all_at P ys i x a.1 (omega arith) e

pub all_of : {X : Type 0} (P : X → Type 0) (xs : List X) → AllByRecursion P xs → (i : ℕ) (d : X) → i < length xs → P (get_or xs i d)
all_of P [] a i d h = absurd (omega arith)
all_of P (y ∷ ys) a zero d h = a.0
all_of P (y ∷ ys) a (suc i) d h = all_of P ys a.1 i d (omega arith)

more_all : {X : Type 0} (P Q : X → Type 0) (xs : List X) → ((x : X) → P x → Q x) → AllByRecursion P xs → AllByRecursion Q xs
more_all P Q [] f a = tt
more_all P Q (x ∷ xs) f a = (f x a.0, more_all P Q xs f a.1)

-- sizes among all tags
pub members_sized :
    (table : TagTable) (first : ℕ) (ms : List Member) → AllByRecursion (λ (m : Member). IsSized (first_known table first) (plain m.ty)) ms →
    All (λ (m : Member). IsSizedIn table (plain m.ty)) ms
members_sized table first ms a =
    all_of (λ (m : Member). IsSizedIn table (plain m.ty)) ms
    (more_all (λ (m : Member). IsSized (first_known table first) (plain m.ty)) (λ (m : Member). IsSizedIn table (plain m.ty)) ms
    (λ m s. first_sized table first (plain m.ty) s) a)

-- where members stand
seconds : (u : Bool) (p : Placed) (ls : List Layout) → map (λ (q : ℕ × Layout). q.1) (fold (place u) p ls).members ≡ map (λ (q : ℕ × Layout). q.1) p.members ++ ls
seconds u p [] = sym (append-nil (map (λ (q : ℕ × Layout). q.1) p.members))
seconds u p (l ∷ ls) =
    seconds u (place u p l) ls
    ∙ (ap (λ t. t ++ ls) (map-append (λ (q : ℕ × Layout). q.1) p.members ((offset_after u p l, l) ∷ []))
    ∙ append_assoc (map (λ (q : ℕ × Layout). q.1) p.members) (l ∷ []) ls)

pub placed_layouts : (u : Bool) (ls : List Layout) → map (λ (q : ℕ × Layout). q.1) (placed u ls).members ≡ ls
placed_layouts u ls = seconds u none_placed ls

both_parts : {X : Type 0} (f : X → ℕ) (g : X → Layout) (xs : List X) (ps : List (ℕ × Layout)) →
    map f xs ≡ map (λ (q : ℕ × Layout). q.0) ps → map (λ (q : ℕ × Layout). q.1) ps ≡ map g xs → ps ≡ map (λ x. (f x, g x)) xs
both_parts f g [] [] a b = refl
both_parts f g [] (p ∷ ps) a b = cc
both_parts f g (x ∷ xs) [] a b = cc
both_parts f g (x ∷ xs) (p ∷ ps) a b =
    let here : f x ≡ p.0 = cc in
    let there : p.1 ≡ g x = cc in
    let left : map f xs ≡ map (λ (q : ℕ × Layout). q.0) ps = cc in
    let right : map (λ (q : ℕ × Layout). q.1) ps ≡ map g xs = cc in
    rw (here, ← there, both_parts f g xs ps left right) refl

abbrev pub layouts_of : Known → List Member → List Layout
layouts_of k ms = map (λ (m : Member). layout_or k (plain m.ty)) ms

pub member_layouts : (k : Known) (ms : List Member) → map (member_layout k) (pairs ms) ≡ layouts_of k ms
member_layouts k [] = refl
member_layouts k (m ∷ ms) = ap (λ t. layout_or k (plain m.ty) ∷ t) (member_layouts k ms)

pub placed_is :
    (k : Known) (b : Body) → IsPlaced k b →
    (placed b.is_union (map (member_layout k) (pairs b.members))).members ≡ map (λ (m : Member). (m.offset, layout_or k (plain m.ty))) b.members
placed_is k b h =
    both_parts (λ (m : Member). m.offset) (λ (m : Member). layout_or k (plain m.ty)) b.members _ h.offsets
    (placed_layouts b.is_union (map (member_layout k) (pairs b.members)) ∙ member_layouts k b.members)

abbrev pub EndsBy : ℕ → ℕ × Layout → Type 0
EndsBy end q = q.0 + q.1.size ≤ end

all_end : (ps : List (ℕ × Layout)) (a b : ℕ) → a ≤ b → AllByRecursion (EndsBy a) ps → AllByRecursion (EndsBy b) ps
all_end [] a b h s = tt
all_end (p ∷ ps) a b h s = ((let here = s.0 in omega arith), all_end ps a b h s.1)

all_pushed : (P : ℕ × Layout → Type 0) (xs : List (ℕ × Layout)) (x : ℕ × Layout) → AllByRecursion P xs → P x → AllByRecursion P (xs ++ x ∷ [])
all_pushed P [] x a h = (h, tt)
all_pushed P (y ∷ ys) x a h = (a.0, all_pushed P ys x a.1 h)

insides : (u : Bool) (p : Placed) (ls : List Layout) → AllByRecursion (EndsBy p.end) p.members →
    AllByRecursion (EndsBy (fold (place u) p ls).end) (fold (place u) p ls).members
insides u p [] a = a
insides u p (l ∷ ls) a =
    let end = max p.end (offset_after u p l + l.size) in
    insides u (place u p l) ls
    (all_pushed (EndsBy end) p.members (offset_after u p l, l) (all_end p.members p.end end (omega arith) a) (omega arith))

end_inside : (k : Known) (b : Body) → IsPlaced k b → (placed b.is_union (map (member_layout k) (pairs b.members))).end ≤ b.size
end_inside k b h =
    let all = placed b.is_union (map (member_layout k) (pairs b.members)) in
    let rounded : all.end ≤ next_multiple_of all.end all.align = rounded_le all.end all.align in
    let size = h.size in
    omega arith

abbrev pub Fits : Known → ℕ → Member → Type 0
Fits k size m = m.offset + (layout_or k (plain m.ty)).size ≤ size

mapped_all : (P : ℕ × Layout → Type 0) (f : Member → ℕ × Layout) (ms : List Member) → AllByRecursion P (map f ms) → AllByRecursion (λ m. P (f m)) ms
mapped_all P f [] a = tt
mapped_all P f (m ∷ ms) a = (a.0, mapped_all P f ms a.1)

pub members_inside : (k : Known) (b : Body) → IsPlaced k b → AllByRecursion (Fits k b.size) b.members
members_inside k b h =
    let ls = map (member_layout k) (pairs b.members) in
    let all = placed b.is_union ls in
    let ends : AllByRecursion (EndsBy all.end) all.members = insides b.is_union none_placed ls tt in
    let inside : AllByRecursion (EndsBy b.size) all.members = all_end all.members all.end b.size (end_inside k b h) ends in
    mapped_all (EndsBy b.size) (λ (m : Member). (m.offset, layout_or k (plain m.ty))) b.members
    (subst (λ (ps : List (ℕ × Layout)). AllByRecursion (EndsBy b.size) ps) (placed_is k b h) inside)

-- the slots of a struct
abbrev pub member_part : Known → Member → List ℕ
member_part k m = moved m.offset (layout_or k (plain m.ty)).slots

struct_part : (u : Bool) (all : Placed) (size : ℕ) → u ≡ false → member_slots u all size ≡ flat_map (λ (m : ℕ × Layout). moved m.0 m.1.slots) all.members
struct_part u all size e = rw e refl

union_part : (u : Bool) (all : Placed) (size : ℕ) → u ≡ true →
    member_slots u all size ≡ filter (λ o. list_any (λ (m : ℕ × Layout). has_slot o m.1) all.members) (range_with_len 0 size)
union_part u all size e = rw e refl

pub struct_slots :
    (k : Known) (b : Body) → IsPlaced k b → b.is_union ≡ false → (tag_layout k (completed_tag b)).slots ≡ flat_map (member_part k) b.members
struct_slots k b h u =
    let all = placed b.is_union (map (member_layout k) (pairs b.members)) in
    let size = next_multiple_of all.end all.align in
    struct_part b.is_union all size u
    ∙ (ap (λ ps. flat_map (λ (m : ℕ × Layout). moved m.0 m.1.slots) ps) (placed_is k b h)
    ∙ flat_map-map (λ (m : ℕ × Layout). moved m.0 m.1.slots) (λ (m : Member). (m.offset, layout_or k (plain m.ty))) b.members)

pub more_members :
    (k : Known) (ms : List Member) (i : ℕ) (m : Member) (offset : ℕ) (old items all : List ℕ) → i < length ms → m ≡ get_or ms i m →
    items ≡ old ++ moved offset (flat_map (member_part k) (take i ms)) → all ≡ items ++ moved (offset + m.offset) (layout_or k (plain m.ty)).slots →
    all ≡ old ++ moved offset (flat_map (member_part k) (take (i + 1) ms))
more_members k ms i m offset old items all h at e more =
    let front = flat_map (member_part k) (take i ms) in
    let last = (layout_or k (plain m.ty)).slots in
    let next : flat_map (member_part k) (take (i + 1) ms) ≡ front ++ moved m.offset last =
    ap (λ l. flat_map (member_part k) l) (take_more ms i m h ∙ ap (λ x. take i ms ++ x ∷ []) (sym at)) ∙ flat_map_push (member_part k) (take i ms) m in
    let up : moved offset (front ++ moved m.offset last) ≡ moved offset front ++ moved (offset + m.offset) last =
    map-append (λ s. offset + s) front (moved m.offset last) ∙ ap (λ t. moved offset front ++ t) (moved_both offset m.offset last) in
    more
    ∙ (ap (λ t. t ++ moved (offset + m.offset) last) e
    ∙ (append_assoc old (moved offset front) (moved (offset + m.offset) last)
    ∙ ap (λ t. old ++ t) (sym (ap (λ t. moved offset t) next ∙ up))))

any_second : (f : Layout → Bool) (ps : List (ℕ × Layout)) → list_any (λ (q : ℕ × Layout). f q.1) ps ≡ list_any f (map (λ (q : ℕ × Layout). q.1) ps)
any_second f [] = refl
any_second f (p ∷ ps) = ap (λ t. f p.1 || t) (any_second f ps)

pub layout_at : (k : Known) (ms : List Member) (i : ℕ) (m : Member) → i < length ms → m ≡ get_or ms i m →
    layout_or k (plain m.ty) ≡ get_or (layouts_of k ms) i (layout_or k (plain m.ty))
layout_at k [] i m h e = absurd (omega arith)
layout_at k (x ∷ xs) zero m h e = ap (λ (y : Member). layout_or k (plain y.ty)) e
layout_at k (x ∷ xs) (suc i) m h e = layout_at k xs i m (omega arith) e

pub layouts_len : (k : Known) (ms : List Member) → length (layouts_of k ms) ≡ length ms
layouts_len k [] = refl
layouts_len k (m ∷ ms) = ap suc (layouts_len k ms)

largest_layouts : (k : Known) (ms : List Member) (m : Member) → IsLargest k ms m →
    AllByRecursion (λ (l : Layout). l.size ≤ (layout_or k (plain m.ty)).size) (layouts_of k ms)
largest_layouts k [] m a = tt
largest_layouts k (x ∷ xs) m a = (a.0, largest_layouts k xs m a.1)

-- the tests of one member's slots against all members
abbrev pub slot_passes : List Layout → ℕ → Bool
slot_passes ls slot = list_all (λ (other : Layout). nat_le other.size slot || has_slot slot other) ls

abbrev pub member_passes : List Layout → Layout → Bool
member_passes ls l = list_all (slot_passes ls) l.slots

pub record IsRuled (ls : List Layout) (largest l : Layout) : Type 0 where
  pub sound : IsSound l
  pub inside : l.size ≤ largest.size
  pub passes : member_passes ls l ≡ true

zip_ruled : (all ls : List Layout) (largest : Layout) → AllByRecursion IsSound ls → AllByRecursion (λ (l : Layout). l.size ≤ largest.size) ls →
    AllByRecursion (λ (l : Layout). member_passes all l ≡ true) ls → AllByRecursion (IsRuled all largest) ls
zip_ruled all [] largest a b c = tt
zip_ruled all (l ∷ ls) largest a b c = (record { sound = a.0; inside = b.0; passes = c.0 }, zip_ruled all ls largest a.1 b.1 c.1)

-- an offset is a slot of some member where it is one of the largest
pub same_slot :
    (ls : List Layout) (largest : Layout) (i o : ℕ) → i < length ls → largest ≡ get_or ls i largest → AllByRecursion (IsRuled ls largest) ls →
    list_any (has_slot o) ls ≡ contains o largest.slots
same_slot ls largest i o h at a =
    same_bool (list_any (has_slot o) ls) (contains o largest.slots)
    (λ e.
    let r = some_passes (IsRuled ls largest) (has_slot o) ls a e in
    let w = slot_within 0 r.0.size r.0.slots o r.1.sound.slots r.2 in
    let one : slot_passes ls o ≡ true = passes_at (slot_passes ls) r.0.slots o r.1.passes r.2 in
    let mine : (nat_le largest.size o || has_slot o largest) ≡ true =
    all_at (λ (other : Layout). (nat_le other.size o || has_slot o other) ≡ true) ls i largest
    (passes_all (λ (other : Layout). nat_le other.size o || has_slot o other) ls one) h at in
    or_holds largest.size o (has_slot o largest) mine (let ends = w.1 in let inside = r.1.inside in omega arith))
    (λ e. any_at (has_slot o) ls i largest h at e)

pub union_slots :
    (k : Known) (b : Body) (i : ℕ) (m : Member) → AllSound k → IsPlaced k b → b.is_union ≡ true → KeepsRule k b →
    i < length b.members → m ≡ get_or b.members i m → IsLargest k b.members m →
    (tag_layout k (completed_tag b)).slots ≡ (layout_or k (plain m.ty)).slots
union_slots k b i m sound h u rule within at largest =
    let ms = b.members in
    let ls = map (member_layout k) (pairs ms) in
    let all = placed b.is_union ls in
    let size = next_multiple_of all.end all.align in
    let l = layout_or k (plain m.ty) in
    let same : ls ≡ layouts_of k ms = member_layouts k ms in
    let len : length ls ≡ length ms = ap length same ∙ layouts_len k ms in
    let l_at : l ≡ get_or ls i l = layout_at k ms i m within at ∙ ap (λ (xs : List Layout). get_or xs i l) (sym same) in
    let sounds : AllByRecursion IsSound ls = member_layouts_sound k sound (pairs ms) in
    let inside : AllByRecursion (λ (x : Layout). x.size ≤ l.size) ls =
    subst (λ (xs : List Layout). AllByRecursion (λ (x : Layout). x.size ≤ l.size) xs) (sym same) (largest_layouts k ms m largest) in
    let ruled : AllByRecursion (IsRuled ls l) ls = zip_ruled ls ls l sounds inside (passes_all (member_passes ls) ls (rule u)) in
    let room : l.size ≤ b.size = (let one = all_at (Fits k b.size) ms i m (members_inside k b h) within at in omega arith) in
    let size_is : b.size ≡ size = h.size in
    let l_sound : IsSound l = all_at IsSound ls i l sounds (omega arith) l_at in
    union_part b.is_union all size u
    ∙ filtered (λ o. list_any (λ (q : ℕ × Layout). has_slot o q.1) all.members) l.slots 0 l.size 0 size l_sound.slots (omega arith) (omega arith)
    (λ o g.
    any_second (has_slot o) all.members
    ∙ (ap (λ (xs : List Layout). list_any (has_slot o) xs) (placed_layouts b.is_union ls) ∙ same_slot ls l i o (omega arith) l_at ruled))

-- the largest by what all tags know is the largest by what the first know
largest_in_first :
    (table : TagTable) (first : ℕ) (ms : List Member) (m : Member) → AllByRecursion (λ (x : Member). IsSized (first_known table first) (plain x.ty)) ms →
    IsSized (first_known table first) (plain m.ty) → IsLargest (known table.completed) ms m → IsLargest (first_known table first) ms m
largest_in_first table first [] m s t a = tt
largest_in_first table first (x ∷ xs) m s t a =
    let mine = ap (λ (l : Layout). l.size) (first_layout table first (plain m.ty) t) in
    let here = ap (λ (l : Layout). l.size) (first_layout table first (plain x.ty) s.0) in
    let less = a.0 in
    (omega arith, largest_in_first table first xs m s.1 t a.1)

pub some_and : {X : Type 0} (P : X → Type 0) (xs : List X) (i : ℕ) (x : X) → x ≡ get_or xs i x → IsSomeAnd (slice_get xs i) P → (i < length xs) × P x
some_and P [] i x e h = absurd h
some_and P (y ∷ ys) zero x e h = (omega arith, subst P (sym e) h)
some_and P (y ∷ ys) (suc i) x e h = let r = some_and P ys i x e h in (omega (arith, r.0), r.1)

pub some_within : {X : Type 0} (P : X → Type 0) (xs : List X) (i : ℕ) → IsSomeAnd (slice_get xs i) P → i < length xs
some_within P [] i h = absurd h
some_within P (y ∷ ys) zero h = omega arith
some_within P (y ∷ ys) (suc i) h = let r = some_within P ys i h in omega arith

-- what is known of the largest member of a union
pub record LargestCase (table : TagTable) (first offset : ℕ) (b : Body) (m : Member) : Type 0 where
  pub sized : IsSized (first_known table first) (plain m.ty)
  pub room : offset + (layout_or (first_known table first) (plain m.ty)).size ≤ 268435456
  pub slots : (tag_layout (first_known table first) (completed_tag b)).slots ≡ (layout_or (first_known table first) (plain m.ty)).slots

pub largest_case :
    (table : TagTable) (first offset i : ℕ) (b : Body) (m : Member) → slice_get table.completed first ≡ Some (completed_tag b) →
    IsPlaced (first_known table first) b → KeepsRule (first_known table first) b → offset + b.size ≤ 268435456 → b.is_union ≡ true →
    m ≡ get_or b.members i m → IsSomeAnd (slice_get b.members i) (IsLargest (known table.completed) b.members) →
    LargestCase table first offset b m
largest_case table first offset i b m stands h rule room u at some =
    let k = first_known table first in
    let r = some_and (IsLargest (known table.completed) b.members) b.members i m at some in
    let sized : IsSized k (plain m.ty) = all_at (λ (x : Member). IsSized k (plain x.ty)) b.members i m h.sized r.0 at in
    let inside : Fits k b.size m = all_at (Fits k b.size) b.members i m (members_inside k b h) r.0 at in
    record {
      sized = sized;
      room = omega arith;
      slots = union_slots k b i m (known_sound (take first table.completed)) h u rule r.0 at (largest_in_first table first b.members m h.sized sized r.1);
    }

-- what is known of a member
pub record MemberCase (table : TagTable) (first offset : ℕ) (m : Member) : Type 0 where
  pub sized : IsSized (first_known table first) (plain m.ty)
  pub room : offset + m.offset + (layout_or (first_known table first) (plain m.ty)).size ≤ 268435456

pub member_case :
    (table : TagTable) (first offset i : ℕ) (b : Body) (m : Member) → slice_get table.completed first ≡ Some (completed_tag b) →
    IsPlaced (first_known table first) b → offset + b.size ≤ 268435456 → i < length b.members → m ≡ get_or b.members i m →
    MemberCase table first offset m
member_case table first offset i b m stands h room within at =
    let k = first_known table first in
    let inside : Fits k b.size m = all_at (Fits k b.size) b.members i m (members_inside k b h) within at in
    record {
      sized = all_at (λ (x : Member). IsSized k (plain x.ty)) b.members i m h.sized within at;
      room = omega arith;
    }
