-- Each layout of a type is sound.
use Rattle.std.proofs.Common.{◌≡◌, ◌⊎◌, ◌≤◌, ◌+◌, ◌*◌, ◌%◌, ◌==◌, ℕ, suc, zero, Bool, true, false, List, [], ◌∷◌, ◌++◌, Some, None, unwrap_or, map, fold, filter, max, refl, ap, ◌∙◌, append-nil, arith, subst, ⊎_elim, inl, inr}
use Rattle.std.proofs.Math.Nat.{mod_self, max_comm}
use Rattle.c_types.proofs.PlacingLemmas.{max_is, max_aligned}
use Rattle.std.proofs.lemmas.Grind.{flat_map-append}
use Rattle.std.proofs.lemmas.Bool.{eqb-true}
use Rattle.std.specs.List.{AllByRecursion, flat_map, range_with_len, list_any}
use Rattle.std.specs.Int.{next_multiple_of}
use Rattle.c_types.specs.declared.layouts.Layout.{Layout}
use Rattle.c_types.specs.declared.types.IntType.{IntType}
use Rattle.c_types.specs.declared.types.IntType.TheVariants as i
use Rattle.c_types.specs.TagTable.{CompletedTag, learn, known, tag_layout, member_layout}
use Rattle.c_types.specs.TagTableEquations.{some_array}
use Rattle.c_types.specs.Types.{PlainType, Void, Int, Pointer, Array, Struct, Union, Function, width_of}
use Rattle.c_types.specs.Layouts.{Known, Placed, IsAlignment, AreSlots, IsSound, moved, array_layout, number_layout, no_layout, pointer_layout, layout_of, place, placed, none_placed, members_layout, has_slot}
use Rattle.c_types.specs.LayoutsEquations.{slots_within, rounded_le, slots_append, slots_moved_if, product_whole, whole_words, slots_of_array}

aligned_some : (a : ℕ) → IsAlignment a → 1 ≤ a
aligned_some a (inl e) = omega arith
aligned_some a (inr (inl e)) = omega arith
aligned_some a (inr (inr (inl e))) = omega arith
aligned_some a (inr (inr (inr e))) = omega arith

rounded_whole : (n align : ℕ) → IsAlignment align → next_multiple_of n align % align ≡ 0
rounded_whole n align (inl e) = rw e (omega arith)
rounded_whole n align (inr (inl e)) = rw e (omega arith)
rounded_whole n align (inr (inr (inl e))) = rw e (omega arith)
rounded_whole n align (inr (inr (inr e))) = rw e (omega arith)

max_words : (a b : ℕ) → IsAlignment a → IsAlignment b → a % 4 ≡ 0 → max a b % 4 ≡ 0
max_words a b p (inl e) w = let some = aligned_some a p in omega arith
max_words a b p (inr (inl e)) w = let some = aligned_some a p in omega arith
max_words a b p (inr (inr (inl e))) w = let some = aligned_some a p in omega arith
max_words a b p (inr (inr (inr e))) w = ⊎_elim (λ h. ap (λ n. n % 4) h ∙ w) (λ h. ap (λ n. n % 4) (h ∙ e)) (max_is a b)

max_words_right : (a b : ℕ) → IsAlignment a → IsAlignment b → b % 4 ≡ 0 → max a b % 4 ≡ 0
max_words_right a b p q w = ap (λ n. n % 4) (max_comm a b) ∙ max_words b a q p w

pub flat_map_none : {X : Type 0} (f : X → List ℕ) (xs : List X) → ((x : X) → f x ≡ []) → flat_map f xs ≡ []
flat_map_none f [] e = refl
flat_map_none f (x ∷ xs) e = rw (e x, flat_map_none f xs e) refl

pub none_moved : (by : ℕ) (ss : List ℕ) → ss ≡ [] → moved by ss ≡ []
none_moved by ss e = rw e refl

pub flat_map_push : {X : Type 0} (f : X → List ℕ) (xs : List X) (x : X) → flat_map f (xs ++ x ∷ []) ≡ flat_map f xs ++ f x
flat_map_push f xs x = flat_map-append f xs (x ∷ []) ∙ ap (λ t. flat_map f xs ++ t) (append-nil (f x))

pub array_sound : (n : ℕ) (l : Layout) → IsSound l → IsSound (array_layout n l)
array_sound n l h =
    record {
      aligned = h.aligned;
      whole = product_whole n l.size l.align h.whole;
      slots = slots_of_array n l h;
      pointers =
          ⊎_elim
          (λ (e : l.slots ≡ []). inl (flat_map_none (λ k. moved (k * l.size) l.slots) (range_with_len 0 n) (λ k. none_moved (k * l.size) l.slots e)))
          (λ e. inr e)
          h.pointers;
    }

abbrev pub member_list : Placed → List ℕ
member_list p = flat_map (λ (m : ℕ × Layout). moved m.0 m.1.slots) p.members

-- what holds of a struct's members that are placed
record IsSoundSoFar (p : Placed) : Type 0 where
  aligned : IsAlignment p.align
  slots : AreSlots 0 p.end (member_list p)
  pointers : (member_list p ≡ []) ⊎ (p.align % 4 ≡ 0)

both_none : (xs ys : List ℕ) → xs ≡ [] → ys ≡ [] → xs ++ ys ≡ []
both_none xs ys a b = rw (a, b) refl

place_sound : (p : Placed) (l : Layout) → IsSoundSoFar p → IsSound l → IsSoundSoFar (place false p l)
place_sound p l h s =
    let offset = next_multiple_of p.end l.align in
    let list_is : member_list (place false p l) ≡ member_list p ++ moved offset l.slots =
    flat_map_push (λ (m : ℕ × Layout). moved m.0 m.1.slots) p.members (offset, l) in
    let words : (l.slots ≡ []) ⊎ (offset % 4 ≡ 0) =
    ⊎_elim (λ (e : l.slots ≡ []). inl e) (λ e. inr (whole_words offset l.align s.aligned (rounded_whole p.end l.align s.aligned) e)) s.pointers in
    let after : p.end ≤ offset = rounded_le p.end l.align in
    record {
      aligned = max_aligned p.align l.align h.aligned s.aligned;
      slots =
          rw list_is
          (slots_append 0 p.end (max p.end (offset + l.size)) _ _ (omega arith) (omega arith) h.slots
          (slots_within (offset + 0) p.end (offset + l.size) (max p.end (offset + l.size)) _ (omega arith) (omega arith) (slots_moved_if offset 0 l.size l.slots words s.slots)));
      pointers =
          ⊎_elim
          (λ (e : member_list p ≡ []).
          ⊎_elim
          (λ (f : l.slots ≡ []). inl (list_is ∙ both_none _ _ e (none_moved offset l.slots f)))
          (λ f. inr (max_words_right p.align l.align h.aligned s.aligned f))
          s.pointers)
          (λ e. inr (max_words p.align l.align h.aligned s.aligned e))
          h.pointers;
    }

places_sound : (p : Placed) (ls : List Layout) → IsSoundSoFar p → AllByRecursion IsSound ls → IsSoundSoFar (fold (place false) p ls)
places_sound p [] h a = h
places_sound p (l ∷ ls) h a = places_sound (place false p l) ls (place_sound p l h a.0) a.1

pub struct_sound : (ls : List Layout) → AllByRecursion IsSound ls → IsSound (members_layout false ls)
struct_sound ls a =
    let all = placed false ls in
    let h = places_sound none_placed ls (record { aligned = inl refl; slots = tt; pointers = inl refl }) a in
    record {
      aligned = h.aligned;
      whole = rounded_whole all.end all.align h.aligned;
      slots = slots_within 0 0 all.end (next_multiple_of all.end all.align) _ (omega arith) (rounded_le all.end all.align) h.slots;
      pointers = h.pointers;
    }

pub words_filtered :
    (p : ℕ → Bool) (high : ℕ) → ((o : ℕ) → p o ≡ true → (o % 4 ≡ 0) × (o + 4 ≤ high)) → (low a n : ℕ) → low % 4 ≡ 0 → low ≤ a + 3 →
    AreSlots low high (filter p (range_with_len a n))
words_filtered p high h low a zero w b = tt
words_filtered p high h low a (suc n) w b =
    elim (p a) as (λ t. p a ≡ t → AreSlots low high (filter p (range_with_len a (suc n)))) [
      | true ↦ λ e.
          let here = h a e in
          let word : a % 4 ≡ 0 = here.0 in
          rw e (omega arith, here.1, word, words_filtered p high h (a + 4) (a + 1) n (omega arith) (omega arith))
      | false ↦ λ e. rw e (words_filtered p high h low (a + 1) n w (omega arith))
    ]
    refl

pub slot_within : (low high : ℕ) (ss : List ℕ) (o : ℕ) → AreSlots low high ss → list_any (λ slot. slot == o) ss ≡ true → (o % 4 ≡ 0) × (o + 4 ≤ high) × (low ≤ o)
slot_within low high [] o h e = cc
slot_within low high (s ∷ ss) o h e =
    elim (s == o) as (λ t. (s == o) ≡ t → (o % 4 ≡ 0) × (o + 4 ≤ high) × (low ≤ o)) [
      | true ↦ λ q. let same : s ≡ o = eqb-true s o q in let P : ℕ → Type 0 = λ n. (n % 4 ≡ 0) × (n + 4 ≤ high) × (low ≤ n) in subst P same (h.2, h.1, h.0)
      | false ↦ λ q. let r = slot_within (s + 4) high ss o h.3 (rw q at e) in (r.0, r.1, (let low_s = h.0 in let s_o = r.2 in omega arith))
    ]
    refl

-- some member passes, and what holds of each holds of it
pub some_passes :
    {X : Type 0} (P : X → Type 0) (p : X → Bool) (xs : List X) → AllByRecursion P xs → list_any p xs ≡ true → (x : X) × P x × (p x ≡ true)
some_passes {X} P p [] a e = cc
some_passes {X} P p (x ∷ xs) a e =
    elim (p x) as (λ t. p x ≡ t → (x : X) × P x × (p x ≡ true)) [
      | true ↦ λ q. (x, a.0, q)
      | false ↦ λ q. some_passes P p xs a.1 (rw q at e)
    ]
    refl

pub filter_none : {X : Type 0} (p : X → Bool) (xs : List X) → ((x : X) → p x ≡ false) → filter p xs ≡ []
filter_none p [] e = refl
filter_none p (x ∷ xs) e = rw (e x) (filter_none p xs e)

record IsUnionMember (end align : ℕ) (m : ℕ × Layout) : Type 0 where
  sound : IsSound m.1
  inside : m.1.size ≤ end
  pointers : (m.1.slots ≡ []) ⊎ (align % 4 ≡ 0)

record IsUnionSoFar (p : Placed) : Type 0 where
  aligned : IsAlignment p.align
  members : AllByRecursion (IsUnionMember p.end p.align) p.members

more_members :
    (end align end' align' : ℕ) (ms : List (ℕ × Layout)) → end ≤ end' → (align % 4 ≡ 0 → align' % 4 ≡ 0) →
    AllByRecursion (IsUnionMember end align) ms → AllByRecursion (IsUnionMember end' align') ms
more_members end align end' align' [] b w a = tt
more_members end align end' align' (m ∷ ms) b w a = (
  record {
    sound = a.0.sound;
    inside = (let inside = a.0.inside in omega arith);
    pointers = ⊎_elim (λ (e : m.1.slots ≡ []). inl e) (λ e. inr (w e)) a.0.pointers;
  },
  more_members end align end' align' ms b w a.1,
)

pub all_push : {X : Type 0} (P : X → Type 0) (xs : List X) (x : X) → AllByRecursion P xs → P x → AllByRecursion P (xs ++ x ∷ [])
all_push P [] x a h = (h, tt)
all_push P (y ∷ ys) x a h = (a.0, all_push P ys x a.1 h)

place_union : (p : Placed) (l : Layout) → IsUnionSoFar p → IsSound l → IsUnionSoFar (place true p l)
place_union p l h s =
    record {
      aligned = max_aligned p.align l.align h.aligned s.aligned;
      members =
          all_push (IsUnionMember (max p.end (0 + l.size)) (max p.align l.align)) p.members (0, l)
          (more_members p.end p.align (max p.end (0 + l.size)) (max p.align l.align) p.members (omega arith)
          (λ w. max_words p.align l.align h.aligned s.aligned w) h.members)
          (record {
            sound = s;
            inside = omega arith;
            pointers = ⊎_elim (λ (e : l.slots ≡ []). inl e) (λ e. inr (max_words_right p.align l.align h.aligned s.aligned e)) s.pointers;
          });
    }

places_union : (p : Placed) (ls : List Layout) → IsUnionSoFar p → AllByRecursion IsSound ls → IsUnionSoFar (fold (place true) p ls)
places_union p [] h a = h
places_union p (l ∷ ls) h a = places_union (place true p l) ls (place_union p l h a.0) a.1

-- no member has a slot, or the alignment is a pointer's
none_or_words :
    (end align : ℕ) (ms : List (ℕ × Layout)) → AllByRecursion (IsUnionMember end align) ms →
    ((o : ℕ) → list_any (λ (m : ℕ × Layout). has_slot o m.1) ms ≡ false) ⊎ (align % 4 ≡ 0)
none_or_words end align [] a = inl (λ o. refl)
none_or_words end align (m ∷ ms) a =
    ⊎_elim
    (λ (e : m.1.slots ≡ []).
    ⊎_elim
    (λ (f : (o : ℕ) → list_any (λ (m : ℕ × Layout). has_slot o m.1) ms ≡ false). inl (λ o. rw (e, f o) refl))
    (λ f. inr f)
    (none_or_words end align ms a.1))
    (λ e. inr e)
    a.0.pointers

pub union_sound : (ls : List Layout) → AllByRecursion IsSound ls → IsSound (members_layout true ls)
union_sound ls a =
    let all = placed true ls in
    let size = next_multiple_of all.end all.align in
    let h = places_union none_placed ls (record { aligned = inl refl; members = tt }) a in
    let passes : ℕ → Bool = λ o. list_any (λ (m : ℕ × Layout). has_slot o m.1) all.members in
    let end_inside : all.end ≤ size = rounded_le all.end all.align in
    record {
      aligned = h.aligned;
      whole = rounded_whole all.end all.align h.aligned;
      slots =
          words_filtered passes size
          (λ o e.
          let r = some_passes (IsUnionMember all.end all.align) (λ (m : ℕ × Layout). has_slot o m.1) all.members h.members e in
          let w = slot_within 0 r.0.1.size r.0.1.slots o r.1.sound.slots r.2 in
          (w.0, (let inside = r.1.inside in let ends = w.1 in omega arith)))
          0 0 size (omega arith) (omega arith);
      pointers =
          ⊎_elim
          (λ (f : (o : ℕ) → passes o ≡ false). inl (filter_none passes (range_with_len 0 size) f))
          (λ f. inr f)
          (none_or_words all.end all.align all.members h.members);
    }

pub members_sound : (u : Bool) (ls : List Layout) → AllByRecursion IsSound ls → IsSound (members_layout u ls)
members_sound true ls a = union_sound ls a
members_sound false ls a = struct_sound ls a

-- what is known is sound
abbrev pub AllSound : Known → Type 0
AllSound k = (tag : ℕ) (l : Layout) → k tag ≡ Some l → IsSound l

number_sound : (n : ℕ) → IsAlignment n → IsSound (number_layout n)
number_sound n a = record { aligned = a; whole = mod_self n; slots = tt; pointers = inl refl }

width_aligned : (i : IntType) → IsAlignment (width_of i)
width_aligned i.Char = inl refl
width_aligned i.SChar = inl refl
width_aligned i.UChar = inl refl
width_aligned i.Short = inr (inl refl)
width_aligned i.UShort = inr (inl refl)
width_aligned i.Int = inr (inr (inl refl))
width_aligned i.UInt = inr (inr (inl refl))
width_aligned i.Long = inr (inr (inl refl))
width_aligned i.ULong = inr (inr (inl refl))
width_aligned i.LongLong = inr (inr (inr refl))
width_aligned i.ULongLong = inr (inr (inr refl))

pointer_sound : IsSound pointer_layout
pointer_sound = record { aligned = inr (inr (inl refl)); whole = refl; slots = (omega arith, omega arith, refl, tt); pointers = inr refl }

none_sound : IsSound no_layout
none_sound = record { aligned = inl refl; whole = refl; slots = tt; pointers = inl refl }

pub layout_sound : (k : Known) → AllSound k → (type : PlainType) (l : Layout) → layout_of k type ≡ Some l → IsSound l
layout_sound k a Void l e = cc
layout_sound k a (Int int) l e = let same : number_layout (width_of int) ≡ l = cc in subst IsSound same (number_sound (width_of int) (width_aligned int))
layout_sound k a (Pointer target) l e = let same : pointer_layout ≡ l = cc in subst IsSound same pointer_sound
layout_sound k a (Array element n) l e =
    let r = some_array (layout_of k element) n l e in
    subst IsSound r.2 (array_sound n r.0 (layout_sound k a element r.0 r.1))
layout_sound k a (Struct tag) l e = a tag l e
layout_sound k a (Union tag) l e = a tag l e
layout_sound k a (Function answer params) l e = cc

pub member_sound : (k : Known) → AllSound k → (m : List ℕ × PlainType) → IsSound (member_layout k m)
member_sound k a m =
    elim (layout_of k m.1) as (λ o. layout_of k m.1 ≡ o → IsSound (unwrap_or o no_layout)) [
      | None ↦ λ e. none_sound
      | Some l ↦ λ e. layout_sound k a m.1 l e
    ]
    refl

pub member_layouts_sound : (k : Known) → AllSound k → (ms : List (List ℕ × PlainType)) → AllByRecursion IsSound (map (member_layout k) ms)
member_layouts_sound k a [] = tt
member_layouts_sound k a (m ∷ ms) = (member_sound k a m, member_layouts_sound k a ms)

learn_sound : (k : Known) (d : CompletedTag) → AllSound k → AllSound (learn k d)
learn_sound k d a tag l e =
    elim (k tag) as (λ o. k tag ≡ o → IsSound l) [
      | Some known ↦ λ h. let same : k tag ≡ Some l = (h ∙ (let here : Some known ≡ Some l = rw h at e in here)) in a tag l same
      | None ↦ λ h.
          elim (d.tag == tag) as (λ t. (d.tag == tag) ≡ t → IsSound l) [
            | true ↦ λ q.
                let here : Some (tag_layout k d) ≡ Some l = rw (h, q) at e in
                let same : tag_layout k d ≡ l = cc in
                subst IsSound same (members_sound d.is_union (map (member_layout k) d.members) (member_layouts_sound k a d.members))
            | false ↦ λ q. let none : None ≡ Some l = rw (h, q) at e in cc
          ]
          refl
    ]
    refl

learns_sound : (k : Known) (ds : List CompletedTag) → AllSound k → AllSound (fold learn k ds)
learns_sound k [] a = a
learns_sound k (d ∷ ds) a = learns_sound (learn k d) ds (learn_sound k d a)

pub known_sound : (ds : List CompletedTag) → AllSound (known ds)
known_sound ds = learns_sound (λ tag. None) ds (λ tag l e. cc)
