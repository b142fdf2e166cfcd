-- One more member is placed.
use Rattle.std.proofs.Common.{◌≡◌, ◌⊎◌, ◌≤◌, ◌<◌, ◌+◌, ℕ, Bool, true, false, List, [], ◌∷◌, ◌++◌, Option, Some, None, option_map, unwrap_or, map, fold, max, refl, sym, IfSome, All, length, get_or, length-append, arith, subst, ⊎_elim, inl, inr}
use Rattle.std.specs.List.{AllByRecursion}
use Rattle.std.specs.Int.{next_multiple_of}
use Rattle.std.proofs.lemmas.List.{map-append}
use Rattle.std.proofs.lemmas.Bool.{cases_lt}
use Rattle.std.proofs.lemmas.List.Sums.{fold_push}
use Rattle.c_types.specs.declared.layouts.Layout.{Layout}
use Rattle.c_types.specs.declared.bodies.Placing.{Placing}
use Rattle.c_types.specs.declared.bodies.Member.{Member}
use Rattle.c_types.specs.declared.types.CType.{CType}
use Rattle.c_types.specs.declared.tags.TagError.{TagError}
use Rattle.c_types.specs.Types.{PlainType, plain}
use Rattle.c_types.specs.Layouts.{IsAlignment, Known, Placed, place, offset_after, none_placed}
use Rattle.c_types.specs.TagTable.{TagTable, member_layout, known, plain_pair, new_tag, IsTooLarge}
use Rattle.c_types.specs.Bodies.{IsSized}
use Rattle.c_types.specs.Placing.{IsPlacedSoFar, IsPastLimit, pairs, placed_by}

pub unwrap_map : {X : Type 0} (f : X → ℕ) (o : Option X) (d : X) (n : ℕ) → option_map f o ≡ Some n → f (unwrap_or o d) ≡ n
unwrap_map f None d n e = cc
unwrap_map f (Some x) d n e = let same : f x ≡ n = cc in same

pub union_offset : (u : Bool) (p : Placed) (l : Layout) → u ≡ true → offset_after u p l ≡ 0
union_offset u p l e = rw e refl

pub struct_offset : (u : Bool) (p : Placed) (l : Layout) → u ≡ false → offset_after u p l ≡ next_multiple_of p.end l.align
struct_offset u p l e = rw e refl

pub placed_push :
    (k : Known) (u : Bool) (ms : List (List ℕ × PlainType)) (m : List ℕ × PlainType) →
    placed_by k u (ms ++ m ∷ []) ≡ place u (placed_by k u ms) (member_layout k m)
placed_push k u ms m = rw (map-append (member_layout k) ms (m ∷ [])) (fold_push (place u) none_placed (map (member_layout k) ms) (member_layout k m))

pub sized_push : (P : Member → Type 0) (ms : List Member) (m : Member) → AllByRecursion P ms → P m → AllByRecursion P (ms ++ m ∷ [])
sized_push P [] m a h = (h, tt)
sized_push P (x ∷ xs) m a h = (a.0, sized_push P xs m a.1 h)

pub max_is : (a b : ℕ) → (max a b ≡ a) ⊎ (max a b ≡ b)
max_is a b = ⊎_elim (λ h. inr (omega arith)) (λ h. inl (omega arith)) (cases_lt a b)

pub max_aligned : (a b : ℕ) → IsAlignment a → IsAlignment b → IsAlignment (max a b)
max_aligned a b p q = ⊎_elim (λ e. subst IsAlignment (sym e) p) (λ e. subst IsAlignment (sym e) q) (max_is a b)

pub so_far_push :
    (k : Known) (u : Bool) (p q : Placing) (m : Member) → IsPlacedSoFar k u p → IsSized k (plain m.ty) →
    q.members.items ≡ p.members.items ++ m ∷ [] →
    m.offset ≡ offset_after u (placed_by k u (pairs p)) (member_layout k (m.name, plain m.ty)) →
    q.end ≡ max p.end (m.offset + (member_layout k (m.name, plain m.ty)).size) →
    q.align ≡ max p.align (member_layout k (m.name, plain m.ty)).align →
    IsAlignment (member_layout k (m.name, plain m.ty)).align → q.end ≤ 268435456 → IsPlacedSoFar k u q
so_far_push k u p q m h s items at end align aligned limit =
    let ms = pairs p in
    let more : pairs q ≡ ms ++ (m.name, plain m.ty) ∷ [] =
    rw items (map-append (λ (m : Member). (m.name, plain m.ty)) p.members.items (m ∷ [])) in
    record {
      sized = rw items (sized_push (λ (m : Member). IsSized k (plain m.ty)) p.members.items m h.sized s);
      offsets =
          rw (more, placed_push k u ms (m.name, plain m.ty), items, map-append (λ (m : Member). m.offset) p.members.items (m ∷ []))
          (rw (map-append (λ (q : ℕ × Layout). q.0) (placed_by k u ms).members ((offset_after u (placed_by k u ms) (member_layout k (m.name, plain m.ty)), member_layout k (m.name, plain m.ty)) ∷ []))
          (let old = h.offsets in cc));
      end = rw (more, placed_push k u ms (m.name, plain m.ty)) cc;
      align = rw (more, placed_push k u ms (m.name, plain m.ty)) cc;
      aligned = subst IsAlignment (sym align) (max_aligned _ _ h.aligned aligned);
      limit = limit;
    }

pub some_is : (P : ℕ → Type 0) (o : Option ℕ) (n : ℕ) → o ≡ Some n → IfSome o P → P n
some_is P None n e h = cc
some_is P (Some m) n e h = let same : m ≡ n = cc in subst P same h

get_middle : {X : Type 0} (ys : List X) (x : X) (zs : List X) → x ≡ get_or (ys ++ x ∷ zs) (length ys) x
get_middle [] x zs = refl
get_middle (y ∷ ys) x zs = get_middle ys x zs

pub all_middle : {X : Type 0} (P : X → Type 0) (xs ys : List X) (x : X) (zs : List X) → All P xs → xs ≡ ys ++ x ∷ zs → P x
all_middle P xs ys x zs a e =
    let there : All P (ys ++ x ∷ zs) = subst (λ l. All P l) e a in
    let below : length ys < length (ys ++ x ∷ zs) = omega (arith, length-append ys (x ∷ zs)) in
    subst P (sym (get_middle ys x zs)) (there (length ys) x below)

end_grows : (u : Bool) (p : Placed) (ms : List Layout) → p.end ≤ (fold (place u) p ms).end
end_grows u p [] = omega arith
end_grows u p (m ∷ ms) =
    let more : max p.end (offset_after u p m + m.size) ≤ (fold (place u) (place u p m) ms).end = end_grows u (place u p m) ms in
    omega arith

fold_append : (u : Bool) (p : Placed) (xs ys : List Layout) → fold (place u) p (xs ++ ys) ≡ fold (place u) (fold (place u) p xs) ys
fold_append u p [] ys = refl
fold_append u p (x ∷ xs) ys = fold_append u (place u p x) xs ys

end_of_more : (k : Known) (u : Bool) (xs ys : List (List ℕ × PlainType)) → (placed_by k u xs).end ≤ (placed_by k u (xs ++ ys)).end
end_of_more k u xs ys =
    rw (map-append (member_layout k) xs ys, fold_append u none_placed (map (member_layout k) xs) (map (member_layout k) ys))
    (end_grows u (placed_by k u xs) (map (member_layout k) ys))

pub round_up_le : (n align : ℕ) → n ≤ next_multiple_of n align
round_up_le n align = omega arith

pub too_large :
    (table : TagTable) (tag : ℕ) (u : Bool) (all ys : List (List ℕ × CType)) (x : List ℕ × CType) (zs : List (List ℕ × CType)) (e : TagError) →
    all ≡ (ys ++ x ∷ []) ++ zs → IsPastLimit (known table.completed) u (map plain_pair (ys ++ x ∷ [])) e → IsTooLarge table (new_tag tag u all) e
too_large table tag u all ys x zs e is h =
    let k = known table.completed in
    let front = map plain_pair (ys ++ x ∷ []) in
    let more : (placed_by k u front).end ≤ (placed_by k u (map plain_pair all)).end =
    rw (is, map-append plain_pair (ys ++ x ∷ []) zs) (end_of_more k u front (map plain_pair zs)) in
    let past = h.end in
    record {
      is_struct = h.is_struct;
      size = (let rounded = round_up_le (placed_by k u (map plain_pair all)).end (placed_by k u (map plain_pair all)).align in omega arith);
      error = h.error;
    }
