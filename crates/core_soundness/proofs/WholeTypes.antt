-- Types that are whole stay so, and have sizes from 1 to that of the largest object.
use Rattle.core_soundness.proofs.Words.Std.{◌≡◌, ◌≤◌, ◌*◌, ◌==◌, ℕ, Bool, true, false, cond, is_some, List, [], ◌∷◌, ◌++◌, map, fold, zip, Option, Some, None, IsSome, IfSome, unwrap_or, refl, sym, ap, ◌∙◌, subst, arith, fold_push, find, option_or}
use Rattle.core_soundness.proofs.Words.Types.{Known, ArraysFit, Placed, none_placed, placed, layout_of, no_layout, CompletedTag, PlainMember, learn, known, tag_layout, PlainType, PlainTypes, Pointer, Array, Function, none, first, width_of, Layout, IntType, PlainNamed}
use Rattle.core_soundness.proofs.Words.Core.{IsCompleted, AreCompleted, IsLayoutOfType}
use Rattle.core_soundness.proofs.Words.Facts.{Whole, AllWhole, MembersWhole, AreMade, NamedWhole}
use Rattle.c_types.specs.TagTableEquations.{Extends, some_array, layout_stays}
use Rattle.c_types.specs.TagTableEquations.{stays_known}
use Rattle.c_types.specs.LayoutsEquations.{rounded_le}
use Rattle.c_types.specs.Layouts.{place}
use Rattle.core_tree.specs.LayoutsOfTypesEquations.{type_layout_small}

abbrev pub nothing : Known
nothing = λ tag. None

-- with more tags

mutual
  pub whole_stays : (type : PlainType) (j k : Known) → Extends j k → Whole j type → Whole k type
  whole_stays (Pointer target) j k x h = whole_stays target j k x h
  whole_stays (Array element n) j k x h = (whole_stays element j k x h.0, (h.1.0, layout_stays j k x element h.1.0 h.1.1, h.1.2, h.1.3))
  whole_stays (Function answer params) j k x h = (whole_stays answer j k x h.0, all_stay params j k x h.1)
  whole_stays other j k x h = tt

  pub all_stay : (types : PlainTypes) (j k : Known) → Extends j k → AllWhole j types → AllWhole k types
  all_stay none j k x h = tt
  all_stay (first type rest) j k x h = (whole_stays type j k x h.0, all_stay rest j k x h.1)

pub some_stays : (j k : Known) (type : PlainType) → Extends j k → IsSome (layout_of j type) → IsSome (layout_of k type)
some_stays j k type x h = grind (arith, true, layout_stays)

pub members_stay : (ms : List (List ℕ × PlainType)) (j k : Known) → Extends j k → MembersWhole j ms → MembersWhole k ms
members_stay [] j k x h = tt
members_stay (m ∷ ms) j k x h = ((whole_stays m.1 j k x h.0.0, some_stays j k m.1 x h.0.1), members_stay ms j k x h.1)

pub named_stays : (v : PlainNamed) (j k : Known) → Extends j k → NamedWhole j v → NamedWhole k v
named_stays v j k x h = search (arith, whole_stays) fits 100

pub extends_refl : (k : Known) → Extends k k
extends_refl k tag l e = e

pub learn_extends : (k : Known) (new : CompletedTag) → Extends k (learn k new)
learn_extends k new tag l e = ap (λ (o : Option Layout). option_or o (cond (new.tag == tag) (Some (tag_layout k new)) None)) e

pub push_extends : (tags : List CompletedTag) (new : CompletedTag) → Extends (known tags) (known (tags ++ new ∷ []))
push_extends tags new tag l e = ap (λ (k : Known). k tag) (fold_push learn nothing tags new) ∙ learn_extends (known tags) new tag l e

-- a tag more

pub made_on : (k : Known) (tags : List CompletedTag) (new : CompletedTag) → AreMade k tags → IsCompleted (fold learn k tags) new → MembersWhole (fold learn k tags) new.members → AreMade k (tags ++ new ∷ [])
made_on k [] new h c m = ((c, m), tt)
made_on k (t ∷ tags) new h c m = (h.0, made_on (learn k t) tags new h.1 c m)

pub made_completed : (k : Known) (tags : List CompletedTag) → AreMade k tags → AreCompleted k tags
made_completed k [] h = tt
made_completed k (t ∷ tags) h = (h.0.0, made_completed (learn k t) tags h.1)

-- sizes

pub whole_fits : (type : PlainType) (k : Known) → Whole k type → ArraysFit k type
whole_fits (Array element n) k h =
    (whole_fits element k h.0, subst (λ (o : Option Layout). IfSome o (λ l. n * l.size ≤ 268435456)) (sym h.1.1) h.1.2)
whole_fits other k h = tt

pub is_layout : (tags : List CompletedTag) (type : PlainType) (l : Layout) → AreMade nothing tags → Whole (known tags) type → layout_of (known tags) type ≡ Some l → IsLayoutOfType l
is_layout tags type l m h e = record { tags = tags; completed = made_completed nothing tags m; type = type; fits = whole_fits type (known tags) h; layout = e }

-- each layout that is known has a size
abbrev AllSized : Known → Type 0
AllSized k = (tag : ℕ) (l : Layout) → k tag ≡ Some l → 1 ≤ l.size

width_some : (int : IntType) → 1 ≤ width_of int
width_some int = search arith fits 100

product_some : (n m : ℕ) → 1 ≤ n → 1 ≤ m → 1 ≤ n * m
product_some n m h k = search arith fits 100

layout_some : (k : Known) → AllSized k → (type : PlainType) (l : Layout) → Whole k type → layout_of k type ≡ Some l → 1 ≤ l.size
layout_some k a (Array element n) l w e =
    let r = some_array (layout_of k element) n l e in
    subst (λ (x : Layout). 1 ≤ x.size) r.2 (product_some n r.0.size w.1.3 (layout_some k a element r.0 w.0 r.1))
layout_some k a type l w e = search (arith, width_some) fits 100

-- members are placed one behind another, or all at 0
pub placed_far : (u : Bool) (p : Placed) (ls : List Layout) → p.end ≤ (fold (place u) p ls).end
placed_far u p [] = omega arith
placed_far u p (l ∷ ls) = let rest = placed_far u (place u p l) ls in omega (arith, rest)

first_far : (u : Bool) (l : Layout) (ls : List Layout) → 1 ≤ l.size → 1 ≤ (placed u (l ∷ ls)).end
first_far u l ls h = let rest = placed_far u (place u none_placed l) ls in omega (arith, rest, h)

pub some_layout : (o : Option Layout) → is_some o ≡ true → o ≡ Some (unwrap_or o no_layout)
some_layout o e = search arith fits 100

tag_some : (k : Known) → AllSized k → (new : CompletedTag) (ms : List (List ℕ × PlainType)) → new.members ≡ ms → ((new.members ≡ []) → ⊥) → MembersWhole k ms → 1 ≤ (tag_layout k new).size
tag_some k a new [] e s w = absurd (s e)
tag_some k a new (m ∷ ms) e s w = search (arith, layout_some, some_layout, first_far, rounded_le)

learn_some : (k : Known) (new : CompletedTag) → AllSized k → 1 ≤ (tag_layout k new).size → AllSized (learn k new)
learn_some k new a h tag l e = grind (arith, true, false)

learns_some : (k : Known) (tags : List CompletedTag) → AreMade k tags → AllSized k → AllSized (fold learn k tags)
learns_some k [] m a = a
learns_some k (new ∷ tags) m a = learns_some (learn k new) tags m.1 (learn_some k new a (tag_some k a new new.members refl m.0.0.some m.0.1))

pub made_sized : (tags : List CompletedTag) (type : PlainType) (l : Layout) → AreMade nothing tags → Whole (known tags) type → layout_of (known tags) type ≡ Some l → (1 ≤ l.size) × (l.size ≤ 268435456)
made_sized tags type l m h e = (layout_some (known tags) (learns_some nothing tags m (λ tag x q. cc)) type l h e, type_layout_small l (is_layout tags type l m h e))

-- members that are found

pub placed_whole : (k : Known) (ms : List (List ℕ × PlainType)) (ps : List (ℕ × Layout)) (p : PlainMember → Bool) (m : PlainMember) → MembersWhole k ms
    → find p (map (λ (x : (List ℕ × PlainType) × (ℕ × Layout)). record { name = x.0.0; type = x.0.1; offset = x.1.0 }) (zip ms ps)) ≡ Some m → Whole k m.type
placed_whole k [] ps p m h e = cc
placed_whole k (x ∷ ms) [] p m h e = cc
placed_whole k (x ∷ ms) (y ∷ ps) p m h e = by (p (record { name = x.0; type = x.1; offset = y.0 })) (placed_whole k ms ps p m h.1) e
  where
    rest : Option PlainMember
    rest = find p (map (λ (z : (List ℕ × PlainType) × (ℕ × Layout)). record { name = z.0.0; type = z.0.1; offset = z.1.0 }) (zip ms ps))

    by : (t : Bool) → (rest ≡ Some m → Whole k m.type) → cond t (Some (record { name = x.0; type = x.1; offset = y.0 })) rest ≡ Some m → Whole k m.type
    by true again q = let same : x.1 ≡ m.type = ap (λ (o : Option PlainMember). (unwrap_or o m).type) q in subst (Whole k) same h.0.0
    by false again q = again q

pub made_found : (j : Known) (tags : List CompletedTag) (test : CompletedTag → Bool) (done : CompletedTag) → AreMade j tags → find test tags ≡ Some done → MembersWhole (fold learn j tags) done.members
made_found j [] test done m e = cc
made_found j (t ∷ tags) test done m e = by (test t) (made_found (learn j t) tags test done m.1) e
  where
    by : (b : Bool) → (find test tags ≡ Some done → MembersWhole (fold learn (learn j t) tags) done.members) → cond b (Some t) (find test tags) ≡ Some done → MembersWhole (fold learn (learn j t) tags) done.members
    by true again q =
        let same : t ≡ done = ap (λ (o : Option CompletedTag). unwrap_or o done) q in
        members_stay done.members j (fold learn (learn j t) tags) (λ tag l h. stays_known (learn j t) tags tag l (learn_extends j t tag l h)) (subst (λ (x : CompletedTag). MembersWhole j x.members) same m.0.1)
    by false again q = again q
