-- The union rule, told by the fronts of the largest member's slots.
use Rattle.std.proofs.Common.{◌≡◌, ◌≤◌, ◌<◌, ◌+◌, ◌==◌, ◌&&◌, ◌||◌, ℕ, suc, Bool, true, false, List, [], ◌∷◌, map, take, length, get_or, refl, ap, sym, subst, ◌∙◌, arith, ⊎_elim}
use Rattle.std.specs.List.{AllByRecursion, take_while, prefix_len}
use Rattle.std.specs.Prelude.{nat_lt, nat_le}
use Rattle.std.proofs.lemmas.List.{take_more}
use Rattle.std.proofs.lemmas.Bool.{eqb-true, eq-eqb, le-leb, ltb-true, ltb-false, lt-ltb, cases_lt}
use Rattle.c_types.specs.declared.layouts.Layout.{Layout}
use Rattle.c_types.specs.declared.bodies.Body.{Body}
use Rattle.c_types.specs.declared.bodies.Member.{Member}
use Rattle.c_types.specs.Types.{plain}
use Rattle.c_types.specs.TagTable.{layout_or, member_layout}
use Rattle.c_types.specs.Bodies.{IsPlaced, completed_tag}
use Rattle.c_types.specs.Slots.{member_size, IsLargest}
use Rattle.c_types.specs.Layouts.{Known, AreSlots, IsSound, has_slot, keeps_union_rule}
use Rattle.c_types.proofs.Sound.{AllSound, all_push, member_sound, slot_within}
use Rattle.c_types.proofs.Filtered.{contains, filtered, same_bool, not_below, passes_all, all_passes, passes_at, or_first, or_other, or_holds}
use Rattle.c_types.proofs.BodyLemmas.{Fits, all_at, slot_passes, member_passes, layouts_of, layouts_len, layout_at, member_layouts, members_inside}

abbrev pub front : ℕ → List ℕ → List ℕ
front size ss = take_while (λ slot. nat_lt slot size) ss

front_more : (s : ℕ) (ss : List ℕ) (size : ℕ) → nat_lt s size ≡ true → front size (s ∷ ss) ≡ s ∷ front size ss
front_more s ss size q = rw q (let next : 1 + prefix_len (λ x. nat_lt x size) ss ≡ suc (prefix_len (λ x. nat_lt x size) ss) = omega arith in rw next refl)

front_stop : (s : ℕ) (ss : List ℕ) (size : ℕ) → nat_lt s size ≡ false → front size (s ∷ ss) ≡ []
front_stop s ss size q = rw q refl

pub take_front : (ss : List ℕ) (size : ℕ) → take (length (front size ss)) ss ≡ front size ss
take_front [] size = refl
take_front (s ∷ ss) size =
    elim (nat_lt s size) as (λ t. nat_lt s size ≡ t → take (length (front size (s ∷ ss))) (s ∷ ss) ≡ front size (s ∷ ss)) [
      | true ↦ λ q. subst (λ (f : List ℕ). take (length f) (s ∷ ss) ≡ f) (sym (front_more s ss size q)) (ap (λ l. s ∷ l) (take_front ss size))
      | false ↦ λ q. rw q refl
    ]
    refl

front_slots : (size low high : ℕ) (ss : List ℕ) → AreSlots low high ss → AreSlots low high (front size ss)
front_slots size low high [] h = tt
front_slots size low high (s ∷ ss) h =
    elim (nat_lt s size) as (λ t. nat_lt s size ≡ t → AreSlots low high (front size (s ∷ ss))) [
      | true ↦ λ q. subst (λ (f : List ℕ). AreSlots low high f) (sym (front_more s ss size q)) (h.0, h.1, h.2, front_slots size (s + 4) high ss h.3)
      | false ↦ λ q. subst (λ (f : List ℕ). AreSlots low high f) (sym (front_stop s ss size q)) tt
    ]
    refl

and_false : (a b : Bool) → b ≡ false → (a && b) ≡ false
and_false true b e = e
and_false false b e = refl

first_of : (a b : Bool) → (a && b) ≡ true → a ≡ true
first_of true b e = refl
first_of false b e = cc

second_of : (a b : Bool) → (a && b) ≡ true → b ≡ true
second_of true b e = e
second_of false b e = cc

and_true : (a b : Bool) → b ≡ true → (a && b) ≡ a
and_true true b e = e
and_true false b e = refl

not_lt : (a b : ℕ) → b ≤ a → nat_lt a b ≡ false
not_lt a b h =
    elim (nat_lt a b) as (λ t. nat_lt a b ≡ t → t ≡ false) [ true ↦ λ q. absurd (let less = ltb-true a b q in omega arith) | false ↦ λ q. refl ] refl

pub contains_front : (size low high : ℕ) (ss : List ℕ) (o : ℕ) → AreSlots low high ss → contains o (front size ss) ≡ (contains o ss && nat_lt o size)
contains_front size low high [] o h = refl
contains_front size low high (s ∷ ss) o h =
    elim (nat_lt s size) as (λ t. nat_lt s size ≡ t → contains o (front size (s ∷ ss)) ≡ (contains o (s ∷ ss) && nat_lt o size)) [
      | true ↦ λ q.
          elim (s == o) as (λ t. (s == o) ≡ t → contains o (front size (s ∷ ss)) ≡ (contains o (s ∷ ss) && nat_lt o size)) [
            | true ↦ λ d.
                let small : nat_lt o size ≡ true = ap (λ n. nat_lt n size) (sym (eqb-true s o d)) ∙ q in
                subst (λ (f : List ℕ). contains o f ≡ (contains o (s ∷ ss) && nat_lt o size)) (sym (front_more s ss size q)) (rw (d, small) refl)
            | false ↦ λ d.
                subst (λ (f : List ℕ). contains o f ≡ (contains o (s ∷ ss) && nat_lt o size)) (sym (front_more s ss size q))
                (rw d (contains_front size (s + 4) high ss o h.3))
          ]
          refl
      | false ↦ λ q.
          subst (λ (f : List ℕ). contains o f ≡ (contains o (s ∷ ss) && nat_lt o size)) (sym (front_stop s ss size q))
          (⊎_elim
          (λ (below : o < s). sym (ap (λ b. b && nat_lt o size) (not_below s high (s ∷ ss) o (omega arith, h.1, h.2, h.3) below)))
          (λ (above : s ≤ o). sym (and_false (contains o (s ∷ ss)) (nat_lt o size) (not_lt o size (let past = ltb-false s size q in omega arith))))
          (cases_lt o s))
    ]
    refl

-- one member by the rule
pub front_from_rule :
    (ls : List Layout) (largest l : Layout) (i j : ℕ) → IsSound largest → IsSound l → l.size ≤ largest.size → keeps_union_rule ls ≡ true →
    i < length ls → largest ≡ get_or ls i largest → j < length ls → l ≡ get_or ls j l → l.slots ≡ front l.size largest.slots
front_from_rule ls largest l i j sound mine inside rule within at here is =
    let passes = passes_all (member_passes ls) ls rule in
    let largest_passes : member_passes ls largest ≡ true = all_at (λ (x : Layout). member_passes ls x ≡ true) ls i largest passes within at in
    let l_passes : member_passes ls l ≡ true = all_at (λ (x : Layout). member_passes ls x ≡ true) ls j l passes here is in
    let both : (o : ℕ) → contains o l.slots ≡ (contains o largest.slots && nat_lt o l.size) =
    (λ o.
    same_bool (contains o l.slots) (contains o largest.slots && nat_lt o l.size)
    (λ e.
    let w = slot_within 0 l.size l.slots o mine.slots e in
    let small : nat_lt o l.size ≡ true = lt-ltb o l.size (let ends = w.1 in omega arith) in
    let one : slot_passes ls o ≡ true = passes_at (slot_passes ls) l.slots o l_passes e in
    let there : (nat_le largest.size o || has_slot o largest) ≡ true =
    all_at (λ (x : Layout). (nat_le x.size o || has_slot o x) ≡ true) ls i largest
    (passes_all (λ (x : Layout). nat_le x.size o || has_slot o x) ls one) within at in
    and_true (contains o largest.slots) (nat_lt o l.size) small
    ∙ or_holds largest.size o (has_slot o largest) there (let ends = w.1 in omega arith))
    (λ e.
    let in_largest : contains o largest.slots ≡ true = first_of (contains o largest.slots) (nat_lt o l.size) e in
    let small : o < l.size = ltb-true o l.size (second_of (contains o largest.slots) (nat_lt o l.size) e) in
    let one : slot_passes ls o ≡ true = passes_at (slot_passes ls) largest.slots o largest_passes in_largest in
    let there : (nat_le l.size o || has_slot o l) ≡ true =
    all_at (λ (x : Layout). (nat_le x.size o || has_slot o x) ≡ true) ls j l
    (passes_all (λ (x : Layout). nat_le x.size o || has_slot o x) ls one) here is in
    or_holds l.size o (has_slot o l) there small)) in
    sym (filtered (λ o. contains o l.slots) l.slots 0 l.size 0 largest.size mine.slots (omega arith) (omega arith) (λ o g. refl))
    ∙ filtered (λ o. contains o l.slots) (front l.size largest.slots) 0 largest.size 0 largest.size (front_slots l.size 0 largest.size largest.slots sound.slots)
    (omega arith) (omega arith) (λ o g. both o ∙ sym (contains_front l.size 0 largest.size largest.slots o sound.slots))

abbrev pub IsFront : Layout → Layout → Type 0
IsFront largest l = l.slots ≡ front l.size largest.slots

each_slot : (Q : ℕ → Type 0) (ss : List ℕ) → ((o : ℕ) → contains o ss ≡ true → Q o) → AllByRecursion Q ss
each_slot Q [] f = tt
each_slot Q (s ∷ ss) f =
    (f s (or_first (s == s) (contains s ss) (eq-eqb s s refl)), each_slot Q ss (λ o e. f o (or_other (s == o) (contains o ss) e)))

each_other : (largest : Layout) (o : ℕ) (ls : List Layout) → IsSound largest → contains o largest.slots ≡ true → AllByRecursion (IsFront largest) ls →
    AllByRecursion (λ (x : Layout). (nat_le x.size o || has_slot o x) ≡ true) ls
each_other largest o [] sound e a = tt
each_other largest o (x ∷ xs) sound e a = (
  ⊎_elim
      (λ (small : o < x.size).
      or_other (nat_le x.size o) (has_slot o x)
      (ap (λ ss. contains o ss) a.0
      ∙ (contains_front x.size 0 largest.size largest.slots o sound.slots ∙ (and_true (contains o largest.slots) (nat_lt o x.size) (lt-ltb o x.size small) ∙ e))))
      (λ (past : x.size ≤ o). or_first (nat_le x.size o) (has_slot o x) (le-leb x.size o past))
      (cases_lt o x.size),
  each_other largest o xs sound e a.1,
)

each_member : (largest : Layout) (all ls : List Layout) → IsSound largest → AllByRecursion (IsFront largest) all → AllByRecursion (IsFront largest) ls →
    AllByRecursion (λ (l : Layout). member_passes all l ≡ true) ls
each_member largest all [] sound a b = tt
each_member largest all (l ∷ ls) sound a b = (
  all_passes (slot_passes all) l.slots
      (each_slot (λ o. slot_passes all o ≡ true) l.slots
      (λ o e.
      let in_front : contains o (front l.size largest.slots) ≡ true = ap (λ ss. contains o ss) (sym b.0) ∙ e in
      let in_largest : contains o largest.slots ≡ true =
      first_of (contains o largest.slots) (nat_lt o l.size) (sym (contains_front l.size 0 largest.size largest.slots o sound.slots) ∙ in_front) in
      all_passes (λ (x : Layout). nat_le x.size o || has_slot o x) all (each_other largest o all sound in_largest a))),
  each_member largest all ls sound a b.1,
)

pub rule_from_fronts : (largest : Layout) (ls : List Layout) → IsSound largest → AllByRecursion (IsFront largest) ls → keeps_union_rule ls ≡ true
rule_from_fronts largest ls sound a = all_passes (member_passes ls) ls (each_member largest ls ls sound a a)

-- a member with the slots at the front of a list
abbrev pub IsFrontMember : Known → List ℕ → Member → Type 0
IsFrontMember k all m = (layout_or k (plain m.ty)).slots ≡ front (layout_or k (plain m.ty)).size all

fronts_of : (k : Known) (largest : Layout) (all : List ℕ) (ms : List Member) → all ≡ largest.slots → AllByRecursion (IsFrontMember k all) ms →
    AllByRecursion (IsFront largest) (layouts_of k ms)
fronts_of k largest all [] e a = tt
fronts_of k largest all (m ∷ ms) e a =
    (a.0 ∙ ap (λ l. front (layout_or k (plain m.ty)).size l) e, fronts_of k largest all ms e a.1)

pub member_room : (k : Known) (b : Body) (i : ℕ) (m : Member) → IsPlaced k b → i < length b.members → m ≡ get_or b.members i m → (layout_or k (plain m.ty)).size ≤ 268435456
member_room k b i m h within at =
    let inside : Fits k b.size m = all_at (Fits k b.size) b.members i m (members_inside k b h) within at in
    let limit = h.limit in
    omega arith

pub follows_if_fronts :
    (k : Known) (b : Body) (i : ℕ) (m : Member) (all : List ℕ) → AllSound k → IsPlaced k b → i < length b.members → m ≡ get_or b.members i m →
    all ≡ (layout_or k (plain m.ty)).slots → AllByRecursion (IsFrontMember k all) b.members →
    keeps_union_rule (map (member_layout k) (completed_tag b).members) ≡ true
follows_if_fronts k b i m all sound h within at is fronts =
    ap keeps_union_rule (member_layouts k b.members)
    ∙ rule_from_fronts (layout_or k (plain m.ty)) (layouts_of k b.members) (member_sound k sound (m.name, plain m.ty))
    (fronts_of k (layout_or k (plain m.ty)) all b.members is fronts)

pub fails_if_no_front :
    (k : Known) (b : Body) (i j : ℕ) (largest m : Member) (all : List ℕ) → AllSound k → IsPlaced k b → i < length b.members →
    largest ≡ get_or b.members i largest → IsLargest k b.members largest → all ≡ (layout_or k (plain largest.ty)).slots →
    j < length b.members → m ≡ get_or b.members j m → (IsFrontMember k all m → ⊥) →
    keeps_union_rule (map (member_layout k) (completed_tag b).members) ≡ false
fails_if_no_front k b i j largest m all sound h within at most is here at_m none =
    let ms = b.members in
    let ls = layouts_of k ms in
    let len : length ls ≡ length ms = layouts_len k ms in
    let less : (layout_or k (plain m.ty)).size ≤ (layout_or k (plain largest.ty)).size =
    all_at (λ (x : Member). member_size k x ≤ member_size k largest) ms j m most here at_m in
    ap keeps_union_rule (member_layouts k ms)
    ∙ elim (keeps_union_rule ls) as (λ t. keeps_union_rule ls ≡ t → t ≡ false) [
      | true ↦ λ e.
          absurd
          (none
          (front_from_rule ls (layout_or k (plain largest.ty)) (layout_or k (plain m.ty)) i j
          (member_sound k sound (largest.name, plain largest.ty)) (member_sound k sound (m.name, plain m.ty)) less e
          (omega arith) (layout_at k ms i largest within at) (omega arith) (layout_at k ms j m here at_m)
          ∙ ap (λ l. front (layout_or k (plain m.ty)).size l) (sym is)))
      | false ↦ λ e. refl
    ]
    refl

pub front_told :
    (k : Known) (all : List ℕ) (m : Member) (slots given_slots given_all : List ℕ) (size : ℕ) → slots ≡ (layout_or k (plain m.ty)).slots → given_slots ≡ slots → given_all ≡ all →
    (layout_or k (plain m.ty)).size ≡ size → given_slots ≡ front size given_all → IsFrontMember k all m
front_told k all m slots given_slots given_all size is s a z e =
    sym is ∙ (sym s ∙ (e ∙ (ap (λ n. front n given_all) (sym z) ∙ ap (λ l. front (layout_or k (plain m.ty)).size l) a)))

pub front_given :
    (k : Known) (all : List ℕ) (m : Member) (slots given_slots given_all : List ℕ) (size : ℕ) → slots ≡ (layout_or k (plain m.ty)).slots → given_slots ≡ slots → given_all ≡ all →
    (layout_or k (plain m.ty)).size ≡ size → IsFrontMember k all m → given_slots ≡ front size given_all
front_given k all m slots given_slots given_all size is s a z e =
    s ∙ (is ∙ (e ∙ (ap (λ l. front (layout_or k (plain m.ty)).size l) (sym a) ∙ ap (λ n. front n given_all) z)))

pub next_front :
    (k : Known) (all : List ℕ) (ms : List Member) (i : ℕ) (m : Member) → i < length ms → m ≡ get_or ms i m → IsFrontMember k all m →
    AllByRecursion (IsFrontMember k all) (take i ms) → AllByRecursion (IsFrontMember k all) (take (i + 1) ms)
next_front k all ms i m h at f a = rw (take_more ms i m h, ← at) (all_push (IsFrontMember k all) (take i ms) m a f)
