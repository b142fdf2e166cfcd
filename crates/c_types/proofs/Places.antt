-- Where the body of a tag stands, and what is known of the tag.
use Rattle.std.proofs.Common.{◌≡◌, ◌==◌, ◌<◌, ℕ, zero, suc, Bool, true, false, List, [], ◌∷◌, Option, Some, None, option_map, length, take, map, fold, refl, ap, sym, arith, slice_get, get_or, subst}
use Rattle.std.specs.List.{find, take-map}
use Rattle.c_types.specs.declared.layouts.Layout.{Layout}
use Rattle.c_types.specs.declared.bodies.Body.{Body}
use Rattle.c_types.specs.Layouts.{Known}
use Rattle.c_types.specs.TagTable.{CompletedTag, learn, known, tag_layout}
use Rattle.c_types.specs.TagTableEquations.{stays_known}
use Rattle.c_types.specs.Bodies.{completed_tag, place_in, IsPlaced, KeepsRule, AllLaid, IsBodyOf}

-- what is known after bodies
abbrev pub after : Known → List Body → Known
after known bs = fold learn known (map completed_tag bs)

abbrev pub has_tag : ℕ → CompletedTag → Bool
has_tag tag done = done.tag == tag

-- what is known after the first tags stays known
pub known_after_first : (k : Known) (ds : List CompletedTag) (n tag : ℕ) (l : Layout) → fold learn k (take n ds) tag ≡ Some l → fold learn k ds tag ≡ Some l
known_after_first k [] zero tag l e = e
known_after_first k [] (suc n) tag l e = e
known_after_first k (d ∷ ds) zero tag l e = stays_known k (d ∷ ds) tag l e
known_after_first k (d ∷ ds) (suc n) tag l e = known_after_first (learn k d) ds n tag l e

other_learnt : (k : Known) (b : CompletedTag) (tag : ℕ) → k tag ≡ None → (b.tag == tag) ≡ false → learn k b tag ≡ None
other_learnt k b tag e n = rw (e, n) refl

new_learnt : (k : Known) (b : CompletedTag) (tag : ℕ) → k tag ≡ None → (b.tag == tag) ≡ true → learn k b tag ≡ Some (tag_layout k b)
new_learnt k b tag e n = rw (e, n) refl

next_none : (o : Option ℕ) → option_map suc o ≡ None → o ≡ None
next_none None e = refl
next_none (Some n) e = cc

next_some : (o : Option ℕ) (p : ℕ) → option_map suc o ≡ Some p → (q : ℕ) × (p ≡ suc q) × (o ≡ Some q)
next_some None p e = cc
next_some (Some n) p e = (n, sym (let h : suc n ≡ p = cc in h), refl)

pub known_none : (k : Known) (bs : List Body) (tag : ℕ) → k tag ≡ None → place_in tag bs ≡ None → after k bs tag ≡ None
known_none k [] tag e p = e
known_none k (b ∷ bs) tag e p =
    elim (b.tag == tag) as (λ t. (b.tag == tag) ≡ t → after k (b ∷ bs) tag ≡ None) [
      | true ↦ λ q. cc
      | false ↦ λ q.
          let others : place_in tag bs ≡ None = next_none (place_in tag bs) (rw q at p) in
          known_none (learn k (completed_tag b)) bs tag (other_learnt k (completed_tag b) tag e q) others
    ]
    refl

pub place_below : (bs : List Body) (tag p : ℕ) → place_in tag bs ≡ Some p → p < length bs
place_below [] tag p e = cc
place_below (b ∷ bs) tag p e =
    elim (b.tag == tag) as (λ t. (b.tag == tag) ≡ t → p < length (b ∷ bs)) [
      | true ↦ λ q. let here : Some 0 ≡ Some p = rw q at e in let zero_is : 0 ≡ p = cc in omega arith
      | false ↦ λ q.
          let r = next_some (place_in tag bs) p (rw q at e) in
          let ih : r.0 < length bs = place_below bs tag r.0 r.2 in
          omega (arith, r.1)
    ]
    refl

pub record IsAt (k : Known) (bs : List Body) (tag p : ℕ) (b : Body) : Type 0 where
  pub stands : slice_get (map completed_tag bs) p ≡ Some (completed_tag b)
  pub found : after k bs tag ≡ Some (tag_layout (after k (take p bs)) (completed_tag b))
  pub first : find (has_tag tag) (map completed_tag bs) ≡ Some (completed_tag b)

pub place_at : (k : Known) (bs : List Body) (tag p : ℕ) (b : Body) → k tag ≡ None → place_in tag bs ≡ Some p → b ≡ get_or bs p b → IsAt k bs tag p b
place_at k [] tag p b e h i = cc
place_at k (x ∷ xs) tag p b e h i =
    elim (x.tag == tag) as (λ t. (x.tag == tag) ≡ t → IsAt k (x ∷ xs) tag p b) [
      | true ↦ λ q.
          let here : Some 0 ≡ Some p = rw q at h in
          let zero_is : 0 ≡ p = cc in
          subst (λ n. IsAt k (x ∷ xs) tag n b) zero_is
          (let same : b ≡ x = (let P : ℕ → Type 0 = λ n. b ≡ get_or (x ∷ xs) n b in subst P (sym zero_is) i) in
          subst (λ (y : Body). IsAt k (x ∷ xs) tag 0 y) (sym same)
          (record {
            stands = refl;
            found = stays_known (learn k (completed_tag x)) (map completed_tag xs) tag (tag_layout k (completed_tag x)) (new_learnt k (completed_tag x) tag e q);
            first = rw q refl;
          }))
      | false ↦ λ q.
          let r = next_some (place_in tag xs) p (rw q at h) in
          subst (λ n. IsAt k (x ∷ xs) tag n b) (sym r.1)
          (let there : b ≡ get_or xs r.0 b = (let P : ℕ → Type 0 = λ n. b ≡ get_or (x ∷ xs) n b in subst P r.1 i) in
          let ih = place_at (learn k (completed_tag x)) xs tag r.0 b (other_learnt k (completed_tag x) tag e q) r.2 there in
          record {
            stands = ih.stands;
            found = ih.found;
            first = rw q ih.first;
          })
    ]
    refl

pub laid_at : (k : Known) (bs : List Body) (p : ℕ) (b : Body) → AllLaid k bs → p < length bs → b ≡ get_or bs p b → IsPlaced (after k (take p bs)) b × KeepsRule (after k (take p bs)) b
laid_at k [] p b a h i = absurd (omega arith)
laid_at k (x ∷ xs) zero b a h i = subst (λ (y : Body). IsPlaced k y × KeepsRule k y) (sym i) a.0
laid_at k (x ∷ xs) (suc p) b a h i = laid_at (learn k (completed_tag x)) xs p b a.1 (omega arith) i

pub place_before :
    (k : Known) (bs : List Body) (tag p n : ℕ) (l : Layout) → k tag ≡ None → place_in tag bs ≡ Some p → fold learn k (take n (map completed_tag bs)) tag ≡ Some l → p < n
place_before k bs tag p zero l e h g = let some : k tag ≡ Some l = g in cc
place_before k [] tag p (suc n) l e h g = cc
place_before k (b ∷ bs) tag p (suc n) l e h g =
    elim (b.tag == tag) as (λ t. (b.tag == tag) ≡ t → p < suc n) [
      | true ↦ λ q. let here : Some 0 ≡ Some p = rw q at h in let zero_is : 0 ≡ p = cc in omega arith
      | false ↦ λ q.
          let r = next_some (place_in tag bs) p (rw q at h) in
          let ih : r.0 < n = place_before (learn k (completed_tag b)) bs tag r.0 n l (other_learnt k (completed_tag b) tag e q) r.2 g in
          omega (arith, r.1)
    ]
    refl

pub body_at :
    (bs : List Body) (tag p : ℕ) (b : Body) → place_in tag bs ≡ Some p → AllLaid (λ tag. None) bs → b ≡ get_or bs p b → IsBodyOf (map completed_tag bs) tag p b
body_at bs tag p b h a i =
    let at = place_at (λ tag. None) bs tag p b refl h i in
    let laid = laid_at (λ tag. None) bs p b a (place_below bs tag p h) i in
    record {
      found = rw take-map at.found;
      stands = at.stands;
      first = at.first;
      placed = rw take-map laid.0;
      rule = rw take-map laid.1;
      before = λ n l e. place_before (λ tag. None) bs tag p n l refl h e;
    }

pub map-tag-completed : (bs : List Body) → map (λ (b : Body). b.tag) bs ≡ map (λ (done : CompletedTag). done.tag) (map completed_tag bs)
map-tag-completed [] = refl
map-tag-completed (b ∷ bs) = ap (λ ts. b.tag ∷ ts) (map-tag-completed bs)

learnt_some : (k : Known) (d : CompletedTag) (tag : ℕ) → (d.tag == tag) ≡ true → (l : Layout) × (learn k d tag ≡ Some l)
learnt_some k d tag q =
    elim (k tag) as (λ o. k tag ≡ o → (l : Layout) × (learn k d tag ≡ Some l)) [
      | None ↦ λ e. (tag_layout k d, new_learnt k d tag e q)
      | Some l ↦ λ e. (l, rw e refl)
    ]
    refl

-- a tag of which nothing is known was not completed
pub not_found : (k : Known) (ds : List CompletedTag) (tag : ℕ) → fold learn k ds tag ≡ None → find (has_tag tag) ds ≡ None
not_found k [] tag e = refl
not_found k (d ∷ ds) tag e =
    elim (d.tag == tag) as (λ t. (d.tag == tag) ≡ t → find (has_tag tag) (d ∷ ds) ≡ None) [
      | true ↦ λ q.
          let r = learnt_some k d tag q in
          let stays : fold learn (learn k d) ds tag ≡ Some r.0 = stays_known (learn k d) ds tag r.0 r.1 in
          cc
      | false ↦ λ q. rw q (not_found (learn k d) ds tag e)
    ]
    refl
