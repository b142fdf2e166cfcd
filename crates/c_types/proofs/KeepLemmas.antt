-- One more body.
use Rattle.std.proofs.Common.{◌≡◌, ◌≢◌, ◌==◌, ◌<◌, ℕ, zero, suc, Bool, true, false, cond, List, [], ◌∷◌, ◌++◌, Option, Some, None, option_map, length, map, set, refl, ap, sym, ◌∙◌, arith, slice_get, get_or, subst, ⊎_elim}
use Rattle.std.specs.List.{find}
use Rattle.std.specs.Option.{option_or, option_and_then}
use Rattle.std.proofs.lemmas.Bool.{eq-eqb}
use Rattle.std.proofs.lemmas.Bool.Decides.{eqb_tells}
use Rattle.std.proofs.lemmas.List.{map-append}
use Rattle.c_types.specs.declared.bodies.Body.{Body}
use Rattle.c_types.specs.declared.tags.Made.{Made}
use Rattle.c_types.specs.declared.tags.TagInfo.{TagInfo}
use Rattle.c_types.specs.Layouts.{Known}
use Rattle.c_types.specs.TagTable.{CompletedTag, TagTable, learn, known}
use Rattle.c_types.specs.declared.tags.Tags.TheInside.{Inside}
use Rattle.c_types.specs.Bodies.{completed_tag, table_of, place_in, IsPlaced, KeepsRule, AllLaid}
use Rattle.c_types.proofs.Places.{after, has_tag, not_found}

pub laid_push : (k : Known) (bs : List Body) (b : Body) → AllLaid k bs → IsPlaced (after k bs) b → KeepsRule (after k bs) b → AllLaid k (bs ++ b ∷ [])
laid_push k [] b a p r = ((p, r), tt)
laid_push k (x ∷ xs) b a p r = (a.0, laid_push (learn k (completed_tag x)) xs b a.1 p r)

next_or : (o : Option ℕ) (t : Bool) (n : ℕ) → option_map suc (option_or o (cond t (Some n) None)) ≡ option_or (option_map suc o) (cond t (Some (suc n)) None)
next_or None true n = refl
next_or None false n = refl
next_or (Some m) t n = refl

place_push : (bs : List Body) (b : Body) (tag : ℕ) → place_in tag (bs ++ b ∷ []) ≡ option_or (place_in tag bs) (cond (b.tag == tag) (Some (length bs)) None)
place_push [] b tag = elim (b.tag == tag) as (λ t. cond t (Some 0) (option_map suc None) ≡ option_or None (cond t (Some 0) None)) [ true ↦ refl | false ↦ refl ]
place_push (x ∷ xs) b tag =
    elim (x.tag == tag) as (λ t. cond t (Some 0) (option_map suc (place_in tag (xs ++ b ∷ []))) ≡ option_or (cond t (Some 0) (option_map suc (place_in tag xs))) (cond (b.tag == tag) (Some (length (x ∷ xs))) None)) [
      | true ↦ refl
      | false ↦ ap (λ o. option_map suc o) (place_push xs b tag) ∙ next_or (place_in tag xs) (b.tag == tag) (length xs)
    ]

place_unfound : (bs : List Body) (tag : ℕ) → find (has_tag tag) (map completed_tag bs) ≡ None → place_in tag bs ≡ None
place_unfound [] tag e = refl
place_unfound (b ∷ bs) tag e =
    elim (b.tag == tag) as (λ t. (b.tag == tag) ≡ t → place_in tag (b ∷ bs) ≡ None) [
      | true ↦ λ q. let some : Some (completed_tag b) ≡ None = rw q at e in cc
      | false ↦ λ q. let rest : find (has_tag tag) (map completed_tag bs) ≡ None = rw q at e in rw (q, place_unfound bs tag rest) refl
    ]
    refl

-- a tag of which nothing is known has no place
pub unknown_place : (bs : List Body) (tag : ℕ) → known (map completed_tag bs) tag ≡ None → place_in tag bs ≡ None
unknown_place bs tag e = place_unfound bs tag (not_found (λ tag. None) (map completed_tag bs) tag e)

abbrev pub place_of : Made → Option ℕ
place_of m = m.place

set_same : (ms : List Made) (i : ℕ) (m : Made) → i < length ms → slice_get (set ms i m) i ≡ Some m
set_same [] i m h = absurd (omega arith)
set_same (x ∷ xs) zero m h = refl
set_same (x ∷ xs) (suc i) m h = set_same xs i m (omega arith)

set_other : (ms : List Made) (i j : ℕ) (m : Made) → (i ≡ j → ⊥) → slice_get (set ms i m) j ≡ slice_get ms j
set_other [] i j m n = refl
set_other (x ∷ xs) zero zero m n = absurd (n refl)
set_other (x ∷ xs) zero (suc j) m n = refl
set_other (x ∷ xs) (suc i) zero m n = refl
set_other (x ∷ xs) (suc i) (suc j) m n = set_other xs i j m (λ e. n (ap suc e))

or_none : (o : Option ℕ) → o ≡ option_or o None
or_none None = refl
or_none (Some n) = refl

pub places_push :
    (ms : List Made) (bs : List Body) (b : Body) (m : Made) → ((tag : ℕ) → option_and_then place_of (slice_get ms tag) ≡ place_in tag bs) →
    b.tag < length ms → place_in b.tag bs ≡ None → m.place ≡ Some (length bs) →
    (tag : ℕ) → option_and_then place_of (slice_get (set ms b.tag m) tag) ≡ place_in tag (bs ++ b ∷ [])
places_push ms bs b m inv made none is tag =
    ⊎_elim
    (λ (e : ((b.tag == tag) ≡ true) × (b.tag ≡ tag)).
    subst (λ (t : ℕ). option_and_then place_of (slice_get (set ms b.tag m) t) ≡ place_in t (bs ++ b ∷ [])) e.1
    (rw (set_same ms b.tag m made, place_push bs b b.tag, none, eq-eqb b.tag b.tag refl) is))
    (λ (e : ((b.tag == tag) ≡ false) × (b.tag ≢ tag)).
    rw (set_other ms b.tag tag m e.1, place_push bs b tag, e.0) (inv tag ∙ or_none (place_in tag bs)))
    (eqb_tells b.tag tag)

pub tags_push : (bs : List Body) (b : Body) (tags : List ℕ) → tags ≡ map (λ (x : Body). x.tag) bs → tags ++ b.tag ∷ [] ≡ map (λ (x : Body). x.tag) (bs ++ b ∷ [])
tags_push bs b tags e = rw e (sym (map-append (λ (x : Body). x.tag) bs (b ∷ [])))

-- a place that is set changes no name
infos_set : (ms : List Made) (i : ℕ) (m d : Made) → i < length ms → m.info ≡ (get_or ms i d).info → map (λ (x : Made). x.info) (set ms i m) ≡ map (λ (x : Made). x.info) ms
infos_set [] i m d h e = refl
infos_set (x ∷ xs) zero m d h e = ap (λ (y : TagInfo). y ∷ map (λ (x : Made). x.info) xs) e
infos_set (x ∷ xs) (suc i) m d h e = ap (λ l. x.info ∷ l) (infos_set xs i m d (omega arith) e)

pub set_info : (ms : List Made) (i : ℕ) (m old : Made) → i < length ms → old ≡ get_or ms i old → m.info ≡ old.info → map (λ (x : Made). x.info) (set ms i m) ≡ map (λ (x : Made). x.info) ms
set_info ms i m old h at e = infos_set ms i m old h (e ∙ ap (λ (x : Made). x.info) at)

pub infos_len : (ms : List Made) → length (map (λ (x : Made). x.info) ms) ≡ length ms
infos_len [] = refl
infos_len (m ∷ ms) = ap suc (infos_len ms)

abbrev pub record_of : List TagInfo → List CompletedTag → TagTable
record_of made completed = record { made = made; completed = completed }

pub completed_push : (bs : List Body) (b : Body) (all : List Body) → all ≡ bs ++ b ∷ [] → map completed_tag all ≡ map completed_tag bs ++ completed_tag b ∷ []
completed_push bs b all e = rw e (map-append completed_tag bs (b ∷ []))

pub table_of_parts : (made infos : List TagInfo) (completed tags : List CompletedTag) → made ≡ infos → completed ≡ tags →
    (record_of made completed) ≡ (record_of infos tags)
table_of_parts made infos completed tags a b = rw (a, b) refl

pub made_below : (t : Inside) (table : TagTable) (tag : ℕ) → table_of t ≡ table → tag < length table.made → tag < length t.made.items
made_below t table tag e h =
    let below : tag < length (table_of t).made = subst (λ (x : TagTable). tag < length x.made) (sym e) h in
    omega (arith, infos_len t.made.items)
