-- Registers that are collected from the last point to the first, and pins that are listed from the first to the last.
use Rattle.std.proofs.Common.{◌≡◌, ℕ, suc, ◌+◌, ◌-◌, ◌<◌, ◌≤◌, true, false, List, [], ◌∷◌, ◌++◌, length, map, reverse, get_or, Option, Some, None, refl, sym, ap, ◌∙◌, subst, arith, length-append}
use Rattle.std.specs.Prelude.{slice_get}
use Rattle.std.specs.List.{flat_map, range_with_len}
use Rattle.std.proofs.lemmas.List.{append-nil, reverse-append}
use Rattle.std.proofs.lemmas.List.Concat.{flat_map-append}
use Rattle.std.proofs.lemmas.Option.{slice_get-get_or}
use Rattle.core_tree.specs.declared.program.Func.{Func}
use Rattle.core_tree.specs.declared.statements.Stm.{Stm}
use Rattle.object_meaning.specs.declared.pins.Pin.{Pin}
use Rattle.local_liveness.specs.Tables.{HasLive}
use Rattle.count_insertion.specs.Inserted.{pin_of, pins_at, pins_before, registers_at, registers_from}
use Rattle.count_insertion.proofs.Runs.{range_split}

-- Backwards

pub stm_at : (func : Func) (body : List Stm) (n : ℕ) (stm : Stm) → body ≡ func.body → n < length body → stm ≡ get_or body n stm → slice_get func.body n ≡ Some stm
stm_at func body n stm same inside at =
    subst (λ (b : List Stm). slice_get b n ≡ Some stm) same (slice_get-get_or body n stm inside ∙ ap Some (sym at))

-- the registers of a point before those of the later ones
pub from_here : (func : Func) (point : ℕ) → point < length func.body → registers_from func point ≡ registers_at func point (slice_get func.body point) ∷ registers_from func (point + 1)
from_here func point inside =
    let long : length func.body - point ≡ suc (length func.body - (point + 1)) = omega arith in
    ap (λ n. map (λ p. registers_at func p (slice_get func.body p)) (range_with_len point n)) long

-- the points from one on have their registers, from the last to the first
pub record Collected (func : Func) (point : ℕ) (live : List ℕ) (lists : List (List ℕ)) : Type 0 where
  pub within : point ≤ length func.body
  pub behind : HasLive live func point
  pub registers : lists ≡ reverse (registers_from func point)

pub collected_none : (func : Func) (point : ℕ) (live : List ℕ) → point ≡ length func.body → HasLive live func (length func.body) → Collected func point live []
collected_none func point live end here = record {
  within = omega arith;
  behind = subst (λ p. HasLive live func p) (sym end) here;
  registers =
      let none : 0 ≡ length func.body - point = omega arith in
      ap (λ n. reverse (map (λ p. registers_at func p (slice_get func.body p)) (range_with_len point n))) none;
}

pub collected_more :
    (func : Func) (i point : ℕ) (before live registers : List ℕ) (old new : List (List ℕ)) → i ≡ point + 1 → Collected func i before old →
    HasLive live func point → registers ≡ registers_at func point (slice_get func.body point) → new ≡ old ++ registers ∷ [] → Collected func point live new
collected_more func i point before live registers old new next c here is now =
    let within = c.within in
    record {
      within = omega arith;
      behind = here;
      registers =
          now
          ∙ ap (λ rss. rss ++ registers ∷ []) (c.registers ∙ ap (λ k. reverse (registers_from func k)) next)
          ∙ ap (λ rs. reverse (registers_from func (point + 1)) ++ rs ∷ []) is
          ∙ sym (ap reverse (from_here func point (omega arith)) ∙ reverse-append (registers_at func point (slice_get func.body point) ∷ []) (registers_from func (point + 1)));
    }

pub collected_all : (func : Func) (point : ℕ) (live : List ℕ) (lists : List (List ℕ)) → point ≡ 0 → Collected func point live lists → lists ≡ reverse (registers_from func 0)
collected_all func point live lists first c = c.registers ∙ ap (λ p. reverse (registers_from func p)) first

-- Forwards

pub contradicts : false ≡ true → ⊥
contradicts e = absurd (cc)

abbrev head_or : List ℕ → List (List ℕ) → List ℕ
head_or d [] = d
head_or d (x ∷ xs) = x

abbrev rest_or : List (List ℕ) → List (List ℕ) → List (List ℕ)
rest_or d [] = d
rest_or d (x ∷ xs) = xs

-- two lists with one item more are alike only where both parts are
snoc_same : (xs ys : List (List ℕ)) (a b : List ℕ) → xs ++ a ∷ [] ≡ ys ++ b ∷ [] → (xs ≡ ys) × (a ≡ b)
snoc_same [] [] a b e = (refl, ap (head_or a) e)
snoc_same [] (y ∷ ys) a b e = absurd (let long = ap length e in omega (arith, long, length-append ys (b ∷ [])))
snoc_same (x ∷ xs) [] a b e = absurd (let long = ap length e in omega (arith, long, length-append xs (a ∷ [])))
snoc_same (x ∷ xs) (y ∷ ys) a b e =
    let rest = snoc_same xs ys a b (ap (rest_or []) e) in
    (ap (λ z. z ∷ xs) (ap (head_or a) e) ∙ ap (λ zs. y ∷ zs) rest.0, rest.1)

module _ (func : Func) (place : ℕ) (inside : place < length func.body) (lists : List (List ℕ)) (are : lists ≡ reverse (registers_from func place)) where
  abbrev here : List ℕ
  here = registers_at func place (slice_get func.body place)

  split : lists ≡ reverse (registers_from func (place + 1)) ++ here ∷ []
  split = are ∙ ap reverse (from_here func place inside) ∙ reverse-append (here ∷ []) (registers_from func (place + 1))

  -- a list is there
  pub some_left : 0 < length lists
  some_left = omega (arith, ap length split, length-append (reverse (registers_from func (place + 1))) (here ∷ []))

  pub popped : (others : List (List ℕ)) (registers : List ℕ) → lists ≡ others ++ registers ∷ [] → (others ≡ reverse (registers_from func (place + 1))) × (registers ≡ here)
  popped others registers e = snoc_same others (reverse (registers_from func (place + 1))) registers here (sym e ∙ split)

  pins_are : (o : Option Stm) → map (pin_of place) (registers_at func place o) ≡ pins_at func place o
  pins_are None = refl
  pins_are (Some stm) = refl

  before_more : pins_before func (place + 1) ≡ pins_before func place ++ pins_at func place (slice_get func.body place)
  before_more =
      let zero_first : 0 + place ≡ place = omega arith in
      let f = λ (point : ℕ). pins_at func point (slice_get func.body point) in
      ap (flat_map f) (range_split 0 place 1 ∙ ap (λ k. range_with_len 0 place ++ range_with_len k 1) zero_first)
      ∙ flat_map-append f (range_with_len 0 place) (place ∷ [])
      ∙ ap (λ ps. flat_map f (range_with_len 0 place) ++ ps) (append-nil (f place))

  pub place_more : (point : ℕ) (registers : List ℕ) (old new : List Pin) → point ≡ place → registers ≡ here → old ≡ pins_before func place → new ≡ old ++ map (pin_of point) registers → new ≡ pins_before func (place + 1)
  place_more point registers old new same is so_far now =
      now
      ∙ ap (λ ps. ps ++ map (pin_of point) registers) so_far
      ∙ ap (λ k. pins_before func place ++ map (pin_of k) registers) same
      ∙ ap (λ rs. pins_before func place ++ map (pin_of place) rs) is
      ∙ ap (λ ps. pins_before func place ++ ps) (pins_are (slice_get func.body place))
      ∙ sym before_more
