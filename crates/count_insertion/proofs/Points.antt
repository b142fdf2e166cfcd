-- The pins of points, one point after another.
use Rattle.std.proofs.Common.{◌≡◌, ℕ, zero, suc, ◌+◌, ◌<◌, ◌≢◌, Bool, true, false, List, [], ◌∷◌, ◌++◌, cond, length, map, take, drop, get_or, Some, None, Option, refl, sym, ◌∙◌, ap, subst, arith}
use Rattle.std.specs.Prelude.{◌↔◌, nat_eq, slice_get, All, IsTrue}
use Rattle.std.specs.List.{flat_map, prefix_len, range_with_len}
use Rattle.std.proofs.Math.Seq.{take-append_seam}
use Rattle.std.proofs.lemmas.Bool.{eq-eqb, ne_eqb}
use Rattle.std.proofs.lemmas.List.{append-nil}
use Rattle.std.proofs.lemmas.List.Concat.{flat_map-append}
use Rattle.std.proofs.lemmas.List.Elements.{All-append, All-cons, All-head, All-map, All-nil, All-push, All-tail}
use Rattle.std.proofs.lemmas.List.FromFn.{length-range_with_len, get_or-range_with_len}
use Rattle.std.proofs.lemmas.List.Prefix.{front_rest}
use Rattle.std.proofs.lemmas.List.Quantifiers.{all_pairs_push}
use Rattle.core_tree.specs.declared.program.Func.{Func}
use Rattle.core_tree.specs.declared.statements.Stm.{Stm}
use Rattle.object_meaning.specs.declared.pins.Pin.{Pin}
use Rattle.count_insertion.specs.declared.listed.PointPins.{PointPins}
use Rattle.count_insertion.specs.Inserted.{pin_of, pins_at, pins_before}
use Rattle.count_insertion.specs.Points.{AreOfPoints, pins_listed, pins_there}

abbrev is_of_point : ℕ → Pin → Bool
is_of_point point pin = nat_eq pin.point point

-- One point more

pub not_none : (b : Bool) (registers : List ℕ) → b ≡ false → (IsTrue b ↔ (registers ≡ [])) → registers ≢ []
not_none true registers h both e = absurd (cc)
not_none false registers h both e = let yes = both.1 e in absurd (cc)

pub listed_more : (points : List PointPins) (at : PointPins) → pins_listed (points ++ at ∷ []) ≡ pins_listed points ++ pins_there at
listed_more points at = flat_map-append pins_there points (at ∷ []) ∙ ap (λ ps. pins_listed points ++ ps) (append-nil (pins_there at))

-- what holds of the pins of a point that has one holds of the point
point_of : (n point : ℕ) (registers : List ℕ) → registers ≢ [] → All (λ (pin : Pin). pin.point < n) (map (pin_of point) registers) → point < n
point_of n point [] some h = absurd (some refl)
point_of n point (r ∷ registers) some h = h 0 (pin_of point r) (omega arith)

front_all : {X : Type 0} (P : X → Type 0) (xs ys : List X) → All P (xs ++ ys) → All P xs
front_all P [] ys h = All-nil P
front_all P (x ∷ xs) ys h = All-cons P x xs (All-head P x (xs ++ ys) h) (front_all P xs ys (All-tail P x (xs ++ ys) h))

rest_all : {X : Type 0} (P : X → Type 0) (xs ys : List X) → All P (xs ++ ys) → All P ys
rest_all P [] ys h = h
rest_all P (x ∷ xs) ys h = rest_all P xs ys (All-tail P x (xs ++ ys) h)

points_below : (n : ℕ) (points : List PointPins) → All (λ (at : PointPins). at.registers ≢ []) points → All (λ (pin : Pin). pin.point < n) (pins_listed points) → (k : ℕ) (d : PointPins) → k < length points → (get_or points k d).point < n
points_below n [] some h k d inside = absurd (omega (arith, inside))
points_below n (at ∷ points) some h zero d inside =
    point_of n at.point at.registers (All-head (λ (a : PointPins). a.registers ≢ []) at points some) (front_all (λ (pin : Pin). pin.point < n) (pins_there at) (pins_listed points) h)
points_below n (at ∷ points) some h (suc k) d inside =
    points_below n points (All-tail (λ (a : PointPins). a.registers ≢ []) at points some) (rest_all (λ (pin : Pin). pin.point < n) (pins_there at) (pins_listed points) h) k d (omega (arith, inside))

pub points_more : (points : List PointPins) (at : PointPins) → AreOfPoints points → at.registers ≢ [] → All (λ (pin : Pin). pin.point < at.point) (pins_listed points) → AreOfPoints (points ++ at ∷ [])
points_more points at are some below =
    record {
      ascend = all_pairs_push (λ (one other : PointPins). one.point < other.point) points at are.ascend (points_below at.point points are.some below);
      some = All-push (λ (a : PointPins). a.registers ≢ []) points at are.some some;
    }

-- The pins of a point that stand first

same_first : (point : ℕ) (registers : List ℕ) (rest : List Pin) → prefix_len (is_of_point point) rest ≡ 0 → prefix_len (is_of_point point) (map (pin_of point) registers ++ rest) ≡ length (map (pin_of point) registers)
same_first point [] rest h = h
same_first point (r ∷ registers) rest h =
    ap (λ b. cond b (1 + prefix_len (is_of_point point) (map (pin_of point) registers ++ rest)) 0) (eq-eqb point point refl)
    ∙ (let more = same_first point registers rest h in omega (arith, more))

other_first : (point other : ℕ) → (other ≡ point → ⊥) → (registers : List ℕ) (rest : List Pin) → prefix_len (is_of_point point) rest ≡ 0 → prefix_len (is_of_point point) (map (pin_of other) registers ++ rest) ≡ 0
other_first point other n [] rest h = h
other_first point other n (r ∷ registers) rest h =
    ap (λ b. cond b (1 + prefix_len (is_of_point point) (map (pin_of other) registers ++ rest)) 0) (ne_eqb other point n)

none_later : (point : ℕ) (points : List PointPins) → All (λ (at : PointPins). point < at.point) points → prefix_len (is_of_point point) (pins_listed points) ≡ 0
none_later point [] h = refl
none_later point (at ∷ points) h =
    let less = All-head (λ (a : PointPins). point < a.point) at points h in
    other_first point at.point (λ e. omega (arith, e, less)) at.registers (pins_listed points) (none_later point points (All-tail (λ (a : PointPins). point < a.point) at points h))

registers_of : (point : ℕ) (registers : List ℕ) → map (λ (pin : Pin). pin.reg) (map (pin_of point) registers) ≡ registers
registers_of point [] = refl
registers_of point (r ∷ registers) = ap (λ rs. r ∷ rs) (registers_of point registers)

rest_of_points : (at : PointPins) (points : List PointPins) → AreOfPoints (at ∷ points) → AreOfPoints points
rest_of_points at points are =
    record {
      ascend = λ i j d less below. are.ascend (suc i) (suc j) d (omega (arith, less)) (omega (arith, below));
      some = All-tail (λ (a : PointPins). a.registers ≢ []) at points are.some;
    }

module _ (old : List Pin) (points others : List PointPins) (at : PointPins) (is : pins_listed points ≡ old) (split : points ≡ at ∷ others) (are : AreOfPoints points) where
  are_here : AreOfPoints (at ∷ others)
  are_here = subst AreOfPoints split are

  old_is : old ≡ pins_there at ++ pins_listed others
  old_is = sym is ∙ ap pins_listed split

  many : prefix_len (is_of_point at.point) old ≡ length (pins_there at)
  many =
      ap (prefix_len (is_of_point at.point)) old_is
      ∙ same_first at.point at.registers (pins_listed others) (none_later at.point others (λ k d inside. are_here.ascend 0 (suc k) d (omega arith) (omega (arith, inside))))

  pub others_are : AreOfPoints others
  others_are = rest_of_points at others are_here

  -- where the first point is asked for, its registers are taken, and the pins of the others are left
  pub first_taken : (point : ℕ) → at.point ≡ point → at.registers ≡ map (λ (pin : Pin). pin.reg) (take (prefix_len (is_of_point point) old) old)
  first_taken point e =
      sym (ap (λ k. map (λ (pin : Pin). pin.reg) (take (prefix_len (is_of_point k) old) old)) (sym e)
      ∙ ap (λ n. map (λ (pin : Pin). pin.reg) (take n old)) many
      ∙ ap (λ ps. map (λ (pin : Pin). pin.reg) (take (length (pins_there at)) ps)) old_is
      ∙ ap (map (λ (pin : Pin). pin.reg)) (take-append_seam (pins_there at) (pins_listed others))
      ∙ registers_of at.point at.registers)

  pub first_left : (point : ℕ) → at.point ≡ point → pins_listed others ≡ drop (prefix_len (is_of_point point) old) old
  first_left point e =
      sym (ap (λ k. drop (prefix_len (is_of_point k) old) old) (sym e)
      ∙ ap (λ n. drop n old) many
      ∙ front_rest old (pins_there at) (pins_listed others) old_is)

  -- and where another one is asked for, no pin of it stands first
  pub none_first : (point : ℕ) → (at.point ≡ point → ⊥) → prefix_len (is_of_point point) old ≡ 0
  none_first point n = ap (prefix_len (is_of_point point)) old_is ∙ first_differs at.registers (All-head (λ (a : PointPins). a.registers ≢ []) at others are_here.some) where
    first_differs : (registers : List ℕ) → registers ≢ [] → prefix_len (is_of_point point) (map (pin_of at.point) registers ++ pins_listed others) ≡ 0
    first_differs [] some = absurd (some refl)
    first_differs (r ∷ registers) some =
        ap (λ b. cond b (1 + prefix_len (is_of_point point) (map (pin_of at.point) registers ++ pins_listed others)) 0) (ne_eqb at.point point n)

pub none_taken : (old : List Pin) (n : ℕ) → n ≡ 0 → [] ≡ map (λ (pin : Pin). pin.reg) (take n old)
none_taken old n e = sym (ap (λ k. map (λ (pin : Pin). pin.reg) (take k old)) e ∙ nothing old) where
  nothing : (ps : List Pin) → map (λ (pin : Pin). pin.reg) (take 0 ps) ≡ []
  nothing [] = refl
  nothing (p ∷ ps) = refl

pub all_left : (old : List Pin) (n : ℕ) → n ≡ 0 → old ≡ drop n old
all_left old n e = sym (ap (λ k. drop k old) e ∙ whole old) where
  whole : (ps : List Pin) → drop 0 ps ≡ ps
  whole [] = refl
  whole (p ∷ ps) = refl

-- The pins of the points below one

flat_all : {X Y : Type 0} (P : Y → Type 0) (f : X → List Y) (xs : List X) → ((k : ℕ) (d : X) → k < length xs → All P (f (get_or xs k d))) → All P (flat_map f xs)
flat_all P f [] h = All-nil P
flat_all P f (x ∷ xs) h = All-append P (f x) (flat_map f xs) (h 0 x (omega arith)) (flat_all P f xs (λ k d inside. h (suc k) d (omega (arith, inside))))

pins_there_below : (func : Func) (n point : ℕ) → point < n → (o : Option Stm) → All (λ (pin : Pin). pin.point < n) (pins_at func point o)
pins_there_below func n point less None = All-nil (λ (pin : Pin). pin.point < n)
pins_there_below func n point less (Some stm) = All-map (λ (pin : Pin). pin.point < n) (pin_of point) _ (λ k d inside. less)

pub all_before : (func : Func) (n : ℕ) → All (λ (pin : Pin). pin.point < n) (pins_before func n)
all_before func n =
    flat_all (λ (pin : Pin). pin.point < n) (λ point. pins_at func point (slice_get func.body point)) (range_with_len 0 n)
    (λ k d inside.
    let within : k < n = omega (arith, inside, length-range_with_len 0 n) in
    let is = get_or-range_with_len 0 n k d within in
    pins_there_below func n _ (omega (arith, is, within)) _)
