-- The pins of each point stand first among those that are left.
use Rattle.std.proofs.Common.{◌≡◌, ℕ, zero, suc, ◌+◌, ◌-◌, ◌<◌, Bool, List, [], ◌∷◌, ◌++◌, cond, length, map, take, drop, Option, Some, None, refl, sym, ◌∙◌, ap, arith}
use Rattle.std.specs.Prelude.{filter, nat_eq, slice_get}
use Rattle.std.specs.List.{flat_map, prefix_len, range_with_len}
use Rattle.std.proofs.Math.Seq.{take-append_seam}
use Rattle.std.proofs.lemmas.Bool.{eq-eqb, ne_eqb}
use Rattle.std.proofs.lemmas.List.Prefix.{front_rest}
use Rattle.std.proofs.lemmas.Option.{slice_get_within}
use Rattle.core_tree.specs.declared.program.Func.{Func}
use Rattle.core_tree.specs.declared.statements.Stm.{Stm}
use Rattle.object_meaning.specs.declared.pins.Pin.{Pin}
use Rattle.object_meaning.specs.counted.Pinning.{pins_in, counts_at}
use Rattle.count_insertion.specs.Inserted.{pin_of, pins_at, pins_below, func_pins}

abbrev is_of_point : ℕ → Pin → Bool
is_of_point point pin = nat_eq pin.point point

-- the pins of the points of a function from one on
abbrev pub pins_from : Func → ℕ → List Pin
pins_from func n =
    flat_map (λ point. pins_at func point (slice_get func.body point)) (range_with_len n (length func.body - n))

-- a point by another name
pub same_point : (pins : List Pin) (point n : ℕ) → point ≡ n → (count : ℕ) → count ≡ prefix_len (is_of_point point) pins → count ≡ prefix_len (is_of_point n) pins
same_point pins point n e count h = h ∙ ap (λ k. prefix_len (is_of_point k) pins) e

-- pins of a point, before others
same_first : (point : ℕ) (registers : List ℕ) (rest : List Pin) → prefix_len (is_of_point point) rest ≡ 0 → prefix_len (is_of_point point) (map (pin_of point) registers ++ rest) ≡ length (map (pin_of point) registers)
same_first point [] rest h = h
same_first point (r ∷ registers) rest h =
    ap (λ b. cond b (1 + prefix_len (is_of_point point) (map (pin_of point) registers ++ rest)) 0) (eq-eqb point point refl)
    ∙ (let more = same_first point registers rest h in omega (arith, more))

other_first : (point other : ℕ) → (other ≡ point → ⊥) → (registers : List ℕ) (rest : List Pin) → prefix_len (is_of_point point) rest ≡ 0 → prefix_len (is_of_point point) (map (pin_of other) registers ++ rest) ≡ 0
other_first point other n [] rest h = h
other_first point other n (r ∷ registers) rest h =
    ap (λ b. cond b (1 + prefix_len (is_of_point point) (map (pin_of other) registers ++ rest)) 0) (ne_eqb other point n)

module _ (func : Func) where
  abbrev of_point : ℕ → List Pin
  of_point point = pins_at func point (slice_get func.body point)

  other_pins : (point other : ℕ) → (other ≡ point → ⊥) → (o : Option Stm) (rest : List Pin) → prefix_len (is_of_point point) rest ≡ 0 → prefix_len (is_of_point point) (pins_at func other o ++ rest) ≡ 0
  other_pins point other n None rest h = h
  other_pins point other n (Some stm) rest h =
      other_first point other n (filter (counts_at func other stm.kind) (range_with_len 0 (length func.regs))) rest h

  later_pins : (point a n : ℕ) → point < a → prefix_len (is_of_point point) (flat_map of_point (range_with_len a n)) ≡ 0
  later_pins point a zero h = refl
  later_pins point a (suc n) h =
      other_pins point a (λ e. omega (arith, e, h)) (slice_get func.body a) (flat_map of_point (range_with_len (a + 1) n)) (later_pins point (a + 1) n (omega (arith, h)))

  module _ (n : ℕ) (stm : Stm) (at : slice_get func.body n ≡ Some stm) where
    abbrev here : List Pin
    here = pins_below func n stm.kind (length func.regs)

    split : pins_from func n ≡ here ++ pins_from func (n + 1)
    split =
        let inside = slice_get_within func.body n stm at in
        let e : length func.body - n ≡ suc (length func.body - (n + 1)) = omega (arith, inside) in
        ap (λ k. flat_map of_point (range_with_len n k)) e ∙ ap (λ o. pins_at func n o ++ pins_from func (n + 1)) at

    counted : prefix_len (is_of_point n) (pins_from func n) ≡ length here
    counted =
        ap (prefix_len (is_of_point n)) split
        ∙ same_first n (filter (counts_at func n stm.kind) (range_with_len 0 (length func.regs))) (pins_from func (n + 1)) (later_pins n (n + 1) (length func.body - (n + 1)) (omega arith))

    registers_of : (registers : List ℕ) → map (λ (pin : Pin). pin.reg) (map (pin_of n) registers) ≡ registers
    registers_of [] = refl
    registers_of (r ∷ registers) = ap (λ rs. r ∷ rs) (registers_of registers)

    module _ (left : List Pin) (is : left ≡ pins_from func n) (count : ℕ) (many : count ≡ prefix_len (is_of_point n) left) where
      counts : count ≡ length here
      counts = many ∙ ap (prefix_len (is_of_point n)) is ∙ counted

      -- those of the point are taken, where they are the registers that count there: the law `listed_pins_are_exact`
      pub taken : pins_in (func_pins func) n ≡ filter (counts_at func n stm.kind) (range_with_len 0 (length func.regs)) →
          map (λ (pin : Pin). pin.reg) (take count left) ≡ pins_in (func_pins func) n
      taken counting =
          ap (λ k. map (λ (pin : Pin). pin.reg) (take k left)) counts
          ∙ ap (λ pins. map (λ (pin : Pin). pin.reg) (take (length here) pins)) (is ∙ split)
          ∙ ap (map (λ (pin : Pin). pin.reg)) (take-append_seam here (pins_from func (n + 1)))
          ∙ registers_of (filter (counts_at func n stm.kind) (range_with_len 0 (length func.regs)))
          ∙ sym counting

      -- and those of the later points are left
      pub rest_left : drop count left ≡ pins_from func (n + 1)
      rest_left = ap (λ k. drop k left) counts ∙ front_rest left here (pins_from func (n + 1)) (is ∙ split)
