-- The pins of a function as they are kept: the registers of each point that has any.
use Rattle.std.specs.Prelude.{◌≡◌, ◌<◌, ◌≢◌, ℕ, nat_eq, List, [], All, AllPairs, map, take, drop}
use Rattle.std.specs.List.{flat_map, prefix_len}
use Rattle.object_meaning.specs.declared.pins.Pin.{Pin}
use Rattle.count_insertion.specs.declared.listed.PointPins.{PointPins}
use Rattle.count_insertion.specs.Inserted.{pin_of}

-- the pins of a point
abbrev pub pins_there : PointPins → List Pin
pins_there at = map (pin_of at.point) at.registers

-- those of points, one after another
abbrev pub pins_listed : List PointPins → List Pin
pins_listed points = flat_map pins_there points

-- the points ascend, and each has a register
pub record AreOfPoints (points : List PointPins) : Type 0 where
  pub ascend : AllPairs (λ (one other : PointPins). one.point < other.point) points
  pub some : All (λ (at : PointPins). at.registers ≢ []) points

-- how many pins stand first that are of a point
abbrev pub count_first : ℕ → List Pin → ℕ
count_first point pins = prefix_len (λ (pin : Pin). nat_eq pin.point point) pins

-- the pins of a point that stand first are taken: these are their registers, and the other pins are left
pub record TakesFirst (point : ℕ) (old new : List Pin) (registers : List ℕ) : Type 0 where
  pub taken : registers ≡ map (λ (pin : Pin). pin.reg) (take (count_first point old) old)
  pub left : new ≡ drop (count_first point old) old
