-- Elements in use at the front of a list: one changed, one put in, one taken out.
use Rattle.std.proofs.Common.{◌≡◌, ◌<◌, ◌≤◌, ◌+◌, ◌-◌, ℕ, suc, List, [], ◌∷◌, ◌++◌, length, take, drop, set, sym, ap, ◌∙◌, arith}
use Rattle.std.specs.List.{copy_within}
use Rattle.std.proofs.Math.Seq.{take-set-lt}
use Rattle.std.proofs.lemmas.List.{append_assoc, length-append, length-drop, length-set, length-take-le, set-append_left, set_split, take-take, take_at, take_more_set}
use Rattle.std.proofs.lemmas.Slice.{between_is}

-- one changed
pub changed : {X : Type 0} (items : List X) (used place : ℕ) (x : X) → place < used → used ≤ length items → take used (set items place x) ≡ take place (take used items) ++ (x ∷ drop (place + 1) (take used items))
changed items used place x in_use inside =
    let some = take used items in
    let lt : place < length some = omega (arith, length-take-le used items inside) in
    let e : suc place ≡ place + 1 = omega arith in
    take-set-lt used items place x in_use ∙ set_split some place x lt ∙ ap (λ n. take place some ++ (x ∷ drop n some)) e

-- one put in, after those from its place on were moved up
pub put_in : {X : Type 0} (items : List X) (used place : ℕ) (x : X) → place ≤ used → used < length items → take (used + 1) (set (copy_within items place used (place + 1)) place x) ≡ take place (take used items) ++ (x ∷ drop place (take used items))
put_in items used place x in_use inside =
    let low = take (place + 1) items in
    let moved = take (used - place) (drop place items) in
    let spare = drop (place + 1 + (used - place)) items in
    let low_long : length low ≡ place + 1 = length-take-le (place + 1) items (omega arith) in
    let moved_long : length moved ≡ used - place = length-take-le (used - place) (drop place items) (omega (arith, length-drop place items)) in
    let new_low : set low place x ≡ take place items ++ x ∷ [] =
    sym (take-set-lt (place + 1) items place x (omega arith)) ∙ take_more_set items place x (omega arith) in
    let long : length (set low place x ++ moved) ≡ used + 1 = omega (arith, length-append (set low place x) moved, length-set low place x) in
    let stored : set ((low ++ moved) ++ spare) place x ≡ (set low place x ++ moved) ++ spare =
    set-append_left (low ++ moved) spare place x (omega (arith, length-append low moved))
    ∙ ap (λ l. l ++ spare) (set-append_left low moved place x (omega arith)) in
    ap (take (used + 1)) stored
    ∙ take_at (set low place x ++ moved) spare (used + 1) long
    ∙ ap (λ l. l ++ moved) new_low
    ∙ append_assoc (take place items) (x ∷ []) moved
    ∙ ap (λ l. l ++ (x ∷ moved)) (sym (take-take place used items in_use))
    ∙ ap (λ l. take place (take used items) ++ (x ∷ l)) (between_is items place used)

-- one taken out, by moving down those behind it
pub taken_out : {X : Type 0} (items : List X) (used place : ℕ) → place < used → used ≤ length items → take (used - 1) (copy_within items (place + 1) used place) ≡ take place (take used items) ++ drop (place + 1) (take used items)
taken_out items used place in_use inside =
    let low = take place items in
    let moved = take (used - (place + 1)) (drop (place + 1) items) in
    let spare = drop (place + (used - (place + 1))) items in
    let low_long : length low ≡ place = length-take-le place items (omega arith) in
    let moved_long : length moved ≡ used - (place + 1) = length-take-le (used - (place + 1)) (drop (place + 1) items) (omega (arith, length-drop (place + 1) items)) in
    let long : length (low ++ moved) ≡ used - 1 = omega (arith, length-append low moved) in
    take_at (low ++ moved) spare (used - 1) long
    ∙ ap (λ l. l ++ moved) (sym (take-take place used items (omega arith)))
    ∙ ap (λ l. take place (take used items) ++ l) (between_is items (place + 1) used)
