-- Members with their layouts, whatever is known besides.
use Rattle.std.proofs.Common.{◌≡◌, ℕ, List, [], ◌∷◌, Bool, true, false, cond, Option, Some, None, Bor, option_map, map, refl, ap, ◌∙◌}
use Rattle.std.specs.Prelude.{bytes_eq, find, option_copied}
use Rattle.std.specs.List.{AllByRecursion, zip}
use Rattle.c_types.specs.declared.layouts.Layout.{Layout}
use Rattle.c_types.specs.declared.bodies.Body.{Body}
use Rattle.c_types.specs.declared.bodies.Member.{Member}
use Rattle.c_types.specs.Types.{PlainType, plain}
use Rattle.c_types.specs.Layouts.{Known, layout_of}
use Rattle.c_types.specs.TagTable.{PlainMember, member_layout, plain_member, placed_members}
use Rattle.c_types.specs.Bodies.{IsSized, IsPlaced, completed_tag}
use Rattle.c_types.specs.TagTableEquations.{Extends, sized_stays}

abbrev pub pairs : List Member → List (List ℕ × PlainType)
pairs ms = map (λ m. (m.name, plain m.ty)) ms

pub members_stay :
    (k more : Known) → Extends k more → (ms : List Member) → AllByRecursion (λ (m : Member). IsSized k (plain m.ty)) ms →
    map (member_layout k) (pairs ms) ≡ map (member_layout more) (pairs ms)
members_stay k more x [] s = refl
members_stay k more x (m ∷ ms) s =
    let here : layout_of k (plain m.ty) ≡ layout_of more (plain m.ty) = sized_stays k more x (plain m.ty) s.0.0 in
    let rest = members_stay k more x ms s.1 in
    rw (here, rest) refl

pub zip_members :
    (ms : List Member) (ps : List (ℕ × Layout)) → map (λ (m : Member). m.offset) ms ≡ map (λ p. p.0) ps →
    map plain_member ms ≡ map (λ (p : (List ℕ × PlainType) × (ℕ × Layout)). record { name = p.0.0; type = p.0.1; offset = p.1.0 }) (zip (pairs ms) ps)
zip_members [] [] e = refl
zip_members [] (p ∷ ps) e = cc
zip_members (m ∷ ms) [] e = cc
zip_members (m ∷ ms) (p ∷ ps) e =
    let here : m.offset ≡ p.0 = cc in
    let others : map (λ (m : Member). m.offset) ms ≡ map (λ (p : ℕ × Layout). p.0) ps = cc in
    rw (here, zip_members ms ps others) refl

-- the members of a body, as they stand by all that is known
pub body_members :
    (k more : Known) → Extends k more → (b : Body) → IsPlaced k b → map plain_member b.members ≡ placed_members more (completed_tag b)
body_members k more x b h =
    rw (← members_stay k more x b.members h.sized) (zip_members b.members _ h.offsets)

one_or : (b : Bool) (m : Member) (found : Option Member) (plain : Option PlainMember) → option_map plain_member found ≡ plain →
    option_map plain_member (cond b (Some m) found) ≡ cond b (Some (plain_member m)) plain
one_or true m found plain e = refl
one_or false m found plain e = e

find_plain : (name : List ℕ) (ms : List Member) →
    option_map plain_member (find (λ (m : Member). bytes_eq name m.name) ms) ≡ find (λ (m : PlainMember). bytes_eq name m.name) (map plain_member ms)
find_plain name [] = refl
find_plain name (m ∷ ms) = one_or (bytes_eq name m.name) m _ _ (find_plain name ms)

copied : (r : Option (Bor Member)) → option_map (λ m. plain_member m.now) r ≡ option_map plain_member (option_copied r)
copied None = refl
copied (Some m) = refl

-- a member by its name, as what it is
pub found_plain : (name : List ℕ) (r : Option (Bor Member)) (ms : List Member) → option_copied r ≡ find (λ (m : Member). bytes_eq name m.name) ms →
    option_map (λ m. plain_member m.now) r ≡ find (λ (m : PlainMember). bytes_eq name m.name) (map plain_member ms)
found_plain name r ms e = copied r ∙ (ap (option_map plain_member) e ∙ find_plain name ms)
