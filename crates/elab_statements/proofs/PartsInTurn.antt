-- Initializers for elements and for members, one behind another.
use Rattle.std.proofs.Common.{◌≡◌, ◌<◌, ◌+◌, ◌-◌, ℕ, zero, suc, Bool, List, [], ◌∷◌, Some, None, Ok, Err, ◌++◌, drop, take, take_all, length, length-drop, get_or, map, refl, ap, sym, ◌∙◌, arith}
use Rattle.std.specs.Prelude.{slice_get}
use Rattle.std.proofs.lemmas.List.{map-append}
use Rattle.c_types.specs.Types.{PlainType}
use Rattle.c_types.specs.TagTable.{PlainMember, plain_member}
use Rattle.c_types.specs.declared.bodies.Member.{Member}
use Rattle.c_tree.specs.declared.statement.Init.{Init}
use Rattle.c_tree.specs.StatementView.{trees, init_view}
use Rattle.c_decls.specs.declared.refusal.TypeKind.TheVariants.{Assignment}
use Rattle.c_decls.specs.Refusals.{Checked, Refusal, refused}
use Rattle.elaboration.specs.Context.{Context}
use Rattle.elaboration.specs.Initializers.{Target, all_surplus, elements, initialize, initialize_parts}
use Rattle.elab_statements.specs.declared.parts.Part.{Part}
use Rattle.elab_statements.specs.PlainParts.{plain_part, member_part}
use Rattle.elab_statements.proofs.InitsInTurn.{element_first, no_elements, part_next, part_fails, parts_over, parts_over_fail}

-- a list from a place on, as a slice of it
rest_of : (xs : List Init) (i : ℕ) → take (length xs - i) (drop i xs) ≡ drop i xs
rest_of xs i = take_all (length xs - i) (drop i xs) (omega (arith, length-drop i xs))

gone_through : (xs : List Init) (i : ℕ) (c : Context) (answer : Checked Context) → all_surplus (trees init_view (take (length xs - i) (drop i xs))) c ≡ answer → all_surplus (trees init_view (drop i xs)) c ≡ answer
gone_through xs i c answer h = sym (ap (λ (l : List Init). all_surplus (trees init_view l) c) (rest_of xs i)) ∙ h

-- elements

module _ (line : ℕ) (in_scalar : Bool) (xs : List Init) (i : ℕ) (x : Init) (size : ℕ) (element : PlainType) where
  pub element_next : (left at next : ℕ) (t u : Target) (c d : Context) → i < length xs → x ≡ get_or xs i x → 0 < left → next ≡ at + size →
      initialize (init_view x) in_scalar element at t c ≡ Ok (d, u) →
      initialize_parts line (trees init_view (drop (i + 1) xs)) in_scalar (elements (length xs - (i + 1)) (left - 1) next size element) u d
      ≡ initialize_parts line (trees init_view (drop i xs)) in_scalar (elements (length xs - i) left at size element) t c
  element_next left at next t u c d h is some e done =
      let parts : List (PlainType × ℕ) = elements (length xs - i - 1) (left - 1) (at + size) size element in
      let asked : length xs - (i + 1) ≡ length xs - i - 1 = omega arith in
      let more : 0 < length xs - i = omega arith in
      (λ j. initialize_parts line (trees init_view (drop (i + 1) xs)) in_scalar (elements (asked j) (left - 1) (e j) size element) u d)
      ∙ part_next line in_scalar xs i x (element, at) parts t u c d h is done
      ∙ sym (ap (λ (ps : List (PlainType × ℕ)). initialize_parts line (trees init_view (drop i xs)) in_scalar ps t c) (element_first (length xs - i) left at size element more some))

  pub element_fails : (left at : ℕ) (t : Target) (c : Context) (refusal : Refusal) → i < length xs → x ≡ get_or xs i x → 0 < left →
      initialize (init_view x) in_scalar element at t c ≡ Err refusal →
      initialize_parts line (trees init_view (drop i xs)) in_scalar (elements (length xs - i) left at size element) t c ≡ Err refusal
  element_fails left at t c refusal h is some failed =
      let more : 0 < length xs - i = omega arith in
      ap (λ (ps : List (PlainType × ℕ)). initialize_parts line (trees init_view (drop i xs)) in_scalar ps t c) (element_first (length xs - i) left at size element more some)
      ∙ part_fails line in_scalar xs i x (element, at) (elements (length xs - i - 1) (left - 1) (at + size) size element) t c refusal h is failed

  no_more : (left at : ℕ) (t : Target) (c : Context) → left ≡ 0 →
      initialize_parts line (trees init_view (drop i xs)) in_scalar (elements (length xs - i) left at size element) t c ≡ initialize_parts line (trees init_view (drop i xs)) in_scalar [] t c
  no_more left at t c none =
      ap (λ (ps : List (PlainType × ℕ)). initialize_parts line (trees init_view (drop i xs)) in_scalar ps t c)
      (ap (λ (n : ℕ). elements (length xs - i) n at size element) none ∙ no_elements (length xs - i) at size element)

  pub elements_over : (left at : ℕ) (t : Target) (c d : Context) → i < length xs → x ≡ get_or xs i x → left ≡ 0 → all_surplus (trees init_view (take (length xs - i) (drop i xs))) c ≡ Ok d →
      initialize_parts line (trees init_view (drop i xs)) in_scalar (elements (length xs - i) left at size element) t c ≡ refused Assignment line
  elements_over left at t c d h is none done =
      no_more left at t c none ∙ parts_over line in_scalar xs i x t c d h is (gone_through xs i c (Ok d) done)

  pub elements_over_fail : (left at : ℕ) (t : Target) (c : Context) (refusal : Refusal) → i < length xs → x ≡ get_or xs i x → left ≡ 0 → all_surplus (trees init_view (take (length xs - i) (drop i xs))) c ≡ Err refusal →
      initialize_parts line (trees init_view (drop i xs)) in_scalar (elements (length xs - i) left at size element) t c ≡ Err refusal
  elements_over_fail left at t c refusal h is none failed =
      no_more left at t c none ∙ parts_over_fail line in_scalar xs i x t c refusal h is (gone_through xs i c (Err refusal) failed)

-- members

get_drop : (ps : List Part) (i : ℕ) (part : Part) → slice_get ps i ≡ Some part → map plain_part (drop i ps) ≡ plain_part part ∷ map plain_part (drop (i + 1) ps)
get_drop [] i part h = cc
get_drop (p ∷ ps) zero part h = let same : p ≡ part = cc in ap (λ (q : Part). plain_part q ∷ map plain_part ps) same
get_drop (p ∷ ps) (suc i) part h =
    let next : suc i + 1 ≡ suc (i + 1) = omega arith in
    get_drop ps i part h ∙ ap (λ (n : ℕ). plain_part part ∷ map plain_part (drop n (p ∷ ps))) (sym next)

get_none : (ps : List Part) (i : ℕ) → slice_get ps i ≡ None → map plain_part (drop i ps) ≡ []
get_none [] zero h = refl
get_none [] (suc i) h = refl
get_none (p ∷ ps) zero h = cc
get_none (p ∷ ps) (suc i) h = get_none ps i h

module _ (line : ℕ) (in_scalar : Bool) (xs : List Init) (i : ℕ) (x : Init) (ps : List Part) where
  pub member_next : (part : Part) (t u : Target) (c d : Context) → i < length xs → x ≡ get_or xs i x → slice_get ps i ≡ Some part →
      initialize (init_view x) in_scalar (plain_part part).0 (plain_part part).1 t c ≡ Ok (d, u) →
      initialize_parts line (trees init_view (drop (i + 1) xs)) in_scalar (map plain_part (drop (i + 1) ps)) u d
      ≡ initialize_parts line (trees init_view (drop i xs)) in_scalar (map plain_part (drop i ps)) t c
  member_next part t u c d h is got done =
      part_next line in_scalar xs i x (plain_part part) (map plain_part (drop (i + 1) ps)) t u c d h is done
      ∙ sym (ap (λ (parts : List (PlainType × ℕ)). initialize_parts line (trees init_view (drop i xs)) in_scalar parts t c) (get_drop ps i part got))

  pub member_fails : (part : Part) (t : Target) (c : Context) (refusal : Refusal) → i < length xs → x ≡ get_or xs i x → slice_get ps i ≡ Some part →
      initialize (init_view x) in_scalar (plain_part part).0 (plain_part part).1 t c ≡ Err refusal →
      initialize_parts line (trees init_view (drop i xs)) in_scalar (map plain_part (drop i ps)) t c ≡ Err refusal
  member_fails part t c refusal h is got failed =
      ap (λ (parts : List (PlainType × ℕ)). initialize_parts line (trees init_view (drop i xs)) in_scalar parts t c) (get_drop ps i part got)
      ∙ part_fails line in_scalar xs i x (plain_part part) (map plain_part (drop (i + 1) ps)) t c refusal h is failed

  pub members_over : (t : Target) (c d : Context) → i < length xs → x ≡ get_or xs i x → slice_get ps i ≡ None → all_surplus (trees init_view (take (length xs - i) (drop i xs))) c ≡ Ok d →
      initialize_parts line (trees init_view (drop i xs)) in_scalar (map plain_part (drop i ps)) t c ≡ refused Assignment line
  members_over t c d h is got done =
      ap (λ (parts : List (PlainType × ℕ)). initialize_parts line (trees init_view (drop i xs)) in_scalar parts t c) (get_none ps i got)
      ∙ parts_over line in_scalar xs i x t c d h is (gone_through xs i c (Ok d) done)

  pub members_over_fail : (t : Target) (c : Context) (refusal : Refusal) → i < length xs → x ≡ get_or xs i x → slice_get ps i ≡ None → all_surplus (trees init_view (take (length xs - i) (drop i xs))) c ≡ Err refusal →
      initialize_parts line (trees init_view (drop i xs)) in_scalar (map plain_part (drop i ps)) t c ≡ Err refusal
  members_over_fail t c refusal h is got failed =
      ap (λ (parts : List (PlainType × ℕ)). initialize_parts line (trees init_view (drop i xs)) in_scalar parts t c) (get_none ps i got)
      ∙ parts_over_fail line in_scalar xs i x t c refusal h is (gone_through xs i c (Err refusal) failed)

-- the parts of members, one after another

member_last : (ms : List Member) (i : ℕ) (m : Member) → i < length ms → m ≡ get_or ms i m →
    take (i + 1) (map plain_member ms) ≡ take i (map plain_member ms) ++ plain_member m ∷ []
member_last [] i m h is = absurd (omega (arith, h))
member_last (x ∷ ms) zero m h is = ap (λ (y : Member). plain_member y ∷ []) (sym is)
member_last (x ∷ ms) (suc i) m h is =
    let next : suc i + 1 ≡ suc (i + 1) = omega arith in
    ap (λ (n : ℕ). take n (map plain_member (x ∷ ms))) next
    ∙ ap (λ (rest : List PlainMember). plain_member x ∷ rest) (member_last ms i m (omega (arith, h)) is)

pub part_more : (offset : ℕ) (ms : List Member) (i : ℕ) (m : Member) (parts more : List Part) (part : Part) → i < length ms → m ≡ get_or ms i m →
    map plain_part parts ≡ map (member_part offset) (take i (map plain_member ms)) → plain_part part ≡ member_part offset (plain_member m) → more ≡ parts ++ part ∷ [] →
    map plain_part more ≡ map (member_part offset) (take (i + 1) (map plain_member ms))
part_more offset ms i m parts more part h is before one e =
    ap (map plain_part) e
    ∙ map-append plain_part parts (part ∷ [])
    ∙ (let both : map plain_part parts ++ plain_part part ∷ [] ≡ map (member_part offset) (take i (map plain_member ms)) ++ member_part offset (plain_member m) ∷ [] = λ j. before j ++ one j ∷ [] in both)
    ∙ sym (ap (map (member_part offset)) (member_last ms i m h is) ∙ map-append (member_part offset) (take i (map plain_member ms)) (plain_member m ∷ []))
