-- A layout that a type has is not too large. Proved from `LayoutsOfTypes`.
use Rattle.std.proofs.Common.{◌≡◌, ◌≤◌, ◌*◌, ◌==◌, ◌&&◌, ℕ, Bool, true, false, not, cond, List, [], ◌∷◌, map, fold, Option, Some, None, nat_lt, IfSome, unwrap_or, refl, ap, sym, ◌∙◌, subst, lit≤}
use Rattle.std.specs.Option.{option_or}
use Rattle.std.proofs.lemmas.Bool.{ltb-false}
use Rattle.std.proofs.lemmas.Option.{none-some}
use Rattle.c_types.specs.declared.layouts.Layout.{Layout}
use Rattle.c_types.specs.declared.types.IntType.{IntType}
use Rattle.c_types.specs.declared.types.IntType.TheVariants as i
use Rattle.c_types.specs.declared.tags.TagError.TheVariants.{PointerInUnion, TooLarge}
use Rattle.c_types.specs.Types.{PlainType, Void, Int, Pointer, Array, Struct, Union, Function, width_of}
use Rattle.c_types.specs.Layouts.{Known, ArraysFit, layout_of, number_layout, pointer_layout, keeps_union_rule}
use Rattle.c_types.specs.TagTable.{CompletedTag, known, learn, tag_layout, member_layout, refusal}
use Rattle.c_types.specs.TagTableEquations.{some_array}
use Rattle.core_tree.specs.LayoutsOfTypes.{AreCompleted, IsLayoutOfType}

abbrev IsSmall : Layout → Type 0
IsSmall l = l.size ≤ 268435456

-- what is known is not too large
abbrev AllSmall : Known → Type 0
AllSmall k = (tag : ℕ) (l : Layout) → k tag ≡ Some l → IsSmall l

width_small : (int : IntType) → width_of int ≤ 268435456
width_small i.Char = lit≤ tt
width_small i.SChar = lit≤ tt
width_small i.UChar = lit≤ tt
width_small i.Short = lit≤ tt
width_small i.UShort = lit≤ tt
width_small i.Int = lit≤ tt
width_small i.UInt = lit≤ tt
width_small i.Long = lit≤ tt
width_small i.ULong = lit≤ tt
width_small i.LongLong = lit≤ tt
width_small i.ULongLong = lit≤ tt

-- what is not refused is not too large
kept_by : (barred over : Bool) (size : ℕ) → nat_lt 268435456 size ≡ over →
    cond barred (Some PointerInUnion) (cond over (Some TooLarge) None) ≡ None → size ≤ 268435456
kept_by true over size q h = absurd (none-some PointerInUnion (sym h))
kept_by false true size q h = absurd (none-some TooLarge (sym h))
kept_by false false size q h = ltb-false 268435456 size q

kept_small : (k : Known) (new : CompletedTag) → refusal k new ≡ None → IsSmall (tag_layout k new)
kept_small k new e =
    kept_by (new.is_union && not (keeps_union_rule (map (member_layout k) new.members)))
    (nat_lt 268435456 (tag_layout k new).size) (tag_layout k new).size refl e

one_layout : (x l : Layout) → Some x ≡ Some l → x ≡ l
one_layout x l e = ap (λ found. unwrap_or found l) e

learn_small : (k : Known) (new : CompletedTag) → refusal k new ≡ None → AllSmall k → AllSmall (learn k new)
learn_small k new kept a tag l e = by (k tag) (new.tag == tag) refl e where
  by : (before : Option Layout) (same : Bool) → k tag ≡ before →
      option_or before (cond same (Some (tag_layout k new)) None) ≡ Some l → IsSmall l
  by (Some m) same h e = a tag l (h ∙ e)
  by None true h e = subst IsSmall (one_layout (tag_layout k new) l e) (kept_small k new kept)
  by None false h e = absurd (none-some l e)

learns_small : (k : Known) (tags : List CompletedTag) → AreCompleted k tags → AllSmall k → AllSmall (fold learn k tags)
learns_small k [] c a = a
learns_small k (new ∷ tags) c a = learns_small (learn k new) tags c.1 (learn_small k new c.0.kept a)

layout_small : (k : Known) → AllSmall k → (type : PlainType) (l : Layout) → ArraysFit k type → layout_of k type ≡ Some l → IsSmall l
layout_small k a Void l f e = absurd (none-some l e)
layout_small k a (Int int) l f e = subst IsSmall (one_layout (number_layout (width_of int)) l e) (width_small int)
layout_small k a (Pointer target) l f e = subst IsSmall (one_layout pointer_layout l e) (lit≤ tt)
layout_small k a (Array element n) l f e =
    let r = some_array (layout_of k element) n l e in
    subst IsSmall r.2 (subst (λ found. IfSome found (λ (m : Layout). n * m.size ≤ 268435456)) r.1 f.1)
layout_small k a (Struct tag) l f e = a tag l e
layout_small k a (Union tag) l f e = a tag l e
layout_small k a (Function answer params) l f e = absurd (none-some l e)

pub type_layout_small : (l : Layout) → IsLayoutOfType l → l.size ≤ 268435456
type_layout_small l h =
    layout_small (known h.tags) (learns_small (λ tag. None) h.tags h.completed (λ tag l e. absurd (none-some l e))) h.type l h.fits h.layout
