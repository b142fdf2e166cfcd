-- What comes of completing a tag.
use Rattle.std.proofs.Common.{◌≡◌, ◌≤◌, ◌<◌, ◌&&◌, ℕ, Bool, true, false, not, cond, List, Some, None, option_map, Result, Ok, Err, length, map, refl, ap, sym, subst, ◌∙◌, arith, slice_get, get_or}
use Rattle.std.specs.Prelude.{nat_lt, OnOk}
use Rattle.std.proofs.lemmas.Option.{slice_get_read, slice_get-map}
use Rattle.c_types.specs.declared.bodies.Body.{Body}
use Rattle.c_types.specs.declared.tags.Made.{Made}
use Rattle.c_types.specs.declared.tags.TagInfo.{TagInfo}
use Rattle.c_types.specs.declared.tags.TagError.TheVariants.{PointerInUnion, TooLarge}
use Rattle.c_types.specs.declared.tags.Tags.TheInside.{Inside}
use Rattle.c_types.specs.declared.types.CType.{CType}
use Rattle.c_types.specs.Layouts.{Known, keeps_union_rule}
use Rattle.c_types.specs.TagTable.{CompletedTag, TagTable, completion, known, member_layout, new_tag, plain_pair, refusal, tag_layout, with_completed}
use Rattle.c_types.specs.Bodies.{IsPlaced, completed_tag, table_of}

-- what a tag was made with
pub made_info : (t : Inside) (table : TagTable) (tag : ℕ) (m : Made) → table_of t ≡ table → tag < length t.made.items → m ≡ get_or t.made.items tag m →
    slice_get table.made tag ≡ Some m.info
made_info t table tag m view within at =
    rw (← view)
    (slice_get-map (λ (x : Made). x.info) t.made.items tag ∙ ap (option_map (λ (x : Made). x.info)) (slice_get_read t.made.items (length t.made.items) tag m refl within at))

abbrev keeps : Known → CompletedTag → Bool
keeps k new = keeps_union_rule (map (member_layout k) new.members)

not_refused : (u rule large : Bool) → (u ≡ true → rule ≡ true) → large ≡ false → cond (u && not rule) (Some PointerInUnion) (cond large (Some TooLarge) None) ≡ None
not_refused false rule large follows small = rw small refl
not_refused true rule large follows small = rw (follows refl, small) refl

no_refusal : (k : Known) (new : CompletedTag) → (new.is_union ≡ true → keeps k new ≡ true) → (tag_layout k new).size ≤ 268435456 → refusal k new ≡ None
no_refusal k new follows small =
    let no : nat_lt 268435456 (tag_layout k new).size ≡ false = grind arith in
    not_refused new.is_union (keeps k new) _ follows no

module _ (table : TagTable) (b : Body) (tag : ℕ) (info : TagInfo) (members : List (List ℕ × CType)) where
  -- a body of the new tag that keeps the rule
  pub completes : slice_get table.made tag ≡ Some info → completed_tag b ≡ new_tag tag info.is_union members → IsPlaced (known table.completed) b →
      (info.is_union ≡ true → keeps_union_rule (map (member_layout (known table.completed)) (completed_tag b).members) ≡ true) →
      completion table tag (map plain_pair members) ≡ Ok (with_completed table (completed_tag b))
  completes at same placed rule =
      let k = known table.completed in
      let new = new_tag tag info.is_union members in
      let follows : new.is_union ≡ true → keeps k new ≡ true = λ u. subst (λ (t : CompletedTag). keeps k t ≡ true) same (rule u) in
      let size : b.size ≡ (tag_layout k new).size = placed.size ∙ ap (λ (t : CompletedTag). (tag_layout k t).size) same in
      let small : (tag_layout k new).size ≤ 268435456 = subst (λ (n : ℕ). n ≤ 268435456) size placed.limit in
      let none : refusal k new ≡ None = no_refusal k new follows small in
      let done : completion table tag (map plain_pair members) ≡ Ok (with_completed table new) = rw (at, none) refl in
      done ∙ ap (λ (t : CompletedTag). Ok (with_completed table t)) (sym same)

  -- a body of a union that breaks the rule
  pub refuses : slice_get table.made tag ≡ Some info → completed_tag b ≡ new_tag tag info.is_union members → info.is_union ≡ true →
      keeps_union_rule (map (member_layout (known table.completed)) (completed_tag b).members) ≡ false →
      completion table tag (map plain_pair members) ≡ Err PointerInUnion
  refuses at same union breaks =
      let k = known table.completed in
      let new = new_tag tag info.is_union members in
      let no : keeps k new ≡ false = subst (λ (t : CompletedTag). keeps k t ≡ false) same breaks in
      let why : refusal k new ≡ Some PointerInUnion = rw (union, no) refl in
      rw (at, why) refl

pub as_kept : {X E F : Type 0} (kept : Result X E) (given : Result TagTable F) (new done : TagTable) → given ≡ Ok done → OnOk kept (new ≡ done) →
    OnOk kept (given ≡ Ok new)
as_kept (Ok x) given new done e h = e ∙ ap Ok (sym h)
as_kept (Err x) given new done e h = tt
