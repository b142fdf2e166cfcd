use Rattle.std.proofs.Common.{◌≡◌, ◌∙◌, false, Option, Some, None, refl, sym}
use Rattle.std.specs.Prelude.{bytes_eq, is_some}
use Rattle.indexmap.specs.IndexMap.{get_by}
use Rattle.indexmap.proofs.CallerLemmas.{insert_entry-new}
use Rattle.c_types.proofs.MemberPlaces.{placed_new, placed_again}
use Rattle.c_types.proofs.member_list.places_of.Goals as goal
use Rattle.c_types.proofs.member_list.places_of.Goals.{then-not-contains_key+in_ok-to_vec+in_ok-insert, else-not-contains_key}

is_none : {X : Type 0} (o : Option X) → false ≡ is_some o → o ≡ None
is_none None e = refl
is_none (Some x) e = cc

pub loop-place-preserved : goal.loop-place-preserved
loop-place-preserved c = λ name.
    let m = c.index-list-place.result in
    elim c.if-not-contains_key.branch [
      | then-not-contains_key+in_ok-to_vec+in_ok-insert w ↦
          let key = w.in_ok-to_vec.field-0 in
          let copied : key.items ≡ c.as_slice-name.result.now = w.in_ok-to_vec.ensures.items_if_clones_equal (λ x y h. h) in
          let absent : get_by (λ k. bytes_eq key.items k.items) c.loop-place.places ≡ None = rw copied (is_none _ (w.if-not-contains_key.ensures)) in
          rw w.places-is
          (placed_new (λ k. k.items) name c.args.list.now c.loop-place.place m c.loop-place.places.entries w.insert.new.self.entries key c.loop-place-test.true c.index-list-place.is
          (w.in_ok-insert.ensures.entries ∙ insert_entry-new _ c.loop-place.places key c.loop-place.place absent) (copied ∙ c.as_slice-name.ensures)
          (c.loop-place.invariant name))
      | else-not-contains_key w ↦
          let there = rw (c.as_slice-name.ensures, c.loop-place.invariant m.name) at w.if-not-contains_key.ensures in
          rw w.places-is
          (placed_again (λ k. k.items) name c.args.list.now c.loop-place.place m c.loop-place.places.entries c.loop-place-test.true c.index-list-place.is (sym there) (c.loop-place.invariant name))
    ]
