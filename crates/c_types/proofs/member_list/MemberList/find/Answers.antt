use Rattle.std.proofs.Common.{◌≡◌, ◌≤◌, ◌<◌, ℕ, List, Option, Some, None, Bor, length, get_or, refl, sym, ◌∙◌}
use Rattle.std.specs.Prelude.{slice_get, option_copied, IfSome}
use Rattle.std.specs.Option.{MatchOption}
use Rattle.std.specs.List.{HoldsAt}
use Rattle.std.proofs.lemmas.Option.{slice_get_past, slice_get_read}
use Rattle.c_types.specs.declared.bodies.Member.{Member}
use Rattle.c_types.proofs.MemberPlaces.{found_by}
use Rattle.c_types.proofs.member_list.MemberList.find.Goals as goal

got_is : (xs : List Member) (i : ℕ) (r : Option (Bor Member)) → IfSome r (λ x. x.now ≡ get_or xs i x.now) →
    MatchOption r (length xs ≤ i) (λ x. (i < length xs) × HoldsAt (λ y. x.now ≡ y) xs i) → option_copied r ≡ slice_get xs i
got_is xs i None h m = sym (slice_get_past xs i m)
got_is xs i (Some x) h m = sym (slice_get_read xs (length xs) i x.now refl m.0 h)

pub returns-in-Some : goal.returns-in-Some
returns-in-Some c =
    let l = c.get-in-Some.ensures.lookup in
    found_by c.args.name.now c.self.inside.list.items c.args.self.now _ _ (c.in-Some.ensures.value ∙ c.self.invariant c.args.name.now) c.self.view_is
    (rw (← c.deref.ensures.value) (got_is c.deref.result.now c.in-Some.place.now c.get-in-Some.result l.1 l.3))

pub returns-in-None : goal.returns-in-None
returns-in-None c =
    found_by c.args.name.now c.self.inside.list.items c.args.self.now None None (c.in-None.ensures.value ∙ c.self.invariant c.args.name.now) c.self.view_is refl
