use Rattle.std.proofs.Common.{[], List, None, Some, ap, get_or, subst, sym, ◌∙◌, ℕ}
use Rattle.std.specs.Prelude.{find}
use Rattle.hs_base.specs.Freeing.{is_pointer_to}
use Rattle.object_meaning.specs.counted.Pinning.{pointer_of_register}
use Rattle.hs_base.specs.declared.ends.Holder.TheVariants as holder
use Rattle.object_meaning.specs.objects.Holding.{first_of}
use Rattle.flat_machine.specs.Kept.{Kept, call_number, pins_of}
use Rattle.flat_machine.specs.Holding.{HoldsIn, in_frame}
use Rattle.flat_machine.proofs.Holders.{first_in}
use Rattle.flat_machine.proofs.state.State.holder_in.Goals as goal

pub first_register-requires : goal.first_register-requires
first_register-requires g c =
    let registers = c.pins_at-pins.ensures ∙ ap (λ (ps : List (List ℕ)). get_or ps c.point_of.result []) c.as_slice.ensures ∙ ap (λ n. get_or c.self.inside.pins n []) c.point_of.ensures in
    let q = c.requires in
    let here = subst (λ (m : Kept). HoldsIn m.memory q.0 q.1 q.2 (call_number m.calls c.args.k) (pins_of m.pins (call_number m.calls c.args.k)) q.3 c.args.start) (sym c.self.view_is) q.4 in
    (q.0, q.1, q.2, q.3, subst (λ (rs : List ℕ). HoldsIn c.self.inside.objects q.0 q.1 q.2 (call_number c.self.inside.calls c.args.k) rs q.3 c.args.start) (sym registers) here)

pub returns-in-Some : goal.returns-in-Some
returns-in-Some g c = λ places objects frame birth holds.
    let registers = c.pins_at-pins.ensures ∙ ap (λ (ps : List (List ℕ)). get_or ps c.point_of.result []) c.as_slice.ensures ∙ ap (λ n. get_or c.self.inside.pins n []) c.point_of.ensures in
    let here = subst (λ (m : Kept). HoldsIn m.memory places objects frame (call_number m.calls c.args.k) (pins_of m.pins (call_number m.calls c.args.k)) birth c.args.start) (sym c.self.view_is) holds in
    let is = c.in-Some.ensures places objects frame birth (subst (λ (rs : List ℕ). HoldsIn c.self.inside.objects places objects frame (call_number c.self.inside.calls c.args.k) rs birth c.args.start) (sym registers) here) in
    let own = first_in c.self.inside.pins frame (call_number c.self.inside.calls c.args.k) birth here.stands.func here.stands.point (Some c.in-Some.r) (is ∙ ap (λ (rs : List ℕ). find (λ r. is_pointer_to birth (pointer_of_register frame r)) rs) registers) in
    ap (λ f. Some (holder.Register f c.in-Some.r)) c.func_of.ensures ∙ own ∙ ap (λ (m : Kept). first_of (in_frame m.pins birth frame)) c.self.view_is

pub returns-in-None : goal.returns-in-None
returns-in-None g c = λ places objects frame birth holds.
    let registers = c.pins_at-pins.ensures ∙ ap (λ (ps : List (List ℕ)). get_or ps c.point_of.result []) c.as_slice.ensures ∙ ap (λ n. get_or c.self.inside.pins n []) c.point_of.ensures in
    let here = subst (λ (m : Kept). HoldsIn m.memory places objects frame (call_number m.calls c.args.k) (pins_of m.pins (call_number m.calls c.args.k)) birth c.args.start) (sym c.self.view_is) holds in
    let is = c.in-None.ensures places objects frame birth (subst (λ (rs : List ℕ). HoldsIn c.self.inside.objects places objects frame (call_number c.self.inside.calls c.args.k) rs birth c.args.start) (sym registers) here) in
    let own = first_in c.self.inside.pins frame (call_number c.self.inside.calls c.args.k) birth here.stands.func here.stands.point None (is ∙ ap (λ (rs : List ℕ). find (λ r. is_pointer_to birth (pointer_of_register frame r)) rs) registers) in
    own ∙ ap (λ (m : Kept). first_of (in_frame m.pins birth frame)) c.self.view_is
