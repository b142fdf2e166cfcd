use Rattle.std.proofs.Common.{◌≡◌, ◌∙◌, ℕ, true, Bool, length, rules, sym, ap, subst}
use Rattle.hs_base.specs.Place.{block_size, first_fit, with_block}
use Rattle.hs_base.specs.State.{State}
use Rattle.object_meaning.specs.objects.Heap.{birth_of, grow_old}
use Rattle.meaning_state.specs.Fitting.{Held, held_after, fits_in}
use Rattle.meaning_run.specs.Leading.{AlonePlaced, with_input}
use Rattle.meaning_run.proofs.machine.Machine.grow_old.Goals as goal

pub returns : goal.returns
returns c = λ left.
    let yes : c.in_ok-place.field-0 ≡ true = search rules in
    let s = c.args.self.now in
    let h = c.args.held.now in
    let with : ℕ → ℕ → Held = λ birth size. record { heap = h.heap; blocks = with_block h.blocks birth (block_size size) (first_fit h.blocks h.heap (block_size size)) } in
    let birth = c.len-birth.ensures ∙ ap (λ (x : State). length x.objects) c.self.view_is in
    let placed : c.place.new.self ≡ held_after h (birth_of c.args.line c.args.size s) =
    c.in_ok-place.ensures.held ∙ ap (λ b. with b c.from.result) birth ∙ ap (with (length s.objects)) c.from.ensures in
    subst (λ (b : Bool). AlonePlaced left (grow_old b c.args.core.now c.args.line c.args.r c.args.old c.args.size c.args.element.now (with_input left s)) c.copy_old.new.self h c.copy_old.new.held c.copy_old.result) (sym yes ∙ c.in_ok-place.ensures.fits ∙ ap (λ n. fits_in h n) c.from.ensures) (c.copy_old.ensures left h placed)
