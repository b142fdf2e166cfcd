use Rattle.std.proofs.Common.{◌≡◌, ◌<◌, ◌∙◌, ℕ, inl, inr, List, length, get_or, sym, ap, subst, arith}
use Rattle.std.proofs.lemmas.Bool.{cases_lt}
use Rattle.std.proofs.lemmas.List.{drop_all}
use Rattle.std.specs.List.{list_all}
use Rattle.hs_base.specs.Place.{Block}
use Rattle.meaning_state.specs.Fitting.{Held, IsApart, lowest_from}
use Rattle.meaning_state.proofs.Jumping.{jumps, fits, one_more, clears, clears_apart}
use Rattle.meaning_state.proofs.blocks.HeldBlocks.moved.Goals as goal

pub loop-block-preserved : goal.loop-block-preserved
loop-block-preserved c =
    let h = c.args.self.now in
    let n = c.args.length in
    let i = c.loop-block.invariant in
    let k = c.loop-block.block-index in
    let items = c.deref-block-items.ensures.value ∙ ap (λ (x : Held). x.blocks) c.self.view_is in
    let within : k < length h.blocks = omega (arith, c.loop-block-test.true, ap (λ (bs : List Block). length bs) items) in
    let b = c.block-item.result in
    let is : b ≡ get_or h.blocks k b = c.block-item.is ∙ ap (λ (bs : List Block). get_or bs k b) items in
    let move = c.moved-at.ensures in
    elim (cases_lt c.loop-block.at c.moved-at.result) [
      | inl goes ↦
          let to = move.goes goes in
          record {
            same = i.same ∙ jumps h n k c.loop-block.at b within is i.aligned (omega (arith, to.0, to.2)) to.1 (omega (arith, to.0)) ∙ ap (lowest_from h n) (sym to.0);
            low = omega arith;
            aligned = to.2;
            small = to.3;
            clear = λ e rest. absurd (omega arith);
          }
      | inr stays ↦
          let same : c.moved-at.result ≡ c.loop-block.at = omega (arith, move.low) in
          record {
            same = i.same ∙ ap (lowest_from h n) (sym same);
            low = omega arith;
            aligned = omega (arith, i.aligned);
            small = omega arith;
            clear = λ e rest. i.clear (sym same ∙ e) (one_more h.blocks k c.args.place n b within is (clears_apart c.args.place n b (subst (λ (p : ℕ). IsApart p n b) (sym same ∙ e) (move.stays same))) rest);
          }
    ]

pub returns-clause-stays : goal.returns-clause-stays
returns-clause-stays c = λ e within.
    let h = c.args.self.now in
    let items = c.deref-block-items.ensures.value ∙ ap (λ (x : Held). x.blocks) c.self.view_is in
    let past = drop_all c.loop-block.block-index h.blocks (omega (arith, ap (λ (bs : List Block). length bs) items)) in
    fits h c.args.length c.args.place within (c.loop-block.invariant.clear e (ap (list_all (clears c.args.place c.args.length)) past))
