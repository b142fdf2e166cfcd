use Rattle.std.proofs.Common.{rules, ap, ◌∙◌, List, not}
use Rattle.std.specs.Prelude.{nat_eq}
use Rattle.std.proofs.lemmas.Fn.{filter_same}
use Rattle.hs_base.specs.Place.{Block, without_block}
use Rattle.meaning_state.specs.Fitting.{Held}
use Rattle.meaning_state.proofs.blocks.HeldBlocks.release_one.Goals as goal

pub returns : goal.returns
returns c =
    let kept = filter_same _ (λ (b : Block). not (nat_eq b.birth c.args.birth)) _ (λ x b f' k. search rules) _ _ c.retain.ensures.filtered in
    ap (λ (bs : List Block). let held : Held = record { heap = c.self.inside.heap; blocks = bs } in held) kept
    ∙ ap (λ (h : Held). let held : Held = record { heap = h.heap; blocks = without_block h.blocks c.args.birth } in held) c.self.view_is
