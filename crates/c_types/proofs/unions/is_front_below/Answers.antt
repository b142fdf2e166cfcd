use Rattle.std.proofs.Common.{◌≡◌, ap, sym, ◌∙◌, take}
use Rattle.std.proofs.lemmas.Slice.Eq.{slice_eq-Decides}
use Rattle.std.proofs.lemmas.Bool.Decides.{Decides-eqb}
use Rattle.c_types.proofs.RuleLemmas.{front, take_front}
use Rattle.c_types.proofs.unions.is_front_below.Goals as goal

pub returns : goal.returns
returns c =
    let d = slice_eq-Decides Decides-eqb _ _ _ c.eq.ensures in
    let is : take c.front_len.result c.args.all.now ≡ front c.args.size c.args.all.now =
    ap (λ n. take n c.args.all.now) c.front_len.ensures ∙ take_front c.args.all.now c.args.size in
    ((λ e. d.0 e ∙ is), (λ e. d.1 (e ∙ sym is)))
