-- Code that is cut back to where it stands.
use Rattle.std.proofs.Common.{◌≡◌}
use Rattle.elaboration.specs.Context.{Code}
use Rattle.elab_base.specs.Marks.{mark_of, cut}
use Rattle.elab_rules.specs.GrowthEquations.{none_behind, cut_back}

pub cut_here : (c : Code) → cut (mark_of c) c ≡ c
cut_here c = cut_back c c (none_behind c.pieces)
