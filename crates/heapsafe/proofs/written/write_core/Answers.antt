use Rattle.std.proofs.Common.{◌∙◌, ℕ, List, subst}
use Rattle.heapsafe.specs.Serving.{Writes}
use Rattle.heapsafe.specs.Shown.{written}
use Rattle.heapsafe.proofs.Served.{serves_none}
use Rattle.heapsafe.proofs.written.write_core.Goals as goal

pub returns-in-Ok : goal.returns-in-Ok
returns-in-Ok g c =
    subst (λ (text : List ℕ). Writes (written text) c.args.io.now c.write_text.new.io c.write_text.result) (c.as_slice.ensures ∙ c.in-Ok.ensures) c.write_text.ensures

pub returns-in-Err : goal.returns-in-Err
returns-in-Err g c = serves_none _ _ _ _ _ _ _ c.refuse.ensures
