use Rattle.std.proofs.Common.{◌≡◌, ◌∙◌, ℕ, List, length, replicate, ap}
use Rattle.std.specs.Int.{div_ceil}
use Rattle.std.proofs.lemmas.Result.{IfOk-weaker}
use Rattle.local_liveness.specs.Tables.{HasLive}
use Rattle.local_liveness.proofs.Stepping.{nothing_live}
use Rattle.local_liveness.proofs.table.none_live.Goals as goal

pub returns : goal.returns
returns c =
    let func = c.args.func.now in
    let empty = λ (live : List ℕ). live ≡ replicate (div_ceil c.len.result 64) 0 in
    IfOk-weaker c.empty.result empty (λ live. HasLive live func (length func.body))
    (λ live is. nothing_live c.live_by_paths.ensures func live (is ∙ ap (λ n. replicate (div_ceil n 64) 0) c.len.ensures)) c.empty.ensures
