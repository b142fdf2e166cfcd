use Rattle.std.proofs.Common.{◌≡◌, ◌∙◌, ℕ, List, length, ap, arith, subst, sym}
use Rattle.std.specs.Int.{div_ceil}
use Rattle.std.proofs.lemmas.List.{take_at}
use Rattle.local_liveness.specs.Sweeps.{IsBlank}
use Rattle.local_liveness.specs.Tables.{IsTableOf}
use Rattle.local_liveness.proofs.Stepping.{table_is}
use Rattle.local_liveness.proofs.table.live_at.Goals as goal

pub fill-requires : goal.fill-requires
fill-requires c =
    let body = c.as_slice-body.result.now in
    let words : div_ceil c.len.result 64 ≡ length c.in_ok-live.live = ap (λ n. div_ceil n 64) c.len.ensures ∙ sym c.in_ok-live.ensures.words in
    subst (λ (sets : List (List ℕ)). IsBlank body (length c.in_ok-live.live) sets) (sym c.deref_mut.ensures.value)
    (subst (λ n. IsBlank body n c.in_ok-fronts.fronts.items) words c.in_ok-fronts.ensures)

pub returns : goal.returns
returns c =
    subst (λ (fronts : List (List ℕ)). IsTableOf fronts c.args.func.now) (sym (take_at c.fill.new.fronts _ c.in_ok-fronts.fronts.len (omega arith)))
    (table_is c.args.func.now c.as_slice-body.result.now (length c.in_ok-live.live) c.fill.new.fronts c.as_slice-body.ensures c.in_ok-live.ensures.words c.fill.ensures.filled)
