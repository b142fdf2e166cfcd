use Rattle.std.proofs.Common.{◌≡◌, ◌<◌, ◌+◌, ◌*◌, ◌&&◌, ◌||◌, ◌∙◌, ℕ, List, Some, not, length, get_or, subst, sym}
use Rattle.std.specs.Prelude.{slice_get}
use Rattle.std.proofs.lemmas.Option.{slice_get-get_or}
use Rattle.core_tree.specs.declared.statements.Stm.{Stm}
use Rattle.core_tree.specs.Statements.{reads_at, writes_at}
use Rattle.local_liveness.specs.Sets.{has}
use Rattle.local_liveness.specs.Tables.{IsTableOf}
use Rattle.local_liveness.proofs.Stepping.{stepped}
use Rattle.local_liveness.proofs.table.LiveTable.step_back.Goals as goal

pub returns : goal.returns
returns c =
    let func = c.args.func.now in
    let body = c.as_slice-body.result.now in
    let stm = get_or body c.args.point c.index-body-point.result in
    let live = c.args.live.now in
    let front = c.go_in_front_at.new.live in
    let same : body ≡ func.body = c.as_slice-body.ensures in
    let inside : c.args.point < length body = subst (λ (b : List Stm). c.args.point < length b) (sym same) c.requires.point in
    let stands : slice_get body c.args.point ≡ Some stm = slice_get-get_or body c.args.point c.index-body-point.result inside in
    stepped c.live_by_paths.ensures func c.deref.result.now
    (subst (λ (fronts : List (List ℕ)). IsTableOf fronts func) (sym (c.deref.ensures.value ∙ c.self.view_is)) c.requires.table) c.args.point stm c.edges.result
    (subst (λ (b : List Stm). slice_get b c.args.point ≡ Some stm) same stands) c.edges.ensures live front c.follow.new.live c.requires.live c.go_in_front_at.ensures.words
    (subst
    (λ (b : List Stm). (r : ℕ) → r < 64 * length live → has front r ≡ (reads_at b (c.args.point + 1) r || (not (writes_at b (c.args.point + 1) r) && has live r))) same
    c.go_in_front_at.ensures.bits)
    c.follow.ensures.words c.follow.ensures.bits
