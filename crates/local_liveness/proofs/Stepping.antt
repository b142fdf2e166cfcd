-- Steps back along the points of a function.
use Rattle.std.proofs.Common.{◌≡◌, ◌<◌, ◌≤◌, ◌+◌, ◌*◌, ◌&&◌, ◌||◌, ℕ, false, not, List, [], Option, Some, None, length, replicate, refl, sym, ap, ◌∙◌, subst, arith, ⊎_elim, true≢false}
use Rattle.std.specs.Prelude.{slice_get}
use Rattle.std.specs.Option.{option_map_or}
use Rattle.std.proofs.lemmas.Bool.{cases_lt}
use Rattle.std.proofs.lemmas.Grind.{div_ceil_times}
use Rattle.std.proofs.lemmas.List.{get_or_past, length-replicate}
use Rattle.core_tree.specs.declared.flow.Edges.{Edges}
use Rattle.core_tree.specs.declared.program.Func.{Func}
use Rattle.core_tree.specs.declared.statements.Stm.{Stm}
use Rattle.core_tree.specs.Statements.{edges, leads_to, reads_at, writes_at}
use Rattle.core_tree.specs.Lives.{is_live}
use Rattle.local_liveness.specs.Sets.{has, set_at}
use Rattle.local_liveness.specs.Sweeps.{is_live_before, IsFilled}
use Rattle.local_liveness.specs.Tables.{LiveByPaths, HasLive, IsTableOf, words_of}
use Rattle.local_liveness.proofs.Bits.{has_past, has_zeros}
use Rattle.local_liveness.proofs.Going.{same_bools, live_before_past, live_past, live_is, jumps_here, any_edge}

pub nothing_live : LiveByPaths → (func : Func) (live : List ℕ) → live ≡ replicate (words_of func) 0 → HasLive live func (length func.body)
nothing_live paths func live is = record {
  words = long;
  room =
      let bound : length func.regs ≤ words_of func * 64 = (div_ceil_times (length func.regs) 64 (omega arith)).0 in
      let words = long in
      omega arith;
  exact = λ r less. (
    λ h. absurd (true≢false (sym h ∙ ap (λ x. has x r) is ∙ has_zeros (words_of func) r)),
    λ l. absurd (true≢false (sym ((paths func.body (length func.body) r).1 l) ∙ live_past func.body (length func.body) r (omega arith))),
  );
} where
  long : length live ≡ words_of func
  long = ap length is ∙ length-replicate (words_of func) 0

module _
    (paths : LiveByPaths) (func : Func) (fronts : List (List ℕ)) (table : IsTableOf fronts func) (point : ℕ) (stm : Stm) (e : Edges)
    (stands : slice_get func.body point ≡ Some stm) (edges_are : (p : ℕ) → edges stm.kind p ≡ leads_to e p)
    (live front followed : List ℕ) (before : HasLive live func (point + 1)) (front_long : length front ≡ length live)
    (front_is : (r : ℕ) → r < 64 * length live → has front r ≡ (reads_at func.body (point + 1) r || (not (writes_at func.body (point + 1) r) && has live r)))
    (followed_long : length followed ≡ length front)
    (followed_is : (r : ℕ) → r < 64 * length front → has followed r ≡ ((e.next && has front r) || option_map_or (λ target. has (set_at fronts target) r) e.target false)) where
  front_live : (r : ℕ) → r < 64 * length live → has front r ≡ is_live_before func.body (point + 1) r
  front_live r less =
      let exact = before.exact r less in
      let same : has live r ≡ is_live func.body (point + 1) r =
      same_bools (has live r) (is_live func.body (point + 1) r)
      (λ h. (paths func.body (point + 1) r).1 (exact.0 h)) (λ h. exact.1 ((paths func.body (point + 1) r).0 h)) in
      front_is r less
      ∙ ap (λ b. reads_at func.body (point + 1) r || (not (writes_at func.body (point + 1) r) && b)) same

  target_live : (r : ℕ) → r < 64 * words_of func → (o : Option ℕ) → e.target ≡ o →
      option_map_or (λ t. has (set_at fronts t) r) o false ≡ option_map_or (λ t. is_live_before func.body t r) o false
  target_live r less None is = refl
  target_live r less (Some t) is =
      ⊎_elim
      (λ (inside : t < length func.body).
      table.exact t r (record { from = point; stm = stm; stands = stands; jumps = jumps_here func.body point stm e stands edges_are t is; inside = inside }) less)
      (λ (past : length func.body ≤ t).
      let long = table.points in
      ap (λ x. has x r) (get_or_past fronts t [] (omega arith)) ∙ has_past [] r (omega arith) ∙ sym (live_before_past func.body r t past))
      (cases_lt t (length func.body))

  followed_live : (r : ℕ) → r < 64 * length live → has followed r ≡ is_live func.body point r
  followed_live r less =
      let words = before.words in
      followed_is r (omega arith)
      ∙ ap (λ b. (e.next && b) || option_map_or (λ target. has (set_at fronts target) r) e.target false) (front_live r less)
      ∙ ap (λ b. (e.next && is_live_before func.body (point + 1) r) || b) (target_live r (omega arith) e.target refl)
      ∙ sym (any_edge func.body point stm e stands edges_are (λ q. is_live_before func.body q r))
      ∙ sym (live_is paths func.body point r)

  pub stepped : HasLive followed func point
  stepped = record {
    words = followed_long ∙ front_long ∙ before.words;
    room = let room = before.room in omega arith;
    exact = λ r less.
        let same : has followed r ≡ is_live func.body point r = followed_live r (omega arith) in
        (λ h. (paths func.body point r).0 (sym same ∙ h), λ l. same ∙ (paths func.body point r).1 l);
  }

pub table_is :
    (func : Func) (body : List Stm) (words : ℕ) (fronts : List (List ℕ)) → body ≡ func.body → words ≡ words_of func → IsFilled body words fronts → IsTableOf fronts func
table_is func body words fronts same all filled =
    subst (λ n. IsFilled func.body n fronts) all (subst (λ (b : List Stm). IsFilled b words fronts) same filled)
