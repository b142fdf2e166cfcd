-- Every run ends, and not for want of life.
use Rattle.meaning_laws.proofs.Words.Core.{Code, Dangling, Ending, Event, Instr, IsWellFormed, LeadsOn, Spent, Value, has_place}
use Rattle.meaning_laws.proofs.Words.Meaning.{BeginsWell, CodeState, HoldsBytes, IsByte, IsGood, Next, StaysGood, act_at, enough, hand_or_act, handed_value, holds_stale, start, step_by}
use Rattle.meaning_laws.proofs.Words.Std.{All, Bool, List, None, Option, Some, [], arith, refl, slice_get, slice_get_within, slice_index, subst, suc, sym, zero, ℕ, ◌+◌, ◌-◌, ◌∙◌, ◌≡◌, ◌≢◌, ◌≤◌}
use Rattle.hs_base.specs.Runs as runs
use Rattle.object_meaning.specs.code.CodeMeaning.{Run, step, meaning}
use Rattle.meaning_laws.specs.code.Laws.{LeavesLess}
use Rattle.meaning_laws.proofs.soundness.Falling.{act_less, hand_less, begins_well}
use Rattle.meaning_laws.proofs.soundness.Stepping.{instr_of, stays}

-- an instruction in a good state leaves less
doing_less : (code : Code) (wf : IsWellFormed code) (c : CodeState) (good : IsGood code c) (fits : ℕ → Bool) (line : ℕ) (i : Instr) → slice_get code.instrs c.state.running.point ≡ Some i → LeadsOn c.state.running.point i i.op → (o : Option Value) → LeavesLess code c (hand_or_act code fits line i o c)
doing_less code wf c good fits line i here ahead (Some v) =
    hand_less code c (slice_get_within code.instrs c.state.running.point i here) (holds_stale c.state.objects v) v
doing_less code wf c good fits line i here ahead None =
    act_less code c.state (slice_get_within code.instrs c.state.running.point i here) fits line i c.handed c.numbers i.op ahead

pub falls : (code : Code) → IsWellFormed code → (c : CodeState) → IsGood code c → (fits : ℕ → Bool) → LeavesLess code c (step_by code fits c)
falls code wf c good fits =
    let i = instr_of code wf c good in
    let line = slice_index code.lines c.state.running.point in
    let ahead = (wf.instructions c.state.running.func good.entry c.state.running.point i.0 i.1).ahead in
    subst (λ (o : Option Instr). LeavesLess code c (act_at code fits o c)) (sym i.1.here) (doing_less code wf c good fits line i.0 i.1.here ahead (handed_value c.state.running i.0 i.0.op))

module _ (code : Code) (wf : IsWellFormed code) (heap total : ℕ) where
  -- a run so far is good and less is left, or it has ended for another reason than want of life
  abbrev Going : ℕ → Option Ending → CodeState → Type 0
  Going k None c = IsGood code c × (enough code c.state + k ≤ total)
  Going k (Some e) c = e ≢ Dangling

  next_goes : (k : ℕ) (trace : List Event) (c : CodeState) (n : Next) → StaysGood code n → LeavesLess code c n → enough code c.state + k ≤ total → Going (suc k) (runs.led trace n).ended (runs.led trace n).state
  next_goes k trace c (runs.Goes before events after) good less h = (good, omega (arith, less, h))
  next_goes k trace c (runs.Stops before events after e) good less h = good

  moved_goes : (k : ℕ) (r : Run) (o : Option Ending) → r.ended ≡ o → Going k o r.state → Going (suc k) (runs.moved (step code heap) r o).ended (runs.moved (step code heap) r o).state
  moved_goes k r (Some e) i h = subst (λ (o : Option Ending). Going (suc k) o r.state) (sym i) h
  moved_goes k r None i h =
      next_goes k r.trace r.state (step code heap r.trace r.state) (stays code wf r.state h.0 (has_place heap r.trace)) (falls code wf r.state h.0 (has_place heap r.trace)) h.1

-- the run behind its first instruction, and behind so many more
module _ (code : Code) (wf : IsWellFormed code) (holds : HoldsBytes code) (input : List ℕ) (bytes : All IsByte input) (n heap : ℕ) where
  abbrev first : CodeState
  first = start code input n

  abbrev total : ℕ
  total = enough code first.state

  abbrev So : ℕ → Run → Type 0
  So k r = Going code wf heap total k r.ended r.state

  begun_goes : (x : Next) → BeginsWell code x → LeavesLess code first x → Going code wf heap total 1 (runs.led [] x).ended (runs.led [] x).state
  begun_goes (runs.Goes before events after) good less = (good, omega (arith, less))
  begun_goes (runs.Stops before events after e) spent less = λ d. not_both (sym spent ∙ d) where
    not_both : Spent ≡ Dangling → ⊥
    not_both e = cc

  after_goes : (k : ℕ) → So (suc k) (runs.after (step code heap) (runs.fresh first) (suc k))
  unfolding runs.after
  after_goes zero =
      let b = begins_well code wf holds input bytes n (has_place heap []) in begun_goes (step code heap [] first) b.0 b.1
  after_goes (suc k) =
      let r = runs.after (step code heap) (runs.fresh first) (suc k) in
      moved_goes code wf heap total (suc k) r r.ended refl (after_goes k)

  ends_at : (r : Run) (o : Option Ending) → r.ended ≡ o → Going code wf heap total total o r.state → (e : Ending) × (r.ended ≡ Some e) × (e ≢ Dangling)
  ends_at r (Some e) i h = (e, i, h)
  ends_at r None i h = absurd (omega (arith, h.1))

  -- there is an instruction to make
  total_is : (m : ℕ) → suc m ≡ total → (e : Ending) × ((meaning code input n heap).ended ≡ Some e) × (e ≢ Dangling)
  total_is m e =
      let r = runs.after (step code heap) (runs.fresh first) total in
      ends_at r r.ended refl (subst (λ (k : ℕ). So k (runs.after (step code heap) (runs.fresh first) k)) e (after_goes m))

  pub run_ends : (e : Ending) × ((meaning code input n heap).ended ≡ Some e) × (e ≢ Dangling)
  run_ends = total_is (total - 1) (omega arith)
