-- The instruction that a good state is at leads to a good state.
use Rattle.meaning_laws.proofs.Words.Core.{Code, Frame, Instr, Integer, IsAt, IsWellFormed, OfAnswer, Op, Ready, Sort, State, StaticInit, Takes, Value, all_there, edges, handed_before, handed_sort, hands, instr_at, ready_at, register_sort, register_sorts, scopes_after, written}
use Rattle.meaning_laws.proofs.Words.Meaning.{AreOperands, AreWaiting, CodeState, GivesInteger, HasOperands, IsGood, IsOfSort, IsOperand, Next, StaysGood, act, act_at, address, hand, hand_or_act, handed_value, holds_stale, main_in, number, pointer_in, start_of, step_by, unsigned, with_handed}
use Rattle.meaning_laws.proofs.Words.Std.{Bool, Contains, IsSome, List, None, Option, Some, [], ap, arith, false, get_or, option_map, pos, refl, same_Some, slice_get, slice_get-map, slice_index, subst, sym, true, unsigned_abs, ℕ, ◌++◌, ◌+◌, ◌∙◌, ◌∷◌, ◌≡◌}
use Rattle.core_tree.specs.Sorts.{Pointer as Address}
use Rattle.meaning_laws.proofs.soundness.Lists.{zip_at, zip_push}
use Rattle.meaning_laws.proofs.soundness.Touching.{unsigned_number, not_stale, live_there}
use Rattle.meaning_laws.proofs.soundness.Lively.{live_back, needed_read, needed_live, edge_here}
use Rattle.meaning_laws.proofs.soundness.Frames.{not_written}
use Rattle.meaning_laws.proofs.soundness.Standing.{IsReady}
use Rattle.meaning_laws.proofs.soundness.Calling.{there}
use Rattle.meaning_laws.proofs.soundness.Acting.{act_stays}
use Rattle.hs_base.specs.declared.values.Pointer.TheVariants as pointer
use Rattle.flat_code.specs.declared.instructions.Op.TheVariants as op

-- what an operation does: it hands a value over, or acts on what was handed over
abbrev pub done_by : Code → (ℕ → Bool) → ℕ → Instr → CodeState → Op → Option Value → Next
done_by code fits line i c o (Some v) = hand (holds_stale c.state.objects v) v c
done_by code fits line i c o None = act code fits line i o c.handed c.numbers c.state

-- so does the instruction
pub done_is : (code : Code) (fits : ℕ → Bool) (line : ℕ) (i : Instr) (c : CodeState) (P : Next → Type 0) (o : Option Value) → P (done_by code fits line i c i.op o) → P (hand_or_act code fits line i o c)
done_is code fits line i c P (Some v) h = h
done_is code fits line i c P None h = h

module _ (code : Code) (wf : IsWellFormed code) (c : CodeState) (good : IsGood code c) (i : Instr) (at : IsAt code c.state.running.func good.entry c.state.running.point i) where
  abbrev s : State
  s = c.state

  abbrev Does : Op → Type 0
  Does = IsReady code wf c good i at

  -- a value is handed over
  handed_good : (o : Op) → Does o → hands o ≡ true → Contains (edges i o s.running.point) (s.running.point + 1) → scopes_after o good.scopes ≡ good.scopes → written i o ≡ None → (v : Value) → IsOperand s.objects (handed_sort code good.entry i o) v → IsGood code (with_handed v c)
  handed_good o ready h edge same none v is =
      let sorts = handed_before code good.entry s.running.point in
      let all = zip_push (IsOperand s.objects) sorts c.handed (handed_sort code good.entry i o) v good.handed is in
      let own : Contains (edges i i.op s.running.point) (s.running.point + 1) = subst (λ (x : Op). Contains (edges i x s.running.point) (s.running.point + 1)) (sym ready.is) edge in
      record {
        entry = good.entry;
        scopes = scopes_after o good.scopes;
        others = good.others;
        depth = omega (arith, good.depth, same);
        running = record {
          function = good.running.function;
          from = (ready.inside (s.running.point + 1) edge).0;
          before = (ready.inside (s.running.point + 1) edge).1;
          opens = ready.opens (s.running.point + 1) good.scopes edge good.running.opens;
          registers = good.running.registers;
        };
        needed = λ r needed.
            let live = live_back code s.running.point (s.running.point + 1) r (edge_here code s.running.point i at.here (s.running.point + 1) own) needed in
            good.needed r (needed_live code s.running.point i at.here r (not_written i i.op None (ap (written i) ready.is ∙ none) r (λ q some e. cc)) live);
        locals = record { each = λ k layout e. let l = good.locals.each k layout e in record { live = l.live; sort = l.sort; size = l.size; slots = l.slots }; above = good.locals.above; below = good.locals.below; ended = good.locals.ended };
        handed = subst (λ (x : List (Option Sort)). AreOperands s.objects x (c.handed ++ v ∷ [])) (sym (ready.pushes h)) all;
        waiting = good.waiting;
        objects = good.objects;
        statics = good.statics;
        queue = good.queue;
        emptied = good.emptied;
        numbers = good.numbers;
        input = good.input;
      }

  register_is : Does op.HandReg → IsOperand s.objects (register_sort good.entry i.a) (get_or s.running.regs i.a (number (pos 0)))
  register_is ready =
      let sort = there (register_sort good.entry i.a) (ready.handing refl) in
      let place : slice_get (all_there (register_sorts good.entry)) i.a ≡ Some (Some sort.0) = slice_get-map (λ (x : Sort). Some x) (register_sorts good.entry) i.a ∙ ap (λ (o : Option Sort). option_map (λ (x : Sort). Some x) o) sort.1 in
      (subst (λ (x : Option Sort). IsOfSort x (get_or s.running.regs i.a (number (pos 0)))) (sym sort.1) (zip_at IsOfSort (all_there (register_sorts good.entry)) s.running.regs i.a (Some sort.0) (number (pos 0)) good.running.registers place), good.needed i.a (needed_read code s.running.point i at.here ready.is))

  static_is : (o : Option StaticInit) → slice_get code.statics i.a ≡ o → IsSome (option_map (λ _. Address) o) → IsOperand s.objects (option_map (λ _. Address) o) (address (start_of i.a))
  static_is None e h = absurd (cc)
  static_is (Some static) e h = (tt, (live_there s.objects i.a (good.statics i.a static e).live, omega arith))

  local_is : (o : Option ℕ) → slice_get good.entry.mems i.a ≡ o → IsSome (option_map (λ _. Address) o) → IsOperand s.objects (option_map (λ _. Address) o) (address (start_of (s.running.first_local + i.a)))
  local_is None e h = absurd (cc)
  local_is (Some layout) e h =
      (tt, (live_there s.objects (s.running.first_local + i.a) (good.locals.each i.a layout e).live, omega arith))

  -- what is handed over is of its sort and no stale pointer
  pub handed_is : (o : Op) → Does o → (v : Value) → handed_value s.running i o ≡ Some v → IsOperand s.objects (handed_sort code good.entry i o) v
  handed_is op.HandReg ready v e =
      subst (IsOperand s.objects (register_sort good.entry i.a)) (same_Some _ v e) (register_is ready)
  handed_is op.HandInt ready v e = subst (IsOperand s.objects (Some Integer)) (same_Some _ v e) (ready.names, tt)
  handed_is op.HandUnsigned ready v e =
      subst (IsOperand s.objects (Some Integer)) (same_Some _ v e) (unsigned_number i.imm, tt)
  handed_is op.HandNull ready v e = subst (IsOperand s.objects (Some Address)) (same_Some _ v e) (tt, tt)
  handed_is op.HandStatic ready v e =
      subst (IsOperand s.objects (option_map (λ _. Address) (slice_get code.statics i.a))) (same_Some _ v e) (static_is (slice_get code.statics i.a) refl (ready.handing refl))
  handed_is op.HandLocal ready v e =
      subst (IsOperand s.objects (option_map (λ _. Address) (slice_get good.entry.mems i.a))) (same_Some _ v e) (local_is (slice_get good.entry.mems i.a) refl (ready.handing refl))
  handed_is o ready v e = absurd (cc)

  hand_stays : (o : Op) → Does o → hands o ≡ true → Contains (edges i o s.running.point) (s.running.point + 1) → scopes_after o good.scopes ≡ good.scopes → written i o ≡ None → (v : Value) → handed_value s.running i o ≡ Some v → StaysGood code (hand (holds_stale s.objects v) v c)
  hand_stays o ready h edge same none v e =
      let is = handed_is o ready v e in
      subst (λ (b : Bool). StaysGood code (hand b v c)) (sym (not_stale s.objects (pointer_in v) is.1)) (handed_good o ready h edge same none v is)

  does_stays : (fits : ℕ → Bool) (line : ℕ) (o : Op) → Does o → StaysGood code (done_by code fits line i c o (handed_value s.running i o))
  does_stays fits line op.HandReg ready =
      hand_stays op.HandReg ready refl (0, omega arith, refl) refl refl (get_or s.running.regs i.a (number (pos 0))) refl
  does_stays fits line op.HandInt ready =
      hand_stays op.HandInt ready refl (0, omega arith, refl) refl refl (number i.imm) refl
  does_stays fits line op.HandUnsigned ready =
      hand_stays op.HandUnsigned ready refl (0, omega arith, refl) refl refl (number (unsigned i.imm)) refl
  does_stays fits line op.HandNull ready =
      hand_stays op.HandNull ready refl (0, omega arith, refl) refl refl (address pointer.Null) refl
  does_stays fits line op.HandStatic ready =
      hand_stays op.HandStatic ready refl (0, omega arith, refl) refl refl (address (start_of i.a)) refl
  does_stays fits line op.HandLocal ready =
      hand_stays op.HandLocal ready refl (0, omega arith, refl) refl refl (address (start_of (s.running.first_local + i.a))) refl
  does_stays fits line o ready = act_stays code wf c good i at line fits o ready refl

  pub at_stays : (fits : ℕ → Bool) → StaysGood code (act_at code fits (Some i) c)
  at_stays fits =
      let line = slice_index code.lines s.running.point in
      done_is code fits line i c (StaysGood code) (handed_value s.running i i.op) (does_stays fits line i.op (ready_at code wf s.running.func good.entry s.running.point i at))

-- the instruction of a good state
pub instr_of : (code : Code) → IsWellFormed code → (c : CodeState) → (good : IsGood code c) → (i : Instr) × IsAt code c.state.running.func good.entry c.state.running.point i
instr_of code wf c good =
    instr_at code wf c.state.running.func good.entry c.state.running.point good.running.function good.running.from good.running.before

pub stays : (code : Code) → IsWellFormed code → (c : CodeState) → IsGood code c → (fits : ℕ → Bool) → StaysGood code (step_by code fits c)
stays code wf c good fits =
    let i = instr_of code wf c good in
    subst (λ (o : Option Instr). StaysGood code (act_at code fits o c)) (sym i.1.here) (at_stays code wf c good i.0 i.1 fits)

-- What an instruction of a good state hands over and takes; and the first of all frames gives an integer.

module _ (code : Code) (wf : IsWellFormed code) (c : CodeState) (good : IsGood code c) (i : Instr) (here : slice_get code.instrs c.state.running.point ≡ Some i) where
  abbrev sorts : List (Option Sort)
  sorts = handed_before code good.entry c.state.running.point

  abbrev IsInteger : Option Sort → Type 0
  IsInteger answer = answer ≡ Some Integer

  at : IsAt code c.state.running.func good.entry c.state.running.point i
  at = record { function = good.running.function; from = good.running.from; before = good.running.before; here = here }

  operands : (o : Op) → Takes code good.entry i o sorts → HasOperands code c good.entry i o
  operands op.Give h =
      (h.0, subst (λ (x : List (Option Sort)). AreOperands c.state.objects x c.handed) h.1 good.handed)
  operands o h = subst (λ (x : List (Option Sort)). AreOperands c.state.objects x c.handed) h good.handed

  pub has_operands : hands i.op ≡ false → HasOperands code c good.entry i i.op
  has_operands e =
      operands i.op ((ready_at code wf c.state.running.func good.entry c.state.running.point i at).takes e)

  pub hands_operand : (v : Value) → handed_value c.state.running i i.op ≡ Some v → IsOperand c.state.objects (handed_sort code good.entry i i.op) v
  hands_operand =
      handed_is code wf c good i at i.op (ready_at code wf c.state.running.func good.entry c.state.running.point i at)

  gives : (o : Op) → Ready code c.state.running.func good.entry c.state.running.point i o → OfAnswer IsInteger o sorts → GivesInteger c o
  gives op.Return ready h = absurd (cc)
  gives op.Give ready h =
      let sort = ready.takes refl in
      let is : Some sort.0 ≡ Some Integer = subst (λ (x : List (Option Sort)). OfAnswer IsInteger op.Give x) sort.1 h in
      let one : sorts ≡ Some Integer ∷ [] = sort.1 ∙ ap (λ (x : Option Sort). x ∷ []) is in
      subst (λ (x : List (Option Sort)). AreOperands c.state.objects x c.handed) one good.handed
  gives o ready h = tt

  -- the running frame is of main
  pub main_gives : c.state.waiting ≡ [] → GivesInteger c i.op
  main_gives none =
      let s = wf.start in
      let last = subst (λ (frames : List Frame). AreWaiting code c.state.objects c.state.running.func c.state.running.first_local good.others frames) none good.waiting in
      let main : c.state.running.func ≡ s.1 = last.1 ∙ ap main_in s.3 ∙ ap unsigned_abs s.4.number in
      gives i.op (ready_at code wf c.state.running.func good.entry c.state.running.point i at) (s.4.answers c.state.running.func good.entry c.state.running.point i at main)
