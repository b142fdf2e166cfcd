-- The frame of a call begins well.
use Rattle.meaning_laws.proofs.Words.Core.{Code, Counts, Entry, Frame, Instr, IsLayout, IsWellFormed, Layout, Local, Object, Ready, Sort, State, Value, all_there, answered, call_takes, is_queued, no_object, object_at, parameter_sorts, sort_of, written}
use Rattle.meaning_laws.proofs.Words.Meaning.{AreObjects, AreOfSorts, AreOperands, AreWaiting, CodeState, HasLocals, HasStatics, IsByte, IsGood, IsNeeded, IsObject, IsOfSort, IsOperand, IsPointer, IsQueue, StaysGood, append_living, inside_living, kinds_of, layout_in, living, more, no_layout, no_pointers, number, pinned, pointer_in, with_locals}
use Rattle.meaning_laws.proofs.Words.Std.{All, All-cons, All-nil, Bool, IsSome, List, None, Option, Some, [], ap, arith, drop, enumerate_from, false, false≢true, get_or, get_or-append-add, length, length-append, length-enumerate_from, length-map, map, option_map_or, pos, refl, slice_get, subst, suc, sum_by-cons, sym, take, true, zero, ℕ, ◌++◌, ◌+◌, ◌<◌, ◌^◌, ◌∙◌, ◌∷◌, ◌≡◌, ◌≤◌}
use Rattle.object_meaning.specs.code.Entering.{local_object, first_value, locals_of, first_of, new_frame, call}
use Rattle.meaning_laws.proofs.soundness.Lists.{all_at, zip_weaker}
use Rattle.meaning_laws.proofs.soundness.Made.{blank_is, layout_sound, append_grows, append_objects, append_queue}
use Rattle.flat_code.specs.WellFormed.{start}
use Rattle.object_meaning.specs.code.CodeState.{kept}
use Rattle.meaning_laws.specs.code.Counts.{AreCounts}
use Rattle.meaning_laws.specs.code.Good.{Waits}
use Rattle.meaning_laws.proofs.soundness.Touching.{natural_number, none_apart, pointer_grows, statics_become}
use Rattle.meaning_laws.proofs.soundness.Lively.{needed_live}
use Rattle.meaning_laws.proofs.soundness.Pinned.{pins_cons}
use Rattle.meaning_laws.proofs.soundness.Frames.{waiting_become, not_written}
use Rattle.hs_base.specs.declared.values.Pointer.TheVariants as pointer
use Rattle.flat_code.specs.declared.instructions.Op.TheVariants as op

-- The memory locals of a call are made.

-- a layout is no larger than an object
layout_small_at : (code : Code) → IsWellFormed code → (n : ℕ) (o : Option Layout) → slice_get code.layouts n ≡ o → (layout_in code n).size < 2 ^ 64
layout_small_at code wf n None e = rw e (omega arith)
layout_small_at code wf n (Some l) e =
    let is : (layout_in code n).size ≡ l.size = ap (λ (o : Option Layout). (option_map_or (λ (x : Layout). x) o no_layout).size) e in
    omega (arith, is, (all_at IsLayout code.layouts n l wf.layouts e).size)

module _ (code : Code) (f : ℕ) where
  -- the objects of memory locals with these layouts, from a number on
  abbrev pub locals_from : ℕ → List ℕ → List Object
  locals_from n mems = map (local_object f) (enumerate_from n (map (layout_in code) mems))

  locals_length : (n : ℕ) (mems : List ℕ) → length (locals_from n mems) ≡ length mems
  locals_length n mems =
      length-map (enumerate_from n (map (layout_in code) mems)) (local_object f) ∙ length-enumerate_from n (map (layout_in code) mems)
      ∙ length-map mems (layout_in code)

  -- they are whole
  pub locals_are : IsWellFormed code → (objects : List Object) (n : ℕ) (mems : List ℕ) → All (IsObject objects) (locals_from n mems)
  locals_are wf objects n [] = All-nil (IsObject objects)
  locals_are wf objects n (m ∷ mems) =
      All-cons (IsObject objects) (local_object f (n, layout_in code m)) (locals_from (n + 1) mems) (blank_is objects _ (layout_in code m).size (layout_in code m).slots (layout_small_at code wf m (slice_get code.layouts m) refl) (layout_sound code wf m).slots) (locals_are wf objects (n + 1) mems)

  -- none is queued
  pub locals_unqueued : (n : ℕ) (mems : List ℕ) (k : ℕ) → is_queued (object_at (locals_from n mems) k).standing ≡ false
  locals_unqueued n [] k = refl
  locals_unqueued n (m ∷ mems) zero = refl
  locals_unqueued n (m ∷ mems) (suc k) = locals_unqueued (n + 1) mems k

  no_pointers_in : (x n : ℕ) (mems : List ℕ) → inside_living x (locals_from n mems) ≡ 0
  no_pointers_in x n [] = refl
  no_pointers_in x n (m ∷ mems) =
      omega (arith, sum_by-cons (living x) (local_object f (n, layout_in code m)) (locals_from (n + 1) mems), no_pointers x (length (layout_in code m).slots), no_pointers_in x (n + 1) mems)

  -- and none has a pointer
  pub locals_living : (objects : List Object) (mems : List ℕ) (x : ℕ) → inside_living x (objects ++ locals_from 0 mems) ≡ inside_living x objects
  locals_living objects mems x = omega (arith, append_living objects (locals_from 0 mems) x, no_pointers_in x 0 mems)

  local_at : (n : ℕ) (mems : List ℕ) (k m : ℕ) → slice_get mems k ≡ Some m → object_at (locals_from n mems) k ≡ local_object f (n + k, layout_in code m)
  local_at n [] k m e = absurd (cc)
  local_at n (l ∷ mems) zero m e = let here : n + 0 ≡ n = omega arith in let same : l ≡ m = cc in rw (here, same) refl
  local_at n (l ∷ mems) (suc k) m e =
      let there : n + 1 + k ≡ n + suc k = omega arith in
      local_at (n + 1) mems k m e ∙ ap (λ j. local_object f (j, layout_in code m)) there

  -- a frame of a function that begins has them
  pub has_locals : (entry : Entry) (objects : List Object) (frame : Frame) → frame.func ≡ f → frame.first_local ≡ length objects → length code.statics ≤ length objects → HasLocals code (objects ++ locals_from 0 entry.mems) entry (length (objects ++ locals_from 0 entry.mems)) frame
  has_locals entry objects frame func first long =
      let more = locals_from 0 entry.mems in
      let many : length (objects ++ more) ≡ length objects + length entry.mems = length-append objects more ∙ ap (λ n. length objects + n) (locals_length 0 entry.mems) in
      record {
        each = λ k m e.
            let here : 0 + k ≡ k = omega arith in
            let is : object_at (objects ++ more) (frame.first_local + k) ≡ local_object f (k, layout_in code m) = ap (λ b. object_at (objects ++ more) (b + k)) first ∙ get_or-append-add objects more k no_object ∙ local_at 0 entry.mems k m e ∙ ap (λ j. local_object f (j, layout_in code m)) here in
            record {
              live = ap (λ (o : Object). o.standing) is;
              sort = ap (λ (o : Object). o.sort) is ∙ ap (λ g. Local g k) (sym func);
              size = ap (λ (o : Object). o.size) is;
              slots = ap (λ (o : Object). o.slots) is;
            };
        above = omega (arith, first, long);
        below = omega (arith, first, many);
        ended = λ b g k from before is. absurd (omega (arith, first, many, from, before));
      }

-- The frame of a call begins well.

-- Registers at the start of a call

first_is : (b : Bool) → IsOfSort (Some (sort_of b)) (first_value b)
first_is true = tt
first_is false = natural_number 0 (omega arith)

firsts_are : (kinds : List Bool) → AreOfSorts (all_there (map sort_of kinds)) (map first_value kinds)
firsts_are [] = tt
firsts_are (b ∷ kinds) = (first_is b, firsts_are kinds)

-- the arguments, and the other registers at their first values, are of their sorts
first_registers : (kinds : List Bool) (n : ℕ) (arguments : List Value) → AreOfSorts (all_there (take n (map sort_of kinds))) arguments → AreOfSorts (all_there (map sort_of kinds)) (arguments ++ map first_value (drop (length arguments) kinds))
first_registers kinds zero [] h = firsts_are kinds
first_registers kinds zero (v ∷ arguments) h = absurd h
first_registers [] (suc n) [] h = tt
first_registers [] (suc n) (v ∷ arguments) h = absurd h
first_registers (b ∷ kinds) (suc n) [] h = absurd h
first_registers (b ∷ kinds) (suc n) (v ∷ arguments) h = (h.0, first_registers kinds n arguments h.1)

pub there : {A : Type 0} (o : Option A) → IsSome o → (x : A) × (o ≡ Some x)
there None h = absurd (cc)
there (Some x) h = (x, refl)

-- none of the registers of a frame that begins is stale
first_null : (b : Bool) → pointer_in (first_value b) ≡ pointer.Null
first_null true = refl
first_null false = refl

firsts_lead : (objects : List Object) (kinds : List Bool) (r : ℕ) → IsPointer objects (pointer_in (get_or (map first_value kinds) r (number (pos 0))))
firsts_lead objects [] r = tt
firsts_lead objects (b ∷ kinds) zero = subst (IsPointer objects) (sym (first_null b)) tt
firsts_lead objects (b ∷ kinds) (suc r) = firsts_lead objects kinds r

-- nor are the arguments
pub registers_lead : (objects : List Object) (sorts : List (Option Sort)) (arguments : List Value) (kinds : List Bool) → AreOperands objects sorts arguments → (r : ℕ) → IsPointer objects (pointer_in (get_or (arguments ++ map first_value kinds) r (number (pos 0))))
registers_lead objects [] [] kinds h r = firsts_lead objects kinds r
registers_lead objects [] (v ∷ arguments) kinds h r = absurd h
registers_lead objects (sort ∷ sorts) [] kinds h r = absurd h
registers_lead objects (sort ∷ sorts) (v ∷ arguments) kinds h zero = h.0.1
registers_lead objects (sort ∷ sorts) (v ∷ arguments) kinds h (suc r) = registers_lead objects sorts arguments kinds h.1 r

module _ (code : Code) (wf : IsWellFormed code) where
  module _ (f : ℕ) (entry : Entry) (here : slice_get code.funcs f ≡ Some entry) (objects : List Object) (arguments : List Value) (waiting : List Frame) (queue : List ℕ) (scopes : ℕ) (input : List ℕ) (steps : ℕ) (numbers : ℕ → ℕ) where
    -- the state of a call of a function, with the objects before it
    abbrev called : State
    called = record {
      objects = objects;
      running = new_frame code f arguments (length objects);
      waiting = waiting;
      queue = queue;
      scopes = scopes;
      input = input;
      steps = steps;
    }

    -- the same with its memory locals, by its entry
    abbrev entered : Option Entry → CodeState
    entered o = kept numbers (record {
      objects = objects ++ map (local_object f) (enumerate_from 0 (locals_of code o));
      running = record {
        func = f;
        point = first_of o;
        regs = arguments ++ map first_value (drop (length arguments) (kinds_of o));
        first_local = length objects;
      };
      waiting = waiting;
      queue = queue;
      scopes = scopes;
      input = input;
      steps = steps;
    })

    enters_at : AreObjects objects → HasStatics code objects → length code.statics ≤ length objects → IsQueue objects queue → (scopes ≡ 0 → queue ≡ []) → AreOperands objects (all_there (parameter_sorts entry)) arguments → AreWaiting code objects f (length objects) scopes waiting → AreCounts code (kept numbers called) → All IsByte input → IsGood code (entered (Some entry))
    enters_at whole statics long q emptied are waits counts bytes =
        let function = wf.functions f entry here in
        let more = locals_from code f 0 entry.mems in
        let all = objects ++ more in
        let grows = append_grows objects more in
        record {
          entry = entry;
          scopes = 0;
          others = scopes;
          depth = omega arith;
          running = record {
            function = here;
            from = omega arith;
            before = function.some;
            opens = start;
            registers = first_registers entry.kinds entry.params arguments (zip_weaker (IsOperand objects) IsOfSort (λ sort v is. is.0) (all_there (parameter_sorts entry)) arguments are);
          };
          needed = λ r needed.
              pointer_grows objects all grows (pointer_in (get_or (arguments ++ map first_value (drop (length arguments) entry.kinds)) r (number (pos 0)))) (registers_lead objects (all_there (parameter_sorts entry)) arguments (drop (length arguments) entry.kinds) are r);
          locals = has_locals code f entry objects (entered (Some entry)).state.running refl refl long;
          handed = subst (λ sorts. AreOperands all sorts []) (sym function.afresh) tt;
          waiting = waiting_become code wf objects all [] grows f (length objects) scopes waiting (omega arith) (none_apart objects (length objects)) (λ b dies. absurd (false≢true dies)) waits;
          objects = append_objects objects more whole (locals_are code f wf all 0 entry.mems);
          statics = statics_become objects all [] grows code (length objects) long (none_apart objects (length objects)) statics;
          queue = append_queue objects more queue q (locals_unqueued code f 0 entry.mems);
          emptied = emptied;
          numbers = λ x. omega (arith, counts x, locals_living code f objects entry.mems x);
          input = bytes;
        }

    pub enters : AreObjects objects → HasStatics code objects → length code.statics ≤ length objects → IsQueue objects queue → (scopes ≡ 0 → queue ≡ []) → AreOperands objects (all_there (parameter_sorts entry)) arguments → AreWaiting code objects f (length objects) scopes waiting → AreCounts code (kept numbers called) → All IsByte input → IsGood code (kept numbers (with_locals code called))
    enters whole statics long q emptied are waits counts bytes =
        subst (λ (o : Option Entry). IsGood code (entered o)) (sym here) (enters_at whole statics long q emptied are waits counts bytes)

  -- the frame that calls waits
  module _ (c : CodeState) (good : IsGood code c) (i : Instr) (at : slice_get code.instrs c.state.running.point ≡ Some i) (ready : Ready code c.state.running.func good.entry c.state.running.point i op.Call) where
    abbrev s : State
    s = c.state

    -- a register that counts is needed, since the call does not write it
    counted : (r : ℕ) → Counts code good.entry s.running.point i r → IsNeeded code s.running.point r
    counted r counts =
        needed_live code s.running.point i at r (not_written i i.op (answered i i.op) same r (λ q some e. counts.kept (some ∙ ap (λ k. Some k) (sym e)))) counts.live where
          same : written i i.op ≡ answered i i.op
          same = ap (written i) ready.is ∙ sym (ap (answered i) ready.is)

    pub call_stays : (line m : ℕ) → StaysGood code (call code line i.b c.handed c.numbers (record s { steps = m }))
    call_stays line m =
        let callee = there (slice_get code.funcs i.b) ready.names in
        let sorts = ready.takes refl ∙ ap (λ (o : Option Entry). all_there (call_takes o)) callee.1 in
        let are = subst (λ (x : List (Option Sort)). AreOperands s.objects x c.handed) sorts good.handed in
        let waits : Waits code s.objects i.b (length s.objects) good.scopes s.running = record {
          entry = good.entry;
          stands = good.running;
          call = i;
          here = at;
          calls = ready.is;
          names = refl;
          counted = λ r counts. good.needed r (counted r counts);
          locals = good.locals;
        } in
        let all : AreWaiting code s.objects i.b (length s.objects) s.scopes (s.running ∷ s.waiting) = (good.scopes, good.others, good.depth, waits, good.waiting) in
        enters i.b callee.0 callee.1 s.objects c.handed (s.running ∷ s.waiting) s.queue s.scopes s.input m (more c.numbers (pinned code s.running)) good.objects good.statics (omega (arith, good.locals.above, good.locals.below)) good.queue good.emptied are all (λ x. omega (arith, good.numbers x, pins_cons code x s.running s.waiting)) good.input
