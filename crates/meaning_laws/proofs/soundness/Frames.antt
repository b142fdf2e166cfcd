-- What holds within an instruction, before the run moves on.
use Rattle.meaning_laws.proofs.Words.Core.{Code, Entry, Frame, GivesTo, Instr, IsAt, IsLive, IsWellFormed, Object, Op, Ready, Sort, State, Value, all_there, edges, hands, has_site, pointers_to, register_sorts, scopes_after, writes, written}
use Rattle.meaning_laws.proofs.Words.Meaning.{AreObjects, AreOfSorts, AreOperands, AreWaiting, CodeState, HasLocals, HasStatics, IsByte, IsFrame, IsGood, IsNeeded, IsOfSort, IsPointer, IsQueue, at_point, in_pins, is_among, number, pinned, pins_at, pointer_in, pointer_of_register, put}
use Rattle.meaning_laws.proofs.Words.Std.{All, All-cons, All-map, All-nil, Contains, Contains-get_or, List, None, Option, Some, [], ap, arith, cases_eq, cases_lt, false, false≢true, get_or, get_or-set_other, get_or-set_same, get_or_past, length, length-set, nat_eq, ne_eqb, option_map, option_map_or, pos, refl, set, slice_get, slice_get-map, subst, sym, true, ℕ, ⊎_elim, ◌+◌, ◌∙◌, ◌∷◌, ◌≡◌, ◌≢◌, ◌≤◌}
use Rattle.object_meaning.specs.code.CodeState.{kept}
use Rattle.meaning_laws.specs.code.Counts.{AreCounts}
use Rattle.meaning_laws.specs.code.Good.{AreFresh, Waits}
use Rattle.meaning_laws.proofs.soundness.Lists.{zip_set}
use Rattle.meaning_laws.proofs.soundness.Touching.{Becomes, Grows, Apart, Born, Spares, none_dies, none_apart, pointer_becomes, statics_become, locals_become, running_become}
use Rattle.meaning_laws.proofs.soundness.Lively.{needed_live, edge_here, live_back}
use Rattle.meaning_laws.proofs.soundness.Pinned.{uncounted, pins_cons, pins_count}

-- the only edge of most instructions
pub onto : (point : ℕ) → Contains ((point + 1) ∷ []) (point + 1)
onto point = (0, omega arith, refl)

-- The frames that wait

module _ (code : Code) (wf : IsWellFormed code) (old new : List Object) (dying : List ℕ) (g : Becomes old new dying) where
  waits_become : (callee top scopes : ℕ) (frame : Frame) → top ≤ length old → Apart old dying top → ((b : ℕ) → is_among dying b ≡ true → pointers_to b (pinned code frame) ≡ 0) → Waits code old callee top scopes frame → Waits code new callee top scopes frame
  waits_become callee top scopes frame long apart none w =
      let at : IsAt code frame.func w.entry frame.point w.call = record { function = w.stands.function; from = w.stands.from; before = w.stands.before; here = w.here } in
      record {
        entry = w.entry;
        stands = w.stands;
        call = w.call;
        here = w.here;
        calls = w.calls;
        names = w.names;
        counted = λ r counts.
            pointer_becomes old new dying g (pointer_of_register frame r) (w.counted r counts) (λ b dies. uncounted code wf frame.func w.entry frame w.call at (ap has_site w.calls) b (none b dies) r counts);
        locals = locals_become old new dying g code w.entry top frame long apart w.locals;
      }

  -- all of them, from newest to oldest
  pub waiting_become : (callee top total : ℕ) (frames : List Frame) → top ≤ length old → Apart old dying top → ((b : ℕ) → is_among dying b ≡ true → in_pins code b frames ≡ 0) → AreWaiting code old callee top total frames → AreWaiting code new callee top total frames
  waiting_become callee top total [] long apart none h = h
  waiting_become callee top total (frame ∷ frames) long apart none h =
      let below = h.3.locals.below in
      (h.0, h.1, h.2, waits_become callee top h.0 frame long apart (λ b dies. omega (arith, none b dies, pins_cons code b frame frames)) h.3, waiting_become frame.func frame.first_local h.1 frames (omega arith) (λ b lt heap. apart b (omega arith) heap) (λ b dies. omega (arith, none b dies, pins_cons code b frame frames)) h.4)

-- A register that is written

-- P of each register once one is written
set_register : (P : Value → Type 0) → P (number (pos 0)) → (regs : List Value) (r q : ℕ) (v : Value) → P v → ((q ≡ r → ⊥) → P (get_or regs q (number (pos 0)))) → P (get_or (set regs r v) q (number (pos 0)))
set_register P none regs r q v f other =
    ⊎_elim
    (λ e.
    ⊎_elim
    (λ lt. subst P (sym (ap (λ n. get_or (set regs r v) n (number (pos 0))) e ∙ get_or-set_same regs r v (number (pos 0)) lt)) f)
    (λ le. subst P (sym (get_or_past (set regs r v) q (number (pos 0)) (omega (arith, length-set regs r v)))) none)
    (cases_lt r (length regs)))
    (λ n. subst P (sym (get_or-set_other regs r q v (number (pos 0)) n)) (other n))
    (cases_eq q r)

-- a register that may not be there takes a value
abbrev pub with_value : List Value → Option ℕ → Value → List Value
with_value regs None v = regs
with_value regs (Some r) v = set regs r v

-- the registers hold what they are for once a result is written
pub registers_put : (entry : Entry) (regs : List Value) → AreOfSorts (all_there (register_sorts entry)) regs → (result : Option Sort) (r : Option ℕ) → GivesTo entry result r → (v : Value) → ((sort : Sort) → result ≡ Some sort → IsOfSort (Some sort) v) → AreOfSorts (all_there (register_sorts entry)) (with_value regs r v)
registers_put entry regs h result None gives v is = h
registers_put entry regs h None (Some r) gives v is = absurd gives
registers_put entry regs h (Some sort) (Some r) gives v is =
    let there : slice_get (all_there (register_sorts entry)) r ≡ Some (Some sort) = slice_get-map (λ (x : Sort). Some x) (register_sorts entry) r ∙ ap (λ (o : Option Sort). option_map (λ (x : Sort). Some x) o) gives in
    zip_set IsOfSort (all_there (register_sorts entry)) regs r (Some sort) v h there (is sort refl)

-- none but it is written
pub not_written : (i : Instr) (o : Op) (w : Option ℕ) → written i o ≡ w → (q : ℕ) → ((r : ℕ) → w ≡ Some r → q ≡ r → ⊥) → writes i o q ≡ false
not_written i o None e q n = ap (λ (x : Option ℕ). option_map_or (λ k. nat_eq k q) x false) e
not_written i o (Some r) e q n =
    ap (λ (x : Option ℕ). option_map_or (λ k. nat_eq k q) x false) e ∙ ne_eqb r q (λ same. n r refl (sym same))

-- a register that is live behind an instruction and not written there was needed; the written one has its value
pub fresh_behind : (code : Code) (objects : List Object) (frame : Frame) (i : Instr) → slice_get code.instrs frame.point ≡ Some i → AreFresh objects (IsNeeded code frame.point) frame → (r : Option ℕ) → written i i.op ≡ r → (v : Value) → IsPointer objects (pointer_in v) → (q : ℕ) → IsLive code frame.point q → IsPointer objects (pointer_in (get_or (with_value frame.regs r v) q (number (pos 0))))
fresh_behind code objects frame i here fresh None e v is q live =
    fresh q (needed_live code frame.point i here q (not_written i i.op None e q (λ r some same. cc)) live)
fresh_behind code objects frame i here fresh (Some r) e v is q live =
    set_register (λ (x : Value). IsPointer objects (pointer_in x)) tt frame.regs r q v is (λ n. fresh q (needed_live code frame.point i here q (not_written i i.op (Some r) e q (λ s some same. let one : r ≡ s = cc in n (same ∙ sym one))) live))

-- States

module _ (code : Code) (entry : Entry) (scopes others : ℕ) where
  -- the running frame is at an instruction, with so many scopes open and so many in the frames that wait; none of the registers
  -- that are wanted there is stale
  pub record Holds (wanted : ℕ → ℕ → Type 0) (n : ℕ → ℕ) (s : State) : Type 0 where
    pub running : IsFrame code entry scopes s.running
    pub fresh : AreFresh s.objects (wanted s.running.point) s.running
    pub locals : HasLocals code s.objects entry (length s.objects) s.running
    pub waiting : AreWaiting code s.objects s.running.func s.running.first_local others s.waiting
    pub objects : AreObjects s.objects
    pub statics : HasStatics code s.objects
    pub queue : IsQueue s.objects s.queue
    pub numbers : AreCounts code (kept n s)
    pub input : All IsByte s.input

  module _ (wf : IsWellFormed code) (wanted : ℕ → ℕ → Type 0) (n : ℕ → ℕ) (s : State) (h : Holds wanted n s) where
    -- a state with other objects, numbers, queue, scopes, input and steps
    abbrev with_others : List Object → List ℕ → ℕ → List ℕ → ℕ → State
    with_others objects queue total input steps = record {
      objects = objects;
      running = s.running;
      waiting = s.waiting;
      queue = queue;
      scopes = total;
      input = input;
      steps = steps;
    }

    -- other objects, of which nothing that is wanted or counts leads to one that died
    pub holds_become : (objects : List Object) (dying : List ℕ) → Becomes s.objects objects dying → Apart s.objects dying (length s.objects) → Born s.objects objects → ((b : ℕ) → is_among dying b ≡ true → in_pins code b s.waiting ≡ 0) → ((r : ℕ) → wanted s.running.point r → Spares dying (pointer_of_register s.running r)) → AreObjects objects → (queue : List ℕ) → IsQueue objects queue → (total : ℕ) (input : List ℕ) → All IsByte input → (steps : ℕ) (m : ℕ → ℕ) → AreCounts code (kept m (with_others objects queue total input steps)) → Holds wanted m (with_others objects queue total input steps)
    holds_become objects dying g apart born unpinned spares whole queue q total input bytes steps m counts =
        let below = h.locals.below in
        let above = h.locals.above in
        record {
          running = h.running;
          fresh = λ r w.
              pointer_becomes s.objects objects dying g (pointer_of_register s.running r) (h.fresh r w) (spares r w);
          locals = running_become code s.objects objects dying g entry s.running apart born h.locals;
          waiting = waiting_become code wf s.objects objects dying g s.running.func s.running.first_local others s.waiting (omega arith) (λ b lt heap. apart b (omega arith) heap) unpinned h.waiting;
          objects = whole;
          statics = statics_become s.objects objects dying g code (length s.objects) (omega arith) apart h.statics;
          queue = q;
          numbers = counts;
          input = bytes;
        }

    -- none died
    pub holds_grow : (objects : List Object) → Grows s.objects objects → Born s.objects objects → AreObjects objects → (queue : List ℕ) → IsQueue objects queue → (total : ℕ) (input : List ℕ) → All IsByte input → (steps : ℕ) (m : ℕ → ℕ) → AreCounts code (kept m (with_others objects queue total input steps)) → Holds wanted m (with_others objects queue total input steps)
    holds_grow objects g born whole queue q total input bytes steps m counts =
        holds_become objects [] g (none_apart s.objects (length s.objects)) born (λ b dies. absurd (false≢true dies)) (λ r w. none_dies (pointer_of_register s.running r)) whole queue q total input bytes steps m counts

  -- within an instruction, once its register is written
  module _ (n : ℕ → ℕ) (s : State) (h : Holds (IsNeeded code) n s) (i : Instr) (here : slice_get code.instrs s.running.point ≡ Some i) where
    pub holds_put : (result : Option Sort) (r : Option ℕ) → GivesTo entry result r → written i i.op ≡ r → (v : Value) → ((sort : Sort) → result ≡ Some sort → IsOfSort (Some sort) v) → IsPointer s.objects (pointer_in v) → Holds (IsLive code) n (put s r v)
    holds_put result None gives e v is leads = record {
      running = h.running;
      fresh = fresh_behind code s.objects s.running i here h.fresh None e v leads;
      locals = h.locals;
      waiting = h.waiting;
      objects = h.objects;
      statics = h.statics;
      queue = h.queue;
      numbers = h.numbers;
      input = h.input;
    }
    holds_put result (Some r) gives e v is leads = record {
      running = record {
        function = h.running.function;
        from = h.running.from;
        before = h.running.before;
        opens = h.running.opens;
        registers = registers_put entry s.running.regs h.running.registers result (Some r) gives v is;
      };
      fresh = fresh_behind code s.objects s.running i here h.fresh (Some r) e v leads;
      locals = record { each = λ k layout at. let l = h.locals.each k layout at in record { live = l.live; sort = l.sort; size = l.size; slots = l.slots }; above = h.locals.above; below = h.locals.below; ended = h.locals.ended };
      waiting = h.waiting;
      objects = h.objects;
      statics = h.statics;
      queue = h.queue;
      numbers = h.numbers;
      input = h.input;
    }

  -- the run moves on to where an instruction leads
  module _ (n : ℕ → ℕ) (t : State) (h : Holds (IsLive code) n t) (i : Instr) (here : slice_get code.instrs t.running.point ≡ Some i) (o : Op) (ready : Ready code t.running.func entry t.running.point i o) where
    -- from what is live behind the instruction to what is needed there
    pub moves : hands o ≡ false → (next : ℕ) → Contains (edges i o t.running.point) next → t.scopes ≡ scopes_after o scopes + others → (t.scopes ≡ 0 → t.queue ≡ []) → IsGood code (kept n (at_point t next))
    moves takes next edge depth emptied =
        let own : Contains (edges i i.op t.running.point) next = subst (λ (x : Op). Contains (edges i x t.running.point) next) (sym ready.is) edge in
        record {
          entry = entry;
          scopes = scopes_after o scopes;
          others = others;
          depth = depth;
          running = record {
            function = h.running.function;
            from = (ready.inside next edge).0;
            before = (ready.inside next edge).1;
            opens = ready.opens next scopes edge h.running.opens;
            registers = h.running.registers;
          };
          needed = λ r needed.
              h.fresh r (live_back code t.running.point next r (edge_here code t.running.point i here next own) needed);
          locals = record { each = λ k layout at. let l = h.locals.each k layout at in record { live = l.live; sort = l.sort; size = l.size; slots = l.slots }; above = h.locals.above; below = h.locals.below; ended = h.locals.ended };
          handed = subst (λ sorts. AreOperands t.objects sorts []) (sym (ready.afresh takes next edge)) tt;
          waiting = h.waiting;
          objects = h.objects;
          statics = h.statics;
          queue = h.queue;
          emptied = emptied;
          numbers = h.numbers;
          input = h.input;
        }

-- before an instruction
pub holds_of : (code : Code) (c : CodeState) (good : IsGood code c) → Holds code good.entry good.scopes good.others (IsNeeded code) c.numbers c.state
holds_of code c good = record {
  running = good.running;
  fresh = good.needed;
  locals = good.locals;
  waiting = good.waiting;
  objects = good.objects;
  statics = good.statics;
  queue = good.queue;
  numbers = good.numbers;
  input = good.input;
}

-- No pin of a good state is stale.

module _ (code : Code) (wf : IsWellFormed code) where
  -- those of the running frame that its instruction does not write
  pub running_fresh : (c : CodeState) (good : IsGood code c) (i : Instr) → slice_get code.instrs c.state.running.point ≡ Some i → All (λ r. written i i.op ≢ Some r → IsPointer c.state.objects (pointer_of_register c.state.running r)) (pins_at code c.state.running)
  running_fresh c good i here k d lt free =
      let frame = c.state.running in
      let r = get_or (pins_at code frame) k d in
      let at : IsAt code frame.func good.entry frame.point i = record { function = good.running.function; from = good.running.from; before = good.running.before; here = here } in
      let counts = pins_count code wf frame.func good.entry frame i at r (Contains-get_or (pins_at code frame) k d lt) in
      good.needed r (needed_live code frame.point i here r (not_written i i.op (written i i.op) refl r (λ q some e. free (some ∙ ap (λ x. Some x) (sym e)))) counts.live)

  -- those of the frames that wait
  pub waiting_fresh : (objects : List Object) (callee top total : ℕ) (frames : List Frame) → AreWaiting code objects callee top total frames → All (λ frame. All (IsPointer objects) (pinned code frame)) frames
  waiting_fresh objects callee top total [] h = All-nil _
  waiting_fresh objects callee top total (frame ∷ frames) h =
      let w = h.3 in
      let at : IsAt code frame.func w.entry frame.point w.call = record { function = w.stands.function; from = w.stands.from; before = w.stands.before; here = w.here } in
      All-cons (λ (f : Frame). All (IsPointer objects) (pinned code f)) frame frames (All-map (IsPointer objects) (pointer_of_register frame) (pins_at code frame) (λ k d lt.
      let r = get_or (pins_at code frame) k d in
      w.counted r (pins_count code wf frame.func w.entry frame w.call at r (Contains-get_or (pins_at code frame) k d lt)))) (waiting_fresh objects frame.func frame.first_local h.1 frames h.4)
