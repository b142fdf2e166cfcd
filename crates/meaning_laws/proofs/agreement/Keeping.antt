-- What an effect on the state of a core and the same effect on that of its code have in common.
use Rattle.meaning_laws.proofs.Words.Core.{Code, Core, Ending, Enter, Entry, Event, Frame, Func, Layout, Mem, Object, Refusal, Reg, State, Value, call_cost, object_at, site_of}
use Rattle.meaning_laws.proofs.Words.Meaning.{CodeState, CountedState, IsCompiled, IsEntry, Next, Pins, SameFrames, SameState, answers, at_point, branch, changes, code_left, enough, fewer, more, onward, other_numbers, pins_of, pointer_of_register, put, renumbered, same_numbers, with_objects, write}
use Rattle.meaning_laws.proofs.Words.Std.{Bool, Err, List, None, Ok, Option, Result, Some, [], ap, arith, drop, drop-map, enumerate_from, false, length, length-map, map, option_map_or, refl, slice_get, suc, sum_by, sum_by-cons, sym, true, unwrap_or, zero, ℕ, ◌*◌, ◌++◌, ◌+◌, ◌-◌, ◌<◌, ◌∙◌, ◌∷◌, ◌≡◌, ◌≤◌}
use Rattle.meaning_laws.proofs.agreement.Places.{place_at, place_is}
use Rattle.object_meaning.specs.counted.Pinning.{pinned}
use Rattle.hs_base.specs.Runs as runs
use Rattle.object_meaning.specs.objects.Going as going
use Rattle.object_meaning.specs.counted.CountedState as counted
use Rattle.object_meaning.specs.code.Entering as entering
use Rattle.object_meaning.specs.objects.Values as core_values
use Rattle.object_meaning.specs.objects.Making as making
use Rattle.object_meaning.specs.objects.Calls as core_calls

-- The state of a core as its code has it: the points are instructions.

-- the running frame is at the first instruction of its statement
abbrev pub moved_frame : Core → Frame → Frame
moved_frame core frame = record frame { point = place_at core frame.func frame.point }

-- a waiting frame is at the last instruction of its statement, which calls
abbrev pub waiting_frame : Core → Frame → Frame
waiting_frame core frame = record frame { point = place_at core frame.func (frame.point + 1) - 1 }

abbrev pub moved : Core → State → State
moved core s = record s { running = moved_frame core s.running; waiting = map (waiting_frame core) s.waiting }

same_waiting : (core : Core) (frames : List Frame) → SameFrames frames (map (waiting_frame core) frames)
same_waiting core [] = tt
same_waiting core (frame ∷ frames) =
    (record { func = refl; regs = refl; first_local = refl }, same_waiting core frames)

-- the points alone differ
pub moved_same : (core : Core) (s : State) (point : ℕ) → SameState s (at_point (moved core s) point)
moved_same core s point = record {
  objects = refl;
  running = record { func = refl; regs = refl; first_local = refl };
  waiting = same_waiting core s.waiting;
  queue = refl;
  scopes = refl;
  input = refl;
  steps = refl;
}

-- What an effect on the state of a core and the same effect on that of its code have in common.

-- What an effect on the state of a core and the same effect on that of its code have in common.

-- numbers that the states before and behind give are the same where the objects are
abbrev pub ByObjects : (State → State → ℕ → ℕ) → (State → State → ℕ → ℕ) → Type 0
ByObjects of_core of_code =
    (b t c u : State) → c.objects ≡ b.objects → u.objects ≡ t.objects → of_code c u ≡ of_core b t

pub renumbered_same : (changed : ℕ) (numbers : ℕ → ℕ) → ByObjects (renumbered changed numbers) (renumbered changed numbers)
renumbered_same changed numbers b t c u e f =
    ap (λ os. fewer (more numbers (object_at os changed).pointers) (object_at c.objects changed).pointers) f
    ∙ ap (λ os. fewer (more numbers (object_at t.objects changed).pointers) (object_at os changed).pointers) e

-- the same but for points, with the same numbers
abbrev pub Matches : CountedState → CodeState → Type 0
Matches a c = SameState a.state c.state × (c.numbers ≡ a.numbers)

module _ (core : Core) (code : Code) (s : State) (j : ℕ) where
  -- the code comes where the core comes, and has made enough of its moves
  pub record Arrives (t u : State) : Type 0 where
    pub same : u ≡ moved core t
    pub left : enough code (moved core t) + j ≤ enough code (moved core s)

  -- an effect on the core's state, and one on the code's; the states that a cut at the first event keeps are the same too
  abbrev pub Pairs : going.Next → going.Next → Type 0
  Pairs (runs.Goes b es t) (runs.Goes c fs u) = (fs ≡ es) × SameState b c × Arrives t u
  Pairs (runs.Stops b es t e) (runs.Stops c fs u d) = (fs ≡ es) × (d ≡ e) × SameState t u × SameState b c
  Pairs (runs.Goes b es t) (runs.Stops c fs u d) = ⊥
  Pairs (runs.Stops b es t e) (runs.Goes c fs u) = ⊥

  -- the same with numbers beside the states, where the code has nothing handed over
  abbrev pub Follows : counted.Next → Next → Type 0
  Follows (runs.Goes b es t) (runs.Goes c fs u) =
      (fs ≡ es) × (u.handed ≡ []) × Arrives t.state u.state × (u.numbers ≡ t.numbers) × Matches b c
  Follows (runs.Stops b es t e) (runs.Stops c fs u d) =
      (fs ≡ es) × (d ≡ e) × SameState t.state u.state × (u.numbers ≡ t.numbers) × Matches b c
  Follows (runs.Goes b es t) (runs.Stops c fs u d) = ⊥
  Follows (runs.Stops b es t e) (runs.Goes c fs u) = ⊥

  pub with_same : (m n : going.Next) (numbers : ℕ → ℕ) → Pairs m n → Follows (counted.same_numbers numbers m) (same_numbers numbers n)
  with_same (runs.Goes b es t) (runs.Goes c fs u) numbers h = (h.0, refl, h.2, refl, (h.1, refl))
  with_same (runs.Stops b es t e) (runs.Stops c fs u d) numbers h = (h.0, h.1, h.2, refl, (h.3, refl))
  with_same (runs.Goes b es t) (runs.Stops c fs u d) numbers h = absurd h
  with_same (runs.Stops b es t e) (runs.Goes c fs u) numbers h = absurd h

  pub with_others : (m n : going.Next) (of_core of_code : State → State → ℕ → ℕ) (numbers : ℕ → ℕ) → ByObjects of_core of_code → Pairs m n → Follows (counted.other_numbers of_core numbers m) (other_numbers of_code numbers n)
  with_others (runs.Goes b es t) (runs.Goes c fs u) of_core of_code numbers by h =
      (h.0, refl, h.2, by b t c u (sym h.1.objects) (ap (λ (v : State). v.objects) h.2.same), (h.1, refl))
  with_others (runs.Stops b es t e) (runs.Stops c fs u d) of_core of_code numbers by h = (h.0, h.1, h.2, refl, (h.3, refl))
  with_others (runs.Goes b es t) (runs.Stops c fs u d) of_core of_code numbers by h = absurd h
  with_others (runs.Stops b es t e) (runs.Goes c fs u) of_core of_code numbers by h = absurd h

-- the same frames at the same points
pub record Alike (s t : State) : Type 0 where
  pub func : t.running.func ≡ s.running.func
  pub point : t.running.point ≡ s.running.point
  pub waiting : t.waiting ≡ s.waiting
  pub steps : t.steps ≡ s.steps

-- the last instruction of a statement, of so many, is q; the next statement stands behind it
pub record IsLast (core : Core) (code : Code) (s : State) (q j : ℕ) : Type 0 where
  pub here : place_at core s.running.func s.running.point + j ≡ q + 1
  pub next : place_at core s.running.func (s.running.point + 1) ≡ q + 1
  pub within : q + 1 ≤ length code.instrs

module _ (core : Core) (code : Code) (s : State) (q j : ℕ) (last : IsLast core code s q j) where
  -- the code's state at the last instruction of the statement
  abbrev pub acting : State → State
  acting t = at_point (moved core t) q

  abbrev pub Both : going.Next → going.Next → Type 0
  Both = Pairs core code s j

  pub alike : Alike s s
  alike = record { func = refl; point = refl; waiting = refl; steps = refl }

  next_place : (t : State) → Alike s t → place_at core t.running.func (t.running.point + 1) ≡ q + 1
  next_place t h =
      ap (λ f. place_at core f (t.running.point + 1)) h.func ∙ ap (λ p. place_at core s.running.func (p + 1)) h.point ∙ last.next

  pub arrives : (t : State) → Alike s t → Arrives core code s j (onward t) (onward (acting t))
  arrives t h = record {
    same = ap (at_point (moved core t)) (sym (next_place t h));
    left = omega (arith, next_place t h, last.here, last.within, ap (λ k. k * (length code.instrs + 1)) h.steps, ap (λ frames. sum_by (code_left code) (map (waiting_frame core) frames)) h.waiting);
  }

  pub goes_on : (t : State) → Alike s t → (events : List Event) → Both (going.goes s events (onward t)) (going.goes (acting s) events (onward (acting t)))
  goes_on t h events = (refl, moved_same core s q, arrives t h)

  alike_put : (t : State) → Alike s t → (r : ℕ) (v : Value) → Alike s (put t (Some r) v)
  alike_put t h r v = record { func = h.func; point = h.point; waiting = h.waiting; steps = h.steps }

  pub writes : (t : State) → Alike s t → (r : Option ℕ) (v : Value) (events : List Event) → Both (going.goes s events (write t r v)) (going.goes (acting s) events (write (acting t) r v))
  writes t h None v events = goes_on t h events
  writes t h (Some r) v events = goes_on (put t (Some r) v) (alike_put t h r v) events

  pub stops : (events : List Event) (t : State) (e : Ending) → Both (going.stops_after s events t e) (going.stops_after (acting s) events (acting t) e)
  stops events t e = (refl, refl, moved_same core t q, moved_same core s q)

  pub answers_both : (line : ℕ) (r : Option ℕ) (result : Result Value Refusal) → Both (answers line s r result) (answers line (acting s) r result)
  answers_both line r (Ok v) = writes s alike r v []
  answers_both line r (Err e) = stops [] s (going.ended_by line e)

  pub changes_both : (line : ℕ) (result : Result (List Object) Refusal) → Both (changes line s result) (changes line (acting s) result)
  changes_both line (Ok objects) =
      goes_on (with_objects s objects) (record { func = refl; point = refl; waiting = refl; steps = refl }) []
  changes_both line (Err e) = stops [] s (going.ended_by line e)

  -- a point that stands ahead of the statement
  pub goes_to : (l : ℕ) → s.running.point < l → place_at core s.running.func (s.running.point + 1) ≤ place_at core s.running.func l → Both (going.goes s [] (at_point s l)) (going.goes (acting s) [] (at_point (acting s) (place_at core s.running.func l)))
  goes_to l lt later =
      (refl, moved_same core s q, record { same = refl; left = omega (arith, later, last.here, last.next, last.within) })

  pub branches : (b : Bool) (l : ℕ) → s.running.point < l → place_at core s.running.func (s.running.point + 1) ≤ place_at core s.running.func l → Both (branch b l s) (branch b (place_at core s.running.func l) (acting s))
  branches true l lt later = goes_to l lt later
  branches false l lt later = goes_on s alike []

  -- a step is taken, or none is left
  pub takes_step : (others : State → State → ℕ → ℕ) (numbers : ℕ → ℕ) (k : ℕ) (one : State → going.Next) (other : State → Next) → k ≡ s.steps → ((m : ℕ) → m + 1 ≡ s.steps → Follows core code s j (counted.other_numbers others numbers (one (record s { steps = m }))) (other (record (acting s) { steps = m }))) → Follows core code s j (counted.other_numbers others numbers (going.with_step k s one)) (entering.with_step k numbers (acting s) other)
  takes_step others numbers zero one other e h = (refl, refl, moved_same core s q, refl, (moved_same core s q, refl))
  takes_step others numbers (suc k) one other e h = h k (omega arith)

  -- a loop goes back with one step less
  pub goes_back : (m l : ℕ) → m + 1 ≡ s.steps → Both (going.goes (record s { steps = m }) [] (at_point (record s { steps = m }) l)) (going.goes (record (acting s) { steps = m }) [] (at_point (record (acting s) { steps = m }) (place_at core s.running.func l)))
  goes_back m l e =
      (refl, moved_same core (record s { steps = m }) q, record { same = refl; left = omega (arith, last.here, last.within, ap (λ k. k * (length code.instrs + 1)) e) })

-- A function is entered in code as it is in its core.

firsts : (regs : List Reg) → map entering.first_value (map (λ (r : Reg). r.pointer) regs) ≡ map core_values.first_value regs
firsts [] = refl
firsts (r ∷ regs) = ap (λ vs. core_values.first_value r ∷ vs) (firsts regs)

abbrev layouts : List Mem → List Layout
layouts mems = map (λ (m : Mem). m.layout) mems

-- layouts by their numbers
numbered : (code : Code) (numbers : List ℕ) (mems : List Mem) → map (slice_get code.layouts) numbers ≡ map (λ (m : Mem). Some m.layout) mems → map (entering.layout_in code) numbers ≡ layouts mems
numbered code [] [] e = refl
numbered code [] (m ∷ mems) e = absurd (cc)
numbered code (n ∷ numbers) [] e = absurd (cc)
numbered code (n ∷ numbers) (m ∷ mems) e =
    let first : slice_get code.layouts n ≡ Some m.layout = cc in
    let rest : map (slice_get code.layouts) numbers ≡ map (λ (m : Mem). Some m.layout) mems = cc in
    ap (λ o. option_map_or (λ (l : Layout). l) o entering.no_layout ∷ map (entering.layout_in code) numbers) first
    ∙ ap (λ ls. m.layout ∷ ls) (numbered code numbers mems rest)

sizes : (mems : List Mem) → map (λ (l : Layout). l.size) (layouts mems) ≡ map (λ (m : Mem). m.layout.size) mems
sizes [] = refl
sizes (m ∷ mems) = ap (λ ns. m.layout.size ∷ ns) (sizes mems)

objects : (g k : ℕ) (mems : List Mem) → map (entering.local_object g) (enumerate_from k (layouts mems)) ≡ map (making.local_object g) (enumerate_from k mems)
objects g k [] = refl
objects g k (m ∷ mems) = ap (λ os. making.local_object g (k, m) ∷ os) (objects g (k + 1) mems)

module _ (core : Core) (pins : Pins) (code : Code) (compiled : IsCompiled core pins code) (g : ℕ) (callee : Func) (here : slice_get core.funcs g ≡ Some callee) where
  entry : Entry
  entry = (compiled.functions g callee here).0

  found : slice_get code.funcs g ≡ Some entry
  unfolding entry
  found = (compiled.functions g callee here).1

  is_entry : IsEntry core code g callee entry
  unfolding entry
  is_entry = (compiled.functions g callee here).2

  -- the memory locals of a core, and their layouts in code
  abbrev mems : List Mem
  mems = core_calls.locals_of (slice_get core.funcs g)

  locals_same : entering.locals_of code (slice_get code.funcs g) ≡ layouts mems
  locals_same =
      ap (entering.locals_of code) found
      ∙ numbered code entry.mems callee.mems is_entry.mems
      ∙ ap (λ o. layouts (core_calls.locals_of o)) (sym here)

  pub objects_same : map (entering.local_object g) (enumerate_from 0 (entering.locals_of code (slice_get code.funcs g))) ≡ making.local_objects g mems
  objects_same = ap (λ ls. map (entering.local_object g) (enumerate_from 0 ls)) locals_same ∙ objects g 0 mems

  pub count_same : length (entering.locals_of code (slice_get code.funcs g)) ≡ length mems
  count_same = ap (λ (ls : List Layout). length ls) locals_same ∙ length-map mems (λ (m : Mem). m.layout)

  kinds : entering.kinds_of (slice_get code.funcs g) ≡ map (λ (r : Reg). r.pointer) callee.regs
  kinds = ap entering.kinds_of found ∙ is_entry.kinds

  registers : core_calls.registers_of (slice_get core.funcs g) ≡ callee.regs
  registers = ap core_calls.registers_of here

  first_values : (n : ℕ) → map entering.first_value (drop n (entering.kinds_of (slice_get code.funcs g))) ≡ map core_values.first_value (drop n (core_calls.registers_of (slice_get core.funcs g)))
  first_values n =
      ap (λ ks. map entering.first_value (drop n ks)) kinds
      ∙ ap (map entering.first_value) (drop-map (λ (r : Reg). r.pointer) n callee.regs)
      ∙ firsts (drop n callee.regs)
      ∙ ap (λ regs. map core_values.first_value (drop n regs)) (sym registers)

  first_place : entering.first_of (slice_get code.funcs g) ≡ place_at core g 0
  first_place = omega (arith, ap entering.first_of found, is_entry.first, place_is core g callee here 0)

  pub frame_same : (values : List Value) (n : ℕ) → entering.new_frame code g values n ≡ moved_frame core (core_calls.new_frame core g values n)
  frame_same values n =
      let made : ℕ → List Value → Frame = λ point regs. record { func = g; point = point; regs = values ++ regs; first_local = n } in
      ap (λ p. made p (map entering.first_value (drop (length values) (entering.kinds_of (slice_get code.funcs g))))) first_place
      ∙ ap (made (place_at core g 0)) (first_values (length values))

  pub cost_same : entering.cost_of code (slice_get code.funcs g) ≡ core_calls.cost_of (slice_get core.funcs g)
  cost_same =
      let many : length (entering.kinds_of (slice_get code.funcs g)) ≡ length (core_calls.registers_of (slice_get core.funcs g)) = ap (λ (ks : List Bool). length ks) kinds ∙ length-map callee.regs (λ (r : Reg). r.pointer) ∙ ap (λ (regs : List Reg). length regs) (sym registers) in
      ap (λ n. call_cost n (map (λ (l : Layout). l.size) (entering.locals_of code (slice_get code.funcs g)))) many
      ∙ ap (call_cost (length (core_calls.registers_of (slice_get core.funcs g)))) (ap (map (λ (l : Layout). l.size)) locals_same ∙ sizes mems)

-- A call does in code what it does in the core.

module _ (core : Core) (pins : Pins) (code : Code) (compiled : IsCompiled core pins code) (g : ℕ) (callee : Func) (here : slice_get core.funcs g ≡ Some callee) where
  -- the state in which a function begins, of a core and of its code
  pub entered_same : (s : State) (values : List Value) (waiting : List Frame) → entering.with_locals code (record (moved core s) { running = entering.new_frame code g values (length s.objects); waiting = map (waiting_frame core) waiting }) ≡ moved core (core_calls.with_locals core (record s { running = core_calls.new_frame core g values (length s.objects); waiting = waiting }))
  entered_same s values waiting =
      let made : List Object → Frame → State = λ objects frame. record (moved core s) { objects = s.objects ++ objects; running = frame; waiting = map (waiting_frame core) waiting } in
      ap (λ os. made os (entering.new_frame code g values (length s.objects))) (objects_same core pins code compiled g callee here)
      ∙ ap (made (making.local_objects g (core_calls.locals_of (slice_get core.funcs g)))) (frame_same core pins code compiled g callee here values (length s.objects))

  module _ (s : State) (q j : ℕ) (last : IsLast core code s q j) (own : unwrap_or (site_of code.sites q) [] ≡ pins_of pins s.running.func s.running.point) where
    abbrev there : State
    there = acting core code s q j last s

    -- the frame that calls waits at the last instruction of its statement
    waits : there.running ≡ waiting_frame core s.running
    waits =
        ap (λ p. let frame : Frame = record s.running { point = p } in frame) (omega (arith, last.next))

    -- and its pins count
    pub call_follows : (line : ℕ) (values : List Value) (numbers : ℕ → ℕ) (m : ℕ) → m + 1 ≡ s.steps → Follows core code s j (counted.other_numbers (λ before after. more numbers (pinned pins before.running)) numbers (core_calls.call core line g values (record s { steps = m }))) (entering.call code line g values numbers (record there { steps = m }))
    call_follows line values numbers m e =
        let t : State = record s { steps = m } in
        let begun : Frame → State = λ frame. entering.with_locals code (record (moved core t) { running = entering.new_frame code g values (length s.objects); waiting = frame ∷ map (waiting_frame core) s.waiting }) in (
          ap (λ cost. Enter cost line ∷ []) (cost_same core pins code compiled g callee here),
          refl,
          record {
            same = ap begun waits ∙ entered_same t values (s.running ∷ s.waiting);
            left = omega (arith, last.here, last.next, last.within, ap (λ k. k * (length code.instrs + 1)) e, sum_by-cons (code_left code) (waiting_frame core s.running) (map (waiting_frame core) s.waiting));
          },
          ap (λ rs. more numbers (map (pointer_of_register s.running) rs)) own,
          (moved_same core t q, refl),
        )
