-- The cut run of a core's code ends in the state in which the cut run of the core ends, but for points.
use Rattle.std.proofs.Common.{◌≡◌, ℕ, zero, suc, ◌+◌, ◌-◌, cond, List, [], ◌∷◌, ◌++◌, length, Option, Some, None, refl, sym, ap, ◌∙◌, subst}
use Rattle.hs_base.specs.declared.ends.Limits.{Limits}
use Rattle.hs_base.specs.declared.ends.End.{End}
use Rattle.hs_base.specs.declared.ends.End.TheVariants as end
use Rattle.hs_base.specs.Object.{Object}
use Rattle.hs_base.specs.declared.values.Pointer.{Pointer}
use Rattle.hs_base.specs.declared.values.Value.{Value}
use Rattle.hs_base.specs.Freeing.{pointers_to}
use Rattle.hs_base.specs.State.{Frame, State}
use Rattle.std.specs.List.{AllZip}
use Rattle.hs_base.specs.Trace.{Event, Ending}
use Rattle.hs_base.specs.Cut.{fits}
use Rattle.hs_base.specs.Runs.{Next, Goes, Stops, Ran, fresh, led, moved, after, tested}
use Rattle.hs_base.specs.RunsEquations.{after_zero, after_more, one_end}
use Rattle.core_tree.specs.declared.program.Core.{Core}
use Rattle.core_tree.specs.Sound.{IsSound}
use Rattle.flat_code.specs.declared.program.Code.{Code}
use Rattle.object_meaning.specs.objects.Meaning as object
use Rattle.object_meaning.specs.counted.Pinning.{Pins, AreExact}
use Rattle.object_meaning.specs.counted.CountedMeaning as counted
use Rattle.meaning_laws.specs.counted.Laws.{testing, TestedRunsAreCounted}
use Rattle.object_meaning.specs.code.CodeState.{CodeState}
use Rattle.object_meaning.specs.code.CodeMeaning as code_meaning
use Rattle.object_meaning.specs.compiled.Compiled.{IsCompiled}
use Rattle.object_meaning.specs.compiled.Sites.{AreAscending}
use Rattle.meaning_laws.specs.compiled.SameRun.{SameFrame, SameFrames, SameState}
use Rattle.meaning_laws.specs.counted.Counts.{inside_living, in_pins}
use Rattle.meaning_laws.specs.compiled.Testing.{tested_core, tested_code}
use Rattle.meaning_laws.specs.compiled.Laws.{TestedCodeMeansCore}
use Rattle.flat_objects.specs.Keeping.{Keeps}
use Rattle.flat_objects.specs.Counting.{Frees, HasScopes, Tracks, living_pointers}
use Rattle.flat_machine.specs.Kept.{Kept, Frame as Call}
use Rattle.flat_machine.specs.Standing.{IsRegister, frees_of}
use Rattle.flat_machine.specs.Image as image
use Rattle.flat_machine.specs.Image.{Agrees, IsCallOf}
use Rattle.flat_machine.specs.Lasting as machine
use Rattle.flat_codegen.specs.Lasting as core_runs
use Rattle.flat_codegen.specs.Lasting.{no_room, cut_run}
use Rattle.flat_codegen.proofs.Cuts.{IsWhole, first_part, next_fits}

-- A run of whose trace nothing is cut off

module _ {S : Type 0} (stack : ℕ) (step : List Event → S → Next S Event Ending) where
  abbrev cut_step : List Event → S → Next S Event Ending
  cut_step = testing (fits stack) no_room step

  abbrev going : List Event → S → Ran S Event Ending
  going trace s = record { trace = trace; ended = None; state = s }

  -- events that have room come
  come : (trace : List Event) (b t : S) (events : List Event) → IsWhole stack (trace ++ events) → tested (fits stack) no_room trace (Goes b events t) ≡ Goes b events t
  come trace b t [] w = refl
  come trace b t (e ∷ events) w =
      ap (λ test. cond test (let next : Next S Event Ending = Goes b (e ∷ events) t in next) (Stops b [] b (no_room e))) (next_fits stack trace e events w)

  -- the run that is cut is where the other is, and both make one step more
  one_more : (p q : Ran S Event Ending) (next : Next S Event Ending) → step p.trace p.state ≡ next → p.ended ≡ None → (trace : List Event) (now : S) → led p.trace next ≡ going trace now → IsWhole stack trace → (IsWhole stack p.trace → q ≡ p) → moved cut_step q q.ended ≡ going trace now
  one_more p q (Goes b events t) is on trace now h w same =
      let grown : IsWhole stack (p.trace ++ events) = subst (IsWhole stack) (sym (ap (λ (r : Ran S Event Ending). r.trace) h)) w in
      let here = same (first_part stack p.trace events grown) in
      ap (λ (r : Ran S Event Ending). moved cut_step r r.ended) here
      ∙ ap (moved cut_step p) on
      ∙ ap (λ next. led p.trace (tested (fits stack) no_room p.trace next)) is
      ∙ ap (led p.trace) (come p.trace b t events grown)
      ∙ h
  one_more p q (Stops b events t x) is on trace now h w same =
      absurd (let no : Some x ≡ None = ap (λ (r : Ran S Event Ending). r.ended) h in (cc))

  by_end : (p q : Ran S Event Ending) (o : Option Ending) → p.ended ≡ o → (trace : List Event) (now : S) → moved step p o ≡ going trace now → IsWhole stack trace → (IsWhole stack p.trace → p.ended ≡ None → q ≡ p) → moved cut_step q q.ended ≡ going trace now
  by_end p q (Some x) i trace now h w same =
      absurd (let no : Some x ≡ None = sym i ∙ ap (λ (r : Ran S Event Ending). r.ended) h in (cc))
  by_end p q None i trace now h w same =
      one_more p q (step p.trace p.state) refl i trace now h w (λ v. same v i)

  -- it is the same run as long as nothing is cut off
  pub same_while : (s : S) (k : ℕ) (trace : List Event) (now : S) → after step (fresh s) k ≡ going trace now → IsWhole stack trace → after cut_step (fresh s) k ≡ going trace now
  unfolding after
  same_while s zero trace now h w = h
  same_while s (suc k) trace now h w =
      let p = after step (fresh s) k in
      let whole : (q : Ran S Event Ending) → q.ended ≡ None → q ≡ going q.trace q.state = λ q i. ap (λ o. let r : Ran S Event Ending = record { trace = q.trace; ended = o; state = q.state } in r) i in
      by_end p (after cut_step (fresh s) k) p.ended refl trace now h w (λ v i. same_while s k p.trace p.state (whole p i) v ∙ sym (whole p i))

-- States that are the same but for points have the same image

module _ (places : ℕ → ℕ) (objects all : List Object) (same : objects ≡ all) where
  call_same : (one other : Frame) → SameFrame one other → (call : Call) → IsCallOf places all other call → IsCallOf places objects one call
  call_same one other alike call h = record {
    func = h.func ∙ sym alike.func;
    registers = subst (λ (os : List Object). AllZip (IsRegister places os) one.regs call.words) (sym same) (subst (λ (regs : List Value). AllZip (IsRegister places all) regs call.words) (sym alike.regs) h.registers);
  }

  calls_same : (frames others : List Frame) → SameFrames frames others → (calls : List Call) → AllZip (IsCallOf places all) others calls → AllZip (IsCallOf places objects) frames calls
  calls_same [] [] alike [] zip = tt
  calls_same [] [] alike (call ∷ calls) zip = absurd zip
  calls_same [] (other ∷ others) alike calls zip = absurd alike
  calls_same (frame ∷ frames) [] alike calls zip = absurd alike
  calls_same (frame ∷ frames) (other ∷ others) alike [] zip = absurd zip
  calls_same (frame ∷ frames) (other ∷ others) alike (call ∷ calls) zip =
      (call_same frame other alike.0 call zip.0, calls_same frames others alike.1 calls zip.1)

module _ (one other : State) (same : SameState one other) (places : ℕ → ℕ) (kept : Kept) where
  agrees_same : Agrees places other kept → Agrees places one kept
  agrees_same h = record {
    keeps = subst (Keeps kept.memory places) (sym same.objects) h.keeps;
    scopes = subst (λ (objects : List Object). HasScopes kept.memory places objects one.queue one.scopes) (sym same.objects) (subst (λ (queue : List ℕ). HasScopes kept.memory places other.objects queue one.scopes) (sym same.queue) (subst (HasScopes kept.memory places other.objects other.queue) (sym same.scopes) h.scopes));
    births = h.births ∙ ap length (sym same.objects);
    running = call_same places one.objects other.objects same.objects one.running other.running same.running kept.calls.running h.running;
    waiting = calls_same places one.objects other.objects same.objects one.waiting other.waiting same.waiting kept.calls.waiting h.waiting;
    steps = h.steps ∙ sym same.steps;
  }

  tracks_same : (beside : List Pointer) → Tracks kept.memory places other.objects (record { pins = beside; queue = other.queue; scopes = other.scopes }) → Tracks kept.memory places one.objects (record { pins = beside; queue = one.queue; scopes = one.scopes })
  tracks_same beside h =
      let frees = λ (queue : List ℕ) (scopes : ℕ). let f : Frees = record { pins = beside; queue = queue; scopes = scopes } in f in
      subst (λ (objects : List Object). Tracks kept.memory places objects (frees one.queue one.scopes)) (sym same.objects) (subst (λ (queue : List ℕ). Tracks kept.memory places other.objects (frees queue one.scopes)) (sym same.queue) (subst (λ (scopes : ℕ). Tracks kept.memory places other.objects (frees other.queue scopes)) (sym same.scopes) h))

-- The state in which the code's run ends

module _ (code : Code) (input : List ℕ) (n : ℕ) (room : Limits) (last : CodeState) (ends : machine.EndsIn code input n room last) where
  abbrev code_step : List Event → CodeState → Next CodeState Event Ending
  code_step = testing (fits room.stack) no_room (code_meaning.step code room.heap)

  abbrev begun : Ran CodeState Event Ending
  begun = fresh (code_meaning.start code input n)

  ends_there : after code_step begun (ends.count + 1) ≡ record { trace = ends.trace ++ ends.events; ended = Some ends.ending; state = last }
  ends_there =
      after_more code_step begun ends.count
      ∙ ap (λ (r : Ran CodeState Event Ending). moved code_step r r.ended) (same_while room.stack (code_meaning.step code room.heap) (code_meaning.start code input n) ends.count ends.trace ends.now ends.run ends.is_whole)
      ∙ ap (led ends.trace) ends.stops

  last_is : (ending : Ending) → (tested_code code (fits room.stack) no_room input n room.heap).ended ≡ Some ending → (tested_code code (fits room.stack) no_room input n room.heap).state ≡ last
  last_is ending h =
      let many = code_meaning.enough code (code_meaning.start code input n).state in
      let same = one_end code_step begun ending ends.ending many (ends.count + 1) h (ap (λ (r : Ran CodeState Event Ending). r.ended) ends_there) in
      ap (λ (r : Ran CodeState Event Ending). r.state) (same ∙ ends_there)

-- The state in which the core's run ends

module _ (counts : TestedRunsAreCounted) (core : Core) (pins : Pins) (sound : IsSound core) (exact : AreExact core pins) (input : List ℕ) (n : ℕ) (room : Limits) where
  abbrev of_object : object.Run
  of_object = led [] (tested (fits room.stack) no_room [] (object.first_call core input n))

  abbrev of_counted : counted.Run
  of_counted = led [] (tested (fits room.stack) no_room [] (counted.first_call core input n))

  abbrev object_step : List Event → State → Next State Event Ending
  object_step = testing (fits room.stack) no_room (object.step core room.heap)

  first_same : of_counted.state.state ≡ of_object.state
  first_same =
      let same = (counts core pins sound exact (fits room.stack) no_room input n room.heap 0).state in
      sym (ap (λ (r : counted.Run). r.state.state) (after_zero (testing (fits room.stack) no_room (counted.step core pins room.heap)) of_counted))
      ∙ same
      ∙ ap (λ (r : object.Run). r.state) (after_zero object_step of_object)

  counted_last : (tested_core core pins (fits room.stack) no_room input n room.heap).state.state ≡ (cut_run core input n room).state
  counted_last =
      let many = object.enough core of_counted.state.state in
      (counts core pins sound exact (fits room.stack) no_room input n room.heap many).state
      ∙ ap (λ (t : State). (after object_step of_object (object.enough core t)).state) first_same

module _ (counts : TestedRunsAreCounted) (means : TestedCodeMeansCore) (core : Core) (pins : Pins) (code : Code) (sound : IsSound core) (exact : AreExact core pins) (ascending : AreAscending pins) (compiled : IsCompiled core pins code) (input : List ℕ) (n : ℕ) (room : Limits) where
  -- both are the same but for points
  pub last_same : (last : CodeState) → machine.EndsIn code input n room last → SameState (cut_run core input n room).state last.state
  last_same last ends =
      let both = means core pins code sound exact ascending compiled (fits room.stack) no_room input n room.heap in
      let there = last_is code input n room last ends both.0 (sym both.2.ended ∙ both.1) in
      subst (λ (s : State). SameState s last.state) (counted_last counts core pins sound exact input n room) (subst (λ (c : CodeState). SameState (tested_core core pins (fits room.stack) no_room input n room.heap).state.state c.state) there both.2.state)

  by_last : (made : ℕ) (last : CodeState) → machine.EndsIn code input n room last → made ≡ n - last.state.steps → made ≡ n - (cut_run core input n room).state.steps
  by_last made last ends h = h ∙ ap (λ m. n - m) (sym (last_same last ends).steps)

  -- so the core's run makes as many steps
  pub makes : (e : End) (made : ℕ) → machine.MakesSteps code input n room e made → core_runs.MakesSteps core input n room e made
  makes end.InputFault made h = tt
  makes end.OutputFault made h = tt
  makes (end.Exit status) made h = by_last made h.0 h.1 h.2
  makes (end.Trap kind line) made h = by_last made h.0 h.1 h.2
  makes (end.BadFree why holder) made h = by_last made h.0 h.1 h.2
  makes (end.Escape func local line) made h = by_last made h.0 h.1 h.2
  makes end.Spent made h = by_last made h.0 h.1 h.2
  makes (end.OutOfStack line) made h = by_last made h.0 h.1 h.2

  -- the numbers of that state are those of the code's
  last_numbers : (last : CodeState) → machine.EndsIn code input n room last → (birth : ℕ) → let s = (cut_run core input n room).state in last.numbers birth ≡ inside_living birth s.objects + in_pins pins birth s.waiting
  last_numbers last ends birth =
      let both = means core pins code sound exact ascending compiled (fits room.stack) no_room input n room.heap in
      let there = last_is code input n room last ends both.0 (sym both.2.ended ∙ both.1) in
      let many = object.enough core (of_counted counts core pins sound exact input n room).state.state in
      let count = (counts core pins sound exact (fits room.stack) no_room input n room.heap many).numbers birth in
      sym (both.2.numbers birth ∙ ap (λ (c : CodeState). c.numbers birth) there)
      ∙ count
      ∙ ap (λ (s : State). inside_living birth s.objects + in_pins pins birth s.waiting) (counted_last counts core pins sound exact input n room)

  image_of : (e : End) (kept : Kept) (last : CodeState) → machine.EndsIn code input n room last → image.HasImage code last kept e → core_runs.HasImage pins (cut_run core input n room).state kept e
  image_of e kept last ends h = let same = last_same last ends in record {
    places = h.places;
    agrees = agrees_same (cut_run core input n room).state last.state same h.places kept h.agrees;
    counts = counts_of e h.counts;
  } where
    counts_core : image.CountsNumbers code h.places last kept → core_runs.CountsPointers pins h.places (cut_run core input n room).state kept
    counts_core count =
        let s = (cut_run core input n room).state in
        let same = last_same last ends in
        let beside = (frees_of kept.pins last).pins in record {
          beside = beside;
          tracks = tracks_same s last.state same h.places kept beside count.tracks;
          numbers = λ birth. ap (λ (objects : List Object). pointers_to birth (living_pointers objects ++ beside)) same.objects ∙ sym (count.numbers birth) ∙ last_numbers last ends birth;
        }

    counts_of : (x : End) → image.CountsAt code h.places last kept x → core_runs.CountsAt pins h.places (cut_run core input n room).state kept x
    counts_of (end.Exit status) count = counts_core count
    counts_of (end.Trap kind line) count = counts_core count
    counts_of (end.BadFree bad holder) count = tt
    counts_of (end.Escape func local line) count = tt
    counts_of end.Spent count = counts_core count
    counts_of (end.OutOfStack line) count = counts_core count
    counts_of end.InputFault count = counts_core count
    counts_of end.OutputFault count = counts_core count

  -- and the image agrees with it
  pub leaves : (e : End) (kept : Kept) → machine.LeavesImage code input n room e kept → core_runs.LeavesImage core pins input n room e kept
  leaves (end.Exit status) kept h = image_of (end.Exit status) kept h.0 h.1 h.2
  leaves (end.Trap kind line) kept h = image_of (end.Trap kind line) kept h.0 h.1 h.2
  leaves (end.BadFree bad holder) kept h = image_of (end.BadFree bad holder) kept h.0 h.1 h.2
  leaves (end.Escape func local line) kept h = image_of (end.Escape func local line) kept h.0 h.1 h.2
  leaves end.Spent kept h = image_of end.Spent kept h.0 h.1 h.2
  leaves (end.OutOfStack line) kept h = image_of (end.OutOfStack line) kept h.0 h.1 h.2
  leaves end.InputFault kept h = tt
  leaves end.OutputFault kept h = tt
