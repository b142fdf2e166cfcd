-- A program's answer, from the events, the end and the objects of its run, whichever meaning has them.
use Rattle.std.proofs.Common.{◌≡◌, ◌+◌, ◌≤◌, ◌<◌, ℕ, Bool, true, false, cond, List, [], ◌∷◌, ◌++◌, Option, Some, None, Ok, inl, inr, refl, sym, ap, ◌∙◌, subst, arith, ⊎_elim}
use Rattle.std.specs.Prelude.{IsTrue, nat_lt, ⊤}
use Rattle.std.proofs.lemmas.List.{append-nil}
use Rattle.hs_base.specs.declared.ends.BadFree.{BadFree}
use Rattle.hs_base.specs.declared.ends.End.{End}
use Rattle.hs_base.specs.declared.ends.End.TheVariants as end
use Rattle.hs_base.specs.declared.ends.Holder.{Holder}
use Rattle.hs_base.specs.declared.ends.Leak.{Leak}
use Rattle.hs_base.specs.declared.ends.Limits.{Limits}
use Rattle.hs_base.specs.Object.{Object}
use Rattle.hs_base.specs.Cut.{cut, ending_of}
use Rattle.hs_base.specs.Trace.{Event, Out, In, New, Gone, Enter, Leave, Ending, bytes_in, bytes_out}
use Rattle.c_pre.specs.declared.answer.Opened.{Opened}
use Rattle.core_tree.specs.declared.program.Core.{Core}
use Rattle.bad_free_report.specs.declared.explanation.Known.{Known}
use Rattle.flat_code.specs.declared.program.Code.{Code}
use Rattle.object_meaning.specs.code.CodeMeaning as code
use Rattle.object_meaning.specs.code.CodeState.{CodeState}
use Rattle.compiled_file.specs.Laws.{WholeRunsAreWhole}
use Rattle.flat_codegen.specs.Running as core_runs
use Rattle.flat_objects.specs.Memory.{Memory}
use Rattle.flat_objects.specs.Keeping.{Keeps}
use Rattle.flat_objects.specs.Leaks.{KeepsSome}
use Rattle.meaning_run.specs.Meant.{MeanAnswers, StopsAtIn, Stopped, end_in}
use Rattle.meaning_run.specs.Meant as meant_runs
use Rattle.flat_machine.specs.Running.{RunAnswers, RunCounts, Whole, cut_of}
use Rattle.flat_machine.specs.Image.{HasImage}
use Rattle.flat_machine.specs.Kept.{Kept}
use Rattle.flat_machine.specs.Lasting.{EndsIn, LeavesImage}
use Rattle.bad_free_report.specs.Notice.{Notice}
use Rattle.heapsafe.specs.Shown.{Shown, input_fault, no_memory, output_fault}
use Rattle.heapsafe.specs.Program.{AnswersProgram, AnswersWay, AreTold, Done, Ended, Input, TellsNone, ended, explains_mean, explains_run, input_of, run_within, meant, status_of, told_notice, unfinished}
use Rattle.heapsafe.specs.Saying.{Breaks, Gives, IsFault, IsSaid, Puts, Says, SaysCounts, SaysLeaks, SaysOnly, SaysOwn, TakesAll}
use Rattle.heapsafe.specs.Serving.{Runs}
use Rattle.heapsafe.specs.Sight.{KeepsBoth, Sight}
use Rattle.heapsafe.specs.declared.program.Way.TheVariants.{Mean}
use Rattle.heapsafe.proofs.Served.{says_from}
use Rattle.heapsafe.proofs.Told.{gives, said_faults, says_same}
use Rattle.heapsafe.proofs.Reported.{input_said, output_said}
use Rattle.heapsafe.proofs.Ended.{IsNoExit, input_end, none_told, output_end, program_faults, same_some, stopped_is, tells_none, whole_is}
use Rattle.heapsafe.proofs.Broken.{Fronts, says_front}
use Rattle.heapsafe.proofs.Statuses.{end_cause, end_refused, never_refused, no_fault, own_end}

-- all events were made: what they write and read, and the end
pub record MakesAll (events : List Event) (ends : Option End) (left : List ℕ) (x : End) (left' taken : Option (List ℕ)) : Type 0 where
  pub end : ends ≡ Some x
  pub is_taken : taken ≡ Some (bytes_out events)
  pub rest : List ℕ
  pub is_left : left' ≡ Some rest
  pub is_read : bytes_in events ++ rest ≡ left

-- or a first part of them
abbrev pub Makes : List Event → Option End → List ℕ → End → Option (List ℕ) → Option (List ℕ) → Type 0
Makes events ends left end.InputFault left' taken = StopsAtIn events left [] left' taken
Makes events ends left end.OutputFault left' taken = Stopped events left [] left' taken
Makes events ends left x left' taken = MakesAll events ends left x left' taken

-- such a run, and the objects that it leaves, where they are asked for
abbrev pub done_of : List Event → Option End → List Object → Bool → Done
done_of events ends objects leaks = record { events = events; ends = ends; left = cond leaks (Some objects) None }

-- a run of code is one
module _ (program : Code) (left : List ℕ) (n : ℕ) (limits : Limits) (left' taken : Option (List ℕ)) where
  abbrev pub code_events : List Event
  code_events = (cut_of program left n limits).kept

  abbrev pub code_ends : Option End
  code_ends = end_in (ending_of (cut_of program left n limits).refused (code.meaning program left n limits.heap).ended)

  code_whole : (x : End) → Whole program left n limits [] x left' taken → MakesAll code_events code_ends left x left' taken
  code_whole x w = record { end = w.end; is_taken = w.is_taken; rest = w.left; is_left = w.is_left; is_read = w.is_read }

  pub code_makes : (x : End) → RunAnswers program left n limits [] x left' taken → Makes code_events code_ends left x left' taken
  code_makes end.InputFault h = h
  code_makes end.OutputFault h = h
  code_makes (end.Exit status) h = code_whole (end.Exit status) h
  code_makes (end.Trap kind line) h = code_whole (end.Trap kind line) h
  code_makes (end.BadFree why holder) h = code_whole (end.BadFree why holder) h
  code_makes (end.Escape func local line) h = code_whole (end.Escape func local line) h
  code_makes end.Spent h = code_whole end.Spent h
  code_makes (end.OutOfStack line) h = code_whole (end.OutOfStack line) h

-- so is a run of a core on a machine
module _ (core : Core) (left : List ℕ) (n : ℕ) (limits : Limits) (left' taken : Option (List ℕ)) where
  abbrev pub core_events : List Event
  core_events = (run_within limits core left n false).events

  abbrev pub core_ends : Option End
  core_ends = (run_within limits core left n false).ends

  core_whole : (x : End) → core_runs.Whole core left n limits [] x left' taken → MakesAll core_events core_ends left x left' taken
  core_whole x w = record { end = w.end; is_taken = w.is_taken; rest = w.left; is_left = w.is_left; is_read = w.is_read }

  pub core_makes : (x : End) → core_runs.RunAnswers core left n limits [] x left' taken → Makes core_events core_ends left x left' taken
  core_makes end.InputFault h = h
  core_makes end.OutputFault h = h
  core_makes (end.Exit status) h = core_whole (end.Exit status) h
  core_makes (end.Trap kind line) h = core_whole (end.Trap kind line) h
  core_makes (end.BadFree why holder) h = core_whole (end.BadFree why holder) h
  core_makes (end.Escape func local line) h = core_whole (end.Escape func local line) h
  core_makes end.Spent h = core_whole end.Spent h
  core_makes (end.OutOfStack line) h = core_whole (end.OutOfStack line) h

-- and its evaluation
module _ (core : Core) (left : List ℕ) (n heap : ℕ) (left' taken : Option (List ℕ)) where
  mean_whole : (x : End) → meant_runs.Whole core left n heap [] x left' taken → MakesAll (meant core left n heap).events (meant core left n heap).ends left x left' taken
  mean_whole x w = record { end = w.end; is_taken = w.is_taken; rest = w.left; is_left = w.is_left; is_read = w.is_read }

  pub mean_makes : (x : End) → MeanAnswers core left n heap [] (Ok x) left' taken → Makes (meant core left n heap).events (meant core left n heap).ends left x left' taken
  mean_makes end.InputFault h = h
  mean_makes end.OutputFault h = h
  mean_makes (end.Exit status) h = mean_whole (end.Exit status) h
  mean_makes (end.Trap kind line) h = mean_whole (end.Trap kind line) h
  mean_makes (end.BadFree why holder) h = mean_whole (end.BadFree why holder) h
  mean_makes (end.Escape func local line) h = mean_whole (end.Escape func local line) h
  mean_makes end.Spent h = mean_whole end.Spent h
  mean_makes (end.OutOfStack line) h = mean_whole (end.OutOfStack line) h

same_end : (x y : End) → Some x ≡ Some y → x ≡ y
same_end x y e = cc

-- at an end that is no bad free nothing is known of objects, whatever objects there are
abbrev pub Knows : Bool → ℕ → Limits → Memory → Option Known → End → Type 0
Knows explain n limits memory known x =
    (places : ℕ → ℕ) (objects : List Object) → Keeps memory places objects → known ≡ explains_run explain n limits objects x

module _ (explain : Bool) (n : ℕ) (limits : Limits) (memory : Memory) (some : KeepsSome memory) (known : Option Known) (objects : List Object) where
  pub known_at : (x : End) → Knows explain n limits memory known x → ((why : BadFree) (holder : Option Holder) → x ≡ end.BadFree why holder → (places : ℕ → ℕ) × Keeps memory places objects) → known ≡ explains_run explain n limits objects x
  known_at (end.Exit status) knows keeps = knows some.0 some.1 some.2
  known_at (end.Trap kind line) knows keeps = knows some.0 some.1 some.2
  known_at (end.BadFree why holder) knows keeps = let k = keeps why holder refl in knows k.0 objects k.1
  known_at (end.Escape func local line) knows keeps = knows some.0 some.1 some.2
  known_at end.Spent knows keeps = knows some.0 some.1 some.2
  known_at (end.OutOfStack line) knows keeps = knows some.0 some.1 some.2
  known_at end.InputFault knows keeps = knows some.0 some.1 some.2
  known_at end.OutputFault knows keeps = knows some.0 some.1 some.2

-- where it does not end for want of stack, nothing was cut off
pub uncut : (refused : Option Event) (stopped : Option Ending) (x : End) → ((line : ℕ) → x ≡ end.OutOfStack line → ⊥) → end_in (ending_of refused stopped) ≡ Some x → (refused ≡ None) × (ending : Ending) × (stopped ≡ Some ending)
uncut None None x other h = absurd (cc)
uncut None (Some ending) x other h = (refl, ending, refl)
uncut (Some (Out byte)) stopped x other h = absurd (cc)
uncut (Some (In byte)) stopped x other h = absurd (cc)
uncut (Some (New birth size line)) stopped x other h = absurd (cc)
uncut (Some (Gone birth)) stopped x other h = absurd (cc)
uncut (Some (Enter cost line)) stopped x other h = absurd (other line (sym (same_end (end.OutOfStack line) x h)))
uncut (Some Leave) stopped x other h = absurd (cc)

-- at an exit and at a bad free, the machine behind a run of code keeps the objects of its last state
module _ (whole : WholeRunsAreWhole) (program : Code) (left : List ℕ) (n : ℕ) (limits : Limits) (left' taken : Option (List ℕ)) (kept : Kept) where
  abbrev KeepsLast : Type 0
  KeepsLast = (places : ℕ → ℕ) × Keeps kept.memory places (code.meaning program left n limits.heap).state.state.objects

  keeps_last : (x : End) → ((line : ℕ) → x ≡ end.OutOfStack line → ⊥) → Whole program left n limits [] x left' taken → (last : CodeState) → EndsIn program left n limits last → HasImage program last kept x → KeepsLast
  keeps_last x other ran last ends image =
      let w = uncut (cut_of program left n limits).refused (code.meaning program left n limits.heap).ended x other ran.end in
      let same = whole program left n limits last w.1 ends w.0 w.2 in
      (image.places, subst (λ (c : CodeState). Keeps kept.memory image.places c.state.objects) (sym same) image.agrees.keeps)

  pub kept_exit : (x : End) (status : ℕ) → x ≡ end.Exit status → RunAnswers program left n limits [] x left' taken → LeavesImage program left n limits x kept → KeepsLast
  kept_exit x status is ran leaves =
      let image = subst (λ (y : End). LeavesImage program left n limits y kept) is leaves in
      keeps_last (end.Exit status) (λ line e. absurd (cc)) (subst (λ (y : End). RunAnswers program left n limits [] y left' taken) is ran) image.0 image.1 image.2

  pub kept_bad_free : (x : End) (why : BadFree) (holder : Option Holder) → x ≡ end.BadFree why holder → RunAnswers program left n limits [] x left' taken → LeavesImage program left n limits x kept → KeepsLast
  kept_bad_free x why holder is ran leaves =
      let image = subst (λ (y : End). LeavesImage program left n limits y kept) is leaves in
      keeps_last (end.BadFree why holder) (λ line e. absurd (cc)) (subst (λ (y : End). RunAnswers program left n limits [] y left' taken) is ran) image.0 image.1 image.2

-- The bytes of two parts of a trace

out_of_parts : (a b : List Event) → bytes_out (a ++ b) ≡ bytes_out a ++ bytes_out b
out_of_parts [] b = refl
out_of_parts (Out byte ∷ a) b = ap (λ (l : List ℕ). byte ∷ l) (out_of_parts a b)
out_of_parts (In byte ∷ a) b = out_of_parts a b
out_of_parts (New birth size line ∷ a) b = out_of_parts a b
out_of_parts (Gone birth ∷ a) b = out_of_parts a b
out_of_parts (Enter cost line ∷ a) b = out_of_parts a b
out_of_parts (Leave ∷ a) b = out_of_parts a b

in_of_parts : (a b : List Event) → bytes_in (a ++ b) ≡ bytes_in a ++ bytes_in b
in_of_parts [] b = refl
in_of_parts (Out byte ∷ a) b = in_of_parts a b
in_of_parts (In (Some byte) ∷ a) b = ap (λ (l : List ℕ). byte ∷ l) (in_of_parts a b)
in_of_parts (In None ∷ a) b = in_of_parts a b
in_of_parts (New birth size line ∷ a) b = in_of_parts a b
in_of_parts (Gone birth ∷ a) b = in_of_parts a b
in_of_parts (Enter cost line ∷ a) b = in_of_parts a b
in_of_parts (Leave ∷ a) b = in_of_parts a b

-- an end that is no exit tells of no leaks
told_none : (left : Option (List Object)) (x : End) (leaks : List Leak) → IsNoExit x → AreTold left x leaks → leaks ≡ []
told_none None x leaks unlike told = told
told_none (Some objects) (end.Exit code) leaks unlike told = absurd unlike
told_none (Some objects) (end.Trap kind line) leaks unlike told = told
told_none (Some objects) (end.BadFree why holder) leaks unlike told = told
told_none (Some objects) (end.Escape func local line) leaks unlike told = told
told_none (Some objects) end.Spent leaks unlike told = told
told_none (Some objects) (end.OutOfStack line) leaks unlike told = told
told_none (Some objects) end.InputFault leaks unlike told = told
told_none (Some objects) end.OutputFault leaks unlike told = told

module _ {I O E : Type 0} (file : List ℕ) (opened : List Opened) (core : Core) (asked : Option Known) (before after : Sight I O E) (result : ℕ) where
  -- what is said of an end, with these leaks
  abbrev told : End → List Leak → Notice
  told x leaks = told_notice file opened core asked x leaks

  -- it was said with some leaks
  abbrev Reported : End → List Leak → Type 0
  Reported x leaks = Says before after (told x leaks) (status_of x) result

  -- and without
  abbrev pub Plain : End → Type 0
  Plain x = Reported x []

  -- where the input or the output failed, that was said
  input_line : Plain end.InputFault → Says before after input_fault.err 132 result
  input_line said =
      says_same before after result (told end.InputFault []) input_fault.err 132 (input_said before.form file opened core asked) said

  output_line : Plain end.OutputFault → Says before after output_fault.err 133 result
  output_line said =
      says_same before after result (told end.OutputFault []) output_fault.err 133 (output_said before.form file opened core asked) said

  -- what is told of a run: no leaks, or behind an exit those that there are
  pub record Tells (objects : List Object) (leaks : Bool) (x : End) : Type 0 where
    pub none : TellsNone leaks x → Plain x
    pub some : (code : ℕ) → IsTrue leaks → x ≡ end.Exit code → SaysLeaks (record { file = file; opened = opened; core = core; asked = asked }) objects before after code result

  module _ (left put : List ℕ) (took : TakesAll before.taken after.taken put) (events : List Event) (ends : Option End) (objects : List Object) (knows : End → Option Known) where
    abbrev Made : End → Type 0
    Made x = MakesAll events ends left x after.left (Some put)

    abbrev Counts : End → Type 0
    Counts x = RunCounts x before.input_faults after.input_faults before.out_faults after.out_faults

    -- the output took what a run wrote
    wrote : (bytes : List ℕ) → Some put ≡ Some bytes → TakesAll before.taken after.taken bytes
    wrote bytes is = λ t h. took t h ∙ ap (λ (b : List ℕ). Some (t ++ b)) (same_some put bytes is)

    module _ (same : after.err_faults ≡ before.err_faults) where
      abbrev Is : Bool → Shown → Type 0
      Is leaks a = AnswersProgram file opened core knows (nat_lt before.input_faults after.input_faults) (done_of events ends objects leaks) a

      abbrev Gave : Bool → Type 0
      Gave leaks = Gives (λ a. Is leaks a) left before after result

      whole : (leaks : Bool) (x : End) (told : List Leak) → asked ≡ knows x → Made x → after.input_faults ≡ before.input_faults → AreTold (done_of events ends objects leaks).left x told → Reported x told → Gave leaks
      whole leaks x told known w stays are said =
          gives before after result (λ a. Is leaks a) (ended file opened core (knows x) events x told) left w.rest
          (inl (whole_is file opened core knows (done_of events ends objects leaks) x told before.input_faults after.input_faults stays w.end are))
          w.is_left w.is_read (wrote (bytes_out events) w.is_taken) same
          (subst (λ (k : Option Known). Says before after (told_notice file opened core k x told) (status_of x) result) known said)

      stopped : (leaks : Bool) → asked ≡ knows end.InputFault → after.input_faults ≡ before.input_faults + 1 → StopsAtIn events left [] after.left (Some put) → Plain end.InputFault → Gave leaks
      stopped leaks known more s said =
          gives before after result (λ a. Is leaks a) (ended file opened core (knows end.InputFault) s.before end.InputFault []) left s.left
          (inl (stopped_is file opened core knows (done_of events ends objects leaks) s.before s.byte s.rest before.input_faults after.input_faults more s.is))
          s.is_left s.is_read (wrote (bytes_out s.before) s.is_taken) same
          (subst (λ (k : Option Known). Says before after (told_notice file opened core k end.InputFault []) 132 result) known said)

      exit : (leaks : Bool) (code : ℕ) → asked ≡ knows (end.Exit code) → Made (end.Exit code) → after.input_faults ≡ before.input_faults → Tells objects leaks (end.Exit code) → Gave leaks
      exit false code known w stays t = whole false (end.Exit code) [] known w stays refl (t.none tt)
      exit true code known w stays t =
          let said = t.some code refl refl in
          let leaks = said.all same in
          whole true (end.Exit code) leaks.0 known w stays leaks.1 (said.says leaks.0 leaks.1)

      other : (leaks : Bool) (x : End) → IsNoExit x → asked ≡ knows x → Made x → after.input_faults ≡ before.input_faults → Tells objects leaks x → Gave leaks
      other leaks x unlike known w stays t =
          whole leaks x [] known w stays (none_told (done_of events ends objects leaks).left x unlike) (t.none (tells_none leaks x unlike))

      gives_done : (leaks : Bool) (x : End) → asked ≡ knows x → Makes events ends left x after.left (Some put) → Counts x → after.out_faults ≡ before.out_faults → Tells objects leaks x → Gave leaks
      gives_done leaks (end.Exit code) known w counts stays t = exit leaks code known w counts.0 t
      gives_done leaks (end.Trap kind line) known w counts stays t = other leaks (end.Trap kind line) tt known w counts.0 t
      gives_done leaks (end.BadFree why holder) known w counts stays t = other leaks (end.BadFree why holder) tt known w counts.0 t
      gives_done leaks (end.Escape func local line) known w counts stays t = other leaks (end.Escape func local line) tt known w counts.0 t
      gives_done leaks end.Spent known w counts stays t = other leaks end.Spent tt known w counts.0 t
      gives_done leaks (end.OutOfStack line) known w counts stays t = other leaks (end.OutOfStack line) tt known w counts.0 t
      gives_done leaks end.InputFault known s counts stays t = stopped leaks known counts.0 s (t.none (tells_none leaks end.InputFault tt))
      gives_done leaks end.OutputFault known s counts stays t = absurd (omega (arith, counts.1, stays))

    -- A write failed

    abbrev Broke : Shown → Type 0
    Broke a = Breaks None a left before after

    -- the events before some others were made
    pub parted : (a : Shown) (known : Option Known) (first rest : List Event) (kept : List ℕ) (how : End) (told : List Leak) → events ≡ first ++ rest → a ≡ ended file opened core known events how told → after.left ≡ Some kept → bytes_in first ++ kept ≡ left → Some put ≡ Some (bytes_out first) → (words : Notice) → IsSaid None a before after words → Fronts before after result words → after.out_faults ≤ before.out_faults + 1 → Broke a
    parted a known first rest kept how told split is is_left is_lost written words said front stops = record {
      lost = bytes_in first;
      kept = kept;
      more = bytes_in rest;
      is_left = is_left;
      is_lost = is_lost;
      is_read = sym (ap (λ (s : Shown). s.read) is ∙ ap bytes_in split ∙ in_of_parts first rest);
      out_took = λ t h. (
        bytes_out first,
        bytes_out rest,
        sym (ap (λ (s : Shown). s.out) is ∙ ap bytes_out split ∙ out_of_parts first rest),
        took t h ∙ ap (λ (b : List ℕ). Some (t ++ b)) (same_some put (bytes_out first) written),
      );
      words = words;
      is_said = said;
      err_took = front.0;
      out_stops = stops;
      err_stops = front.1;
    }

    module _ (leaks : Bool) (a : Shown) (e : Ended file opened core knows (done_of events ends objects leaks) a) where
      abbrev Steady : Type 0
      Steady = (after.input_faults ≡ before.input_faults) × (after.out_faults ≡ before.out_faults)

      same_how : (x : End) → ends ≡ Some x → x ≡ e.how
      same_how x is = same_end x e.how (sym is ∙ e.ends)

      -- the whole run was made, and its report was not said whole
      broke_whole : (x : End) → asked ≡ knows x → Steady → Made x → Fronts before after result (told e.how e.leaks) → Broke a
      broke_whole x known counts w front =
          parted a (knows e.how) events [] w.rest e.how e.leaks (sym (append-nil events)) e.is w.is_left w.is_read w.is_taken
          (told_notice file opened core (knows e.how) e.how e.leaks) (inr (inr (counts.0, counts.1, inl (sym (ap (λ (s : Shown). s.err) e.is)))))
          (subst (λ (k : Option Known). Fronts before after result (told_notice file opened core k e.how e.leaks)) (known ∙ ap knows (same_how x w.end)) front) (omega (arith, counts.1))

      broke_plain : (x : End) → asked ≡ knows x → Steady → Made x → e.leaks ≡ [] → Plain x → Broke a
      broke_plain x known counts w none said =
          broke_whole x known counts w
          (subst (λ (ls : List Leak). Fronts before after result (told e.how ls)) (sym none)
          (subst (λ (y : End). Fronts before after result (told y [])) (same_how x w.end)
          (says_front before after result (status_of x) (told x []) said)))

      broke_other : (x : End) → IsNoExit x → asked ≡ knows x → Steady → Made x → Tells objects leaks x → Broke a
      broke_other x unlike known counts w t =
          broke_plain x known counts w (told_none (done_of events ends objects leaks).left e.how e.leaks (subst IsNoExit (same_how x w.end) unlike) e.told) (t.none (tells_none leaks x unlike))

    broke_exit : (leaks : Bool) (a : Shown) (e : Ended file opened core knows (done_of events ends objects leaks) a) (code : ℕ) → asked ≡ knows (end.Exit code) → (after.input_faults ≡ before.input_faults) × (after.out_faults ≡ before.out_faults) → Made (end.Exit code) → Tells objects leaks (end.Exit code) → Broke a
    broke_exit false a e code known counts w t = broke_plain false a e (end.Exit code) known counts w e.told (t.none tt)
    broke_exit true a e code known counts w t =
        let same = same_how true a e (end.Exit code) w.end in
        let are = subst (λ (y : End). AreTold (Some objects) y e.leaks) (sym same) e.told in
        broke_whole true a e (end.Exit code) known counts w
        (subst (λ (y : End). Fronts before after result (told y e.leaks)) same
        (says_front before after result code (told (end.Exit code) e.leaks) ((t.some code refl refl).says e.leaks are)))

    broken_done : (leaks : Bool) (a : Shown) (x : End) → asked ≡ knows x → Ended file opened core knows (done_of events ends objects leaks) a → Counts x → Makes events ends left x after.left (Some put) → Tells objects leaks x → Broke a
    broken_done leaks a (end.Exit code) known e counts w t = broke_exit leaks a e code known counts w t
    broken_done leaks a (end.Trap kind line) known e counts w t = broke_other leaks a e (end.Trap kind line) tt known counts w t
    broken_done leaks a (end.BadFree why holder) known e counts w t = broke_other leaks a e (end.BadFree why holder) tt known counts w t
    broken_done leaks a (end.Escape func local line) known e counts w t = broke_other leaks a e (end.Escape func local line) tt known counts w t
    broken_done leaks a end.Spent known e counts w t = broke_other leaks a e end.Spent tt known counts w t
    broken_done leaks a (end.OutOfStack line) known e counts w t = broke_other leaks a e (end.OutOfStack line) tt known counts w t
    broken_done leaks a end.InputFault known e counts s t =
        parted a (knows e.how) s.before (In s.byte ∷ s.rest) s.left e.how e.leaks s.is e.is s.is_left s.is_read s.is_taken
        input_fault.err (inl (omega (arith, counts.0), refl))
        (says_front before after result 132 input_fault.err (input_line (t.none (tells_none leaks end.InputFault tt)))) (omega (arith, counts.1))
    broken_done leaks a end.OutputFault known e counts s t =
        parted a (knows e.how) s.before s.rest s.left e.how e.leaks s.is e.is s.is_left s.is_read s.is_taken
        output_fault.err (inr (inl (omega (arith, counts.1), refl)))
        (says_front before after result 133 output_fault.err (output_line (t.none (tells_none leaks end.OutputFault tt)))) (omega (arith, counts.1))

  -- a run is served by its answers
  pub serves_done : (MeansNone : Type 0) (x : End) (leaks : Bool) (events : List ℕ → List Event) (ends : List ℕ → Option End) (objects : List ℕ → List Object) (knows : List ℕ → End → Option Known) →
      ((left : List ℕ) → before.left ≡ Some left → asked ≡ knows left x) →
      RunCounts x before.input_faults after.input_faults before.out_faults after.out_faults →
      ((left : List ℕ) → before.left ≡ Some left → Puts (Makes (events left) (ends left) left x after.left) before.taken after.taken) →
      ((left : List ℕ) → before.left ≡ Some left → Tells (objects left) leaks x) →
      (TellsNone leaks x → Plain x) → SaysCounts before after (status_of x) result → SaysOwn x before after → after.form ≡ before.form →
      Runs MeansNone (λ i a. AnswersProgram file opened core (knows i.bytes) i.fails (done_of (events i.bytes) (ends i.bytes) (objects i.bytes) leaks) a) before after result
  serves_done MeansNone x leaks events ends objects knows known counts put telling none said own form = record {
    exact = λ left k same_out same_err.
        let p = put left k in
        gives_done left p.put p.took (events left) (ends left) (objects left) (knows left) same_err leaks x (known left k) p.is counts same_out (telling left k);
    faults = λ t. program_faults before after result x t counts said;
    input_fault = λ more. input_line (subst Plain (input_end before after result x counts more) (none (subst (TellsNone leaks) (sym (input_end before after result x counts more)) (tells_none leaks end.InputFault tt))));
    output_fault = λ more. output_line (subst Plain (output_end before after result x counts more) (none (subst (TellsNone leaks) (sym (output_end before after result x counts more)) (tells_none leaks end.OutputFault tt))));
    stays = λ never. absurd never;
    broken = λ left k fails. record {
      each = λ one a e more.
          let p = put left k in
          broken_done left p.put p.took (events left) (ends left) (objects left) (knows left) leaks a x (known left k) e counts p.is (telling left k);
      some = λ no. absurd (no tt);
    };
    memory = λ is. inr ((λ n. n), own_end before after result x said own is);
    cause = end_cause before after result x counts said own;
    refused = λ is. inr ((λ n. n), end_refused before after result x said own is);
    form = form;
  }

-- so it is by the same texts
pub serves_alike : {I O E : Type 0} (file : List ℕ) (core : Core) (before after : Sight I O E) (result : ℕ) (MeansNone : Type 0) (done : Input → Done) (knows : Input → End → Option Known) (opened opened' : List Opened) → opened ≡ opened' →
    Runs MeansNone (λ i a. AnswersProgram file opened core (knows i) i.fails (done i) a) before after result → Runs MeansNone (λ i a. AnswersProgram file opened' core (knows i) i.fails (done i) a) before after result
serves_alike file core before after result MeansNone done knows opened opened' texts served =
    subst (λ (os : List Opened). Runs MeansNone (λ i a. AnswersProgram file os core (knows i) i.fails (done i) a) before after result) texts served

-- what was counted and written before a stretch that keeps input and output
module _ {I O E : Type 0} (middle after : Sight I O E) (keeps : KeepsBoth middle after) where
  pub kept_counts : (x : End) (i o : ℕ) → RunCounts x i middle.input_faults o middle.out_faults → RunCounts x i after.input_faults o after.out_faults
  kept_counts x i o counts =
      subst (λ i'. RunCounts x i i' o after.out_faults) (sym keeps.input.faults) (subst (λ o'. RunCounts x i middle.input_faults o o') (sym keeps.out.faults) counts)

  pub kept_puts : (Is : Option (List ℕ) → Option (List ℕ) → Type 0) (o : Option (List ℕ)) → Puts (Is middle.left) o middle.taken → Puts (Is after.left) o after.taken
  kept_puts Is o p =
      subst (λ l. Puts (Is l) o after.taken) (sym keeps.input.left) (subst (λ o'. Puts (Is middle.left) o o') (sym keeps.out.taken) p)

  pub kept_same : (i o : ℕ) → middle.input_faults ≡ i → middle.out_faults ≡ o → (after.input_faults ≡ i) × (after.out_faults ≡ o)
  kept_same i o a b = (keeps.input.faults ∙ a, keeps.out.faults ∙ b)

-- an evaluation wanted memory after a first part of the events
pub serves_unfinished : {I O E : Type 0} (file : List ℕ) (opened : List Opened) (core : Core) (before middle after : Sight I O E) (result steps heap : ℕ) (explain : Bool) →
    ((left : List ℕ) → before.left ≡ Some left → Puts (Stopped (meant core left steps heap).events left [] middle.left) before.taken middle.taken) →
    middle.input_faults ≡ before.input_faults → middle.out_faults ≡ before.out_faults → middle.form ≡ before.form → middle.said ≡ before.said → middle.err_faults ≡ before.err_faults → SaysOnly no_memory middle after result →
    Runs ⊥ (λ i a. AnswersWay file opened core i (Mean heap steps explain) a) before after result
serves_unfinished file opened core before middle after result steps heap explain put same_in same_out form quiet same said = record {
  exact = λ left k _ same_err.
      let p = kept_puts middle after said.keeps (Stopped (meant core left steps heap).events left []) before.taken (put left k) in
      gives before after result (λ a. AnswersWay file opened core (input_of left before.input_faults after.input_faults) (Mean heap steps explain) a) (unfinished p.is.before) left p.is.left
      (inl (inr (p.is.before, p.is.rest, p.is.is, refl))) p.is.is_left p.is.is_read (λ t h. p.took t h ∙ ap (λ (b : List ℕ). Some (t ++ b)) (same_some p.put (bytes_out p.is.before) p.is.is_taken)) same_err says;
  faults = λ t. said_faults before after result t no_memory.err 134 stays.0 stays.1 says;
  input_fault = λ more. absurd (omega (arith, more, stays.0));
  output_fault = λ more. absurd (omega (arith, more, stays.1));
  stays = λ never. absurd never;
  broken = λ left k fails. record {
    each = λ one a is more.
        let p = kept_puts middle after said.keeps (Stopped (meant core left steps heap).events left []) before.taken (put left k) in
        let e : Ended file opened core (λ x. explains_mean explain steps) (meant core left steps heap) a = ⊎_elim (λ h. h) (λ h. absurd (more (ap (λ (s : Shown). s.err) h.3))) is in
        parted file opened core None before after result left p.put p.took (meant core left steps heap).events (meant core left steps heap).ends [] (λ x. explains_mean explain steps) a (explains_mean explain steps) p.is.before p.is.rest p.is.left e.how e.leaks p.is.is e.is p.is.is_left p.is.is_read p.is.is_taken
        no_memory.err (inr (inr (stays.0, stays.1, inr refl))) (says_front before after result 134 no_memory.err says) (omega (arith, stays.1));
    some = λ no. absurd (no tt);
  };
  memory = λ is. ⊎_elim (λ h. inl ((λ never. absurd never), h.2)) (λ h. absurd (omega (arith, h.1, is))) says;
  cause = λ is. ⊎_elim (λ h. absurd (no_fault 134 (λ h. omega (arith, h)) (λ h. omega (arith, h)) (λ h. omega (arith, h)) (subst IsFault h.1 is))) (λ h. inl (inr (inr (omega (arith, h.0))))) says;
  refused = never_refused before after result ⊥ 134 no_memory.err (omega arith) (omega arith) says;
  form = said.keeps.form ∙ form;
} where
  says : Says before after no_memory.err 134 result
  says = says_from before middle after no_memory.err 134 result form quiet same said.says

  stays : (after.input_faults ≡ before.input_faults) × (after.out_faults ≡ before.out_faults)
  stays = kept_same middle after said.keeps before.input_faults before.out_faults same_in same_out
